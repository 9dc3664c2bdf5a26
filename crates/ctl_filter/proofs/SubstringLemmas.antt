-- Where a pattern stands in a text: the words of `bstr`, a text in three parts, and the test that computes.
use Rattle.std.proofs.Common.{◌≡◌, ◌↔◌, ◌∙◌, ℕ, ◌+◌, ◌≤◌, true, List, [], ◌∷◌, ◌++◌, length, take, drop, refl, sym, ap, arith, ⊎_elim, take-append-drop, length-append, IsTrue, ext_get_or, get_or-take, get_or-drop, length-take-le, length-drop, drop-drop, get_or}
use Rattle.std.proofs.Math.Seq.{drop-append_seam, take-append_seam}
use Rattle.std.proofs.lemmas.Bool.{and_parts, and_from, or_cases, or_left, or_right, eqb-true, eq-eqb}
use Rattle.bstr.specs.Find.{OccursAt}
use Rattle.bstr.specs.Text.{Contains}
use Rattle.ctl_filter.specs.Substring.{IsSubstring, begins, contains}

-- the part of the text at an occurrence is the pattern
OccursAt-part : (hay needle : List ℕ) (at : ℕ) → OccursAt hay needle at → take (length needle) (drop at hay) ≡ needle
OccursAt-part hay needle at h =
    let fits = h.fits in
    let whole : length (take (length needle) (drop at hay)) ≡ length needle = length-take-le (length needle) (drop at hay) (omega (arith, length-drop at hay)) in
    ext_get_or 0 _ needle whole (λ j l. get_or-take (length needle) _ j 0 (omega arith) ∙ get_or-drop at hay j 0 ∙ h.reads j (omega arith))

OccursAt-split : (hay needle : List ℕ) (at : ℕ) → OccursAt hay needle at → drop at hay ≡ needle ++ drop (at + length needle) hay
OccursAt-split hay needle at h =
    sym (take-append-drop (length needle) (drop at hay)) ∙ ap (λ l. l ++ drop (length needle) (drop at hay)) (OccursAt-part hay needle at h)
    ∙ ap (λ l. needle ++ l) (drop-drop (length needle) at hay)

OccursAt-from_part : (hay needle : List ℕ) (at : ℕ) → at + length needle ≤ length hay → take (length needle) (drop at hay) ≡ needle → OccursAt hay needle at
OccursAt-from_part hay needle at fits e =
    record {
      fits = fits;
      reads = λ j l. sym (get_or-take (length needle) _ j 0 (omega arith) ∙ get_or-drop at hay j 0) ∙ ap (λ xs. get_or xs j 0) e;
    }

-- a place in the words of `bstr` parts the text
pub IsSubstring-from_Contains : (pattern text : List ℕ) → Contains text pattern → IsSubstring pattern text
IsSubstring-from_Contains pattern text h = (
  take h.0 text,
  drop (h.0 + length pattern) text,
  sym (take-append-drop h.0 text) ∙ ap (λ t. take h.0 text ++ t) (OccursAt-split text pattern h.0 h.1),
)

-- and three parts give a place
at_seam : (prefix pattern suffix : List ℕ) → OccursAt (prefix ++ (pattern ++ suffix)) pattern (length prefix)
at_seam prefix pattern suffix =
    OccursAt-from_part (prefix ++ (pattern ++ suffix)) pattern (length prefix)
    (omega (arith, length-append prefix (pattern ++ suffix), length-append pattern suffix))
    (ap (take (length pattern)) (drop-append_seam prefix (pattern ++ suffix)) ∙ take-append_seam pattern suffix)

pub Contains-from_IsSubstring : (pattern text : List ℕ) → IsSubstring pattern text → Contains text pattern
Contains-from_IsSubstring pattern text h = (length h.0, rw h.2 (at_seam h.0 pattern h.1))

-- the test that a text begins with a pattern
begins-split : (pattern text : List ℕ) → begins pattern text ≡ true → (rest : List ℕ) × (text ≡ pattern ++ rest)
begins-split [] text h = (text, refl)
begins-split (p ∷ ps) [] h = absurd (cc)
begins-split (p ∷ ps) (b ∷ bs) h =
    let both = and_parts _ _ h in
    let inner = begins-split ps bs both.1 in
    let same : p ≡ b = eqb-true p b both.0 in
    (inner.0, ap (λ x. x ∷ bs) (sym same) ∙ ap (λ l. p ∷ l) inner.1)

begins-of : (pattern rest : List ℕ) → begins pattern (pattern ++ rest) ≡ true
begins-of [] rest = refl
begins-of (p ∷ ps) rest = and_from _ _ (eq-eqb p p refl) (begins-of ps rest)

contains-begins : (pattern text : List ℕ) → begins pattern text ≡ true → contains pattern text ≡ true
contains-begins pattern [] h = h
contains-begins pattern (b ∷ bs) h = or_left _ _ h

contains-of : (prefix pattern suffix : List ℕ) → contains pattern (prefix ++ (pattern ++ suffix)) ≡ true
contains-of [] pattern suffix = contains-begins pattern (pattern ++ suffix) (begins-of pattern suffix)
contains-of (b ∷ prefix) pattern suffix = or_right _ _ (contains-of prefix pattern suffix)

split-contains : (pattern text : List ℕ) → contains pattern text ≡ true → IsSubstring pattern text
split-contains pattern [] h = let s = begins-split pattern [] h in ([], s.0, s.1)
split-contains pattern (b ∷ bs) h = ⊎_elim
    (λ here. let s = begins-split pattern (b ∷ bs) here in ([], s.0, s.1))
    (λ later. let s = split-contains pattern bs later in (b ∷ s.0, s.1, ap (λ l. b ∷ l) s.2))
    (or_cases _ _ h)

-- the test says whether the text parts so
pub contains-iff : (pattern text : List ℕ) → IsTrue (contains pattern text) ↔ IsSubstring pattern text
contains-iff pattern text = (split-contains pattern text, λ h. rw h.2 (contains-of h.0 pattern h.1))
