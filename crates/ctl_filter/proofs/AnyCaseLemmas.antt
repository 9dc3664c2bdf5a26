-- A pattern stands in a text in any case where it does so once both have small letters alone.
use Rattle.std.proofs.Common.{◌≡◌, ◌↔◌, ◌∙◌, ℕ, ◌==◌, ◌&&◌, ◌||◌, true, List, [], ◌∷◌, ◌++◌, length, take, drop, refl, sym, ap, ⊎_elim, take-append-drop, IsTrue}
use Rattle.std.specs.Str.{str_to_ascii_lowercase, str_eq_ignore_ascii_case}
use Rattle.std.specs.Char.{to_ascii_lowercase}
use Rattle.std.proofs.Math.Seq.{take-append_seam}
use Rattle.std.proofs.lemmas.List.{length-map}
use Rattle.std.proofs.lemmas.Bool.{or_cases, or_left, or_right, eqb-true, eq-eqb, cases_Bool, false_from_ne_true}
use Rattle.std.proofs.lemmas.Slice.Eq.{bytes_eq-Decides}
use Rattle.ctl_filter.specs.Substring.{begins, contains, begins_in_any_case, contains_in_any_case, IsSubstringInAnyCase}

eq-turned : (a b : ℕ) → (a == b) ≡ (b == a)
eq-turned a b = ⊎_elim
    (λ yes. yes ∙ sym (eq-eqb b a (sym (eqb-true a b yes))))
    (λ no. no ∙ sym (false_from_ne_true (b == a) (λ h. let same = eq-eqb a b (sym (eqb-true b a h)) in cc)))
    (cases_Bool (a == b))

begins-lowered : (pattern text : List ℕ) → begins_in_any_case pattern text ≡ begins (str_to_ascii_lowercase pattern) (str_to_ascii_lowercase text)
begins-lowered [] text = refl
begins-lowered (p ∷ ps) [] = refl
begins-lowered (p ∷ ps) (b ∷ bs) = λ i. eq-turned (to_ascii_lowercase b) (to_ascii_lowercase p) i && begins-lowered ps bs i

pub contains_lowered : (pattern text : List ℕ) → contains_in_any_case pattern text ≡ contains (str_to_ascii_lowercase pattern) (str_to_ascii_lowercase text)
contains_lowered pattern [] = begins-lowered pattern []
contains_lowered pattern (b ∷ bs) = λ i. begins-lowered pattern (b ∷ bs) i || contains_lowered pattern bs i

-- ---- a text in three parts

split-any : (pattern text : List ℕ) → contains_in_any_case pattern text ≡ true → IsSubstringInAnyCase pattern text
split-any pattern [] h = record { prefix = []; middle = take (length pattern) []; suffix = drop (length pattern) []; parts = sym (take-append-drop (length pattern) []); same = h }
split-any pattern (b ∷ bs) h = ⊎_elim
    (λ here. record {
      prefix = [];
      middle = take (length pattern) (b ∷ bs);
      suffix = drop (length pattern) (b ∷ bs);
      parts = sym (take-append-drop (length pattern) (b ∷ bs));
      same = here;
    })
    (λ later. let s = split-any pattern bs later in record { prefix = b ∷ s.prefix; middle = s.middle; suffix = s.suffix; parts = ap (λ l. b ∷ l) s.parts; same = s.same })
    (or_cases _ _ h)

same-length : (middle pattern : List ℕ) → str_eq_ignore_ascii_case middle pattern ≡ true → length pattern ≡ length middle
same-length middle pattern h =
    sym (length-map pattern to_ascii_lowercase) ∙ sym (ap length ((bytes_eq-Decides (str_to_ascii_lowercase middle) (str_to_ascii_lowercase pattern)).0 h)) ∙ length-map middle to_ascii_lowercase

begins-any : (pattern middle suffix : List ℕ) → str_eq_ignore_ascii_case middle pattern ≡ true → begins_in_any_case pattern (middle ++ suffix) ≡ true
begins-any pattern middle suffix h =
    ap (λ n. str_eq_ignore_ascii_case (take n (middle ++ suffix)) pattern) (same-length middle pattern h)
    ∙ ap (λ l. str_eq_ignore_ascii_case l pattern) (take-append_seam middle suffix) ∙ h

contains-begins : (pattern text : List ℕ) → begins_in_any_case pattern text ≡ true → contains_in_any_case pattern text ≡ true
contains-begins pattern [] h = h
contains-begins pattern (b ∷ bs) h = or_left _ _ h

contains-any : (prefix pattern middle suffix : List ℕ) → str_eq_ignore_ascii_case middle pattern ≡ true → contains_in_any_case pattern (prefix ++ (middle ++ suffix)) ≡ true
contains-any [] pattern middle suffix h = contains-begins pattern (middle ++ suffix) (begins-any pattern middle suffix h)
contains-any (b ∷ prefix) pattern middle suffix h = or_right _ _ (contains-any prefix pattern middle suffix h)

pub any_case-iff : (pattern text : List ℕ) → IsTrue (contains_in_any_case pattern text) ↔ IsSubstringInAnyCase pattern text
any_case-iff pattern text = (split-any pattern text, λ h. rw h.parts (contains-any h.prefix pattern h.middle h.suffix h.same))
