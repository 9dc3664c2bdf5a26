-- The first piece of a text, and those behind it.
use Rattle.std.proofs.Common.{◌≡◌, ◌∙◌, ◌+◌, ◌<◌, ◌++◌, ℕ, suc, true, false, List, [], ◌∷◌, length, Bor, refl, sym, ap, arith, append_assoc}
use Rattle.std.proofs.lemmas.List.{map-append, length-map}
use Rattle.std.specs.Bool.{⊤}
use Rattle.std.proofs.lemmas.Bool.{cond-true, cond-false}
use Rattle.ctl_stanza.specs.Lines.{lines_of, text_of_lines, lent_lines, is_blank, AreLines}
use Rattle.ctl_stanza.specs.Text.{piece, pieces_of, onto_piece, IsFirstPiece}
use Rattle.ctl_stanza.proofs.LineLemmas.{IsLine}

-- no line is blank
abbrev pub AreOther : List (List ℕ) → Type 0
AreOther [] = ⊤
AreOther (l ∷ ls) = (is_blank l ≡ false) × AreOther ls

-- a blank line comes first, or none
abbrev pub StartsGap : List (List ℕ) → Type 0
StartsGap [] = ⊤
StartsGap (l ∷ ls) = is_blank l ≡ true

pub other-push : (ls : List (List ℕ)) (l : List ℕ) → AreOther ls → is_blank l ≡ false → AreOther (ls ++ l ∷ [])
other-push [] l others other = (other, _)
other-push (m ∷ ms) l others other = (others.0, other-push ms l others.1 other)

run-alone : (n : ℕ) (l : List ℕ) (rest : List (List ℕ)) → is_blank l ≡ false → StartsGap rest → pieces_of n (l ∷ rest) ≡ piece n (l ∷ []) ∷ pieces_of (n + 1) rest
run-alone n l [] other gap = cond-false _ _ _ other
run-alone n l (m ∷ ms) other gap =
    let one : suc n ≡ n + 1 = omega arith in cond-false _ _ _ other ∙ cond-true _ _ _ gap ∙ ap (λ k. piece n (l ∷ []) ∷ pieces_of k (m ∷ ms)) one

pub run-whole : (n : ℕ) (l : List ℕ) (ls rest : List (List ℕ)) → AreOther (l ∷ ls) → StartsGap rest → pieces_of n (l ∷ (ls ++ rest)) ≡ piece n (l ∷ ls) ∷ pieces_of (n + length (l ∷ ls)) rest
run-whole n l [] rest others gap = run-alone n l rest others.0 gap
run-whole n l (m ∷ ms) rest others gap =
    let far : suc n + length (m ∷ ms) ≡ n + length (l ∷ m ∷ ms) = omega arith in
    cond-false _ _ _ others.0 ∙ cond-false _ _ _ others.1.0 ∙ ap (onto_piece n l) (run-whole (suc n) m ms rest others.1 gap) ∙ ap (λ k. piece n (l ∷ m ∷ ms) ∷ pieces_of k rest) far

-- a run of other lines before a gap
pub pieces-run : (ls rest whole : List (List ℕ)) → whole ≡ ls ++ rest → 0 < length ls → AreOther ls → StartsGap rest → IsFirstPiece whole ls rest
pieces-run [] rest whole e some others gap = absurd (omega (arith, some))
pieces-run (l ∷ ls) rest whole e some others gap = λ n. ap (pieces_of n) e ∙ run-whole n l ls rest others gap

pub gap-none : (text : List ℕ) → text ≡ [] → StartsGap (lines_of text)
gap-none [] e = _
gap-none (b ∷ bs) e = absurd (cc)

pub gap-blank : (ls rest : List (List ℕ)) (l : List ℕ) → ls ≡ l ∷ rest → is_blank l ≡ true → StartsGap ls
gap-blank [] rest l e blank = absurd (cc)
gap-blank (m ∷ ms) rest l e blank = let same : m ≡ l = cc in ap is_blank same ∙ blank

-- ---- lines that are cut again from their text

-- each is one line
abbrev pub AreSingle : List (List ℕ) → Type 0
AreSingle [] = ⊤
AreSingle (l ∷ ls) = IsLine l × AreSingle ls

pub single-push : (ls : List (List ℕ)) (l : List ℕ) → AreSingle ls → IsLine l → AreSingle (ls ++ l ∷ [])
single-push [] l singles single = (single, _)
single-push (m ∷ ms) l singles single = (singles.0, single-push ms l singles.1 single)

pub are_lines : (ls : List (List ℕ)) → AreSingle ls → AreLines ls
are_lines [] singles = refl
are_lines (l ∷ ls) singles = singles.0 (text_of_lines ls) ∙ ap (λ t. l ∷ t) (are_lines ls singles.1)

-- ---- one line more

abbrev pub now : Bor (List ℕ) → List ℕ
now x = x.now

pub told-next : (all left rest : List (List ℕ)) (old new : List (Bor (List ℕ))) (line : Bor (List ℕ)) → new ≡ old ++ (line ∷ []) → left ≡ line.now ∷ rest
    → all ≡ lent_lines old ++ left → all ≡ lent_lines new ++ rest
told-next all left rest old new line pushed first e =
    e ∙ ap (λ t. lent_lines old ++ t) first ∙ sym (append_assoc (lent_lines old) (line.now ∷ []) rest) ∙ ap (λ t. t ++ rest) (sym (ap lent_lines pushed ∙ map-append now old (line ∷ [])))

pub other-next : (old new : List (Bor (List ℕ))) (line : Bor (List ℕ)) → new ≡ old ++ (line ∷ []) → AreOther (lent_lines old) → is_blank line.now ≡ false → AreOther (lent_lines new)
other-next old new line pushed others other = rw (pushed, map-append now old (line ∷ [])) (other-push (lent_lines old) line.now others other)

pub single-next : (old new : List (Bor (List ℕ))) (line : Bor (List ℕ)) → new ≡ old ++ (line ∷ []) → AreSingle (lent_lines old) → IsLine line.now → AreSingle (lent_lines new)
single-next old new line pushed singles single = rw (pushed, map-append now old (line ∷ [])) (single-push (lent_lines old) line.now singles single)

-- the lines that were taken are the first piece
pub taken : (ls : List (Bor (List ℕ))) (whole rest : List (List ℕ)) → whole ≡ lent_lines ls ++ rest → 0 < length ls → AreOther (lent_lines ls) → StartsGap rest → IsFirstPiece whole (lent_lines ls) rest
taken ls whole rest e some others gap = pieces-run (lent_lines ls) rest whole e (omega (arith, some, length-map ls now)) others gap
