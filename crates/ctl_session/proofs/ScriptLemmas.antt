-- How lines and commands are cut.
use Rattle.std.proofs.Common.{◌≡◌, ◌≢◌, ℕ, ◌+◌, ◌<◌, List, [], ◌∷◌, ◌++◌, Bool, true, false, not, length, refl, sym, ◌∙◌, ap, arith, eqb, append_assoc, append-nil, inl, inr}
use Rattle.std.proofs.lemmas.Bool.Decides.{eqb_tells}
use Rattle.std.proofs.lemmas.Bool.{false≢true}
use Rattle.ctl_stanza.specs.Lines.{lines_of}
use Rattle.ctl_session.specs.LineReading.{IsOneLine, newline_if}
use Rattle.ctl_session.specs.Reading.{HasNoDot, Cuts}
use Rattle.ctl_session.specs.Script.{is_dot, body_of, has_end, commands_in}

pub not_eq : (a b : ℕ) → a ≢ b → eqb a b ≡ false
not_eq a b differs = elim (eqb_tells a b) [ inl h ↦ absurd (differs h.1) | inr h ↦ h.0 ]

-- a line, its newline, and the rest of a text
pub lines_of-newline : (line rest : List ℕ) → IsOneLine line → lines_of (line ++ 10 ∷ rest) ≡ line ∷ lines_of rest
lines_of-newline [] rest one = refl
lines_of-newline (b ∷ line) rest one = rw (not_eq b 10 one.0, lines_of-newline line rest one.1) refl

-- a line at the end of a text
pub lines_of-last : (line : List ℕ) → IsOneLine line → 0 < length line → lines_of line ≡ line ∷ []
lines_of-last [] one some = absurd (omega arith)
lines_of-last (b ∷ []) one some = rw (not_eq b 10 one.0) refl
lines_of-last (b ∷ c ∷ line) one some = rw (not_eq b 10 one.0, lines_of-last (c ∷ line) one.1 (omega arith)) refl

pub no_dot_push : (lines : List (List ℕ)) (line : List ℕ) → HasNoDot lines → is_dot line ≡ false → HasNoDot (lines ++ line ∷ [])
no_dot_push [] line none here = (here, tt)
no_dot_push (x ∷ lines) line none here = (none.0, no_dot_push lines line none.1 here)

-- a body and the line that ends it
pub body_of-ended : (lines more : List (List ℕ)) (dot : List ℕ) → HasNoDot lines → is_dot dot ≡ true → body_of (lines ++ dot ∷ more) ≡ lines
body_of-ended [] more dot none end = rw end refl
body_of-ended (x ∷ lines) more dot none end = rw (none.0, body_of-ended lines more dot none.1 end) refl

pub has_end-ended : (lines more : List (List ℕ)) (dot : List ℕ) → HasNoDot lines → is_dot dot ≡ true → has_end (lines ++ dot ∷ more) ≡ true
has_end-ended [] more dot none end = rw end refl
has_end-ended (x ∷ lines) more dot none end = rw (none.0, has_end-ended lines more dot none.1 end) refl

pub after-ended : (n : ℕ) (lines more : List (List ℕ)) (dot : List ℕ) → HasNoDot lines → is_dot dot ≡ true →
    commands_in true n (lines ++ dot ∷ more) ≡ commands_in false (n + length lines + 1) more
after-ended n [] more dot none end = let e : n + 1 ≡ n + 0 + 1 = omega arith in
    ap (λ b. commands_in (not b) (n + 1) more) end ∙ ap (λ k. commands_in false k more) e
after-ended n (x ∷ lines) more dot none end =
    let e : (n + 1) + length lines + 1 ≡ n + length (x ∷ lines) + 1 = omega arith in
    ap (λ b. commands_in (not b) (n + 1) (lines ++ dot ∷ more)) none.0 ∙ after-ended (n + 1) lines more dot none.1 end ∙ ap (λ k. commands_in false k more) e

-- a body without its end
pub body_of-open : (lines : List (List ℕ)) → HasNoDot lines → body_of lines ≡ lines
body_of-open [] none = refl
body_of-open (x ∷ lines) none = rw (none.0, body_of-open lines none.1) refl

pub has_end-open : (lines : List (List ℕ)) → HasNoDot lines → has_end lines ≡ false
has_end-open [] none = refl
has_end-open (x ∷ lines) none = rw (none.0, has_end-open lines none.1) refl

pub after-open : (n : ℕ) (lines : List (List ℕ)) → HasNoDot lines → commands_in true n lines ≡ []
after-open n [] none = refl
after-open n (x ∷ lines) none = ap (λ b. commands_in (not b) (n + 1) lines) none.0 ∙ after-open (n + 1) lines none.1

-- one more line, with its newline or at the end of the text
pub cuts_line : (newline : Bool) (taken line : List ℕ) (lines : List (List ℕ)) → Cuts false taken lines → IsOneLine line →
    (newline ≡ false → 0 < length line) → Cuts (not newline) (taken ++ (line ++ newline_if newline)) (lines ++ line ∷ [])
cuts_line true taken line lines cut one some rest last =
    let same : (taken ++ (line ++ 10 ∷ [])) ++ rest ≡ taken ++ (line ++ 10 ∷ rest) = simp append_assoc in
    let first = cut (line ++ 10 ∷ rest) (λ bad. absurd (false≢true bad)) in
    rw (same, first, lines_of-newline line rest one) (sym (append_assoc lines (line ∷ []) (lines_of rest)))
cuts_line false taken line lines cut one some rest last =
    let same : (taken ++ (line ++ [])) ++ [] ≡ taken ++ line = simp (append_assoc, append-nil) in
    let first = cut line (λ bad. absurd (false≢true bad)) in
    rw (last refl, same, first, lines_of-last line one (some refl)) (sym (append-nil (lines ++ line ∷ [])))

pub cuts_none : Cuts false [] []
cuts_none rest last = refl
