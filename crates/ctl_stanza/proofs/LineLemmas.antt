-- Cutting a text at its first newline.
use Rattle.std.proofs.Common.{◌≡◌, ◌∙◌, ◌+◌, ◌-◌, ◌<◌, ◌==◌, ℕ, zero, suc, false, List, [], ◌∷◌, ◌++◌, length, take, drop, take_all, refl, sym, ap, arith, eqb, ⊎_elim}
use Rattle.std.proofs.lemmas.List.{length-drop}
use Rattle.std.proofs.lemmas.Bool.{cases_Bool, cond-false, eqb-true}
use Rattle.bstr.specs.Find.{Nowhere, Passes, is_byte}
use Rattle.ctl_relation.specs.Bytes.{newline}
use Rattle.ctl_stanza.specs.Lines.{lines_of, onto_first}

-- it is a line wherever a newline ends it
abbrev pub IsLine : List ℕ → Type 0
IsLine line = (more : List ℕ) → lines_of (line ++ newline ∷ more) ≡ line ∷ lines_of more

not_newline : (b : ℕ) (text : List ℕ) (n : ℕ) → 0 < n → Nowhere (Passes (is_byte 10) (b ∷ text)) 0 n → eqb b 10 ≡ false
not_newline b text n some nowhere = ⊎_elim (λ is. absurd (nowhere 0 (omega arith) some is)) (λ (other : eqb b 10 ≡ false). other) (cases_Bool (eqb b 10))

later : (b : ℕ) (text : List ℕ) (n : ℕ) → Nowhere (Passes (is_byte 10) (b ∷ text)) 0 (suc n) → Nowhere (Passes (is_byte 10) text) 0 n
later b text n nowhere = λ k low high found. nowhere (suc k) (omega arith) (omega arith) found

line_more : (b : ℕ) (line : List ℕ) → eqb b 10 ≡ false → IsLine line → IsLine (b ∷ line)
line_more b line other is = λ more. cond-false _ _ _ other ∙ ap (onto_first b) (is more)

-- no newline stands in a text: it is one line
pub no_newline : (text : List ℕ) → Nowhere (Passes (is_byte 10) text) 0 (length text) → IsLine text
no_newline [] nowhere = λ more. refl
no_newline (b ∷ text) nowhere = line_more b text (not_newline b text _ (omega arith) nowhere) (no_newline text (later b text _ nowhere))

pub last_line : (b : ℕ) (text : List ℕ) → Nowhere (Passes (is_byte 10) (b ∷ text)) 0 (length (b ∷ text)) → lines_of (b ∷ text) ≡ (b ∷ text) ∷ []
last_line b [] nowhere = cond-false _ _ _ (not_newline b [] _ (omega arith) nowhere)
last_line b (c ∷ text) nowhere = cond-false _ _ _ (not_newline b (c ∷ text) _ (omega arith) nowhere) ∙ ap (onto_first b) (last_line c text (later b (c ∷ text) _ nowhere))

-- the first newline stands at k
pub before_newline : (k : ℕ) (text : List ℕ) → k < length text → Nowhere (Passes (is_byte 10) text) 0 k → Passes (is_byte 10) text k
    → IsLine (take k text) × (text ≡ take k text ++ newline ∷ drop (suc k) text)
before_newline k [] short nowhere found = absurd (omega arith)
before_newline zero (b ∷ text) short nowhere found = (λ more. refl, ap (λ x. x ∷ text) (eqb-true b 10 found))
before_newline (suc k) (b ∷ text) short nowhere found =
    let more = before_newline k text (omega arith) (later b text k nowhere) found in
    (line_more b (take k text) (not_newline b text _ (omega arith) nowhere) more.0, ap (λ t. b ∷ t) more.1)

-- the rest of a text from k on, as a slice gives it
rest_is : (k : ℕ) (text : List ℕ) → take (length text - k) (drop k text) ≡ drop k text
rest_is k text = take_all (length text - k) (drop k text) (omega (arith, length-drop k text))

-- the first line, up to the newline at k
pub cut_at : (k : ℕ) (text : List ℕ) → k < length text → Nowhere (Passes (is_byte 10) text) 0 k → Passes (is_byte 10) text k
    → lines_of text ≡ take k text ∷ lines_of (take (length text - (k + 1)) (drop (k + 1) text))
cut_at k text short nowhere found =
    let cut = before_newline k text short nowhere found in
    let next : suc k ≡ k + 1 = omega arith in
    ap lines_of cut.1 ∙ cut.0 (drop (suc k) text) ∙ ap (λ n. take k text ∷ lines_of (drop n text)) next ∙ ap (λ t. take k text ∷ lines_of t) (sym (rest_is (k + 1) text))

-- a last line without a newline
pub cut_last : (text : List ℕ) → (length text == 0) ≡ false → Nowhere (Passes (is_byte 10) text) 0 (length text)
    → lines_of text ≡ text ∷ lines_of (take (length text - length text) (drop (length text) text))
cut_last [] some nowhere = absurd (cc)
cut_last (b ∷ text) some nowhere =
    let none : length (b ∷ text) - length (b ∷ text) ≡ 0 = omega arith in
    last_line b text nowhere ∙ ap (λ n. (b ∷ text) ∷ lines_of (take n (drop (length (b ∷ text)) (b ∷ text)))) (sym none)
