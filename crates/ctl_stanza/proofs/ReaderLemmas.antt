-- A text that is read piece by piece.
use Rattle.std.proofs.Common.{◌≡◌, ◌∙◌, ◌+◌, ◌-◌, ◌<◌, ◌++◌, ℕ, nat_eq, true, false, List, [], ◌∷◌, length, take, get_or, Result, Ok, Err, refl, sym, ap, arith, append_assoc, append-nil, ap₂, subst, ⊎_elim, ◌==◌, length-append}
use Rattle.std.proofs.lemmas.Bool.{cases_Bool, eqb-true, eqb-false}
use Rattle.std.proofs.lemmas.List.{take_more}
use Rattle.ctl_stanza.specs.declared.list_kind.ListKind.{ListKind}
use Rattle.ctl_stanza.specs.declared.fault.TextFault.{TextFault}
use Rattle.ctl_stanza.specs.Lines.{lines_of}
use Rattle.ctl_stanza.specs.Content.{Content}
use Rattle.ctl_stanza.specs.Text.{read_text, with_contents}
use Rattle.ctl_stanza.specs.InParts.{Reading, IsReading, EndsWithNewline, EndsWithGap, HasNoGapFrom, joined}
use Rattle.ctl_stanza.proofs.PartLemmas.{in_parts}
use Rattle.ctl_stanza.proofs.TurnLemmas.{with-with}

-- ---- where an empty line stands

last-is : (before text : List ℕ) (i : ℕ) → i < length text → get_or text i 0 ≡ 10 → before ++ take (i + 1) text ≡ (before ++ take i text) ++ 10 ∷ []
last-is before text i lt is =
    ap (λ t. before ++ t) (take_more text i 0 lt ∙ ap (λ b. take i text ++ b ∷ []) is) ∙ sym (append_assoc before (take i text) (10 ∷ []))

pub ends_newline : (before text : List ℕ) (i : ℕ) → 0 < i → i < length text → nat_eq (get_or text (i - 1) 0) 10 ≡ true → EndsWithNewline (before ++ take i text)
ends_newline before text i some lt is =
    let place : i - 1 + 1 ≡ i = omega arith in
    let byte : get_or text (i - 1) 0 ≡ 10 = eqb-true (get_or text (i - 1) 0) 10 is in
    record { front = before ++ take (i - 1) text; whole = ap (λ n. before ++ take n text) (sym place) ∙ last-is before text (i - 1) (omega arith) byte }

pub ends_gap : (before text : List ℕ) (i : ℕ) → i < length text → get_or text i 0 ≡ 10 → EndsWithNewline (before ++ take i text) → EndsWithGap (before ++ take (i + 1) text)
ends_gap before text i lt is ends = record {
  front = ends.front;
  whole = last-is before text i lt is ∙ ap (λ t. t ++ 10 ∷ []) ends.whole ∙ append_assoc ends.front (10 ∷ []) (10 ∷ []);
}

-- ---- where no empty line stands

byte-last : (before text : List ℕ) (i : ℕ) → i < length text → before ++ take (i + 1) text ≡ (before ++ take i text) ++ get_or text i 0 ∷ []
byte-last before text i lt = ap (λ t. before ++ t) (take_more text i 0 lt) ∙ sym (append_assoc before (take i text) (get_or text i 0 ∷ []))

same-last : (xs ys : List ℕ) (a b : ℕ) → xs ++ a ∷ [] ≡ ys ++ b ∷ [] → (xs ≡ ys) × (a ≡ b)
same-last [] [] a b e = (refl, (let same : a ≡ b = cc in same))
same-last [] (y ∷ ys) a b e = absurd (omega (arith, ap length e, length-append ys (b ∷ [])))
same-last (x ∷ xs) [] a b e = absurd (omega (arith, ap length e, length-append xs (a ∷ [])))
same-last (x ∷ xs) (y ∷ ys) a b e =
    let head : x ≡ y = cc in
    let rest : xs ++ a ∷ [] ≡ ys ++ b ∷ [] = cc in
    let both = same-last xs ys a b rest in
    (ap₂ (λ (h : ℕ) (t : List ℕ). h ∷ t) head both.0, both.1)

other-byte : (text front : List ℕ) (b : ℕ) → text ≡ front ++ b ∷ [] → nat_eq b 10 ≡ false → EndsWithNewline text → ⊥
other-byte text front b is other ends =
    let same : b ≡ 10 = (same-last front ends.front b 10 (sym is ∙ ends.whole)).1 in
    let clash : true ≡ false = sym (ap (λ x. nat_eq x 10) same) ∙ other in
    cc

pub other_newline : (before text : List ℕ) (i : ℕ) → 0 < i → i < length text → nat_eq (get_or text (i - 1) 0) 10 ≡ false → EndsWithNewline (before ++ take i text) → ⊥
other_newline before text i some lt other =
    let place : i - 1 + 1 ≡ i = omega arith in
    other-byte (before ++ take i text) (before ++ take (i - 1) text) (get_or text (i - 1) 0) (ap (λ n. before ++ take n text) (sym place) ∙ byte-last before text (i - 1) (omega arith)) other

pub no_gap : (before text : List ℕ) (i : ℕ) → i < length text → (get_or text i 0 ≡ 10 → EndsWithNewline (before ++ take i text) → ⊥) → EndsWithGap (before ++ take (i + 1) text) → ⊥
no_gap before text i lt other gap =
    let both = same-last (before ++ take i text) (gap.front ++ 10 ∷ []) (get_or text i 0) 10 (sym (byte-last before text i lt) ∙ gap.whole ∙ sym (append_assoc gap.front (10 ∷ []) (10 ∷ []))) in
    other both.1 (record { front = gap.front; whole = both.0 })

-- one byte more is looked at, from the end
pub gap-next : (before text : List ℕ) (i : ℕ) → i < length text → (get_or text i 0 ≡ 10 → EndsWithNewline (before ++ take i text) → ⊥) → HasNoGapFrom before text (i + 1) → HasNoGapFrom before text i
gap-next before text i lt other later = λ k from within gap. ⊎_elim
    (λ (same : (k == i) ≡ true). no_gap before text i lt other (subst (λ j. EndsWithGap (before ++ take (j + 1) text)) (eqb-true k i same) gap))
    (λ (above : (k == i) ≡ false). later k (omega (arith, from, eqb-false k i above)) within gap)
    (cases_Bool (k == i))

-- ---- reading on

-- what stands before a text that was read, and after it
around : (old new : List Content) (part rest : Result (List Content) TextFault) → with_contents old part ≡ Ok new → with_contents old (joined part rest) ≡ with_contents new rest
around old new (Ok xs) rest e = let same : old ++ xs ≡ new = cc in with-with old xs rest ∙ ap (λ ys. with_contents ys rest) same
around old new (Err f) rest e = absurd cc

stopped : (old : List Content) (part rest : Result (List Content) TextFault) (f : TextFault) → with_contents old part ≡ Err f → with_contents old (joined part rest) ≡ Err f
stopped old (Ok xs) rest f e = absurd cc
stopped old (Err g) rest f e = e

-- a text up to an empty line, and what stands behind it
cut : (kind : ListKind) (n : ℕ) (front behind : List ℕ) → EndsWithGap front → read_text kind n (front ++ behind) ≡ joined (read_text kind n front) (read_text kind (n + length (lines_of front)) behind)
cut kind n front behind gap =
    ap (λ t. read_text kind n (t ++ behind)) gap.whole ∙ ap (read_text kind n) (append_assoc gap.front (10 ∷ 10 ∷ []) behind) ∙ in_parts kind n gap.front behind
    ∙ ap (λ t. joined (read_text kind n t) (read_text kind (n + length (lines_of t)) behind)) (sym gap.whole)

-- the text with its next piece, of which a front ends with an empty line
parted : (kind : ListKind) (n : ℕ) (text piece front behind whole more : List ℕ) (old : Reading) → IsReading kind n text old → piece ≡ front ++ behind → whole ≡ old.rest ++ front → EndsWithGap whole
    → read_text kind n (text ++ (piece ++ more)) ≡ with_contents old.stanzas (joined (read_text old.kind old.line whole) (read_text old.kind (old.line + length (lines_of whole)) (behind ++ more)))
parted kind n text piece front behind whole more old is split e gap =
    is.reads (piece ++ more)
    ∙ ap (λ t. with_contents old.stanzas (read_text old.kind old.line (old.rest ++ t))) (ap (λ t. t ++ more) split ∙ append_assoc front behind more)
    ∙ ap (λ t. with_contents old.stanzas (read_text old.kind old.line t)) (sym (append_assoc old.rest front (behind ++ more)) ∙ ap (λ t. t ++ (behind ++ more)) (sym e))
    ∙ ap (with_contents old.stanzas) (cut old.kind old.line whole (behind ++ more) gap)

-- the piece is kept
pub longer : (kind : ListKind) (n m : ℕ) (text piece rest : List ℕ) (new : List Content) (old : Reading) → IsReading kind n text old → new ≡ old.stanzas → m ≡ old.line → rest ≡ old.rest ++ piece
    → IsReading kind n (text ++ piece) (record { kind = old.kind; stanzas = new; line = m; rest = rest })
longer kind n m text piece rest new old is same line e = record {
  reads = λ more.
      ap (read_text kind n) (append_assoc text piece more) ∙ is.reads (piece ++ more)
      ∙ ap (λ t. with_contents old.stanzas (read_text old.kind old.line t)) (sym (append_assoc old.rest piece more) ∙ ap (λ t. t ++ more) (sym e))
      ∙ ap₂ (λ (s : List Content) (k : ℕ). with_contents s (read_text old.kind k (rest ++ more))) (sym same) (sym line);
}

-- what stands up to the empty line is read
pub further : (kind : ListKind) (n m : ℕ) (text piece front behind whole rest : List ℕ) (new : List Content) (old : Reading) → IsReading kind n text old → piece ≡ front ++ behind → whole ≡ old.rest ++ front
    → EndsWithGap whole → with_contents old.stanzas (read_text old.kind old.line whole) ≡ Ok new → m ≡ old.line + length (lines_of whole) → rest ≡ behind
    → IsReading kind n (text ++ piece) (record { kind = old.kind; stanzas = new; line = m; rest = rest })
further kind n m text piece front behind whole rest new old is split e gap read line left = record {
  reads = λ more.
      ap (read_text kind n) (append_assoc text piece more) ∙ parted kind n text piece front behind whole more old is split e gap
      ∙ around old.stanzas new _ _ read
      ∙ ap (λ k. with_contents new (read_text old.kind k (behind ++ more))) (sym line) ∙ ap (λ t. with_contents new (read_text old.kind m (t ++ more))) (sym left);
}

-- a fault of what stands up to the empty line is that of the text
pub faulty : (kind : ListKind) (n : ℕ) (text piece front behind whole more : List ℕ) (old : Reading) (f : TextFault) → IsReading kind n text old → piece ≡ front ++ behind → whole ≡ old.rest ++ front
    → EndsWithGap whole → with_contents old.stanzas (read_text old.kind old.line whole) ≡ Err f → read_text kind n (text ++ (piece ++ more)) ≡ Err f
faulty kind n text piece front behind whole more old f is split e gap told =
    parted kind n text piece front behind whole more old is split e gap ∙ stopped old.stanzas _ _ f told

-- no piece comes any more
pub finished : (kind : ListKind) (n : ℕ) (text whole : List ℕ) (old : Reading) → IsReading kind n text old → whole ≡ old.rest → read_text kind n text ≡ with_contents old.stanzas (read_text old.kind old.line whole)
finished kind n text whole old is e =
    ap (read_text kind n) (sym (append-nil text)) ∙ is.reads [] ∙ ap (λ t. with_contents old.stanzas (read_text old.kind old.line t)) (append-nil old.rest ∙ sym e)
