-- One piece more of a text.
use Rattle.std.proofs.Common.{suc, ◌≡◌, ◌∙◌, ◌+◌, ◌-◌, ◌++◌, ◌==◌, ℕ, true, List, [], ◌∷◌, length, take, drop, Bor, Option, Some, None, Result, Ok, Err, slice_range, refl, sym, ap, subst, arith, append_assoc, append-nil}
use Rattle.std.proofs.Math.Dec.{eqb-suc-zero}
use Rattle.std.proofs.lemmas.List.{length-map, length-append}
use Rattle.ctl_stanza.specs.declared.list_kind.ListKind.{ListKind}
use Rattle.ctl_stanza.specs.declared.fault.TextFault.{TextFault}
use Rattle.ctl_stanza.specs.Lines.{lines_of, lent_lines}
use Rattle.ctl_stanza.specs.Content.{Content}
use Rattle.ctl_stanza.specs.Text.{piece, pieces_of, IsFirstPiece, piece_fault, piece_content, read_pieces, with_contents, or_fault}
use Rattle.ctl_stanza.specs.Records.{RecordText, record_fault, piece_record, before_fault, records_before}
use Rattle.ctl_stanza.proofs.PieceLemmas.{now}

pub with-with : {A : Type 0} (a b : List A) (r : Result (List A) TextFault) → with_contents a (with_contents b r) ≡ with_contents (a ++ b) r
with-with a b (Ok xs) = ap Ok (sym (append_assoc a b xs))
with-with a b (Err f) = refl

-- a piece without a fault
turn-good : {A : Type 0} (old new part : List A) (fault : Option TextFault) (rest whole : Result (List A) TextFault) → fault ≡ None → new ≡ old ++ part
    → with_contents old (or_fault fault (with_contents part rest)) ≡ whole → with_contents new rest ≡ whole
turn-good old new part fault rest whole none e told =
    ap (λ xs. with_contents xs rest) e ∙ sym (with-with old part rest) ∙ ap (λ o. with_contents old (or_fault o (with_contents part rest))) (sym none) ∙ told

-- ---- stanzas

first-read : (kind : ListKind) (n m : ℕ) (all others lines : List (List ℕ)) → IsFirstPiece all lines others → m ≡ n + length lines
    → read_pieces kind (pieces_of n all) ≡ or_fault (piece_fault kind (piece n lines)) (with_contents (piece_content kind lines) (read_pieces kind (pieces_of m others)))
first-read kind n m all others lines first e =
    ap (read_pieces kind) (first n) ∙ ap (λ k. or_fault (piece_fault kind (piece n lines)) (with_contents (piece_content kind lines) (read_pieces kind (pieces_of k others)))) (sym e)

pub stanza-turn : (kind : ListKind) (old new : List Content) (n m : ℕ) (all others lines : List (List ℕ)) (whole : Result (List Content) TextFault)
    → IsFirstPiece all lines others → m ≡ n + length lines → piece_fault kind (piece n lines) ≡ None → new ≡ old ++ piece_content kind lines
    → with_contents old (read_pieces kind (pieces_of n all)) ≡ whole → with_contents new (read_pieces kind (pieces_of m others)) ≡ whole
stanza-turn kind old new n m all others lines whole first e none more told =
    turn-good old new (piece_content kind lines) (piece_fault kind (piece n lines)) (read_pieces kind (pieces_of m others)) whole none more
    (ap (with_contents old) (sym (first-read kind n m all others lines first e)) ∙ told)

-- an empty line more
pub gap-turn : (kind : ListKind) (stanzas : List Content) (n : ℕ) (all others : List (List ℕ)) (whole : Result (List Content) TextFault) → all ≡ [] ∷ others
    → with_contents stanzas (read_pieces kind (pieces_of n all)) ≡ whole → with_contents stanzas (read_pieces kind (pieces_of (n + 1) others)) ≡ whole
gap-turn kind stanzas n all others whole e told =
    stanza-turn kind stanzas stanzas n (n + 1) all others ([] ∷ []) whole (λ k. ap (pieces_of k) e ∙ gap-first k) refl refl (sym (append-nil stanzas)) told
  where
    gap-first : (k : ℕ) → pieces_of k ([] ∷ others) ≡ piece k ([] ∷ []) ∷ pieces_of (k + 1) others
    gap-first k = let next : suc k ≡ k + 1 = omega arith in ap (λ m. piece k ([] ∷ []) ∷ pieces_of m others) next

all-read : (kind : ListKind) (n : ℕ) (left : List ℕ) (stanzas : List Content) → (length left == 0) ≡ true → with_contents stanzas (read_pieces kind (pieces_of n (lines_of left))) ≡ Ok stanzas
all-read kind n [] stanzas none = ap Ok (append-nil stanzas)
all-read kind n (b ∷ left) stanzas none = let some = eqb-suc-zero (length left) in absurd (cc)

-- nothing is left
pub stanza-end : (kind : ListKind) (n : ℕ) (left : List ℕ) (old new : List Content) (whole : Result (List Content) TextFault) → (length left == 0) ≡ true
    → new ≡ old → with_contents old (read_pieces kind (pieces_of n (lines_of left))) ≡ whole → whole ≡ Ok new
stanza-end kind n left old new whole none same told = sym told ∙ all-read kind n left old none ∙ ap Ok (sym same)

-- no line is left
pub none-behind : (left : List ℕ) (line total : ℕ) → (length left == 0) ≡ true → line + length (lines_of left) ≡ total → line ≡ total
none-behind [] line total none room = omega (arith, room)
none-behind (b ∷ left) line total none room = let some = eqb-suc-zero (length left) in absurd (cc)

-- what stands behind no stanza is all
pub all-of-none : {A : Type 0} (none : List A) (read told : Result (List A) TextFault) → none ≡ [] → with_contents none read ≡ told → read ≡ told
all-of-none none (Ok xs) told e h = let same : none ++ xs ≡ xs = ap (λ t. t ++ xs) e in cc
all-of-none none (Err f) told e h = h

-- the lines that were lent are those that were taken
pub first-lent : (all others : List (List ℕ)) (lines given : List (Bor (List ℕ))) → given ≡ lines → IsFirstPiece all (lent_lines lines) others → IsFirstPiece all (lent_lines given) others
first-lent all others lines given same first = subst (λ ls. IsFirstPiece all (lent_lines ls) others) (sym same) first

-- ---- records

numbers-here : (numbers : List ℕ) (at : ℕ) (lines : List (Bor (List ℕ))) → slice_range numbers at (at + length lines) ≡ take (length (lent_lines lines)) (drop at numbers)
numbers-here numbers at lines =
    let size : at + length lines - at ≡ length (lent_lines lines) = omega (arith, length-map lines now) in ap (λ k. take k (drop at numbers)) size

-- records, and behind them what the pieces left are read to
abbrev pub behind : List RecordText → List RecordText × Option TextFault → List RecordText × Option TextFault
behind front rest = before_fault None front rest

behind-behind : (a b : List RecordText) (rest : List RecordText × Option TextFault) → behind a (behind b rest) ≡ behind (a ++ b) rest
behind-behind a b rest = ap (λ (xs : List RecordText). (xs, rest.1)) (sym (append_assoc a b rest.0))

first-record : (numbers : List ℕ) (at : ℕ) (all others : List (List ℕ)) (lines : List (Bor (List ℕ))) → IsFirstPiece all (lent_lines lines) others
    → records_before numbers (pieces_of at all)
    ≡ before_fault (record_fault (slice_range numbers at (at + length lines)) (lent_lines lines))
    (piece_record (slice_range numbers at (at + length lines)) (lent_lines lines)) (records_before numbers (pieces_of (at + length lines) others))
first-record numbers at all others lines first =
    let place : at + length (lent_lines lines) ≡ at + length lines = omega (arith, length-map lines now) in
    ap (records_before numbers) (first at)
    ∙ ap (λ ns. before_fault (record_fault ns (lent_lines lines)) (piece_record ns (lent_lines lines)) (records_before numbers (pieces_of (at + length (lent_lines lines)) others))) (sym (numbers-here numbers at lines))
    ∙ ap (λ k. before_fault (record_fault (slice_range numbers at (at + length lines)) (lent_lines lines))
    (piece_record (slice_range numbers at (at + length lines)) (lent_lines lines)) (records_before numbers (pieces_of k others))) place

record-good : (old new part : List RecordText) (fault : Option TextFault) (rest whole : List RecordText × Option TextFault) → fault ≡ None → new ≡ old ++ part
    → behind old (before_fault fault part rest) ≡ whole → behind new rest ≡ whole
record-good old new part fault rest whole none e told =
    ap (λ xs. behind xs rest) e ∙ sym (behind-behind old part rest) ∙ ap (λ o. behind old (before_fault o part rest)) (sym none) ∙ told

record-stop : (old part : List RecordText) (fault : Option TextFault) (f : TextFault) (rest whole : List RecordText × Option TextFault) → fault ≡ Some f
    → behind old (before_fault fault part rest) ≡ whole → (old, Some f) ≡ whole
record-stop old part fault f rest whole some told =
    ap (λ (xs : List RecordText). (xs, Some f)) (sym (append-nil old)) ∙ ap (λ o. behind old (before_fault o part rest)) (sym some) ∙ told

pub record-turn : (numbers here : List ℕ) (old new : List RecordText) (at m : ℕ) (all others : List (List ℕ)) (lines : List (Bor (List ℕ))) (whole : List RecordText × Option TextFault)
    → IsFirstPiece all (lent_lines lines) others → m ≡ at + length lines → here ≡ slice_range numbers at m → record_fault here (lent_lines lines) ≡ None
    → new ≡ old ++ piece_record here (lent_lines lines)
    → behind old (records_before numbers (pieces_of at all)) ≡ whole → behind new (records_before numbers (pieces_of m others)) ≡ whole
record-turn numbers here old new at m all others lines whole first e is none more told =
    let same : here ≡ slice_range numbers at (at + length lines) = is ∙ ap (slice_range numbers at) e in
    ap (λ k. behind new (records_before numbers (pieces_of k others))) e
    ∙ record-good old new _ _ (records_before numbers (pieces_of (at + length lines) others)) whole (ap (λ ns. record_fault ns (lent_lines lines)) (sym same) ∙ none)
    (more ∙ ap (λ ns. old ++ piece_record ns (lent_lines lines)) same)
    (ap (behind old) (sym (first-record numbers at all others lines first)) ∙ told)

pub record-bad : (numbers here : List ℕ) (old : List RecordText) (at m : ℕ) (all others : List (List ℕ)) (lines : List (Bor (List ℕ))) (f : TextFault) (whole : List RecordText × Option TextFault)
    → IsFirstPiece all (lent_lines lines) others → m ≡ at + length lines → here ≡ slice_range numbers at m → record_fault here (lent_lines lines) ≡ Some f
    → behind old (records_before numbers (pieces_of at all)) ≡ whole → (old, Some f) ≡ whole
record-bad numbers here old at m all others lines f whole first e is some told =
    let same : here ≡ slice_range numbers at (at + length lines) = is ∙ ap (slice_range numbers at) e in
    record-stop old _ _ f (records_before numbers (pieces_of (at + length lines) others)) whole (ap (λ ns. record_fault ns (lent_lines lines)) (sym same) ∙ some)
    (ap (behind old) (sym (first-record numbers at all others lines first)) ∙ told)

none-left : (numbers : List ℕ) (at : ℕ) (left : List ℕ) (records : List RecordText) → (length left == 0) ≡ true → behind records (records_before numbers (pieces_of at (lines_of left))) ≡ (records, None)
none-left numbers at [] records none = ap (λ (xs : List RecordText). (xs, None)) (append-nil records)
none-left numbers at (b ∷ left) records none = let some = eqb-suc-zero (length left) in absurd (cc)

-- nothing is left
pub record-end : (numbers : List ℕ) (at : ℕ) (left : List ℕ) (old new : List RecordText) (whole : List RecordText × Option TextFault) → (length left == 0) ≡ true → new ≡ old
    → behind old (records_before numbers (pieces_of at (lines_of left))) ≡ whole → (new, None) ≡ whole
record-end numbers at left old new whole none same told = ap (λ (xs : List RecordText). (xs, None)) same ∙ sym (none-left numbers at left old none) ∙ told

-- as many lines are left as have numbers
pub room-next : (all others : List (List ℕ)) (lines : List (Bor (List ℕ))) (at total : ℕ) → all ≡ lent_lines lines ++ others → at + length all ≡ total → at + length lines + length others ≡ total
room-next all others lines at total e room = omega (arith, room, ap length e, length-append (lent_lines lines) others, length-map lines now)
