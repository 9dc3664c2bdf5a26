-- What a text of preferences is read to: its records before its least fault.
use Rattle.std.proofs.Common.{◌≡◌, ◌⊎◌, ◌∙◌, ◌+◌, ◌<◌, ◌≤◌, ◌++◌, ℕ, suc, true, false, List, [], ◌∷◌, length, map, take, drop, Option, Some, None, Err, refl, sym, ap, subst, arith, inl, inr, append_assoc, ⊎_elim}
use Rattle.std.proofs.lemmas.Bool.{cases_lt, cond-true, cond-false}
use Rattle.std.proofs.lemmas.List.{length-append}
use Rattle.ctl_stanza.specs.declared.fault.TextFault.{TextFault}
use Rattle.ctl_stanza.specs.Lines.{is_blank}
use Rattle.ctl_stanza.specs.Text.{Piece, piece, pieces_of}
use Rattle.ctl_stanza.specs.LineRuns.{IsStanzaAt, Run}
use Rattle.ctl_stanza.specs.Records.{RecordText, record_fault, piece_record, before_fault, records_before, records_before_fault, records_or_fault}
use Rattle.ctl_stanza.specs.RecordLaws.{lines_kept, numbers_kept, record_at, IsLeastFaultOf, AreRecordsUpTo, ReadsRecordsOrTells}
use Rattle.ctl_stanza.proofs.PieceLemmas.{AreOther, StartsGap}
use Rattle.ctl_stanza.proofs.ByPieces.{by_pieces}
use Rattle.ctl_stanza.proofs.PlaceLemmas.{EndsGap, stands-mid, unique}
use Rattle.ctl_stanza.proofs.LawLemmas.{ends-more, ends-before}
use Rattle.ctl_stanza.proofs.RunLemmas.{run, IsBetween, AreBetween, all-between, between-none, between-gap, between-run, gap-line}
use Rattle.ctl_stanza.proofs.RecordLawLemmas.{IsLeastBetween, HasNone, TellsPiece, run-part, gap-part, piece_tell}

abbrev Read : Type 0
Read = List RecordText × Option TextFault

-- the records between two lines
record HasRecords (numbers : List ℕ) (all : List (List ℕ)) (from end : ℕ) (records : List RecordText) : Type 0 where
  pub runs : List Run
  pub between : AreBetween all from end runs
  pub records_are : records ≡ map (record_at numbers) runs

-- the least fault of the lines from one on, and the records before it
abbrev StopsAt : List ℕ → List (List ℕ) → ℕ → List RecordText → TextFault → Type 0
StopsAt numbers all from records fault = (least : IsLeastBetween numbers all from (length all) fault) × HasRecords numbers all from least.index records

-- what the lines from one on are read to
record Stands (numbers : List ℕ) (all : List (List ℕ)) (from : ℕ) (read : Read) : Type 0 where
  pub whole : read.1 ≡ None → HasNone all from (length all) × HasRecords numbers all from (length all) read.0
  pub stops : (fault : TextFault) → read.1 ≡ Some fault → StopsAt numbers all from read.0 fault

-- ---- a first piece, and the others

-- the record of a piece, before those behind it
abbrev Grows : List ℕ → List (List ℕ) → ℕ → ℕ → List RecordText → Type 0
Grows numbers all from to front = (end : ℕ) (records : List RecordText) → to ≤ end → HasRecords numbers all to end records → HasRecords numbers all from end (front ++ records)

-- within a piece no record ends
abbrev EndsNone : List (List ℕ) → ℕ → ℕ → Type 0
EndsNone all from to = (r : Run) (end : ℕ) → end < to → IsBetween all from end r → ⊥

least-behind : (numbers : List ℕ) (all : List (List ℕ)) (from to : ℕ) (records : List RecordText) (fault : TextFault) (front : List RecordText) → from ≤ to → HasNone all from to
    → Grows numbers all from to front → StopsAt numbers all to records fault → StopsAt numbers all from (front ++ records) fault
least-behind numbers all from to records fault front le none grows known =
    let later = known.0 in (
      record {
        index = later.index;
        from_on = omega (arith, later.from_on);
        before_to = later.before_to;
        line = later.line;
        sound = later.sound;
        least = λ i cause ge lt has. ⊎_elim (λ (before : i < to). absurd (none i cause ge before has)) (λ (after : to ≤ i). later.least i cause after lt has) (cases_lt i to);
        lowest = later.lowest;
      },
      grows later.index records later.from_on known.1,
    )

least-here : (numbers : List ℕ) (all : List (List ℕ)) (from to : ℕ) (fault : TextFault) → to ≤ length all → EndsNone all from to → IsLeastBetween numbers all from to fault → StopsAt numbers all from [] fault
least-here numbers all from to fault within none known = (
  record {
    index = known.index;
    from_on = known.from_on;
    before_to = omega (arith, known.before_to);
    line = known.line;
    sound = known.sound;
    least = λ i cause ge lt has. ⊎_elim (λ (before : i < to). known.least i cause ge before has) (λ (after : to ≤ i). omega (arith, known.before_to)) (cases_lt i to);
    lowest = known.lowest;
  },
  record { runs = []; between = between-none all from known.index (λ r is. none r known.index known.before_to is); records_are = refl },
)

none-behind : (all : List (List ℕ)) (from to : ℕ) → HasNone all from to → HasNone all to (length all) → HasNone all from (length all)
none-behind all from to here behind = λ i cause ge lt has. ⊎_elim (λ (before : i < to). here i cause ge before has) (λ (after : to ≤ i). behind i cause after lt has) (cases_lt i to)

joined : (numbers : List ℕ) (all : List (List ℕ)) (from to : ℕ) (fault : Option TextFault) (front : List RecordText) (rest : Read) → from ≤ to → to ≤ length all → TellsPiece numbers all from to fault
    → Grows numbers all from to front → EndsNone all from to → Stands numbers all to rest → Stands numbers all from (before_fault fault front rest)
joined numbers all from to None front rest le within here grows none stands = record {
  whole = λ e. let known = stands.whole e in (none-behind all from to (here.none refl) known.0, grows (length all) rest.0 within known.1);
  stops = λ fault e. least-behind numbers all from to rest.0 fault front le (here.none refl) grows (stands.stops fault e);
}
joined numbers all from to (Some first) front rest le within here grows none stands = record {
  whole = λ e. absurd (cc);
  stops = λ fault e.
      let same : first ≡ fault = cc in
      subst (StopsAt numbers all from []) same (least-here numbers all from to first within none (here.some first refl));
}

-- ---- pieces

grows-gap : (numbers : List ℕ) (front : List (List ℕ)) (l : List ℕ) (ls : List (List ℕ)) → is_blank l ≡ true → (ns : List ℕ)
    → Grows numbers (front ++ (l ∷ ls)) (length front) (length front + 1) (piece_record ns (l ∷ []))
grows-gap numbers front l ls blank ns = λ end records le has. record {
  runs = has.runs;
  between = between-gap (front ++ (l ∷ ls)) (length front) end has.runs (gap-line front l ls blank) has.between;
  records_are = ap (λ t. t ++ records) (cond-true _ _ _ blank) ∙ has.records_are;
}

grows-run : (numbers : List ℕ) (all mid : List (List ℕ)) (from : ℕ) (l : List ℕ) (ls : List (List ℕ)) → mid ≡ l ∷ ls → is_blank l ≡ false → IsStanzaAt all from mid
    → Grows numbers all from (from + length mid) (piece_record (take (length mid) (drop from numbers)) mid)
grows-run numbers all mid from l ls e other is = λ end records le has. record {
  runs = run from mid ∷ has.runs;
  between = between-run all from end mid has.runs is le has.between;
  records_are = subst (λ m. piece_record (take (length m) (drop from numbers)) m ++ records ≡ record_at numbers (run from m) ∷ records) (sym e) (ap (λ t. t ++ records) (cond-false _ _ _ other))
      ∙ ap (λ t. record_at numbers (run from mid) ∷ t) has.records_are;
}

ends-run : (all mid : List (List ℕ)) (from : ℕ) → IsStanzaAt all from mid → EndsNone all from (from + length mid)
ends-run all mid from is r end lt here =
    let same = unique all from r.start mid r.lines r.start is here.1.0 here.0 (omega (arith, here.1.1, here.1.0.some)) (omega arith) (omega (arith, here.1.0.some)) in
    omega (arith, lt, here.1.1, same.0, ap length same.1)

ends-gap : (all : List (List ℕ)) (from : ℕ) → EndsNone all from (from + 1)
ends-gap all from r end lt here = omega (arith, lt, here.0, here.1.1, here.1.0.some)

-- ---- all pieces

abbrev Stand : List ℕ → ℕ → List (List ℕ) → List Piece → Type 0
Stand numbers m ls ps = (front : List (List ℕ)) → m ≡ length front → EndsGap front ⊎ StartsGap ls → Stands numbers (front ++ ls) (length front) (records_before numbers ps)

stand_nil : (numbers : List ℕ) (m : ℕ) → Stand numbers m [] []
stand_nil numbers m front number border =
    let all = front ++ [] in
    let size : length all ≡ length front + 0 = length-append front [] in
    record {
      whole = λ e. (
        λ i cause ge lt has. omega (arith, ge, lt, size),
        record { runs = []; between = between-none all (length front) (length all) (λ r is. omega (arith, is.0, is.1.1, is.1.0.some, size)); records_are = refl },
      );
      stops = λ fault e. absurd (cc);
    }

moved : (numbers : List ℕ) (front mid rest : List (List ℕ)) (read : Read) → Stands numbers ((front ++ mid) ++ rest) (length (front ++ mid)) read
    → Stands numbers (front ++ (mid ++ rest)) (length front + length mid) read
moved numbers front mid rest read stands =
    subst (λ from. Stands numbers (front ++ (mid ++ rest)) from read) (length-append front mid)
    (subst (λ all. Stands numbers all (length (front ++ mid)) read) (append_assoc front mid rest) stands)

stand_gap : (numbers : List ℕ) (m : ℕ) (l : List ℕ) (ls : List (List ℕ)) (ps : List Piece) → is_blank l ≡ true → Stand numbers (suc m) ls ps → Stand numbers m (l ∷ ls) (piece m (l ∷ []) ∷ ps)
stand_gap numbers m l ls ps blank more front number border =
    let all = front ++ (l ∷ ls) in
    let size : length (front ++ (l ∷ [])) ≡ length front + 1 = length-append front (l ∷ []) in
    let later = more (front ++ (l ∷ [])) (omega (arith, size, number)) (inl (ends-more front l blank)) in
    let here = piece_tell numbers all (l ∷ []) (length front) (gap-part front ls l blank) in
    let ns = take 1 (drop (length front) numbers) in
    let stands : Stands numbers all (length front) (before_fault (record_fault ns (l ∷ [])) (piece_record ns (l ∷ [])) (records_before numbers ps)) =
    joined numbers all (length front) (length front + 1) (record_fault ns (l ∷ [])) (piece_record ns (l ∷ [])) (records_before numbers ps) (omega arith) (omega (arith, length-append front (l ∷ ls)))
    here (grows-gap numbers front l ls blank ns) (ends-gap all (length front)) (moved numbers front (l ∷ []) ls (records_before numbers ps) later) in
    subst (λ k. Stands numbers all (length front) (records_before numbers (piece k (l ∷ []) ∷ ps))) (sym number) stands

stand_run : (numbers : List ℕ) (m : ℕ) (l : List ℕ) (ls rest : List (List ℕ)) (ps : List Piece) → AreOther (l ∷ ls) → StartsGap rest → Stand numbers (m + length (l ∷ ls)) rest ps
    → Stand numbers m (l ∷ (ls ++ rest)) (piece m (l ∷ ls) ∷ ps)
stand_run numbers m l ls rest ps others gap_after more front number border =
    let mid = l ∷ ls in
    let all = front ++ (mid ++ rest) in
    let gap = ends-before front l (ls ++ rest) others.0 border in
    let is = stands-mid front mid rest (omega arith) gap others gap_after in
    let later = more (front ++ mid) (omega (arith, length-append front mid, number)) (inr gap_after) in
    let here = piece_tell numbers all mid (length front) (run-part front mid rest gap others) in
    let ns = take (length mid) (drop (length front) numbers) in
    let stands : Stands numbers all (length front) (before_fault (record_fault ns mid) (piece_record ns mid) (records_before numbers ps)) =
    joined numbers all (length front) (length front + length mid) (record_fault ns mid) (piece_record ns mid) (records_before numbers ps) (omega arith) is.within
    here (grows-run numbers all mid (length front) l ls refl others.0 is) (ends-run all mid (length front) is) (moved numbers front mid rest (records_before numbers ps) later) in
    subst (λ k. Stands numbers all (length front) (records_before numbers (piece k mid ∷ ps))) (sym number) stands

up_to : (n : ℕ) (text : List ℕ) (read : Read) → Stands (numbers_kept n text) (lines_kept n text) 0 read → AreRecordsUpTo n text read.0 read.1
up_to n text (records, None) stands =
    let known = stands.whole refl in (
      λ i cause has. known.0 i cause (omega arith) has.0 has,
      record { runs = known.1.runs; are_runs = all-between (lines_kept n text) (length (lines_kept n text)) known.1.runs known.1.between; records_are = known.1.records_are },
    )
up_to n text (records, Some fault) stands =
    let known = stands.stops fault refl in
    let least = known.0 in (
      record {
        index = least.index;
        line = least.line;
        sound = least.sound;
        least = λ i cause has. least.least i cause (omega arith) has.0 has;
        lowest = least.lowest;
      },
      record { runs = known.1.runs; are_runs = all-between (lines_kept n text) least.index known.1.runs known.1.between; records_are = known.1.records_are },
    )

pub reads_up_to : (n : ℕ) (text : List ℕ) → AreRecordsUpTo n text (records_before_fault n text).0 (records_before_fault n text).1
reads_up_to n text =
    let numbers = numbers_kept n text in
    let lines = lines_kept n text in
    let stand = by_pieces (Stand numbers) (stand_nil numbers) (stand_gap numbers) (stand_run numbers) 0 lines in
    up_to n text (records_before numbers (pieces_of 0 lines)) (stand [] refl (inl (λ i e. absurd (omega arith))))

-- what was returned is what is read
pub up_to_as : (n : ℕ) (text : List ℕ) (records : List RecordText) (fault : Option TextFault) → (records, fault) ≡ records_before_fault n text → AreRecordsUpTo n text records fault
up_to_as n text records fault e = subst (λ (read : Read). AreRecordsUpTo n text read.0 read.1) (sym e) (reads_up_to n text)

reads_or_tells_by : (n : ℕ) (text : List ℕ) (read : Read) → records_before_fault n text ≡ read → AreRecordsUpTo n text read.0 read.1 → ReadsRecordsOrTells n text
reads_or_tells_by n text (records, None) e known = record {
  read = λ all is. known.0;
  told = λ fault is. let clash = ap records_or_fault (sym e) ∙ is in absurd (cc);
}
reads_or_tells_by n text (records, Some fault) e known = record {
  read = λ all is. let clash = ap records_or_fault (sym e) ∙ is in absurd (cc);
  told = λ other is.
      let both : Err fault ≡ Err other = ap records_or_fault (sym e) ∙ is in
      let same : fault ≡ other = cc in
      subst (λ f. IsLeastFaultOf n text f) same known.0;
}

pub reads_or_tells : (n : ℕ) (text : List ℕ) → ReadsRecordsOrTells n text
reads_or_tells n text = reads_or_tells_by n text (records_before_fault n text) refl (reads_up_to n text)
