-- The maximal runs of lines between two lines, and that what is read are those of the text.
use Rattle.std.proofs.Common.{◌≡◌, ◌⊎◌, ◌∙◌, ◌+◌, ◌<◌, ◌≤◌, ◌++◌, ℕ, zero, suc, true, List, [], ◌∷◌, length, map, Ok, slice_index, sym, subst, ap, ap₂, arith, append_assoc, inl, inr, ⊎_elim}
use Rattle.std.proofs.lemmas.Bool.{cases_lt, cond-true, cond-false}
use Rattle.std.proofs.lemmas.List.{length-append}
use Rattle.std.proofs.lemmas.List.Elements.{All-nil, All-cons}
use Rattle.std.specs.List.{All, Contains}
use Rattle.std.specs.List.Sorted.{IsStrictlyIncreasing}
use Rattle.ctl_stanza.specs.declared.list_kind.ListKind.{ListKind}
use Rattle.ctl_stanza.specs.Lines.{is_blank, lines_of}
use Rattle.ctl_stanza.specs.Content.{Content, content_of}
use Rattle.ctl_stanza.specs.LineRuns.{line_at, IsStanzaAt, Run, IsStanzaBefore, AreStanzasBefore}
use Rattle.ctl_stanza.specs.Text.{Piece, piece, piece_content, piece_fault, read_pieces}
use Rattle.ctl_stanza.specs.Laws.{ReadsStanzas}
use Rattle.ctl_stanza.proofs.PieceLemmas.{AreOther, StartsGap}
use Rattle.ctl_stanza.proofs.ByPieces.{by_pieces}
use Rattle.ctl_stanza.proofs.KeepLemmas.{reads_first}
use Rattle.ctl_stanza.proofs.PlaceLemmas.{EndsGap, at-back, stands-mid, unique}
use Rattle.ctl_stanza.proofs.LawLemmas.{ends-more, ends-before}

abbrev pub run : ℕ → List (List ℕ) → Run
run start lines = record { start = start; lines = lines }

abbrev pub starts : List Run → List ℕ
starts runs = map (λ (r : Run). r.start) runs

-- a run that is a stanza between two lines
abbrev pub IsBetween : List (List ℕ) → ℕ → ℕ → Run → Type 0
IsBetween lines from to r = (from ≤ r.start) × IsStanzaBefore lines to r

-- the stanzas between two lines
pub record AreBetween (lines : List (List ℕ)) (from to : ℕ) (runs : List Run) : Type 0 where
  pub stand : All (IsBetween lines from to) runs
  pub whole : (r : Run) → IsBetween lines from to r → Contains runs r
  pub rise : IsStrictlyIncreasing (starts runs)

pub all-between : (lines : List (List ℕ)) (to : ℕ) (runs : List Run) → AreBetween lines 0 to runs → AreStanzasBefore lines to runs
all-between lines to runs are = record {
  stand = λ k d lt. (are.stand k d lt).1;
  whole = λ r is. are.whole r (omega arith, is);
  rise = are.rise;
}

-- none begins between them
pub between-none : (lines : List (List ℕ)) (from to : ℕ) → ((r : Run) → IsBetween lines from to r → ⊥) → AreBetween lines from to []
between-none lines from to none = record {
  stand = All-nil (IsBetween lines from to);
  whole = λ r is. absurd (none r is);
  rise = λ k lt. absurd (omega arith);
}

-- a blank line first
pub between-gap : (lines : List (List ℕ)) (from to : ℕ) (runs : List Run) → is_blank (line_at lines from) ≡ true → AreBetween lines (from + 1) to runs → AreBetween lines from to runs
between-gap lines from to runs blank rest = record {
  stand = λ k d lt. let there = rest.stand k d lt in (omega (arith, there.0), there.1);
  whole = λ r is. ⊎_elim
      (λ (at_first : r.start < from + 1). let clash = sym (is.1.0.no_blank from (omega arith) (omega (arith, is.0, is.1.0.some))) ∙ blank in absurd (cc))
      (λ (behind : from + 1 ≤ r.start). rest.whole r (behind, is.1))
      (cases_lt r.start (from + 1));
  rise = rest.rise;
}

first-rises : (from : ℕ) (mid lines : List (List ℕ)) (to : ℕ) (runs : List Run) → 0 < length mid → AreBetween lines (from + length mid) to runs → IsStrictlyIncreasing (from ∷ starts runs)
first-rises from mid lines to [] some rest = λ k lt. absurd (omega arith)
first-rises from mid lines to (r ∷ rs) some rest = go
  where
    go : (k : ℕ) → k + 1 < length (from ∷ starts (r ∷ rs)) → slice_index (from ∷ starts (r ∷ rs)) k < slice_index (from ∷ starts (r ∷ rs)) (k + 1)
    go zero lt = omega (arith, (rest.stand 0 r (omega arith)).0)
    go (suc k) lt =
        let next : suc (k + 1) ≡ suc k + 1 = omega arith in
        subst (λ j. slice_index (starts (r ∷ rs)) k < slice_index (from ∷ starts (r ∷ rs)) j) next (rest.rise k (omega arith))

-- a stanza first
pub between-run : (lines : List (List ℕ)) (from to : ℕ) (mid : List (List ℕ)) (runs : List Run) → IsStanzaAt lines from mid → from + length mid ≤ to → AreBetween lines (from + length mid) to runs
    → AreBetween lines from to (run from mid ∷ runs)
between-run lines from to mid runs is le rest = record {
  stand = All-cons (IsBetween lines from to) (run from mid) runs (omega arith, (is, le)) (λ k d lt. let there = rest.stand k d lt in (omega (arith, there.0), there.1));
  whole = λ r here. ⊎_elim
      (λ (at_first : r.start < from + length mid).
      let same = unique lines from r.start mid r.lines r.start is here.1.0 here.0 at_first (omega arith) (omega (arith, here.1.0.some)) in
      (0, omega arith, ap₂ run same.0 same.1))
      (λ (behind : from + length mid ≤ r.start). let there = rest.whole r (behind, here.1) in (suc there.0, omega (arith, there.1), there.2))
      (cases_lt r.start (from + length mid));
  rise = first-rises from mid lines to runs is.some rest;
}

-- the blank line behind some
pub gap-line : (front : List (List ℕ)) (l : List ℕ) (ls : List (List ℕ)) → is_blank l ≡ true → is_blank (line_at (front ++ (l ∷ ls)) (length front)) ≡ true
gap-line front l ls blank =
    let here : length front ≡ length front + 0 = omega arith in
    ap (λ i. is_blank (line_at (front ++ (l ∷ ls)) i)) here ∙ ap is_blank (at-back front (l ∷ ls) 0) ∙ blank

-- ---- what is read

-- the stanzas of the lines from one on
record HasRuns (kind : ListKind) (lines : List (List ℕ)) (from : ℕ) (contents : List Content) : Type 0 where
  pub runs : List Run
  pub between : AreBetween lines from (length lines) runs
  pub contents_are : contents ≡ map (λ (r : Run). content_of kind r.lines) runs

abbrev Stand : ListKind → ℕ → List (List ℕ) → List Piece → Type 0
Stand kind n ls ps = (front : List (List ℕ)) → EndsGap front ⊎ StartsGap ls → (contents : List Content) → read_pieces kind ps ≡ Ok contents
    → HasRuns kind (front ++ ls) (length front) contents

stand_nil : (kind : ListKind) (n : ℕ) → Stand kind n [] []
stand_nil kind n front border contents e =
    let size = length-append front [] in
    record {
      runs = [];
      between = between-none (front ++ []) (length front) (length (front ++ [])) (λ r is. omega (arith, is.0, is.1.1, is.1.0.some, size));
      contents_are = cc;
    }

stand_gap : (kind : ListKind) (n : ℕ) (l : List ℕ) (ls : List (List ℕ)) (ps : List Piece) → is_blank l ≡ true → Stand kind (suc n) ls ps → Stand kind n (l ∷ ls) (piece n (l ∷ []) ∷ ps)
stand_gap kind n l ls ps blank more front border contents e =
    let all = front ++ (l ∷ ls) in
    let first = reads_first (piece_fault kind (piece n (l ∷ []))) (piece_content kind (l ∷ [])) contents (read_pieces kind ps) e in
    let same : contents ≡ first.others = first.joined ∙ ap (λ t. t ++ first.others) (cond-true _ _ _ blank) in
    let later = more (front ++ (l ∷ [])) (inl (ends-more front l blank)) first.others first.read in
    let place : length (front ++ (l ∷ [])) ≡ length front + 1 = length-append front (l ∷ []) in
    let moved : HasRuns kind all (length front + 1) first.others =
    subst (λ from. HasRuns kind all from first.others) place (subst (λ lines. HasRuns kind lines (length (front ++ (l ∷ []))) first.others) (append_assoc front (l ∷ []) ls) later) in
    record {
      runs = moved.runs;
      between = between-gap all (length front) (length all) moved.runs (gap-line front l ls blank) moved.between;
      contents_are = same ∙ moved.contents_are;
    }

stand_run : (kind : ListKind) (n : ℕ) (l : List ℕ) (ls rest : List (List ℕ)) (ps : List Piece) → AreOther (l ∷ ls) → StartsGap rest → Stand kind (n + length (l ∷ ls)) rest ps
    → Stand kind n (l ∷ (ls ++ rest)) (piece n (l ∷ ls) ∷ ps)
stand_run kind n l ls rest ps others gap_after more front border contents e =
    let mid = l ∷ ls in
    let all = front ++ (mid ++ rest) in
    let first = reads_first (piece_fault kind (piece n mid)) (piece_content kind mid) contents (read_pieces kind ps) e in
    let same : contents ≡ content_of kind mid ∷ first.others = first.joined ∙ ap (λ t. t ++ first.others) (cond-false _ _ _ others.0) in
    let gap = ends-before front l (ls ++ rest) others.0 border in
    let stands = stands-mid front mid rest (omega arith) gap others gap_after in
    let later = more (front ++ mid) (inr gap_after) first.others first.read in
    let moved : HasRuns kind all (length front + length mid) first.others =
    subst (λ from. HasRuns kind all from first.others) (length-append front mid) (subst (λ lines. HasRuns kind lines (length (front ++ mid)) first.others) (append_assoc front mid rest) later) in
    record {
      runs = run (length front) mid ∷ moved.runs;
      between = between-run all (length front) (length all) mid moved.runs stands stands.within moved.between;
      contents_are = same ∙ ap (λ t. content_of kind mid ∷ t) moved.contents_are;
    }

pub reads_stanzas : (kind : ListKind) (n : ℕ) (text : List ℕ) → ReadsStanzas kind n text
reads_stanzas kind n text contents e =
    let lines = lines_of text in
    let has = by_pieces (Stand kind) (stand_nil kind) (stand_gap kind) (stand_run kind) n lines [] (inl (λ i h. absurd (omega arith))) contents e in
    record { runs = has.runs; are_stanzas = all-between lines (length lines) has.runs has.between; contents_are = has.contents_are }
