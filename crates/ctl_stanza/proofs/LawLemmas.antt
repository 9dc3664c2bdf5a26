-- The fault that is told of a text is the least of its faults.
use Rattle.std.proofs.Common.{◌≡◌, ◌⊎◌, ◌∙◌, ◌+◌, ◌-◌, ◌<◌, ◌≤◌, ◌++◌, ℕ, suc, true, false, List, [], ◌∷◌, length, take, Option, Some, None, Result, Ok, Err, IfErr, Vec, refl, sym, ap, subst, arith, inl, inr, append_assoc, ⊎_elim}
use Rattle.std.proofs.lemmas.Bool.{cases_lt, cond-true, cond-false}
use Rattle.std.proofs.lemmas.List.{length-append}
use Rattle.ctl_stanza.specs.declared.line_kind.LineKind.TheVariants.{Blank, Field, Continuation, Faulty}
use Rattle.ctl_stanza.specs.declared.list_kind.ListKind.{ListKind}
use Rattle.ctl_stanza.specs.declared.fault.TextFault.{TextFault}
use Rattle.ctl_stanza.specs.declared.fault.Cause.{Cause}
use Rattle.ctl_stanza.specs.declared.fault.Cause.TheVariants as causes
use Rattle.ctl_stanza.specs.Lines.{max_line, is_blank, lines_of}
use Rattle.ctl_stanza.specs.declared.repeats.Repeats.{Repeats}
use Rattle.ctl_stanza.specs.declared.repeats.Repeats.TheVariants.{Never}
use Rattle.ctl_stanza.specs.LineKind.{kind_of}
use Rattle.ctl_stanza.specs.Content.{Content}
use Rattle.ctl_stanza.specs.Faults.{cause_of, fault_or}
use Rattle.ctl_stanza.specs.Text.{Piece, piece, pieces_of, piece_content, piece_fault, read_pieces, with_contents, or_fault, read_text, Reads}
use Rattle.std.specs.declared.alloc.Global.{Global}
use Rattle.ctl_stanza.specs.LineRuns.{line_at}
use Rattle.ctl_stanza.specs.Laws.{lines_before, MakesBodyTooLong, ContinuesNothing, IsFaultyLine, HasNoFaultyLine, HasWholeFault, HasStanzaFault, HasFault, IsLeastFault, HasNoFault, ReadsOrTells, TellsLeastFault}
use Rattle.ctl_stanza.proofs.PieceLemmas.{AreOther, StartsGap}
use Rattle.ctl_stanza.proofs.ByPieces.{by_pieces}
use Rattle.ctl_stanza.proofs.KeepLemmas.{Read, option_either}
use Rattle.ctl_stanza.proofs.CauseLemmas.{IsAtMost, TellsLeast, HasFaultyLine, cause-sound, cause-least, same-some}
use Rattle.ctl_stanza.proofs.WholeLemmas.{HasStanzaLine, stanza_tell, whole-within}
use Rattle.ctl_stanza.proofs.PlaceLemmas.{EndsGap, at-back, at-mid, lines_before-mid, stands-mid, unique}

-- a line among those from one on has this fault
abbrev HasThere : ListKind → List (List ℕ) → ℕ → ℕ → ℕ → Cause → Type 0
HasThere kind all from len i cause = (from ≤ i) × (i < from + len) × HasFault kind all i cause

-- ---- a stanza

stanza-fault : (kind : ListKind) (front mid rest : List (List ℕ)) (k : ℕ) (cause : Cause) → 0 < length mid → EndsGap front → AreOther mid → StartsGap rest → HasStanzaLine kind mid k cause
    → HasThere kind (front ++ (mid ++ rest)) (length front) (length mid) (length front + k) cause
stanza-fault kind front mid rest k cause some gap others gap_after fault = ⊎_elim
    (λ (faulty : HasFaultyLine Never mid k cause).
    let size : length front + k < length (front ++ (mid ++ rest)) = omega (arith, faulty.0, length-append front (mid ++ rest), length-append mid rest) in
    let here : IsFaultyLine Never (lines_before (front ++ (mid ++ rest)) (length front + k)) (line_at (front ++ (mid ++ rest)) (length front + k)) cause =
    subst (λ before. IsFaultyLine Never before (line_at (front ++ (mid ++ rest)) (length front + k)) cause) (sym (lines_before-mid front mid rest k gap others faulty.0))
    (subst (λ line. IsFaultyLine Never (take k mid) line cause) (sym (at-mid front mid rest k faulty.0)) faulty.1) in
    let found : HasThere kind (front ++ (mid ++ rest)) (length front) (length mid) (length front + k) cause = (omega arith, omega (arith, faulty.0), inl (size, here)) in found)
    (λ (whole : HasNoFaultyLine mid × HasWholeFault kind mid k cause).
    let short = whole-within kind mid k cause some whole.1 in
    let there : HasStanzaFault kind (front ++ (mid ++ rest)) (length front + k) cause = record {
      start = length front;
      stanza = mid;
      stands = stands-mid front mid rest some gap others gap_after;
      good_lines = whole.0;
      index = k;
      line = refl;
      fault = whole.1;
    } in
    let found : HasThere kind (front ++ (mid ++ rest)) (length front) (length mid) (length front + k) cause = (omega arith, omega arith, inr there) in found)
    fault

stanza-line : (kind : ListKind) (front mid rest : List (List ℕ)) (k : ℕ) (cause : Cause) → 0 < length mid → EndsGap front → AreOther mid → StartsGap rest → k < length mid
    → HasFault kind (front ++ (mid ++ rest)) (length front + k) cause → HasStanzaLine kind mid k cause
stanza-line kind front mid rest k cause some gap others gap_after lt fault = elim fault [
  | inl faulty ↦
      inl (
        lt,
        subst (λ before. IsFaultyLine Never before (line_at mid k) cause) (lines_before-mid front mid rest k gap others lt)
            (subst (λ line. IsFaultyLine Never (lines_before (front ++ (mid ++ rest)) (length front + k)) line cause) (at-mid front mid rest k lt) faulty.1),
      )
  | inr there ↦
      let short = whole-within kind there.stanza there.index cause there.stands.some there.fault in
      let one = unique (front ++ (mid ++ rest)) there.start (length front) there.stanza mid (length front + k) there.stands (stands-mid front mid rest some gap others gap_after)
      (omega (arith, there.line)) (omega (arith, there.line, short)) (omega arith) (omega arith) in
      let index : there.index ≡ k = omega (arith, there.line, one.0) in
      let good : HasNoFaultyLine mid = subst HasNoFaultyLine one.1 there.good_lines in
      inr (good, subst (λ i. HasWholeFault kind mid i cause) index (subst (λ stanza. HasWholeFault kind stanza there.index cause) one.1 there.fault))
]

gap-none : (mid : List (List ℕ)) → 0 < length mid → AreOther mid → (kind : ListKind) (n : ℕ) → TellsLeast (HasStanzaLine kind mid) n (piece_fault kind (piece n mid))
gap-none [] some others kind n = absurd (omega arith)
gap-none (l ∷ ls) some others kind n = subst (TellsLeast (HasStanzaLine kind (l ∷ ls)) n) (sym (cond-false _ _ _ others.0)) (stanza_tell kind n (l ∷ ls))

run_tell : (kind : ListKind) (n : ℕ) (front mid rest : List (List ℕ)) → 0 < length mid → EndsGap front → AreOther mid → StartsGap rest
    → TellsLeast (HasThere kind (front ++ (mid ++ rest)) (length front) (length mid)) n (piece_fault kind (piece (n + length front) mid))
run_tell kind n front mid rest some gap others gap_after =
    let tells = gap-none mid some others kind (n + length front) in
    record {
      sound = λ fault e. let known = tells.sound fault e in (length front + known.0, omega (arith, known.1), stanza-fault kind front mid rest known.0 fault.cause some gap others gap_after known.2);
      least = λ i cause fault.
          let k = i - length front in
          let place : i ≡ length front + k = omega (arith, fault.0) in
          let far : n + length front + k ≡ n + i = omega arith in
          let here = stanza-line kind front mid rest k cause some gap others gap_after (omega (arith, fault.0, fault.1)) (subst (λ j. HasFault kind (front ++ (mid ++ rest)) j cause) place fault.2) in
          let told = tells.least k cause here in
          (told.0, told.1, subst (λ line. IsAtMost told.0 line cause) far told.2);
    }

-- ---- a blank line

-- of a blank line only its length matters
pub blank-any : (r : Repeats) (before other : List (List ℕ)) (line : List ℕ) (cause : Cause) → is_blank line ≡ true → IsFaultyLine r before line cause → IsFaultyLine r other line cause
blank-any r before other line causes.TooLong blank fault =
    let is : kind_of line ≡ Blank = cond-true _ _ _ blank in
    ⊎_elim (λ (long : max_line < length line). inl long) (λ (makes : MakesBodyTooLong before line). let continues : kind_of line ≡ Continuation = makes.continues in absurd (cc)) fault
blank-any r before other line causes.Line blank fault =
    let is : kind_of line ≡ Blank = cond-true _ _ _ blank in
    ⊎_elim (λ (nothing : ContinuesNothing before line). let continues : kind_of line ≡ Continuation = nothing.continues in absurd (cc)) (λ (b : kind_of line ≡ Faulty). absurd (cc)) fault
blank-any r before other line causes.FieldTwice blank fault =
    let is : kind_of line ≡ Blank = cond-true _ _ _ blank in
    let field : kind_of line ≡ Field fault.bytes = fault.is_field in absurd (cc)
blank-any r before other line causes.Missing blank fault = absurd fault
blank-any r before other line causes.Name blank fault = absurd fault
blank-any r before other line causes.Version blank fault = absurd fault
blank-any r before other line causes.Relation blank fault = absurd fault
blank-any r before other line causes.Priority blank fault = absurd fault
blank-any r before other line causes.Form blank fault = absurd fault
blank-any r before other line causes.Memory blank fault = absurd fault

gap_tell : (kind : ListKind) (n : ℕ) (front : List (List ℕ)) (line : List ℕ) (rest : List (List ℕ)) → is_blank line ≡ true
    → TellsLeast (HasThere kind (front ++ (line ∷ rest)) (length front) 1) n (piece_fault kind (piece (n + length front) (line ∷ [])))
gap_tell kind n front line rest blank =
    let all = front ++ (line ∷ rest) in
    let first : piece_fault kind (piece (n + length front) (line ∷ [])) ≡ fault_or (n + length front) (cause_of Never [] line) None = cond-true _ _ _ blank in
    let zero_more : length front + 0 ≡ length front = omega arith in
    let here : line_at all (length front) ≡ line = ap (line_at all) (sym zero_more) ∙ at-back front (line ∷ rest) 0 in
    let size : length front < length all = omega (arith, length-append front (line ∷ rest)) in
    record {
      sound = λ fault e. ⊎_elim
          (λ none. let nothing = first ∙ ap (λ o. fault_or (n + length front) o None) none in absurd (cc))
          (λ some.
          let told : piece_fault kind (piece (n + length front) (line ∷ [])) ≡ Some (record { line = n + length front; cause = some.0 }) = first ∙ ap (λ o. fault_or (n + length front) o None) some.1 in
          let same = same-some _ fault _ told e in
          let faulty : IsFaultyLine Never [] line fault.cause = cause-sound Never [] line fault.cause (some.1 ∙ ap (λ (f : TextFault). Some f.cause) same) in
          let there : HasFault kind all (length front) fault.cause =
          inl (size, subst (λ l. IsFaultyLine Never (lines_before all (length front)) l fault.cause) (sym here) (blank-any Never [] (lines_before all (length front)) line fault.cause blank faulty)) in
          let found : (i : ℕ) × (fault.line ≡ n + i) × HasThere kind all (length front) 1 i fault.cause =
          (length front, sym (ap (λ (f : TextFault). f.line) same), (omega arith, omega arith, there)) in
          found)
          (option_either (cause_of Never [] line));
      least = λ i cause fault.
          let place : i ≡ length front = omega (arith, fault.0, fault.1) in
          let there = subst (λ j. HasFault kind all j cause) place fault.2 in
          ⊎_elim
          (λ (faulty : (length front < length all) × IsFaultyLine Never (lines_before all (length front)) (line_at all (length front)) cause).
          let alone = blank-any Never (lines_before all (length front)) [] line cause blank (subst (λ l. IsFaultyLine Never (lines_before all (length front)) l cause) here faulty.1) in
          let told = cause-least Never [] line cause alone in
          let found : (f : TextFault) × (piece_fault kind (piece (n + length front) (line ∷ [])) ≡ Some f) × IsAtMost f (n + i) cause =
          (record { line = n + length front; cause = told.0 }, first ∙ ap (λ o. fault_or (n + length front) o None) told.1, inr (omega arith, told.2)) in
          found)
          (λ (stanza : HasStanzaFault kind all (length front) cause).
          let short = whole-within kind stanza.stanza stanza.index cause stanza.stands.some stanza.fault in
          let clash = sym (stanza.stands.no_blank (length front) (omega (arith, stanza.line)) (omega (arith, stanza.line))) ∙ ap is_blank here ∙ blank in
          absurd (cc))
          there;
    }

-- ---- all pieces

-- what reading tells of the lines from one on
record TellsFrom (kind : ListKind) (n : ℕ) (all : List (List ℕ)) (from : ℕ) (read : Read) : Type 0 where
  pub sound : (fault : TextFault) → read ≡ Err fault → (i : ℕ) × (fault.line ≡ n + i) × HasFault kind all i fault.cause
  pub least : (i : ℕ) (cause : Cause) → from ≤ i → HasFault kind all i cause → (fault : TextFault) × (read ≡ Err fault) × IsAtMost fault (n + i) cause

-- a first piece, and the others
joined : (kind : ListKind) (n : ℕ) (all : List (List ℕ)) (from len : ℕ) (first : Option TextFault) (contents : List Content) (read : Read) → TellsLeast (HasThere kind all from len) n first
    → TellsFrom kind n all (from + len) read → TellsFrom kind n all from (or_fault first (with_contents contents read))
joined kind n all from len None contents (Ok others) here rest = record {
  sound = λ fault e. absurd (cc);
  least = λ i cause le fault. ⊎_elim
      (λ (lt : i < from + len). let told = here.least i cause (le, lt, fault) in absurd (let e = told.1 in cc))
      (λ (ge : from + len ≤ i). let told = rest.least i cause ge fault in absurd (let e = told.1 in cc))
      (cases_lt i (from + len));
}
joined kind n all from len None contents (Err other) here rest = record {
  sound = λ fault e. rest.sound fault e;
  least = λ i cause le fault. ⊎_elim
      (λ (lt : i < from + len). let told = here.least i cause (le, lt, fault) in absurd (let e = told.1 in cc))
      (λ (ge : from + len ≤ i). rest.least i cause ge fault)
      (cases_lt i (from + len));
}
joined kind n all from len (Some first) contents read here rest = record {
  sound = λ fault e. let same : first ≡ fault = cc in let known = here.sound fault (ap Some same) in (known.0, known.1, known.2.2);
  least = λ i cause le fault. ⊎_elim
      (λ (lt : i < from + len). let told = here.least i cause (le, lt, fault) in (told.0, (let e = told.1 in cc), told.2))
      (λ (ge : from + len ≤ i). let known = here.sound first refl in (first, refl, inl (omega (arith, known.1, known.2.1))))
      (cases_lt i (from + len));
}

-- a blank line more in front
pub ends-more : (front : List (List ℕ)) (l : List ℕ) → is_blank l ≡ true → EndsGap (front ++ (l ∷ []))
ends-more front l blank = λ i e.
    let place : i ≡ length front + 0 = omega (arith, length-append front (l ∷ [])) in
    ap (λ j. is_blank (line_at (front ++ (l ∷ [])) j)) place ∙ ap is_blank (at-back front (l ∷ []) 0) ∙ blank

-- before a line that isn't blank there is a blank one, or none
pub ends-before : (front : List (List ℕ)) (l : List ℕ) (ls : List (List ℕ)) → is_blank l ≡ false → EndsGap front ⊎ StartsGap (l ∷ ls) → EndsGap front
ends-before front l ls other border = ⊎_elim (λ (ends : EndsGap front). ends) (λ (starts : is_blank l ≡ true). let clash = sym other ∙ starts in absurd (cc)) border

abbrev Tells : ListKind → ℕ → ℕ → List (List ℕ) → List Piece → Type 0
Tells kind n m ls ps = (front : List (List ℕ)) → m ≡ n + length front → EndsGap front ⊎ StartsGap ls → TellsFrom kind n (front ++ ls) (length front) (read_pieces kind ps)

tells_nil : (kind : ListKind) (n m : ℕ) → Tells kind n m [] []
tells_nil kind n m front number border = record {
  sound = λ fault e. absurd (cc);
  least = λ i cause le fault. absurd (elim fault [
    | inl faulty ↦ omega (arith, faulty.0, length-append front [])
    | inr stanza ↦ omega (arith, stanza.line, stanza.stands.within, whole-within kind stanza.stanza stanza.index cause stanza.stands.some stanza.fault, length-append front [])
  ]);
}

tells_gap : (kind : ListKind) (n m : ℕ) (l : List ℕ) (ls : List (List ℕ)) (ps : List Piece) → is_blank l ≡ true → Tells kind n (suc m) ls ps → Tells kind n m (l ∷ ls) (piece m (l ∷ []) ∷ ps)
tells_gap kind n m l ls ps blank more front number border =
    let size : length (front ++ (l ∷ [])) ≡ length front + 1 = length-append front (l ∷ []) in
    let later = more (front ++ (l ∷ [])) (omega (arith, size)) (inl (ends-more front l blank)) in
    let same : (front ++ (l ∷ [])) ++ ls ≡ front ++ (l ∷ ls) = append_assoc front (l ∷ []) ls in
    let rest : TellsFrom kind n (front ++ (l ∷ ls)) (length front + 1) (read_pieces kind ps) =
    subst (λ from. TellsFrom kind n (front ++ (l ∷ ls)) from (read_pieces kind ps)) size (subst (λ all. TellsFrom kind n all (length (front ++ (l ∷ []))) (read_pieces kind ps)) same later) in
    let here = subst (λ k. TellsLeast (HasThere kind (front ++ (l ∷ ls)) (length front) 1) n (piece_fault kind (piece k (l ∷ [])))) (sym number) (gap_tell kind n front l ls blank) in
    joined kind n (front ++ (l ∷ ls)) (length front) 1 (piece_fault kind (piece m (l ∷ []))) (piece_content kind (l ∷ [])) (read_pieces kind ps) here rest

tells_run : (kind : ListKind) (n m : ℕ) (l : List ℕ) (ls rest : List (List ℕ)) (ps : List Piece) → AreOther (l ∷ ls) → StartsGap rest → Tells kind n (m + length (l ∷ ls)) rest ps
    → Tells kind n m (l ∷ (ls ++ rest)) (piece m (l ∷ ls) ∷ ps)
tells_run kind n m l ls rest ps others gap_after more front number border =
    let mid = l ∷ ls in
    let gap = ends-before front l (ls ++ rest) others.0 border in
    let size : length (front ++ mid) ≡ length front + length mid = length-append front mid in
    let later = more (front ++ mid) (omega (arith, size)) (inr gap_after) in
    let same : (front ++ mid) ++ rest ≡ front ++ (mid ++ rest) = append_assoc front mid rest in
    let others_tell : TellsFrom kind n (front ++ (mid ++ rest)) (length front + length mid) (read_pieces kind ps) =
    subst (λ from. TellsFrom kind n (front ++ (mid ++ rest)) from (read_pieces kind ps)) size (subst (λ all. TellsFrom kind n all (length (front ++ mid)) (read_pieces kind ps)) same later) in
    let here = subst (λ k. TellsLeast (HasThere kind (front ++ (mid ++ rest)) (length front) (length mid)) n (piece_fault kind (piece k mid))) (sym number) (run_tell kind n front mid rest (omega arith) gap others gap_after) in
    joined kind n (front ++ (mid ++ rest)) (length front) (length mid) (piece_fault kind (piece m mid)) (piece_content kind mid) (read_pieces kind ps) here others_tell

tells_all : (kind : ListKind) (n : ℕ) (ls : List (List ℕ)) (ps : List Piece) → Tells kind n n ls ps → TellsFrom kind n ls 0 (read_pieces kind ps)
tells_all kind n ls ps tells = tells [] (omega arith) (inl (λ i e. absurd (omega arith)))

same-err : (f g : TextFault) (r : Read) → r ≡ Err f → r ≡ Err g → f ≡ g
same-err f g r e h = cc

least_of : (kind : ListKind) (n : ℕ) (lines : List (List ℕ)) (read : Read) → TellsFrom kind n lines 0 read → (fault : TextFault) → read ≡ Err fault → IsLeastFault kind n lines fault
least_of kind n lines read tells fault e =
    let known = tells.sound fault e in
    let reach : (i : ℕ) (cause : Cause) → HasFault kind lines i cause → IsAtMost fault (n + i) cause = λ i cause has.
    let told = tells.least i cause (omega arith) has in subst (λ f. IsAtMost f (n + i) cause) (same-err told.0 fault read told.1 e) told.2 in
    record {
      index = known.0;
      line = known.1;
      sound = known.2;
      least = λ i cause has. elim (reach i cause has) [ inl before ↦ omega (arith, before, known.1) | inr on ↦ omega (arith, on.0, known.1) ];
      lowest = λ cause has. elim (reach known.0 cause has) [ inl before ↦ absurd (omega (arith, before, known.1)) | inr on ↦ on.1 ];
    }

none_of : (kind : ListKind) (n : ℕ) (lines : List (List ℕ)) (read : Read) → TellsFrom kind n lines 0 read → (contents : List Content) → read ≡ Ok contents → HasNoFault kind lines
none_of kind n lines read tells contents e = λ i cause has. let told = tells.least i cause (omega arith) has in absurd (let clash = told.1 in cc)

pub reads_or_tells : (kind : ListKind) (n : ℕ) (text : List ℕ) → ReadsOrTells kind n text
reads_or_tells kind n text =
    let tells = tells_all kind n (lines_of text) (pieces_of n (lines_of text)) (by_pieces (Tells kind n) (tells_nil kind n) (tells_gap kind n) (tells_run kind n) n (lines_of text)) in
    record {
      read = λ contents e. none_of kind n (lines_of text) (read_pieces kind (pieces_of n (lines_of text))) tells contents e;
      told = λ fault e. least_of kind n (lines_of text) (read_pieces kind (pieces_of n (lines_of text))) tells fault e;
    }

pub tells_least : (kind : ListKind) (n : ℕ) (text : List ℕ) (result : Result (Vec Content Global) TextFault) → Reads result (read_text kind n text)
    → IfErr result (TellsLeastFault kind n (lines_of text))
tells_least kind n text (Ok contents) read = tt
tells_least kind n text (Err fault) read = λ other. (reads_or_tells kind n text).told fault (read other)
