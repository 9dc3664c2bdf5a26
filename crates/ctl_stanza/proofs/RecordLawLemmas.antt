-- The least fault of a piece of a text of preferences.
use Rattle.std.proofs.Common.{◌≡◌, ◌∙◌, ◌+◌, ◌-◌, ◌<◌, ◌≤◌, ◌++◌, ℕ, true, List, [], ◌∷◌, length, take, drop, get_or, Option, Some, None, sym, ap, subst, arith, inl, inr, ⊎_elim}
use Rattle.std.proofs.lemmas.List.{length-append, get_or-take, get_or-drop}
use Rattle.ctl_stanza.specs.declared.repeats.Repeats.TheVariants.{Explanation}
use Rattle.ctl_stanza.specs.declared.fault.TextFault.{TextFault}
use Rattle.ctl_stanza.specs.declared.fault.Cause.{Cause}
use Rattle.std.specs.Option.{option_map}
use Rattle.ctl_stanza.specs.Lines.{is_blank}
use Rattle.ctl_stanza.specs.Faults.{number_of, first_fault}
use Rattle.ctl_stanza.specs.Records.{numbered_fault, record_fault}
use Rattle.ctl_stanza.specs.LineRuns.{line_at}
use Rattle.ctl_stanza.specs.Laws.{lines_before, IsFaultyLine}
use Rattle.ctl_stanza.specs.RecordLaws.{HasRecordFault}
use Rattle.ctl_stanza.proofs.PieceLemmas.{AreOther}
use Rattle.ctl_stanza.proofs.KeepLemmas.{option_either}
use Rattle.ctl_stanza.proofs.CauseLemmas.{IsAtMost, HasFaultyLine, lines_tell, same-some}
use Rattle.ctl_stanza.proofs.PlaceLemmas.{EndsGap, at-back, at-mid, lines_before-mid}
use Rattle.ctl_stanza.proofs.LawLemmas.{blank-any}

-- the least fault of the lines from one on, before another
pub record IsLeastBetween (numbers : List ℕ) (all : List (List ℕ)) (from to : ℕ) (fault : TextFault) : Type 0 where
  pub index : ℕ
  pub from_on : from ≤ index
  pub before_to : index < to
  pub line : fault.line ≡ get_or numbers index 0
  pub sound : HasRecordFault all index fault.cause
  pub least : (i : ℕ) (cause : Cause) → from ≤ i → i < to → HasRecordFault all i cause → index ≤ i
  pub lowest : (cause : Cause) → HasRecordFault all index cause → number_of fault.cause ≤ number_of cause

abbrev pub HasNone : List (List ℕ) → ℕ → ℕ → Type 0
HasNone all from to = (i : ℕ) (cause : Cause) → from ≤ i → i < to → HasRecordFault all i cause → ⊥

-- what is told of the lines of a piece
pub record TellsPiece (numbers : List ℕ) (all : List (List ℕ)) (from to : ℕ) (told : Option TextFault) : Type 0 where
  pub some : (fault : TextFault) → told ≡ Some fault → IsLeastBetween numbers all from to fault
  pub none : told ≡ None → HasNone all from to

-- the same fault by the index in a piece and in all lines
pub record IsPart (all mid : List (List ℕ)) (from : ℕ) : Type 0 where
  pub there : (k : ℕ) (cause : Cause) → HasFaultyLine Explanation mid k cause → HasRecordFault all (from + k) cause
  pub back : (k : ℕ) (cause : Cause) → k < length mid → HasRecordFault all (from + k) cause → HasFaultyLine Explanation mid k cause

pub run-part : (front mid rest : List (List ℕ)) → EndsGap front → AreOther mid → IsPart (front ++ (mid ++ rest)) mid (length front)
run-part front mid rest gap others = record {
  there = λ k cause faulty. (
    omega (arith, faulty.0, length-append front (mid ++ rest), length-append mid rest),
    subst (λ before. IsFaultyLine Explanation before (line_at (front ++ (mid ++ rest)) (length front + k)) cause) (sym (lines_before-mid front mid rest k gap others faulty.0))
        (subst (λ line. IsFaultyLine Explanation (take k mid) line cause) (sym (at-mid front mid rest k faulty.0)) faulty.1),
  );
  back = λ k cause lt has. (
    lt,
    subst (λ before. IsFaultyLine Explanation before (line_at mid k) cause) (lines_before-mid front mid rest k gap others lt)
        (subst (λ line. IsFaultyLine Explanation (lines_before (front ++ (mid ++ rest)) (length front + k)) line cause) (at-mid front mid rest k lt) has.1),
  );
}

pub gap-part : (front rest : List (List ℕ)) (line : List ℕ) → is_blank line ≡ true → IsPart (front ++ (line ∷ rest)) (line ∷ []) (length front)
gap-part front rest line blank =
    let all = front ++ (line ∷ rest) in
    let here : line_at all (length front + 0) ≡ line = at-back front (line ∷ rest) 0 in
    record {
      there = λ k cause faulty.
          let first : k ≡ 0 = omega (arith, faulty.0) in
          let alone : IsFaultyLine Explanation [] line cause = subst (λ j. IsFaultyLine Explanation (take j (line ∷ [])) (line_at (line ∷ []) j) cause) first faulty.1 in
          let found : HasRecordFault all (length front + 0) cause = (
            omega (arith, length-append front (line ∷ rest)),
            subst (λ l. IsFaultyLine Explanation (lines_before all (length front + 0)) l cause) (sym here) (blank-any Explanation [] (lines_before all (length front + 0)) line cause blank alone),
          ) in
          subst (λ j. HasRecordFault all (length front + j) cause) (sym first) found;
      back = λ k cause lt has.
          let first : k ≡ 0 = omega arith in
          let has_first = subst (λ j. HasRecordFault all (length front + j) cause) first has in
          let alone = blank-any Explanation (lines_before all (length front + 0)) [] line cause blank (subst (λ l. IsFaultyLine Explanation (lines_before all (length front + 0)) l cause) here has_first.1) in
          let found : HasFaultyLine Explanation (line ∷ []) 0 cause = (omega arith, alone) in
          subst (λ j. HasFaultyLine Explanation (line ∷ []) j cause) (sym first) found;
    }

-- the number of a line of a piece
number-here : (numbers : List ℕ) (from len j : ℕ) → j < len → get_or (take len (drop from numbers)) j 0 ≡ get_or numbers (from + j) 0
number-here numbers from len j lt = get_or-take len (drop from numbers) j 0 lt ∙ get_or-drop from numbers j 0

pub piece_tell : (numbers : List ℕ) (all mid : List (List ℕ)) (from : ℕ) → IsPart all mid from → TellsPiece numbers all from (from + length mid) (record_fault (take (length mid) (drop from numbers)) mid)
piece_tell numbers all mid from part =
    let here = take (length mid) (drop from numbers) in
    let tells = lines_tell Explanation 0 mid in
    ⊎_elim
    (λ none.
    let nothing : record_fault here mid ≡ None = ap (option_map (numbered_fault here)) none in
    let told : TellsPiece numbers all from (from + length mid) (record_fault here mid) = record {
      some = λ fault e. absurd (cc);
      none = λ e i cause le lt has.
          let k = i - from in
          let place : i ≡ from + k = omega arith in
          let faulty = part.back k cause (omega arith) (subst (λ j. HasRecordFault all j cause) place has) in
          let least = tells.least k cause faulty in
          absurd (let clash = least.1 in cc);
    } in told)
    (λ some.
    let first = some.0 in
    let found : record_fault here mid ≡ Some (numbered_fault here first) = ap (option_map (numbered_fault here)) some.1 in
    let known = tells.sound first some.1 in
    let reach : (k : ℕ) (cause : Cause) → HasFaultyLine Explanation mid k cause → IsAtMost first (0 + k) cause = λ k cause faulty.
    let told = tells.least k cause faulty in subst (λ f. IsAtMost f (0 + k) cause) (same-some told.0 first (first_fault Explanation 0 [] mid) told.1 some.1) told.2 in
    let index : first.line ≡ known.0 = omega (arith, known.1) in
    let least_here : IsLeastBetween numbers all from (from + length mid) (numbered_fault here first) = record {
      index = from + known.0;
      from_on = omega arith;
      before_to = omega (arith, known.2.0);
      line = ap (λ j. get_or here j 0) index ∙ number-here numbers from (length mid) known.0 known.2.0;
      sound = part.there known.0 first.cause known.2;
      least = λ i cause le lt has.
          let k = i - from in
          let place : i ≡ from + k = omega arith in
          let faulty = part.back k cause (omega arith) (subst (λ j. HasRecordFault all j cause) place has) in
          elim (reach k cause faulty) [ inl before ↦ omega (arith, before, index, place) | inr on ↦ omega (arith, on.0, index, place) ];
      lowest = λ cause has.
          let faulty = part.back known.0 cause known.2.0 has in
          elim (reach known.0 cause faulty) [ inl before ↦ absurd (omega (arith, before, index)) | inr on ↦ on.1 ];
    } in
    let told : TellsPiece numbers all from (from + length mid) (record_fault here mid) = record {
      some = λ fault e. subst (IsLeastBetween numbers all from (from + length mid)) (same-some _ fault _ found e) least_here;
      none = λ e. absurd (cc);
    } in told)
    (option_either (first_fault Explanation 0 [] mid))
