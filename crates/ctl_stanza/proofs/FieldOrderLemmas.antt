-- The fields of a stanza stand in the order of their lines.
use Rattle.std.proofs.Common.{◌+◌, ◌<◌, ◌≡◌, ℕ, zero, suc, List, [], ◌∷◌, length, map, slice_index, subst, arith}
use Rattle.std.proofs.lemmas.List.Elements.{All-nil, All-cons}
use Rattle.std.specs.List.{All}
use Rattle.std.specs.List.Sorted.{IsStrictlyIncreasing}
use Rattle.ctl_stanza.specs.Fields.{FieldText, fields_of_lines}
use Rattle.ctl_stanza.specs.Laws.{FieldsRise}
use Rattle.ctl_stanza.proofs.WholeLemmas.{Rise, rise-from, Below, below-from}

abbrev lines : List FieldText → List ℕ
lines fields = map (λ (field : FieldText). field.line) fields

rises : (m : ℕ) (fields : List FieldText) → Rise m fields → IsStrictlyIncreasing (lines fields)
rises m [] rise = λ k lt. absurd (omega arith)
rises m (f ∷ []) rise = λ k lt. absurd (omega arith)
rises m (f ∷ g ∷ fields) rise = go (rises (suc f.line) (g ∷ fields) rise.1)
  where
    go : IsStrictlyIncreasing (lines (g ∷ fields)) → (k : ℕ) → k + 1 < length (lines (f ∷ g ∷ fields)) → slice_index (lines (f ∷ g ∷ fields)) k < slice_index (lines (f ∷ g ∷ fields)) (k + 1)
    go rest zero lt = omega (arith, rise.1.0)
    go rest (suc k) lt =
        let next : suc (k + 1) ≡ suc k + 1 = omega arith in
        subst (λ j. slice_index (lines (g ∷ fields)) k < slice_index (lines (f ∷ g ∷ fields)) j) next (rest k (omega arith))

within : (m : ℕ) (fields : List FieldText) → Below m fields → All (λ (field : FieldText). field.line < m) fields
within m [] below = All-nil (λ (field : FieldText). field.line < m)
within m (f ∷ fields) below = All-cons (λ (field : FieldText). field.line < m) f fields below.0 (within m fields below.1)

pub fields_rise : (stanza : List (List ℕ)) → FieldsRise stanza
fields_rise stanza = record {
  rise = rises 0 (fields_of_lines stanza) (rise-from 0 stanza);
  within = within (length stanza) (fields_of_lines stanza) (below-from 0 (length stanza) stanza (omega arith));
}
