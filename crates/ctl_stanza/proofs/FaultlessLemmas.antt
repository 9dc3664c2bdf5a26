-- A stanza that tells no fault has none.
use Rattle.std.proofs.Common.{◌≡◌, ◌∙◌, ℕ, List, None, sym, inl, inr}
use Rattle.ctl_stanza.specs.declared.list_kind.ListKind.{ListKind}
use Rattle.ctl_stanza.specs.Laws.{HasNoFaultyLine, IsFaultless}
use Rattle.ctl_stanza.specs.Faults.{stanza_fault}
use Rattle.ctl_stanza.proofs.WholeLemmas.{stanza_tell}

pub faultless : (kind : ListKind) (lines : List (List ℕ)) → stanza_fault kind 0 lines ≡ None → IsFaultless kind lines
faultless kind lines none =
    let tells = stanza_tell kind 0 lines in
    let good : HasNoFaultyLine lines = λ i cause lt faulty. let told = tells.least i cause (inl (lt, faulty)) in let clash = sym none ∙ told.1 in absurd (cc) in
    record {
      good_lines = good;
      good_parts = λ i cause fault. let told = tells.least i cause (inr (good, fault)) in let clash = sym none ∙ told.1 in absurd (cc);
    }
