use Rattle.std.proofs.Common.{◌∙◌, Some, sym}
use Rattle.ctl_index.specs.Clauses.{number_among}
use Rattle.ctl_index.specs.Inside.ClauseNumbers.{Placed}
use Rattle.ctl_index.specs.Inside.TablesWaiting.{come_of}
use Rattle.ctl_index.proofs.NameLemmas.{on_ok_map}
use Rattle.ctl_index.proofs.counters.Counters.enter_waiting.Goals as goal

pub returns-clause-numbers : goal.returns-clause-numbers
returns-clause-numbers c = on_ok_map c.enter_all-entered.result (λ h k.
    let n = number_among c.args.self.now.numbers k in
    let clauses : Placed = c.args.self.now.waiting.clauses.items in
    h k ∙ (λ i. come_of (Some c.in-Some.stanza) (c.deref.ensures.value i) k n) ∙ (λ i. come_of (sym c.in-Some.is i) clauses k n)) c.enter_all-entered.ensures.numbers
