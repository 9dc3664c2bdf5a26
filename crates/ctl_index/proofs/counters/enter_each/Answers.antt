use Rattle.ctl_index.proofs.ClauseNumberLemmas.{come_of-joined}
use Rattle.ctl_index.proofs.NameLemmas.{on_ok_map}
use Rattle.ctl_index.proofs.counters.enter_each.Goals as goal

pub returns-clause-numbers : goal.returns-clause-numbers
returns-clause-numbers c = on_ok_map c.put_stanza.result (λ put.
    come_of-joined c.args.stanza c.take_stanza.result c.args.coming.now c.in_ok-clauses.clauses c.args.numbers.now c.take_stanza.new.numbers c.put_stanza.new.numbers
    c.take_stanza.ensures.told c.take_stanza.ensures.gone c.in_ok-clauses.ensures put) c.put_stanza.ensures.numbers
