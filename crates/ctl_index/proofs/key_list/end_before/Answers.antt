use Rattle.std.proofs.Common.{rules, of_calls}
use Rattle.std.proofs.lemmas.Fn.{always_returns_same}
use Rattle.ctl_index.specs.Inside.TablesOrder.{is_before}
use Rattle.ctl_index.proofs.ListLemmas.{parted_before}
use Rattle.ctl_index.proofs.key_list.end_before.Goals as goal

pub returns-clause-point : goal.returns-clause-point
returns-clause-point g c = c.partition_point.ensures.partitioned (is_before g.K.OfStanza.stanza c.args.stanza) (always_returns_same _ _ _ (λ a r f k. search (rules, of_calls))) (parted_before g.K.OfStanza.stanza c.args.stanza c.args.keys.now c.requires)
