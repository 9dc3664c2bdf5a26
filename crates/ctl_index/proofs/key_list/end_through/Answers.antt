use Rattle.std.proofs.Common.{rules, of_calls, sym, ◌∙◌}
use Rattle.std.proofs.lemmas.Fn.{always_returns_same}
use Rattle.ctl_index.specs.Inside.TablesOrder.{is_through}
use Rattle.ctl_index.proofs.ListLemmas.{parted_through, through_all}
use Rattle.ctl_index.proofs.key_list.end_through.Goals as goal

pub returns-clause-point : goal.returns-clause-point
returns-clause-point g c = c.partition_point.ensures.partitioned (is_through g.K.OfStanza.stanza c.args.stanza) (always_returns_same _ _ _ (λ a r f k. search (rules, of_calls))) (parted_through g.K.OfStanza.stanza c.args.stanza c.args.keys.now c.requires)

pub returns-then-not-ends_behind-clause-point : goal.returns-then-not-ends_behind-clause-point
returns-then-not-ends_behind-clause-point g c = through_all g.K.OfStanza.stanza c.args.stanza c.args.keys.now c.requires (sym c.ends_behind.ensures ∙ c.if-not-ends_behind.true)
