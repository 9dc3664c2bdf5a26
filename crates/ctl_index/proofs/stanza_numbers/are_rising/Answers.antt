use Rattle.std.proofs.Common.{arith}
use Rattle.ctl_relation.specs.declared.field_kind.FieldKind.TheVariants.{PreDepends}
use Rattle.ctl_index.proofs.PlaceLemmas.{rising_from}
use Rattle.ctl_index.proofs.stanza_numbers.are_rising.Goals as goal

pub returns : goal.returns
returns c = rising_from c.args.clauses.now (record { field = PreDepends; group = 0 }, 0) (λ k l. c.loop-i.invariant k _ (omega (arith, l, c.loop-i-test.false)))
