use Rattle.std.proofs.Common.{arith, rules}
use Rattle.std.proofs.lemmas.Grind.{common_steps}
use Rattle.ctl_index.specs.Inside.TablesHeld.{namers_in}
use Rattle.ctl_index.specs.Inside.TablesLeft.{has_namer_in}
use Rattle.ctl_index.specs.Inside.TablesOrder.{namer_stanza, others}
use Rattle.ctl_index.proofs.LeavingLemmas.{filter_twice, twice_more}
use Rattle.ctl_index.proofs.going.take_fields.Goals as goal

pub loop-field-preserved : goal.loop-field-preserved
loop-field-preserved c =
    let x = c.args.stanza.now in
    let fields = c.args.fields.now in
    record {
      namers = λ q.
          let old = namers_in c.args.tables.now q in
          twice_more (others namer_stanza c.args.going.now.span) old (filter_twice _ old) (has_namer_in q x) fields c.loop-field.field-index _ (omega arith) (c.take_field.ensures.namers q) (c.loop-field.invariant.namers q);
      offers = search rules;
      rows = search rules;
      counts = search rules;
      steps = grind (arith, common_steps);
    }
