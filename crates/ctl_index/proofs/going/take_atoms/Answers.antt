use Rattle.std.proofs.Common.{None, refl, arith, rules}
use Rattle.std.proofs.lemmas.Grind.{common_steps}
use Rattle.ctl_index.specs.Inside.TablesHeld.{namers_in, number_in}
use Rattle.ctl_index.specs.Inside.TablesLeft.{has_namer_at, is_stanza_at}
use Rattle.ctl_index.specs.Inside.TablesOrder.{namer_stanza, others}
use Rattle.ctl_index.proofs.LeavingLemmas.{filter_twice, twice_more}
use Rattle.ctl_index.proofs.going.take_atoms.Goals as goal

pub loop-key-preserved : goal.loop-key-preserved
loop-key-preserved c =
    let s = c.args.going.now.pending in
    let keys = c.args.keys.now in
    record {
      namers = λ q.
          let old = namers_in c.args.tables.now q in
          twice_more (others namer_stanza c.args.going.now.span) old (filter_twice _ old) (has_namer_at s q) keys c.loop-key.key-index _ (omega arith) (c.take_atoms_at.ensures.namers q) (c.loop-key.invariant.namers q);
      offers = search rules;
      rows = search rules;
      counts = λ k. twice_more (λ _. None) (number_in c.args.tables.now k) refl (is_stanza_at s k.stanza) keys c.loop-key.key-index _ (omega arith) (c.take_atoms_at.ensures.counts k) (c.loop-key.invariant.counts k);
      steps = grind (arith, common_steps);
    }
