use Rattle.std.proofs.Common.{arith, refl, ◌∙◌}
use Rattle.ctl_session.proofs.LoadingLemmas.{so_far_none, so_far_more, reads_list, no_block, gave_too_much}
use Rattle.ctl_session.proofs.list_source.read_list.Goals as goal

pub reads-init : goal.reads-init
reads-init g c = record {
  failures = refl;
  few = omega arith;
  none = c.clear.ensures;
  so_far = so_far_none c.args.kind (g.R.Source.remaining c.args.reader.now) c.new.result c.new.ensures;
}

pub reads-preserved : goal.reads-preserved
reads-preserved g c = record {
  failures = c.in-Ok.ensures.failed ∙ c.reads.invariant.failures;
  few = omega (arith, c.if-size-count.false, c.reads.invariant.few);
  none = c.clear-in-Ok.ensures;
  so_far = so_far_more _ _ _ _ _ _ _ _ _ _ c.reads.invariant.so_far c.in-Ok.ensures.ok c.rest-block.ensures.value refl c.read_block-reading.ensures;
}

pub returns-then-size-count-clause-fault : goal.returns-then-size-count-clause-fault
returns-then-size-count-clause-fault g c =
    gave_too_much _ _ _ _ _ _ _ _ _ c.reads.invariant.so_far c.in-Ok.ensures.ok c.rest-block.ensures.value refl (omega (arith, c.if-size-count.true))

pub returns-then-is_empty-clause-read : goal.returns-then-is_empty-clause-read
returns-then-is_empty-clause-read g c =
    let none = no_block c.refill.new.self c.rest-block.result.now c.is_empty.result c.rest-block.ensures.value c.is_empty.ensures c.if-is_empty.true in
    reads_list c.args.kind _ _ _ _ _ _ _ c.reads.invariant.so_far c.in-Ok.ensures.ok none c.in-Ok.ensures.end c.reads.invariant.few c.stanzas_of.ensures
