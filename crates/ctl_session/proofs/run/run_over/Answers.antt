use Rattle.std.proofs.Common.{arith, refl, ◌∙◌}
use Rattle.ctl_session.proofs.RunLemmas.{stopped_by, stops_reading_same, done_whole, done_in_part, running_none, ran_none, ran_last, running_on}
use Rattle.ctl_session.specs.State.{cache_state}
use Rattle.ctl_session.proofs.run.run_over.Goals as goal

pub commands-init : goal.commands-init
commands-init g c = record {
  max = c.restart.ensures.max;
  read = refl;
  write = refl;
  counted = omega arith;
  running = running_none (g.R.Source.remaining c.args.reader.now) (g.W.Sink.taken c.args.writer.now) c.restart.new.self.pending (cache_state c.args.cache.now) _ c.restart.ensures.pending c.restart.ensures.number;
}

pub returns-in-Ok-None-clause-ok : goal.returns-in-Ok-None-clause-ok
returns-in-Ok-None-clause-ok g c =
    let reads = rw c.in-Ok-None.field-0-is at c.in-Ok-None.ensures.ok in
    ran_none _ _ _ _ _ _ _ _ _ _ _ c.commands.summary c.commands.invariant.running reads (omega (arith, c.read_command.new.lines.within, c.in-Ok-None.ensures.max, c.commands.invariant.max))

pub count-requires : goal.count-requires
count-requires g c =
    let reads = rw c.in-Ok-Some.field-0-is at c.in-Ok-Some.ensures.ok in
    omega (arith, c.commands.invariant.counted, reads.more, c.read_command.new.lines.within)

pub returns-then-last-clause-ok : goal.returns-then-last-clause-ok
returns-then-last-clause-ok g c =
    let reads = rw c.in-Ok-Some.field-0-is at c.in-Ok-Some.ensures.ok in
    ran_last _ _ _ _ _ _ _ _ _ c.count.new.self _ c.if-last.true (omega (arith, c.read_command.new.lines.within, c.in-Ok-Some.ensures.max, c.commands.invariant.max))
    (done_whole _ _ _ _ _ _ (cache_state c.args.cache.now) (cache_state c.commands.cache) (cache_state c.perform-reply.new.cache) _ _ _ _ _ _ c.in-Ok-Some.command c.perform-reply.result _ _
    c.commands.invariant.running reads c.perform-reply.ensures.may c.perform-reply.ensures.state c.deref.ensures.value c.in-Ok.ensures.ok c.count.ensures.accepted c.count.ensures.refused)

pub commands-preserved : goal.commands-preserved
commands-preserved g c =
    let reads = rw c.in-Ok-Some.field-0-is at c.in-Ok-Some.ensures.ok in
    let goes_on =
    done_whole _ _ _ _ _ _ (cache_state c.args.cache.now) (cache_state c.commands.cache) (cache_state c.perform-reply.new.cache) _ _ _ _ _ _ c.in-Ok-Some.command c.perform-reply.result _ _
    c.commands.invariant.running reads c.perform-reply.ensures.may c.perform-reply.ensures.state c.deref.ensures.value c.in-Ok.ensures.ok c.count.ensures.accepted c.count.ensures.refused in
    record {
      max = c.in-Ok-Some.ensures.max ∙ c.commands.invariant.max;
      read = c.in-Ok-Some.ensures.failures ∙ c.commands.invariant.read;
      write = c.in-Ok.ensures.failures ∙ c.commands.invariant.write;
      counted = omega (arith, c.count.ensures.both, c.commands.invariant.counted, reads.more);
      running = running_on _ _ _ _ _ _ _ _ _ _ c.if-last.false goes_on;
    }

pub returns-in-Err-clause-fault : goal.returns-in-Err-clause-fault
returns-in-Err-clause-fault g c =
    stopped_by _ c.in-Err.fault _ _ _ _ _ _ _ _ c.commands.workspace.lines.number _ _ _ c.from.ensures c.commands.invariant.running
    (stops_reading_same _ _ c.commands.workspace.lines.number _ _ c.in-Err.fault c.commands.invariant.max c.in-Err.ensures.fault) c.in-Err.ensures.used

pub returns-in-Err-print-clause-fault : goal.returns-in-Err-print-clause-fault
returns-in-Err-print-clause-fault g c =
    let reads = rw c.in-Ok-Some.field-0-is at c.in-Ok-Some.ensures.ok in
    done_in_part _ _ _ _ _ _ _ (cache_state c.args.cache.now) (cache_state c.commands.cache) (cache_state c.perform-reply.new.cache) _ _ _ _ c.in-Ok-Some.command c.perform-reply.result _ _
    c.commands.invariant.running reads c.perform-reply.ensures.may c.perform-reply.ensures.state c.deref.ensures.value c.in-Err-print.ensures.err
