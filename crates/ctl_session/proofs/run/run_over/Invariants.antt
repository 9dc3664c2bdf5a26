use Rattle.std.proofs.Common.{◌≡◌, ◌+◌, ◌≤◌, ◌-◌, false}
use Rattle.std.specs.Io.KnownBytes.{prepend_known}
use Rattle.ctl_session.proofs.RunLemmas.{Running}
use Rattle.ctl_session.specs.State.{cache_state}
use Rattle.ctl_session.proofs.run.run_over.Given as goal

abbrev pub invariant-commands : goal.invariant-commands
invariant-commands g l = record {
  max : l.workspace.lines.max ≡ l.fn.workspace.lines.max;
  read : g.R.Source.failures l.reader ≡ g.R.Source.failures l.fn.reader;
  write : g.W.Sink.failures l.writer ≡ g.W.Sink.failures l.fn.writer;
  counted : l.summary.accepted + l.summary.refused ≤ l.workspace.lines.number;
  running : Running false (g.R.Source.remaining l.fn.reader) (prepend_known l.workspace.lines.pending (g.R.Source.remaining l.reader)) (g.W.Sink.taken l.fn.writer) (g.W.Sink.taken l.writer)
      (cache_state l.fn.cache) (cache_state l.cache) l.workspace.lines.number l.summary.accepted l.summary.refused;
}

abbrev pub decreases-commands : goal.decreases-commands
decreases-commands g l = l.workspace.lines.max - l.workspace.lines.number
