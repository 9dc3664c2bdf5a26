use Rattle.std.proofs.Common.{◌≡◌, ◌-◌, ◌≤◌, [], true, false, vec_capacity}
use Rattle.std.specs.Io.KnownBytes.{prepend_known}
use Rattle.ctl_stanza.specs.Lines.{max_line}
use Rattle.ctl_session.proofs.ReadingLemmas.{InBody}
use Rattle.ctl_session.proofs.script.read_body.Given as goal

abbrev pub invariant-lines : goal.invariant-lines
invariant-lines g l = record {
  room : max_line ≤ vec_capacity l.line;
  kept : l.is_kept ≡ false → (l.body.dropped ≡ true) × (l.body.text.items ≡ []);
  failures : g.R.Source.failures l.reader ≡ g.R.Source.failures l.fn.reader;
  max : l.lines.max ≡ l.fn.lines.max;
  ended : l.body.ended ≡ false;
  body : InBody (prepend_known l.fn.lines.pending (g.R.Source.remaining l.fn.reader)) (prepend_known l.lines.pending (g.R.Source.remaining l.reader)) l.fn.lines.number l.lines.number l.body;
}

abbrev pub decreases-lines : goal.decreases-lines
decreases-lines g l = l.lines.max - l.lines.number
