use Rattle.std.proofs.Common.{◌≡◌, ◌-◌, ◌^◌, ◌<◌, ◌≤◌, ℕ, List, true, vec_capacity, vec_len}
use Rattle.std.specs.Io.KnownBytes.{prepend_known}
use Rattle.ctl_stanza.specs.Lines.{max_line}
use Rattle.ctl_session.proofs.LineLemmas.{Reading}
use Rattle.ctl_session.proofs.lines.next_line.Given as goal

abbrev pub invariant-pieces : goal.invariant-pieces
invariant-pieces g l = record {
  room : max_line ≤ vec_capacity l.line;
  short : vec_len l.line ≤ max_line;
  failures : g.R.Source.failures l.reader ≡ g.R.Source.failures l.fn.reader;
  fits : l.count < 2 ^ 32;
  allowed : 0 < l.count → l.allowed ≡ true;
  line : (got : List ℕ) × Reading (prepend_known l.fn.pending (g.R.Source.remaining l.fn.reader)) (prepend_known l.pending (g.R.Source.remaining l.reader)) l.line.items l.count got;
}

abbrev pub decreases-pieces : goal.decreases-pieces
decreases-pieces g l = 2 ^ 32 - l.count
