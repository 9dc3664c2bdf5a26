use Rattle.std.proofs.Common.{◌≤◌, ◌+◌, length}
use Rattle.ctl_stanza.specs.Lines.{lines_of}
use Rattle.ctl_stanza.specs.Records.{record_lines}
use Rattle.ctl_stanza.proofs.RecordLemmas.{AreKept}
use Rattle.ctl_stanza.proofs.record_lines.record_lines.Given as goal

-- the lines so far that aren't comments, and those of what is left
abbrev pub invariant-lines : goal.invariant-lines
invariant-lines l = record {
  within : l.number + length (lines_of l.left) ≤ l.first_line + length (lines_of l.text);
  kept : AreKept l.kept.text.items l.kept.numbers.items l.number l.left (record_lines l.first_line l.text);
}

abbrev pub decreases-lines : goal.decreases-lines
decreases-lines l = length l.left
