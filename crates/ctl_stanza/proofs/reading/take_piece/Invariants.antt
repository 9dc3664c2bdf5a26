use Rattle.std.proofs.Common.{◌≡◌, ◌≤◌, ◌<◌, ◌+◌, ◌++◌, length}
use Rattle.ctl_stanza.specs.Lines.{lines_of, lent_lines}
use Rattle.ctl_stanza.proofs.PieceLemmas.{AreOther, AreSingle}
use Rattle.ctl_stanza.proofs.reading.take_piece.Given as goal

-- the lines so far, none of them blank, and those of what is left are all
abbrev pub invariant-lines : goal.invariant-lines
invariant-lines l = record {
  some : 0 < length l.lines.items + length l.left;
  within : length l.lines.items + length l.left ≤ length l.text;
  told : lines_of l.text ≡ lent_lines l.lines.items ++ lines_of l.left;
  other : AreOther (lent_lines l.lines.items);
  single : AreSingle (lent_lines l.lines.items);
}

abbrev pub decreases-lines : goal.decreases-lines
decreases-lines l = length l.left
