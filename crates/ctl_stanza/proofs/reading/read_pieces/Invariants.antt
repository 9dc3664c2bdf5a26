use Rattle.std.proofs.Common.{◌≡◌, ◌+◌, length}
use Rattle.ctl_stanza.specs.Lines.{lines_of}
use Rattle.ctl_stanza.specs.Inside.HeldNames.{HasSeenNone}
use Rattle.ctl_stanza.specs.Text.{pieces_of, read_pieces, read_text, with_contents}
use Rattle.ctl_stanza.proofs.reading.read_pieces.Given as goal

-- the stanzas so far, and the reading of what is left, are the reading of all
abbrev pub invariant-pieces : goal.invariant-pieces
invariant-pieces l = record {
  seen : HasSeenNone l.room.seen;
  room : l.line + length (lines_of l.left) ≡ l.fn.from.line + length (lines_of l.text);
  told : with_contents l.stanzas.items (read_pieces l.kind (pieces_of l.line (lines_of l.left))) ≡ with_contents l.fn.stanzas.items (read_text l.kind l.fn.from.line l.text);
}

abbrev pub decreases-pieces : goal.decreases-pieces
decreases-pieces l = length l.left
