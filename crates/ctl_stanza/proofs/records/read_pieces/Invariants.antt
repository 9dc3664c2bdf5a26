use Rattle.std.proofs.Common.{◌≡◌, ◌+◌, length}
use Rattle.ctl_stanza.specs.Lines.{lines_of}
use Rattle.ctl_stanza.specs.Inside.HeldNames.{HasSeenNone}
use Rattle.ctl_stanza.specs.Text.{pieces_of}
use Rattle.ctl_stanza.specs.Records.{records_before}
use Rattle.ctl_stanza.proofs.TurnLemmas.{behind}
use Rattle.ctl_stanza.proofs.records.read_pieces.Given as goal

-- the records so far, and the reading of what is left, are the reading of all
abbrev pub invariant-pieces : goal.invariant-pieces
invariant-pieces l = record {
  seen : HasSeenNone l.room.seen;
  room : l.at + length (lines_of l.left) ≡ length l.kept.numbers.items;
  told : behind l.records.items (records_before l.kept.numbers.items (pieces_of l.at (lines_of l.left)))
      ≡ records_before l.kept.numbers.items (pieces_of 0 (lines_of l.kept.text.items));
}

abbrev pub decreases-pieces : goal.decreases-pieces
decreases-pieces l = length l.left
