use Rattle.std.proofs.Common.{◌≡◌}
use Rattle.ctl_filter.specs.Atoms.{parts_of}
use Rattle.ctl_filter.specs.Inside.Values.{resumed}
use Rattle.ctl_filter.proofs.gathering.parts_of.Given as goal

-- what was gathered, and the pieces that are left
abbrev pub invariant-pieces : goal.invariant-pieces
invariant-pieces l = parts_of l.fn.pieces.items ≡ resumed l.gathered l.piece-iterator.rest.items
