use Rattle.std.proofs.Common.{◌≡◌, take, flat_map}
use Rattle.ctl_filter.specs.Atoms.{names_of_shown}
use Rattle.ctl_filter.proofs.options.names_shown.Given as goal

abbrev pub invariant-loop-piece : goal.invariant-loop-piece
invariant-loop-piece l = l.names.items ≡ flat_map names_of_shown (take l.piece-index l.pieces)
