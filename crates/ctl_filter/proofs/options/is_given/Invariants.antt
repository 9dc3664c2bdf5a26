use Rattle.std.proofs.Common.{◌≡◌, false, take}
use Rattle.std.specs.List.{list_any}
use Rattle.ctl_filter.specs.Atoms.{is_letter}
use Rattle.ctl_filter.proofs.options.is_given.Given as goal

abbrev pub invariant-loop-piece : goal.invariant-loop-piece
invariant-loop-piece l = list_any (is_letter l.letter) (take l.piece-index l.pieces) ≡ false
