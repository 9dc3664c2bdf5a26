use Rattle.std.proofs.Common.{◌≡◌, length}
use Rattle.ctl_filter.specs.Words.{onto_pieces, pieces_from, pieces_of}
use Rattle.ctl_filter.proofs.cluster.pieces_of.Given as goal

-- the pieces so far, and what is left of the words
abbrev pub invariant-words : goal.invariant-words
invariant-words l = pieces_of l.words ≡ onto_pieces l.pieces.items (pieces_from l.taken l.rest)

abbrev pub decreases-words : goal.decreases-words
decreases-words l = length l.rest
