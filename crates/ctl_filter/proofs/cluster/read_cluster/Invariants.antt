use Rattle.std.proofs.Common.{◌≡◌, length}
use Rattle.ctl_filter.specs.Words.{onto_word, cluster}
use Rattle.ctl_filter.proofs.cluster.read_cluster.Given as goal

-- the pieces so far, and what is left of the letters
abbrev pub invariant-letters : goal.invariant-letters
invariant-letters l = onto_word l.initial.pieces.items (cluster l.words l.letters) ≡ onto_word l.pieces.items (cluster l.words l.rest)

abbrev pub decreases-letters : goal.decreases-letters
decreases-letters l = length l.rest
