use Rattle.ctl_stanza.specs.InParts.{HasNoGapFrom}
use Rattle.ctl_stanza.proofs.reader.last_gap.Given as goal

-- no empty line ends behind what is left
abbrev pub invariant-loop-i : goal.invariant-loop-i
invariant-loop-i l = HasNoGapFrom l.before l.text l.i
