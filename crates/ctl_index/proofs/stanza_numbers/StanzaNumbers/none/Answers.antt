use Rattle.std.proofs.Common.{sym, subst}
use Rattle.ctl_index.specs.Inside.ClauseNumbers.{AreInPlace}
use Rattle.ctl_index.proofs.PlaceLemmas.{none_rises}
use Rattle.ctl_index.proofs.stanza_numbers.StanzaNumbers.none.Goals as goal

pub invariant_of-result : goal.invariant_of-result
invariant_of-result c = subst AreInPlace (sym c.new.ensures.items) none_rises
