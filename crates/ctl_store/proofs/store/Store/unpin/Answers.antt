use Rattle.std.proofs.Common.{arith}
use Rattle.ctl_store.proofs.SoundLemmas.{sound_more}
use Rattle.ctl_store.proofs.store.Store.unpin.Goals as goal

pub invariant_of-self : goal.invariant_of-self
invariant_of-self c =
    let s = c.self.inside in
    sound_more c.self.invariant s.marks.next c.remove.new.self.next (omega (arith, c.self.invariant.few_marks)) (omega (arith, c.remove.ensures.next, c.self.invariant.few_pins))
