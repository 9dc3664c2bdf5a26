use Rattle.std.proofs.Common.{◌≡◌, length}
use Rattle.ctl_store.specs.Prefs.{words_of}
use Rattle.ctl_store.proofs.words.WordsIterator.next.Given as goal

abbrev pub invariant-loop-first : goal.invariant-loop-first
invariant-loop-first l = words_of l.self.0.now ≡ words_of l.fn.self.0.now

abbrev pub decreases-loop-first : goal.decreases-loop-first
decreases-loop-first l = length l.self.0.now
