use Rattle.ctl_store.specs.Keys.{AreHeld}
use Rattle.ctl_store.specs.Store.{keyed_of}
use Rattle.ctl_rows.proofs.shown.say_texts.Given as goal

abbrev pub invariant-loop-key : goal.invariant-loop-key
invariant-loop-key l = AreHeld l.key-iterator (keyed_of l.fn.store).lists
