use Rattle.std.proofs.Common.{◌≡◌, map}
use Rattle.ctl_store.proofs.new_stanzas.NewStanzas.boxed.Given as goal

abbrev pub invariant-loop-stanza : goal.invariant-loop-stanza
invariant-loop-stanza l = map (λ stanza. stanza.value) l.boxes.items ≡ l.yielded
