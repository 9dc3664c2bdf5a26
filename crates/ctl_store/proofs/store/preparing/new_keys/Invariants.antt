use Rattle.std.proofs.Common.{◌≡◌, ◌+◌, ◌++◌, map, length}
use Rattle.ctl_store.specs.Slots.{slots_from}
use Rattle.ctl_store.specs.Keys.{key_of}
use Rattle.ctl_store.proofs.store.preparing.new_keys.Given as goal

abbrev pub invariant-stanzas : goal.invariant-stanzas
invariant-stanzas l = record {
  keys : l.keys.items ++ map (λ slot. key_of l.list slot.0) (slots_from l.serial (map (λ stanza. stanza.value) l.left)) ≡ map (λ slot. key_of l.list slot.0) (slots_from 0 (map (λ stanza. stanza.value) l.fn.stanzas));
  count : l.serial + length l.left ≡ length l.fn.stanzas;
}

abbrev pub decreases-stanzas : goal.decreases-stanzas
decreases-stanzas l = length l.left
