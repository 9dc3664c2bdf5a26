use Rattle.std.proofs.Common.{◌≡◌, ◌≤◌, ◌+◌, ◌++◌, map, length, vec_len}
use Rattle.std.specs.Vec.{vec_capacity}
use Rattle.ctl_store.specs.Slots.{placed_slot, slots_from}
use Rattle.ctl_store.specs.Inside.HeldPieces.{joined, room_at_end}
use Rattle.ctl_store.proofs.held_list.fill_slots.Given as goal

abbrev pub invariant-loop-stanza : goal.invariant-loop-stanza
invariant-loop-stanza l = record {
  slots : joined l.slots.pieces ++ slots_from l.serial (map (λ stanza. stanza.value) l.stanza-iterator.rest.items) ≡ slots_from 0 (map (λ stanza. stanza.value) l.fn.stanzas.items);
  room : length l.stanza-iterator.rest.items ≤ room_at_end l.slots;
  placed : l.placed.items ++ map placed_slot (slots_from l.serial (map (λ stanza. stanza.value) l.stanza-iterator.rest.items)) ≡ map placed_slot (slots_from 0 (map (λ stanza. stanza.value) l.fn.stanzas.items));
  placed_room : vec_len l.placed + length l.stanza-iterator.rest.items ≤ vec_capacity l.placed;
  whole : l.serial + length l.stanza-iterator.rest.items ≡ vec_len l.fn.stanzas;
}
