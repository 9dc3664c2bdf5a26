-- Plans of edits: what is made ready for an edit, and when it can be made.
use Rattle.std.specs.Prelude.{◌≡◌, ℕ, ◌+◌, ◌<◌, ◌≤◌, min, List, length, None, IfSome}
use Rattle.ctl_stanza.specs.Content.{Content}
use Rattle.ctl_store.specs.declared.stanza_key.StanzaKey.{StanzaKey}
use Rattle.ctl_store.specs.Named.{at_name}
use Rattle.ctl_store.specs.Edits.{Edit, AddList, Put, Mark, Pin}
use Rattle.ctl_store.specs.Step.{refusal_of}
use Rattle.ctl_store.specs.Inside.HeldPieces.{most_in_piece}
use Rattle.ctl_store.specs.Keys.{removed_of, added_of, AreHeld, AreNew}
use Rattle.ctl_store.specs.Store.{HeldList, Held, keyed_of, state_of}

-- the room for a new list: for its serials while they are put in order, for its slots, and for the order that stays
pub record ListRoom : Type 0 where
  pub serials : ℕ
  pub slots : ℕ
  pub order : ℕ

-- so many stanzas fit in the room
pub record Fits (count : ℕ) (room : ListRoom) : Type 0 where
  pub serials : count ≤ room.serials
  pub slots : count ≤ room.slots
  pub order : count ≤ room.order

-- a plan: the edit, the keys that go and come, and what is made ready for the edit
pub record Planned : Type 0 where
  pub edit : Edit
  pub removed : List StanzaKey
  pub added : List StanzaKey
  pub list_room : ListRoom

-- there is room for one stanza more in a list
pub record HasRoomInList (s : HeldList) : Type 0 where
  pub slot : min most_in_piece (length s.slots + 1) ≤ s.room
  pub order : min most_in_piece (length s.slots + 1) ≤ s.order_room

-- what is made ready for a new list
pub record HasRoomForList (h : Held) (stanzas : List Content) (room : ListRoom) : Type 0 where
  pub list : 0 < h.lists_room
  pub fits : Fits (length stanzas) room

-- there is room for the edit
abbrev pub HasRoom : Held → ListRoom → Edit → Type 0
HasRoom h room (AddList name kind class stanzas) = HasRoomForList h stanzas room
HasRoom h room (Put list x) = IfSome (at_name list h.lists) HasRoomInList
HasRoom h room (Mark name version) = 0 < h.marks_room
HasRoom h room (Pin selector priority) = 0 < h.pins_room
HasRoom h room edit = Unit {0}

-- A plan whose edit is accepted, for which there is room, and whose keys are those that go and come. Each that goes has
-- a stanza, and one that only comes has none.
pub record IsReady (h : Held) (plan : Planned) : Type 0 where
  pub accepted : refusal_of h.limits (state_of h) plan.edit ≡ None
  pub room : HasRoom h plan.list_room plan.edit
  pub removed : plan.removed ≡ removed_of (keyed_of h) plan.edit
  pub added : plan.added ≡ added_of (keyed_of h) plan.edit
  pub goes : AreHeld plan.removed (keyed_of h).lists
  pub comes : AreNew plan.added plan.removed (keyed_of h).lists
