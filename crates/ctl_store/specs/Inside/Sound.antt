-- What every store, list and plan keeps. Not for callers.
use Rattle.std.specs.Prelude.{◌≡◌, ℕ, ◌+◌, ◌^◌, ◌<◌, ◌≤◌, suc, nat_eq, if◌then◌else◌, List, [], ◌∷◌, length, Option, None, Some, IfSome, Vec}
use Rattle.std.specs.List.{AllByRecursion}
use Rattle.ctl_ordered.specs.Ordered.{without_serials}
use Rattle.ctl_stanza.specs.Content.{Content}
use Rattle.ctl_store.specs.declared.fronts.Placed.{Placed}
use Rattle.ctl_store.specs.declared.limits.Limits.{Limits}
use Rattle.ctl_store.specs.declared.stanza_key.StanzaKey.{StanzaKey}
use Rattle.ctl_store.specs.Limits.{most}
use Rattle.ctl_store.specs.Named.{at_name}
use Rattle.ctl_store.specs.State.{stanza_count, status_count}
use Rattle.ctl_store.specs.Kinds.{KeepKinds}
use Rattle.ctl_store.specs.Edits.{Edit, AddList, Put, Mark, Pin}
use Rattle.ctl_store.specs.Step.{after}
use Rattle.ctl_store.specs.Slots.{Rises}
use Rattle.ctl_store.specs.Inside.HeldPieces.{InPieces}
use Rattle.ctl_store.specs.Keys.{KeyedList, keyed_after, stanza_lists, coming, AreComing}
use Rattle.ctl_store.specs.Followed.{coming_under}
use Rattle.ctl_store.specs.Plans.{ListRoom, Fits, HasRoomInList}
use Rattle.ctl_store.specs.Store.{HeldList, Held, lists_of, keyed_of, state_of}

-- the list of a serial, with its name
abbrev pub entry_of : ℕ → List (List ℕ × HeldList) → Option (List ℕ × HeldList)
entry_of serial [] = None
entry_of serial (e ∷ es) = if nat_eq e.1.serial serial then Some e else entry_of serial es

-- The serials of the lists rise from n on and stay below m, those of the stanzas rise within each list, and no list
-- gave more than e of them.
abbrev pub InOrder : ℕ → List (List ℕ × KeyedList) → ℕ → ℕ → Type 0
InOrder n [] m e = n ≤ m
InOrder n (l ∷ ls) m e = (n ≤ l.1.serial) × (l.1.next ≤ e) × Rises 0 l.1.slots l.1.next × InOrder (suc l.1.serial) ls m e

-- each list stands under its own serial
abbrev pub AreNumbered : List (ℕ × (List ℕ × HeldList)) → Type 0
AreNumbered slots = AllByRecursion (λ (slot : ℕ × (List ℕ × HeldList)). slot.0 ≡ slot.1.1.serial) slots

pub record IsSound (slots : List (ℕ × (List ℕ × HeldList))) (next next_list statuses stanzas edits : ℕ) (limits : Limits)
    (next_mark next_pin : ℕ) : Type 0 where
  pub numbered : AreNumbered slots
  pub next_is : next ≡ next_list
  pub order : InOrder 0 (lists_of (without_serials slots)) next_list (limits.stanzas + edits)
  pub few : next_list ≤ edits
  pub few_marks : next_mark ≤ edits
  -- preferences came with fewer than 2^63 settings, and each edit after them sets one at most
  pub few_pins : next_pin ≤ 2 ^ 63 + edits
  pub statuses_counted : statuses ≡ status_count (stanza_lists (lists_of (without_serials slots)))
  pub counted : stanzas ≡ stanza_count (stanza_lists (lists_of (without_serials slots)))
  pub kinds : KeepKinds (stanza_lists (lists_of (without_serials slots)))
  pub within : stanzas ≤ limits.stanzas
  pub stanzas_bounded : limits.stanzas ≤ most
  pub edits_bounded : limits.edits ≤ most

-- nothing stands yet in the room for a new list
pub record IsBare {R A : Type 0} (placed : Vec Placed A) (slots : InPieces R) (order : InPieces Placed) : Type 0 where
  pub none_placed : placed.items ≡ []
  pub no_slots : slots.pieces ≡ []
  pub no_order : order.pieces ≡ []

-- The stanza that comes under a key, by the first key that comes: those of a new list come from 0 on, and of others there
-- is no second.
abbrev pub coming_from : Edit → StanzaKey → StanzaKey → Option Content
coming_from (Put list x) first k = if nat_eq first.stanza k.stanza then Some x else None
coming_from edit first k = coming edit k

abbrev pub coming_among : Edit → List StanzaKey → StanzaKey → Option Content
coming_among edit [] k = None
coming_among edit (first ∷ others) k = if nat_eq first.list k.list then coming_from edit first k else None

-- what every plan keeps: a stanza comes under each key
pub record IsWhole (added : List StanzaKey) (edit : Edit) : Type 0 where
  pub coming : AreComing added edit
  pub among : (k : StanzaKey) → coming_among edit added k ≡ coming_under added edit k

-- there is room for the edit in the store
abbrev pub HasRoomIn : Held → Edit → Type 0
HasRoomIn h (AddList name kind class stanzas) = 0 < h.lists_room
HasRoomIn h (Put list x) = IfSome (at_name list h.lists) HasRoomInList
HasRoomIn h (Mark name version) = 0 < h.marks_room
HasRoomIn h (Pin selector priority) = 0 < h.pins_room
HasRoomIn h edit = Unit {0}

-- what is made ready for a new list
abbrev pub IsReadyFor : Edit → ListRoom → Type 0
IsReadyFor (AddList name kind class stanzas) room = Fits (length stanzas) room
IsReadyFor edit room = Unit {0}

-- the store after an edit that it accepted
pub record HasMade (old new : Held) (edit : Edit) : Type 0 where
  pub state : state_of new ≡ after (state_of old) edit
  pub keyed : keyed_of new ≡ keyed_after (keyed_of old) edit
  pub limits : new.limits ≡ old.limits
