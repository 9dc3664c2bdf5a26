-- What a store holds, and the room that it has for more without memory.
use Rattle.std.specs.Prelude.{ℕ, ℤ, List, map, Option}
use Rattle.std.specs.FinMap as fin
use Rattle.ctl_stanza.specs.declared.list_kind.ListKind.{ListKind}
use Rattle.ctl_stanza.specs.Content.{Content}
use Rattle.ctl_store.specs.declared.limits.Limits.{Limits}
use Rattle.ctl_store.specs.declared.list_class.ListClass.{ListClass}
use Rattle.ctl_store.specs.declared.selector.Selector.{Selector}
use Rattle.ctl_store.specs.State.{State}
use Rattle.ctl_store.specs.Keys.{KeyedList, Keyed, stanza_lists}

-- a list with the room for more of its slots, and in their order
pub record HeldList : Type 0 where
  pub serial : ℕ
  pub kind : ListKind
  pub class : ListClass
  pub next : ℕ
  pub slots : List (ℕ × Content)
  pub room : ℕ
  pub order_room : ℕ

pub record Held : Type 0 where
  pub lists : List (List ℕ × HeldList)
  pub lists_room : ℕ
  pub marks : List (List ℕ × Option (List ℕ))
  pub marks_room : ℕ
  pub pins : List (Selector × ℤ)
  pub pins_room : ℕ
  pub target : Option (List ℕ)
  pub next_list : ℕ
  pub edits : ℕ
  pub limits : Limits

abbrev pub keyed_list : HeldList → KeyedList
keyed_list s = record { serial = s.serial; kind = s.kind; class = s.class; next = s.next; slots = s.slots }

abbrev pub lists_of : List (List ℕ × HeldList) → List (List ℕ × KeyedList)
lists_of es = map (λ (e : List ℕ × HeldList). (e.0, keyed_list e.1)) es

-- the lists with the serial numbers in them
abbrev pub keyed_of : Held → Keyed
keyed_of h = record { lists = lists_of h.lists; next_list = h.next_list }

-- what a store holds
abbrev pub state_of : Held → State
state_of h =
    record {
      lists = stanza_lists (lists_of h.lists);
      marks = fin.from_entries h.marks;
      pins = h.pins;
      target = h.target;
      edits = h.edits;
    }
