-- Which names an edit can change.
use Rattle.std.specs.Prelude.{◌≡◌, ◌⊎◌, ℕ, true, false, List, Option, None, Some}
use Rattle.std.specs.List.{AllByRecursion}
use Rattle.std.specs.Option.{option_map_or}
use Rattle.std.specs.Str.{bytes_eq}
use Rattle.ctl_stanza.specs.Content.{Content}
use Rattle.ctl_store.specs.declared.stanza_key.StanzaKey.{StanzaKey}
use Rattle.ctl_store.specs.State.{Marks}
use Rattle.ctl_store.specs.Edits.{Edit}
use Rattle.ctl_store.specs.Step.{after}
use Rattle.ctl_store.specs.Keys.{stanza_at, holder_of, all_keys, AreRising, keyed_after}
use Rattle.ctl_store.specs.Store.{Held, keyed_of, state_of}
use Rattle.ctl_policy.specs.Rows.{Lists, Row, rows_named, newest_first, version_in, is_called, is_source}
use Rattle.ctl_policy.specs.Priority.{World, Settings, world_in, list_priority, row_priority, priority_found}
use Rattle.ctl_policy.specs.Chosen.{choice_in, kept_of}

abbrev pub with_marks : Marks → World → World
with_marks marks w = record w { marks = marks }

abbrev pub with_pins : Settings → World → World
with_pins pins w = record w { pins = pins }

-- what the policy of a store rests on, with other pins
abbrev pub world_with : Settings → Held → World
world_with pins h = with_pins pins (world_in (keyed_of h) (state_of h))

abbrev pub with_target : Option (List ℕ) → World → World
with_target target w = record w { target = target }

abbrev pub with_lists : Lists → World → World
with_lists lists w = record w { lists = lists }

-- the rows of a name, newest first
abbrev pub rows_in : List ℕ → World → List Row
rows_in name w = newest_first (rows_named name w.lists)

-- What is known of a name is the same: its rows, their priorities, and what is chosen of it.
pub record Stays (name : List ℕ) (w u : World) : Type 0 where
  pub rows : rows_in name u ≡ rows_in name w
  pub priorities : AllByRecursion (λ (row : Row). row_priority name u row.1 ≡ row_priority name w row.1) (rows_in name w)
  pub choice : choice_in name u ≡ choice_in name w
  pub kept : kept_of name u ≡ kept_of name w

-- other names stay as they are
abbrev pub IsOfName : List ℕ → World → World → Type 0
IsOfName name w u = (q : List ℕ) → bytes_eq name q ≡ false → Stays q w u

-- ---- lists whose priority changes

-- none of the rows of a name has a stanza in a list
abbrev pub IsNoSource : List ℕ → List ℕ → World → Type 0
IsNoSource list name w = AllByRecursion (λ (row : Row). is_source list w.lists row.1 ≡ false) (rows_in name w)

-- none of them has one in the list that is named, if one is
abbrev pub IsNoTarget : Option (List ℕ) → List ℕ → World → Type 0
IsNoTarget None name w = Unit {0}
IsNoTarget (Some list) name w = IsNoSource list name w

-- each list has the priority that it had, or none of the rows of a name has a stanza in it
abbrev pub AreRankedAlike : List ℕ → World → World → Type 0
AreRankedAlike name w u = (list : List ℕ) → (list_priority list u ≡ list_priority list w) ⊎ IsNoSource list name w

-- the version of a stanza that was found, where it is a live one of this name
abbrev pub version_found : List ℕ → Option Content → Option (List ℕ)
version_found name found = option_map_or (version_in name) found None

-- no list of this name holds a live stanza of a name
abbrev pub HoldsNone : List ℕ → List ℕ → Lists → Type 0
HoldsNone list name lists = (k : StanzaKey) → is_called list (holder_of k lists) ≡ true → version_found name (stanza_at k lists) ≡ None

-- ---- stanzas that come and go

-- no live stanza of a name stands under a key
abbrev pub HasNoneAt : List ℕ → Lists → StanzaKey → Type 0
HasNoneAt name lists k = version_found name (stanza_at k lists) ≡ None

-- the same stanza stands under a key in two lists of lists
abbrev pub IsSameAt : Lists → Lists → StanzaKey → Type 0
IsSameAt lists others k = stanza_at k others ≡ stanza_at k lists

-- Under each key stands the stanza that stood there, unless neither is a live one of this name.
abbrev pub IsUntouched : List ℕ → Lists → Lists → Type 0
IsUntouched name lists others = (k : StanzaKey) → IsSameAt lists others k ⊎ (HasNoneAt name lists k × HasNoneAt name others k)

-- the list that holds a stanza has, among other lists, the priority that it has
abbrev pub IsRankedAlike : World → Lists → StanzaKey → Type 0
IsRankedAlike w others k = priority_found (with_lists others w) (holder_of k w.lists) ≡ priority_found w (holder_of k w.lists)

-- The lists that hold the stanzas of a name have the names and the priorities that they had.
pub record AreSameLists (name : List ℕ) (w : World) (others : Lists) : Type 0 where
  pub rising : AreRising (all_keys w.lists)
  pub rising_after : AreRising (all_keys others)
  pub names : (k : StanzaKey) → (HasNoneAt name w.lists k → ⊥) → holder_of k others ≡ holder_of k w.lists
  pub priorities : (k : StanzaKey) → (HasNoneAt name w.lists k → ⊥) → IsRankedAlike w others k

-- ---- edits

-- what the policy rests on after an accepted edit
abbrev pub world_after : Held → Edit → World
world_after h edit = world_in (keyed_after (keyed_of h) edit) (after (state_of h) edit)
