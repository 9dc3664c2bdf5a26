-- The keys of stanzas, and the lists with the serial numbers in them.
use Rattle.std.specs.Prelude.{◌≡◌, ℕ, ◌+◌, nat_eq, Bool, false, ◌&&◌, if◌then◌else◌, List, [], ◌∷◌, ◌++◌, map, take, drop, length, Option, None, Some, IsSome, is_some, slice_get}
use Rattle.std.specs.List.{AllByRecursion}
use Rattle.std.specs.Map.{lookup}
use Rattle.std.specs.Option.{option_or, option_map_or}
use Rattle.std.specs.Ordering.{nat_cmp, ordering_then}
use Rattle.std.specs.declared.cmp.Ordering.{Ordering}
use Rattle.std.specs.declared.cmp.Ordering.TheVariants.{Less}
use Rattle.ctl_stanza.specs.declared.list_kind.ListKind.{ListKind}
use Rattle.ctl_stanza.specs.Content.{Content, package_of, version_of}
use Rattle.ctl_store.specs.declared.list_class.ListClass.{ListClass}
use Rattle.ctl_store.specs.declared.stanza_key.StanzaKey.{StanzaKey}
use Rattle.ctl_store.specs.Named.{at_name, without_name, change_named}
use Rattle.ctl_store.specs.State.{StanzaList}
use Rattle.ctl_store.specs.Edits.{Edit, AddList, DropList, Put, Remove}
use Rattle.ctl_store.specs.Step.{place}
use Rattle.ctl_store.specs.Slots.{by_name_and_version, slots_from, put_slot, next_after_put, remove_slot}

-- a list with its serial, its stanzas under theirs, and the serial of its next new stanza
pub record KeyedList : Type 0 where
  pub serial : ℕ
  pub kind : ListKind
  pub class : ListClass
  pub next : ℕ
  pub slots : List (ℕ × Content)

-- the lists, and the serial of the next one
pub record Keyed : Type 0 where
  pub lists : List (List ℕ × KeyedList)
  pub next_list : ℕ

-- without the serials
abbrev pub stanzas_of : List (ℕ × Content) → List Content
stanzas_of slots = map (λ (slot : ℕ × Content). slot.1) slots

abbrev pub stanza_list : KeyedList → StanzaList
stanza_list l = record { kind = l.kind; class = l.class; stanzas = stanzas_of l.slots }

abbrev pub stanza_lists : List (List ℕ × KeyedList) → List (List ℕ × StanzaList)
stanza_lists ls = map (λ (l : List ℕ × KeyedList). (l.0, stanza_list l.1)) ls

-- ---- what an edit makes of them

abbrev pub new_list : ℕ → ListKind → ListClass → ℕ → List (ℕ × Content) → KeyedList
new_list serial kind class next slots = record { serial = serial; kind = kind; class = class; next = next; slots = slots }

-- a list with these stanzas, under the serials from 0 on
abbrev pub list_of_stanzas : ℕ → ListKind → ListClass → List Content → KeyedList
list_of_stanzas serial kind class stanzas = new_list serial kind class (length stanzas) (slots_from 0 stanzas)

abbrev pub put_keyed : Content → KeyedList → KeyedList
put_keyed x l = record l { slots = put_slot x l.next l.slots; next = next_after_put x l.next l.slots }

abbrev pub remove_keyed : List ℕ → Option (List ℕ) → KeyedList → KeyedList
remove_keyed name version l = record l { slots = remove_slot name version l.slots }

-- A list that comes takes the next serial, and so does a stanza that replaces no other.
abbrev pub keyed_after : Keyed → Edit → Keyed
keyed_after k (AddList name kind class stanzas) =
    record {
      lists = k.lists ++ (name, list_of_stanzas k.next_list kind class stanzas) ∷ [];
      next_list = k.next_list + 1;
    }
keyed_after k (DropList name) = record k { lists = without_name name k.lists }
keyed_after k (Put list content) = record k { lists = change_named list (put_keyed content) k.lists }
keyed_after k (Remove list name version) = record k { lists = change_named list (remove_keyed name (Some version)) k.lists }
keyed_after k edit = k

-- ---- keys

abbrev pub key_of : ℕ → ℕ → StanzaKey
key_of list serial = record { list = list; stanza = serial }

abbrev pub keys_of : KeyedList → List StanzaKey
keys_of l = map (λ (slot : ℕ × Content). key_of l.serial slot.0) l.slots

abbrev pub key_cmp : StanzaKey → StanzaKey → Ordering
key_cmp a b = ordering_then (nat_cmp a.list b.list) (nat_cmp a.stanza b.stanza)

-- all keys, list by list and stanza by stanza
abbrev pub all_keys : List (List ℕ × KeyedList) → List StanzaKey
all_keys [] = []
all_keys (l ∷ ls) = keys_of l.1 ++ all_keys ls

-- each key is below those after it
abbrev pub AreRising : List StanzaKey → Type 0
AreRising [] = Unit {0}
AreRising (k ∷ ks) = AllByRecursion (λ q. key_cmp k q ≡ Less) ks × AreRising ks

abbrev pub key_is : StanzaKey → StanzaKey → Bool
key_is k q = nat_eq q.list k.list && nat_eq q.stanza k.stanza

abbrev pub IsNotAmong : StanzaKey → List StanzaKey → Type 0
IsNotAmong k ks = AllByRecursion (λ q. key_is k q ≡ false) ks

-- the stanza of a key: each list is asked in turn
abbrev pub in_slots : StanzaKey → KeyedList → Option Content
in_slots k l = if nat_eq l.serial k.list then lookup (λ s. nat_eq s k.stanza) l.slots else None

abbrev pub stanza_at : StanzaKey → List (List ℕ × KeyedList) → Option Content
stanza_at k [] = None
stanza_at k (l ∷ ls) = option_or (in_slots k l.1) (stanza_at k ls)

-- each key has a stanza
abbrev pub AreHeld : List StanzaKey → List (List ℕ × KeyedList) → Type 0
AreHeld ks ls = AllByRecursion (λ k. IsSome (stanza_at k ls)) ks

-- the name of the list of a serial
abbrev pub list_at : ℕ → List (List ℕ × KeyedList) → Option (List ℕ)
list_at serial [] = None
list_at serial (l ∷ ls) = if nat_eq l.1.serial serial then Some l.0 else list_at serial ls

-- the key at a place
abbrev pub key_at : KeyedList → Option ℕ → List StanzaKey
key_at l None = []
key_at l (Some i) = map (λ (slot : ℕ × Content). key_of l.serial slot.0) (take 1 (drop i l.slots))

-- the key of the next new stanza of a list
abbrev pub next_key : KeyedList → List StanzaKey
next_key l = key_of l.serial l.next ∷ []

-- the key at a place, else a new one
abbrev pub key_or_new : KeyedList → Option ℕ → List StanzaKey
key_or_new l None = next_key l
key_or_new l (Some i) = key_at l (Some i)

-- the key of the first stanza of this name and an equal version
abbrev pub found_key : List ℕ → Option (List ℕ) → KeyedList → List StanzaKey
found_key name version l = key_at l (place (by_name_and_version name version) l.slots)

-- the key under which a stanza that is put stands
abbrev pub put_key : Content → KeyedList → List StanzaKey
put_key x l = key_or_new l (place (by_name_and_version (package_of x) (version_of x)) l.slots)

abbrev pub found_in : List ℕ → List ℕ → Option (List ℕ) → List (List ℕ × KeyedList) → List StanzaKey
found_in list name version ls = option_map_or (found_key name version) (at_name list ls) []

abbrev pub kept_in : List ℕ → Content → List (List ℕ × KeyedList) → List StanzaKey
kept_in list x ls = option_map_or (put_key x) (at_name list ls) []

-- the key of the next new stanza of the list of a name
abbrev pub next_in : List ℕ → List (List ℕ × KeyedList) → List StanzaKey
next_in list ls = option_map_or next_key (at_name list ls) []

abbrev pub all_in : List ℕ → List (List ℕ × KeyedList) → List StanzaKey
all_in list ls = option_map_or keys_of (at_name list ls) []

-- the key of the stanza that an edit takes out or replaces
abbrev pub found_of : Keyed → Edit → List StanzaKey
found_of k (Put list x) = found_in list (package_of x) (version_of x) k.lists
found_of k (Remove list name version) = found_in list name (Some version) k.lists
found_of k edit = []

-- the keys that go
abbrev pub removed_of : Keyed → Edit → List StanzaKey
removed_of k (DropList name) = all_in name k.lists
removed_of k (Put list x) = found_in list (package_of x) (version_of x) k.lists
removed_of k (Remove list name version) = found_in list name (Some version) k.lists
removed_of k edit = []

-- The keys that come. That of a stanza that replaces another both goes and comes.
abbrev pub added_of : Keyed → Edit → List StanzaKey
added_of k (AddList name kind class stanzas) = keys_of (list_of_stanzas k.next_list kind class stanzas)
added_of k (Put list x) = kept_in list x k.lists
added_of k edit = []

-- the stanza that comes under a key
abbrev pub coming : Edit → StanzaKey → Option Content
coming (AddList name kind class stanzas) k = slice_get stanzas k.stanza
coming (Put list x) k = Some x
coming edit k = None

-- under each key a stanza comes
abbrev pub AreComing : List StanzaKey → Edit → Type 0
AreComing ks edit = AllByRecursion (λ k. IsSome (coming edit k)) ks

-- under each key that comes stands the stanza that comes
abbrev pub AreCome : List StanzaKey → Edit → List (List ℕ × KeyedList) → Type 0
AreCome ks edit ls = AllByRecursion (λ k. stanza_at k ls ≡ coming edit k) ks

-- under a key that goes and doesn't come stands none
abbrev pub AreGone : List StanzaKey → List StanzaKey → List (List ℕ × KeyedList) → Type 0
AreGone removed added ls = AllByRecursion (λ k. IsNotAmong k added → stanza_at k ls ≡ None) removed

-- a key that comes and doesn't go is that of no stanza
abbrev pub AreNew : List StanzaKey → List StanzaKey → List (List ℕ × KeyedList) → Type 0
AreNew added removed ls = AllByRecursion (λ k. IsNotAmong k removed → stanza_at k ls ≡ None) added

-- the name of the list that holds a key
abbrev pub holder_of : StanzaKey → List (List ℕ × KeyedList) → Option (List ℕ)
holder_of k [] = None
holder_of k (l ∷ ls) = if is_some (in_slots k l.1) then Some l.0 else holder_of k ls
