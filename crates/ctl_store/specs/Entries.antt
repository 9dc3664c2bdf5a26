-- The stanzas under their keys, and what an edit makes of them.
use Rattle.std.specs.Prelude.{◌≡◌, ℕ, ◌+◌, List, [], ◌∷◌, ◌++◌, map, filter, filter_map, flat_map, sum_by, not, Bool, Option, Some, option_map}
use Rattle.std.specs.List.{AllByRecursion, list_any}
use Rattle.ctl_stanza.specs.Content.{Content, package_of, version_of}
use Rattle.ctl_store.specs.declared.stanza_key.StanzaKey.{StanzaKey}
use Rattle.ctl_store.specs.Named.{without_name, change_named}
use Rattle.ctl_store.specs.State.{StanzaList}
use Rattle.ctl_store.specs.Step.{remove_stanza, with_stanzas}
use Rattle.ctl_store.specs.Edits.{Edit, DropList, Put, Remove}
use Rattle.ctl_store.specs.Keys.{KeyedList, stanza_lists, key_of, key_is, all_keys, AreRising, stanza_at, coming}

-- a stanza with its key
abbrev pub Entry : Type 0
Entry = StanzaKey × Content

abbrev pub slots_under : ℕ → List (ℕ × Content) → List Entry
slots_under list slots = map (λ (slot : ℕ × Content). (key_of list slot.0, slot.1)) slots

abbrev pub entries_in : KeyedList → List Entry
entries_in l = slots_under l.serial l.slots

-- all stanzas under their keys, list by list and stanza by stanza
abbrev pub entries_of : List (List ℕ × KeyedList) → List Entry
entries_of [] = []
entries_of (l ∷ ls) = entries_in l.1 ++ entries_of ls

abbrev pub entry_keys : List Entry → List StanzaKey
entry_keys es = map (λ (e : Entry). e.0) es

-- under each key stands the stanza that is found by the key
abbrev pub AreAt : List Entry → List (List ℕ × KeyedList) → Type 0
AreAt es ls = AllByRecursion (λ (e : Entry). stanza_at e.0 ls ≡ Some e.1) es

abbrev pub is_among : List StanzaKey → Entry → Bool
is_among ks e = list_any (key_is e.0) ks

-- the entries of no such key
abbrev pub without_keys : List StanzaKey → List Entry → List Entry
without_keys ks es = filter (λ (e : Entry). not (is_among ks e)) es

-- the keys that have a stanza, with it
abbrev pub entries_by : (StanzaKey → Option Content) → List StanzaKey → List Entry
entries_by find ks = filter_map (λ (k : StanzaKey). option_map (λ (x : Content). (k, x)) (find k)) ks

-- the stanzas under keys, with these
abbrev pub entries_at : List StanzaKey → List (List ℕ × KeyedList) → List Entry
entries_at ks ls = entries_by (λ k. stanza_at k ls) ks

-- the stanzas that come, with their keys
abbrev pub entries_coming : List StanzaKey → Edit → List Entry
entries_coming ks edit = entries_by (coming edit) ks

-- In one place some go and others come; the entries before and behind stay.
pub record IsSpliced (before after gone come : List Entry) : Type 0 where
  pub head : List Entry
  pub tail : List Entry
  pub before_is : before ≡ head ++ (gone ++ tail)
  pub after_is : after ≡ head ++ (come ++ tail)

-- the stanzas of lists in order
abbrev pub stanzas_in_order : List (List ℕ × StanzaList) → List Content
stanzas_in_order ls = flat_map (λ (l : List ℕ × StanzaList). l.1.stanzas) ls

-- the lists without the stanzas that an edit takes out, one that is replaced among them
abbrev pub lists_between : List (List ℕ × StanzaList) → Edit → List (List ℕ × StanzaList)
lists_between ls (DropList name) = without_name name ls
lists_between ls (Put list x) = change_named list (with_stanzas (remove_stanza (package_of x) (version_of x))) ls
lists_between ls (Remove list name version) = change_named list (with_stanzas (remove_stanza name (Some version))) ls
lists_between ls edit = ls

abbrev pub stanzas_of_entries : List Entry → List Content
stanzas_of_entries entries = map (λ (e : Entry). e.1) entries

-- a sum over the stanzas whose keys are not among some
abbrev pub sum_staying : (Entry → ℕ) → List StanzaKey → List (List ℕ × KeyedList) → ℕ
sum_staying f removed before = sum_by f (without_keys removed (entries_of before))

-- What an edit makes of the stanzas of these lists: those of some keys go, and others come in their place.
pub record IsChange (before after : List (List ℕ × KeyedList)) (removed added : List StanzaKey) (edit : Edit) : Type 0 where
  pub entries : IsSpliced (entries_of before) (entries_of after) (entries_at removed before) (entries_coming added edit)
  pub mid : without_keys added (entries_of after) ≡ without_keys removed (entries_of before)
  pub staying : stanzas_of_entries (without_keys removed (entries_of before)) ≡ stanzas_in_order (lists_between (stanza_lists before) edit)
  -- each key that goes has a stanza, and one comes under each that comes
  pub removed_keys : entry_keys (entries_at removed before) ≡ removed
  pub added_keys : entry_keys (entries_coming added edit) ≡ added
  -- so each sum over the stanzas loses what goes and takes what comes
  pub loses : (f : Entry → ℕ) → sum_by f (entries_of before) ≡ sum_staying f removed before + sum_by f (entries_at removed before)
  pub takes : (f : Entry → ℕ) → sum_by f (entries_of after) ≡ sum_staying f removed before + sum_by f (entries_coming added edit)
  -- the keys rise, and each is that of its stanza
  pub rises : AreRising (all_keys after)
  pub found : AreAt (entries_of after) after
