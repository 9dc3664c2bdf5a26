-- An edit that is followed key by key: the stanzas of the keys that go are taken out, and then those of the keys that come
-- are put in. In what is then left are the stanzas after the edit, in another order.
use Rattle.std.specs.Prelude.{◌≡◌, ℕ, false, List, [], ◌∷◌, ◌++◌, sum_by, Option, None, Some, if◌then◌else◌}
use Rattle.std.specs.List.{AllByRecursion, list_any}
use Rattle.std.specs.Map.{lookup}
use Rattle.std.specs.Option.{option_or}
use Rattle.ctl_stanza.specs.Content.{Content}
use Rattle.ctl_store.specs.declared.stanza_key.StanzaKey.{StanzaKey}
use Rattle.ctl_store.specs.Edits.{Edit}
use Rattle.ctl_store.specs.Keys.{KeyedList, key_is, stanza_at, coming}
use Rattle.ctl_store.specs.Entries.{Entry, entries_of, without_keys, entries_coming, AreAt}

-- the stanza under a key
abbrev pub under : StanzaKey → List Entry → Option Content
under k es = lookup (key_is k) es

-- no two stanzas have one key
abbrev pub AreApart : List Entry → Type 0
AreApart [] = Unit {0}
AreApart (e ∷ es) = AllByRecursion (λ (d : Entry). key_is e.0 d.0 ≡ false) es × AreApart es

-- no key stands twice
abbrev pub AreDistinctKeys : List StanzaKey → Type 0
AreDistinctKeys [] = Unit {0}
AreDistinctKeys (k ∷ ks) = AllByRecursion (λ q. key_is k q ≡ false) ks × AreDistinctKeys ks

-- the stanza that comes under a key, if the key is one of those that come
abbrev pub coming_under : List StanzaKey → Edit → StanzaKey → Option Content
coming_under added edit k = if list_any (key_is k) added then coming edit k else None

-- what a key shows while the edit is followed: the stanza that comes under it, else the one that is there
abbrev pub shown_under : List (List ℕ × KeyedList) → List StanzaKey → Edit → StanzaKey → Option Content
shown_under before added edit k = option_or (coming_under added edit k) (stanza_at k before)

-- the stanzas that stay, and behind them those that come
abbrev pub followed : List (List ℕ × KeyedList) → List StanzaKey → List StanzaKey → Edit → List Entry
followed before removed added edit = without_keys removed (entries_of before) ++ entries_coming added edit

pub record IsFollowed (before after : List (List ℕ × KeyedList)) (removed added : List StanzaKey) (edit : Edit) : Type 0 where
  pub apart : AreApart (entries_of before)
  pub found : AreAt (entries_of before) before
  pub distinct : AreDistinctKeys removed
  pub distinct_added : AreDistinctKeys added
  -- those that stay and come are apart too, and each is the one that its key shows
  pub apart_then : AreApart (followed before removed added edit)
  pub shown : AllByRecursion (λ (e : Entry). shown_under before added edit e.0 ≡ Some e.1) (followed before removed added edit)
  -- they are the stanzas after the edit, by sums and by keys
  pub sums : (f : Entry → ℕ) → sum_by f (followed before removed added edit) ≡ sum_by f (entries_of after)
  pub unders : (k : StanzaKey) → under k (followed before removed added edit) ≡ under k (entries_of after)
