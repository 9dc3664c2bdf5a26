-- Keys that were given: none is given again.
use Rattle.std.specs.Prelude.{◌≡◌, ℕ, ◌&&◌, Bool, true, false, List, [], ◌∷◌, IsSome, nat_eq, nat_lt, if◌then◌else◌}
use Rattle.std.specs.List.{AllByRecursion}
use Rattle.ctl_store.specs.declared.stanza_key.StanzaKey.{StanzaKey}
use Rattle.ctl_store.specs.Keys.{KeyedList, Keyed, IsNotAmong, stanza_at}

-- whether the list of the key, where it is there, gave it
abbrev pub was_given : StanzaKey → List (List ℕ × KeyedList) → Bool
was_given k [] = true
was_given k (l ∷ ls) = (if nat_eq l.1.serial k.list then nat_lt k.stanza l.1.next else true) && was_given k ls

-- Whether a store has given a key. All keys of a list that is gone count as given.
abbrev pub is_given : Keyed → StanzaKey → Bool
is_given s k = nat_lt k.list s.next_list && was_given k s.lists

-- each key that comes is new, but that of a stanza that is replaced
abbrev pub AreFirstGiven : Keyed → List StanzaKey → List StanzaKey → Type 0
AreFirstGiven s added removed = AllByRecursion (λ k. IsNotAmong k removed → is_given s k ≡ false) added

-- What an edit leaves of the keys that were given, before and after it.
pub record IsGivenOnce (before after : Keyed) (removed added : List StanzaKey) : Type 0 where
  pub first : AreFirstGiven before added removed
  -- what was given stays so, whether it has a stanza or not
  pub stays : (k : StanzaKey) → is_given before k ≡ true → is_given after k ≡ true
  -- and each key that has a stanza was given
  pub held_before : (k : StanzaKey) → IsSome (stanza_at k before.lists) → is_given before k ≡ true
  pub held_after : (k : StanzaKey) → IsSome (stanza_at k after.lists) → is_given after k ≡ true
