-- Names of lists that are apart from one another.
use Rattle.std.proofs.Common.{◌≡◌, ◌∙◌, ℕ, Bool, true, false, cond, List, [], ◌∷◌, Option, None, Some, refl, sym, ap}
use Rattle.std.specs.List.{AllByRecursion}
use Rattle.std.specs.Map.{keys_of as names_of}
use Rattle.std.specs.Option.{is_some}
use Rattle.std.specs.Str.{bytes_eq}
use Rattle.std.proofs.lemmas.Bool.{true≢false}
use Rattle.std.proofs.lemmas.Slice.Eq.{bytes_eq-Decides}
use Rattle.ctl_store.specs.declared.stanza_key.StanzaKey.{StanzaKey}
use Rattle.ctl_store.specs.Keys.{KeyedList, holder_of, in_slots, stanza_lists}

abbrev Lists : Type 0
Lists = List (List ℕ × KeyedList)

abbrev or_else : List ℕ → Option (List ℕ) → List ℕ
or_else other None = other
or_else other (Some name) = name

abbrev is_there : Option (List ℕ) → Bool
is_there None = false
is_there (Some name) = true

-- a name that is another's is that one the other way round too
pub turned : (a b : List ℕ) → bytes_eq a b ≡ false → bytes_eq b a ≡ false
turned a b other = by (bytes_eq b a) refl
  where
    by : (t : Bool) → bytes_eq b a ≡ t → bytes_eq b a ≡ false
    by true e = absurd (true≢false (sym (ap (bytes_eq a) ((bytes_eq-Decides b a).0 e) ∙ itself) ∙ other))
      where
        itself : bytes_eq a a ≡ true
        itself = (bytes_eq-Decides a a).1 refl
    by false e = e

-- a name that holds a key is among those that are apart from another
pub held_apart : (key : StanzaKey) (name other : List ℕ) (lists : Lists) → holder_of key lists ≡ Some name → AllByRecursion (λ y. bytes_eq other y ≡ false) (names_of lists) → bytes_eq other name ≡ false
held_apart key name other [] held apart = absurd (true≢false (sym (ap is_there held)))
held_apart key name other (l ∷ lists) held apart = by (is_some (in_slots key l.1)) refl (λ h. held_apart key name other lists h apart.1)
  where
    by : (b : Bool) → is_some (in_slots key l.1) ≡ b → (holder_of key lists ≡ Some name → bytes_eq other name ≡ false) → bytes_eq other name ≡ false
    by true e rest = ap (bytes_eq other) (sym (ap (or_else name) (ap (λ b. cond b (Some l.0) (holder_of key lists)) (sym e) ∙ held))) ∙ apart.0
    by false e rest = rest (ap (λ b. cond b (Some l.0) (holder_of key lists)) (sym e) ∙ held)

-- the names of the lists, as a state has them
pub names_of_state : (lists : Lists) → names_of (stanza_lists lists) ≡ names_of lists
names_of_state [] = refl
names_of_state (l ∷ lists) = ap (λ names. l.0 ∷ names) (names_of_state lists)
