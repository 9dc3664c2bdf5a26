-- The stanzas of a store, without their keys.
use Rattle.std.proofs.Common.{◌≡◌, ◌∙◌, ◌+◌, ◌≤◌, ℕ, suc, Bool, true, false, cond, arith, List, [], ◌∷◌, ◌++◌, map, length, refl, ap, length-append}
use Rattle.std.specs.List.{filter}
use Rattle.std.proofs.lemmas.List.{map-append}
use Rattle.ctl_stanza.specs.Content.{Content}
use Rattle.ctl_store.specs.Entries.{Entry, slots_under, entries_in, entries_of, stanzas_in_order}
use Rattle.ctl_store.specs.Keys.{KeyedList, stanza_lists}
use Rattle.ctl_store.specs.State.{StanzaList, stanza_count}

plain_rows : (serial : ℕ) (rows : List (ℕ × Content)) → map (λ (e : Entry). e.1) (slots_under serial rows) ≡ map (λ (row : ℕ × Content). row.1) rows
plain_rows serial [] = refl
plain_rows serial (row ∷ rows) = ap (λ xs. row.1 ∷ xs) (plain_rows serial rows)

pub plain_entries : (ls : List (List ℕ × KeyedList)) → map (λ (e : Entry). e.1) (entries_of ls) ≡ stanzas_in_order (stanza_lists ls)
plain_entries [] = refl
plain_entries (l ∷ ls) = map-append (λ (e : Entry). e.1) (entries_in l.1) (entries_of ls) ∙ (λ i. plain_rows l.1.serial l.1.slots i ++ plain_entries ls i)

pub stanzas_counted : (ls : List (List ℕ × StanzaList)) → length (stanzas_in_order ls) ≡ stanza_count ls
stanzas_counted [] = refl
stanzas_counted (l ∷ ls) = length-append l.1.stanzas (stanzas_in_order ls) ∙ ap (λ n. length l.1.stanzas + n) (stanzas_counted ls)

pub filtered : {X : Type 0} (p : X → Bool) (xs : List X) → length (filter p xs) ≤ length xs
filtered p [] = omega arith
filtered p (x ∷ xs) = by (p x) (filtered p xs)
  where
    by : (b : Bool) → length (filter p xs) ≤ length xs → length (cond b (x ∷ filter p xs) (filter p xs)) ≤ suc (length xs)
    by true less = omega (arith, less)
    by false less = omega (arith, less)
