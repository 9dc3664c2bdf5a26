-- The stanzas of lists under their keys.
use Rattle.std.proofs.Common.{◌≡◌, ◌∙◌, ℕ, Bool, true, false, cond, nat_eq, ◌&&◌, List, [], ◌∷◌, ◌++◌, map, Option, None, Some, refl, ap, sym}
use Rattle.std.specs.List.{AllByRecursion}
use Rattle.std.specs.Map.{lookup}
use Rattle.std.specs.Option.{option_or}
use Rattle.std.proofs.lemmas.List.{map-append}
use Rattle.ctl_stanza.specs.Content.{Content}
use Rattle.ctl_store.specs.declared.stanza_key.StanzaKey.{StanzaKey}
use Rattle.ctl_store.specs.Keys.{KeyedList, key_of, key_is, stanza_at, stanza_lists}
use Rattle.ctl_store.specs.Entries.{Entry, slots_under, entries_in, entries_of, stanzas_in_order, AreAt}
use Rattle.ctl_store.specs.Followed.{under}
use Rattle.ctl_index.specs.Offers.{contents}

-- ---- without their keys

plain_rows : (serial : ℕ) (rows : List (ℕ × Content)) → contents (slots_under serial rows) ≡ map (λ (row : ℕ × Content). row.1) rows
plain_rows serial [] = refl
plain_rows serial (row ∷ rows) = ap (λ xs. row.1 ∷ xs) (plain_rows serial rows)

pub contents_are : (ls : List (List ℕ × KeyedList)) → contents (entries_of ls) ≡ stanzas_in_order (stanza_lists ls)
contents_are [] = refl
contents_are (l ∷ ls) = map-append (λ (e : Entry). e.1) (entries_in l.1) (entries_of ls) ∙ (λ i. plain_rows l.1.serial l.1.slots i ++ contents_are ls i)

-- ---- what stands under a key

under-append : (k : StanzaKey) (xs ys : List Entry) → under k (xs ++ ys) ≡ option_or (under k xs) (under k ys)
under-append k [] ys = refl
under-append k (x ∷ xs) ys = by (key_is k x.0) (under-append k xs ys)
  where
    by : (b : Bool) → under k (xs ++ ys) ≡ option_or (under k xs) (under k ys) → cond b (Some x.1) (under k (xs ++ ys)) ≡ option_or (cond b (Some x.1) (under k xs)) (under k ys)
    by true rest = refl
    by false rest = rest

in_list : (k : StanzaKey) (serial : ℕ) (rows : List (ℕ × Content)) → under k (map (λ (row : ℕ × Content). (key_of serial row.0, row.1)) rows) ≡ cond (nat_eq serial k.list) (lookup (λ s. nat_eq s k.stanza) rows) None
in_list k serial [] = by (nat_eq serial k.list)
  where
    by : (b : Bool) → ◌≡◌ {A = Option Content} None (cond b None None)
    by true = refl
    by false = refl
in_list k serial (row ∷ rows) = by (nat_eq serial k.list) (nat_eq row.0 k.stanza) (in_list k serial rows)
  where
    by : (b d : Bool) → under k (map (λ (r : ℕ × Content). (key_of serial r.0, r.1)) rows) ≡ cond b (lookup (λ s. nat_eq s k.stanza) rows) None
        → cond (b && d) (Some row.1) (under k (map (λ (r : ℕ × Content). (key_of serial r.0, r.1)) rows)) ≡ cond b (cond d (Some row.1) (lookup (λ s. nat_eq s k.stanza) rows)) None
    by true true rest = refl
    by true false rest = rest
    by false d rest = rest

-- the stanza of a key is the one under it
pub stanza_under : (k : StanzaKey) (ls : List (List ℕ × KeyedList)) → stanza_at k ls ≡ under k (entries_of ls)
stanza_under k [] = refl
stanza_under k (l ∷ ls) = (λ i. option_or (sym (in_list k l.1.serial l.1.slots) i) (stanza_under k ls i)) ∙ sym (under-append k (entries_in l.1) (entries_of ls))

-- what is found by a key stands under it
pub each_under : (ls : List (List ℕ × KeyedList)) (es : List Entry) → AreAt es ls → AllByRecursion (λ (e : Entry). under e.0 (entries_of ls) ≡ Some e.1) es
each_under ls [] at = tt
each_under ls (e ∷ es) at = (sym (stanza_under e.0 ls) ∙ at.0, each_under ls es at.1)

-- under the key of each stanza stands this stanza
pub own_under : (ls : List (List ℕ × KeyedList)) → AreAt (entries_of ls) ls → AllByRecursion (λ (e : Entry). under e.0 (entries_of ls) ≡ Some e.1) (entries_of ls)
own_under ls at = each_under ls (entries_of ls) at
