-- The keys that stanzas have in a store that was built anew.
use Rattle.std.proofs.Common.{◌≡◌, ℕ, suc, ◌+◌, ◌<◌, ◌≤◌, Bool, true, false, cond, nat_eq, List, [], ◌∷◌, ◌++◌, map, Option, None, Some, is_some, refl, ap, sym, subst, ◌∙◌, arith}
use Rattle.std.specs.List.{AllByRecursion}
use Rattle.std.specs.Map.{lookup}
use Rattle.std.specs.Option.{option_or}
use Rattle.std.specs.Ordering.{nat_cmp, ordering_then}
use Rattle.std.specs.declared.cmp.Ordering.{Ordering}
use Rattle.std.specs.declared.cmp.Ordering.TheVariants.{Less, Equal, Greater}
use Rattle.std.proofs.lemmas.Bool.Decides.{nat_tests}
use Rattle.ctl_stanza.specs.Content.{Content}
use Rattle.ctl_store.specs.declared.stanza_key.StanzaKey.{StanzaKey}
use Rattle.ctl_store.specs.Slots.{slots_from}
use Rattle.ctl_store.specs.Keys.{KeyedList, stanzas_of, stanza_lists, list_of_stanzas, key_of, keys_of, key_cmp, all_keys, AreRising, in_slots, stanza_at, holder_of}
use Rattle.ctl_store.specs.Entries.{Entry, slots_under, entries_in, entries_of}
use Rattle.ctl_policy.specs.Rows.{Lists}
use Rattle.ctl_query.specs.Anew.{lists_anew}

eq_is : (a b : ℕ) → a ≡ b → nat_eq a b ≡ true
eq_is a b e = grind (arith, nat_tests)

lt_ne : (a b : ℕ) → a < b → nat_eq a b ≡ false
lt_ne a b l = grind (arith, nat_tests)

-- ---- the place of a serial

-- the place of a serial among rows; behind all where it isn't there
abbrev pub place_in : ℕ → List (ℕ × Content) → ℕ
place_in serial [] = 0
place_in serial (row ∷ rows) = cond (nat_eq row.0 serial) 0 (suc (place_in serial rows))

-- at its place stands the stanza of a serial
pub found_at_place : (serial from at : ℕ) (rows : List (ℕ × Content)) → at ≡ from + place_in serial rows →
    lookup (λ s. nat_eq s at) (slots_from from (stanzas_of rows)) ≡ lookup (λ s. nat_eq s serial) rows
found_at_place serial from at [] is = refl
found_at_place serial from at (row ∷ rows) is = by (nat_eq row.0 serial) is (λ j. found_at_place serial (suc from) at rows j)
  where
    by : (b : Bool) → at ≡ from + cond b 0 (suc (place_in serial rows)) →
        (at ≡ suc from + place_in serial rows → lookup (λ s. nat_eq s at) (slots_from (suc from) (stanzas_of rows)) ≡ lookup (λ s. nat_eq s serial) rows) →
        cond (nat_eq from at) (Some row.1) (lookup (λ s. nat_eq s at) (slots_from (suc from) (stanzas_of rows))) ≡ cond b (Some row.1) (lookup (λ s. nat_eq s serial) rows)
    by true e rest = ap (λ t. cond t (Some row.1) (lookup (λ s. nat_eq s at) (slots_from (suc from) (stanzas_of rows)))) (eq_is from at (omega (arith, e)))
    by false e rest = ap (λ t. cond t (Some row.1) (lookup (λ s. nat_eq s at) (slots_from (suc from) (stanzas_of rows)))) (lt_ne from at (omega (arith, e))) ∙ rest (omega (arith, e))

-- ---- keys

-- the key that the stanza of a key has where the lists are added anew; another key has one of no list
abbrev pub moved_in : ℕ → KeyedList → (StanzaKey → StanzaKey) → StanzaKey → StanzaKey
moved_in n l others key = cond (is_some (in_slots key l)) (key_of n (place_in key.stanza l.slots)) (others key)

abbrev pub moved : ℕ → Lists → StanzaKey → StanzaKey
moved n [] = λ (key : StanzaKey). key_of n 0
moved n (l ∷ ls) = moved_in n l.1 (moved (suc n) ls)

pub moved_above : (n : ℕ) (ls : Lists) (key : StanzaKey) → n ≤ (moved n ls key).list
moved_above n [] key = omega arith
moved_above n (l ∷ ls) key = by (is_some (in_slots key l.1)) (moved_above (suc n) ls key)
  where
    by : (b : Bool) → suc n ≤ (moved (suc n) ls key).list → n ≤ (cond b (key_of n (place_in key.stanza l.1.slots)) (moved (suc n) ls key)).list
    by true h = omega arith
    by false h = omega (arith, h)

-- a list under its new serial
abbrev anew : ℕ → KeyedList → KeyedList
anew n l = list_of_stanzas n l.kind l.class (stanzas_of l.slots)

-- a key of a later list is none of this one
other_list : (n : ℕ) (l : KeyedList) (key : StanzaKey) → n < key.list → in_slots key (anew n l) ≡ None
other_list n l key below = ap (λ b. cond b (lookup (λ s. nat_eq s key.stanza) (slots_from 0 (stanzas_of l.slots))) None) (lt_ne n key.list below)

own_serial : (l : KeyedList) (key : StanzaKey) (b : Bool) → nat_eq l.serial key.list ≡ b → is_some (in_slots key l) ≡ true → lookup (λ s. nat_eq s key.stanza) l.slots ≡ in_slots key l
own_serial l key true e there = sym (ap (λ b. cond b (lookup (λ s. nat_eq s key.stanza) l.slots) None) e)
own_serial l key false e there = let none : in_slots key l ≡ None = ap (λ b. cond b (lookup (λ s. nat_eq s key.stanza) l.slots) None) e in let bad : true ≡ false = sym there ∙ ap is_some none in absurd (cc bad)

own_list : (n : ℕ) (l : KeyedList) (key : StanzaKey) → is_some (in_slots key l) ≡ true → in_slots (key_of n (place_in key.stanza l.slots)) (anew n l) ≡ in_slots key l
own_list n l key there =
    ap (λ b. cond b (lookup (λ s. nat_eq s (place_in key.stanza l.slots)) (slots_from 0 (stanzas_of l.slots))) None) (eq_is n n refl)
    ∙ found_at_place key.stanza 0 (place_in key.stanza l.slots) l.slots (omega arith)
    ∙ own_serial l key (nat_eq l.serial key.list) refl there

module _ {A : Type 0} where
  -- what is told by cases on whether a list holds a key
  some_first : (o p : Option A) → is_some o ≡ true → option_or o p ≡ o
  some_first (Some x) p e = refl
  some_first None p e = absurd (cc e)

  none_first : (o p : Option A) → is_some o ≡ false → option_or o p ≡ p
  none_first None p e = refl
  none_first (Some x) p e = absurd (cc e)

-- under its new key stands the stanza of a key
pub stanza_moved : (n : ℕ) (ls : Lists) (key : StanzaKey) → stanza_at (moved n ls key) (lists_anew n (stanza_lists ls)) ≡ stanza_at key ls
stanza_moved n [] key = refl
stanza_moved n (l ∷ ls) key = by (is_some (in_slots key l.1)) refl (stanza_moved (suc n) ls key)
  where
    by : (b : Bool) → is_some (in_slots key l.1) ≡ b → stanza_at (moved (suc n) ls key) (lists_anew (suc n) (stanza_lists ls)) ≡ stanza_at key ls →
        option_or (in_slots (cond b (key_of n (place_in key.stanza l.1.slots)) (moved (suc n) ls key)) (anew n l.1)) (stanza_at (cond b (key_of n (place_in key.stanza l.1.slots)) (moved (suc n) ls key)) (lists_anew (suc n) (stanza_lists ls)))
        ≡ option_or (in_slots key l.1) (stanza_at key ls)
    by true e rest =
        let new = key_of n (place_in key.stanza l.1.slots) in
        ap (λ o. option_or o (stanza_at new (lists_anew (suc n) (stanza_lists ls)))) (own_list n l.1 key e)
        ∙ some_first (in_slots key l.1) (stanza_at new (lists_anew (suc n) (stanza_lists ls))) e ∙ sym (some_first (in_slots key l.1) (stanza_at key ls) e)
    by false e rest =
        let new = moved (suc n) ls key in
        ap (λ o. option_or o (stanza_at new (lists_anew (suc n) (stanza_lists ls)))) (other_list n l.1 new (omega (arith, moved_above (suc n) ls key)))
        ∙ rest ∙ sym (none_first (in_slots key l.1) (stanza_at key ls) e)

-- and it is of the same list
pub holder_moved : (n : ℕ) (ls : Lists) (key : StanzaKey) → holder_of (moved n ls key) (lists_anew n (stanza_lists ls)) ≡ holder_of key ls
holder_moved n [] key = refl
holder_moved n (l ∷ ls) key = by (is_some (in_slots key l.1)) refl (holder_moved (suc n) ls key)
  where
    by : (b : Bool) → is_some (in_slots key l.1) ≡ b → holder_of (moved (suc n) ls key) (lists_anew (suc n) (stanza_lists ls)) ≡ holder_of key ls →
        cond (is_some (in_slots (cond b (key_of n (place_in key.stanza l.1.slots)) (moved (suc n) ls key)) (anew n l.1))) (Some l.0) (holder_of (cond b (key_of n (place_in key.stanza l.1.slots)) (moved (suc n) ls key)) (lists_anew (suc n) (stanza_lists ls)))
        ≡ cond (is_some (in_slots key l.1)) (Some l.0) (holder_of key ls)
    by true e rest =
        ap (λ c. cond c (Some l.0) (holder_of (key_of n (place_in key.stanza l.1.slots)) (lists_anew (suc n) (stanza_lists ls)))) (ap is_some (own_list n l.1 key e) ∙ e)
        ∙ sym (ap (λ c. cond c (Some l.0) (holder_of key ls)) e)
    by false e rest =
        let new = moved (suc n) ls key in
        ap (λ o. cond (is_some o) (Some l.0) (holder_of new (lists_anew (suc n) (stanza_lists ls)))) (other_list n l.1 new (omega (arith, moved_above (suc n) ls key)))
        ∙ rest ∙ sym (ap (λ c. cond c (Some l.0) (holder_of key ls)) e)

-- the lists are the same but for the serials
pub lists_are_same : (n : ℕ) (ls : Lists) → stanza_lists (lists_anew n (stanza_lists ls)) ≡ stanza_lists ls
lists_are_same n [] = refl
lists_are_same n (l ∷ ls) = λ i. (l.0, record { kind = l.1.kind; class = l.1.class; stanzas = stanzas_back 0 (stanzas_of l.1.slots) i }) ∷ lists_are_same (suc n) ls i
  where
    stanzas_back : (m : ℕ) (xs : List Content) → stanzas_of (slots_from m xs) ≡ xs
    stanzas_back m [] = refl
    stanzas_back m (x ∷ xs) = ap (λ ys. x ∷ ys) (stanzas_back (suc m) xs)

-- ---- entries

-- an entry under another key
abbrev pub entry_moved : (StanzaKey → StanzaKey) → Entry → Entry
entry_moved f e = (f e.0, e.1)

module _ (f : StanzaKey → StanzaKey) (serial n : ℕ) where
  -- the keys of rows move to their places from m on
  abbrev Counts : ℕ → List (ℕ × Content) → Type 0
  Counts m [] = Unit {0}
  Counts m (row ∷ rows) = (f (key_of serial row.0) ≡ key_of n m) × Counts (suc m) rows

  rows_moved : (m : ℕ) (rows : List (ℕ × Content)) → Counts m rows → slots_under n (slots_from m (stanzas_of rows)) ≡ map (entry_moved f) (slots_under serial rows)
  rows_moved m [] h = refl
  rows_moved m (row ∷ rows) h = λ i. (sym h.0 i, row.1) ∷ rows_moved (suc m) rows h.1 i

-- the serials of rows rise, and so each is found at its place
abbrev IsBelow : ℕ → List (ℕ × Content) → Type 0
IsBelow serial rows = AllByRecursion (λ (row : ℕ × Content). serial < row.0) rows

abbrev SerialsRise : List (ℕ × Content) → Type 0
SerialsRise [] = Unit {0}
SerialsRise (row ∷ rows) = IsBelow row.0 rows × SerialsRise rows

-- the rows from m on have their places
abbrev Placed : List (ℕ × Content) → ℕ → List (ℕ × Content) → Type 0
Placed all m [] = Unit {0}
Placed all m (row ∷ rows) = (place_in row.0 all ≡ m) × (is_some (lookup (λ s. nat_eq s row.0) all) ≡ true) × Placed all (suc m) rows

one_behind : (first : ℕ × Content) (all : List (ℕ × Content)) (m : ℕ) (rows : List (ℕ × Content)) → IsBelow first.0 rows → Placed all m rows → Placed (first ∷ all) (suc m) rows
one_behind first all m [] below h = tt
one_behind first all m (row ∷ rows) below h =
    let other = lt_ne first.0 row.0 below.0 in (
      ap (λ b. cond b 0 (suc (place_in row.0 all))) other ∙ ap (λ k. suc k) h.0,
      ap (λ b. is_some (cond b (Some first.1) (lookup (λ s. nat_eq s row.0) all))) other ∙ h.1,
      one_behind first all (suc m) rows below.1 h.2,
    )

placed : (rows : List (ℕ × Content)) → SerialsRise rows → Placed rows 0 rows
placed [] h = tt
placed (row ∷ rows) h = (
  ap (λ b. cond b 0 (suc (place_in row.0 rows))) (eq_is row.0 row.0 refl),
  ap (λ b. is_some (cond b (Some row.1) (lookup (λ s. nat_eq s row.0) rows))) (eq_is row.0 row.0 refl),
  one_behind row rows 0 rows h.0 (placed rows h.1),
)

counted : (n : ℕ) (l : KeyedList) (others : StanzaKey → StanzaKey) (m : ℕ) (rows : List (ℕ × Content)) → Placed l.slots m rows → Counts (moved_in n l others) l.serial n m rows
counted n l others m [] h = tt
counted n l others m (row ∷ rows) h =
    let key = key_of l.serial row.0 in
    let there : is_some (in_slots key l) ≡ true = ap (λ b. is_some (cond b (lookup (λ s. nat_eq s row.0) l.slots) None)) (eq_is l.serial l.serial refl) ∙ h.1 in (
      ap (λ b. cond b (key_of n (place_in row.0 l.slots)) (others key)) there ∙ ap (λ k. key_of n k) h.0,
      counted n l others (suc m) rows h.2,
    )

-- ---- keys that rise

abbrev IsUnder : StanzaKey → List StanzaKey → Type 0
IsUnder key keys = AllByRecursion (λ q. key_cmp key q ≡ Less) keys

then_less : (first second : Ordering) → first ≡ Equal → ordering_then first second ≡ Less → second ≡ Less
then_less Less second e h = absurd (cc e)
then_less Equal second e h = h
then_less Greater second e h = absurd (cc e)

same_list : (a b : ℕ) → a ≡ b → nat_cmp a b ≡ Equal
same_list a b e = grind (arith, nat_tests)

less_than : (a b : ℕ) → nat_cmp a b ≡ Less → a < b
less_than a b h = grind (arith, nat_tests)

true_is : (a b : ℕ) → nat_eq a b ≡ true → a ≡ b
true_is a b e = grind (arith, nat_tests)

serial_less : (list a b : ℕ) → key_cmp (key_of list a) (key_of list b) ≡ Less → a < b
serial_less list a b h = less_than a b (then_less (nat_cmp list list) (nat_cmp a b) (same_list list list refl) h)

under_rows : (serial a : ℕ) (rows : List (ℕ × Content)) (keys : List StanzaKey) → IsUnder (key_of serial a) (map (λ (row : ℕ × Content). key_of serial row.0) rows ++ keys) → IsBelow a rows
under_rows serial a [] keys h = tt
under_rows serial a (row ∷ rows) keys h = (serial_less serial a row.0 h.0, under_rows serial a rows keys h.1)

under_behind : (key : StanzaKey) (xs ys : List StanzaKey) → IsUnder key (xs ++ ys) → IsUnder key ys
under_behind key [] ys h = h
under_behind key (x ∷ xs) ys h = under_behind key xs ys h.1

rise_rows : (serial : ℕ) (rows : List (ℕ × Content)) (keys : List StanzaKey) → AreRising (map (λ (row : ℕ × Content). key_of serial row.0) rows ++ keys) → SerialsRise rows
rise_rows serial [] keys h = tt
rise_rows serial (row ∷ rows) keys h = (under_rows serial row.0 rows keys h.0, rise_rows serial rows keys h.1)

rise_behind : (xs ys : List StanzaKey) → AreRising (xs ++ ys) → AreRising ys
rise_behind [] ys h = h
rise_behind (x ∷ xs) ys h = rise_behind xs ys h.1

-- no key of a list is among those behind it
key_not : (list a : ℕ) (key : StanzaKey) → key_cmp (key_of list a) key ≡ Less → nat_eq list key.list ≡ true → nat_eq a key.stanza ≡ false
key_not list a key h e = lt_ne a key.stanza (less_than a key.stanza (then_less (nat_cmp list key.list) (nat_cmp a key.stanza) (same_list list key.list (true_is list key.list e)) h))

not_there : (serial : ℕ) (rows : List (ℕ × Content)) (key : StanzaKey) → nat_eq serial key.list ≡ true → AllByRecursion (λ (row : ℕ × Content). key_cmp (key_of serial row.0) key ≡ Less) rows → lookup (λ s. nat_eq s key.stanza) rows ≡ None
not_there serial [] key e h = refl
not_there serial (row ∷ rows) key e h = ap (λ b. cond b (Some row.1) (lookup (λ s. nat_eq s key.stanza) rows)) (key_not serial row.0 key h.0 e) ∙ not_there serial rows key e h.1

not_in : (l : KeyedList) (key : StanzaKey) (b : Bool) → nat_eq l.serial key.list ≡ b → AllByRecursion (λ (row : ℕ × Content). key_cmp (key_of l.serial row.0) key ≡ Less) l.slots → in_slots key l ≡ None
not_in l key true e h = ap (λ b. cond b (lookup (λ s. nat_eq s key.stanza) l.slots) None) e ∙ not_there l.serial l.slots key e h
not_in l key false e h = ap (λ b. cond b (lookup (λ s. nat_eq s key.stanza) l.slots) None) e

-- each of some keys is above all keys of rows
abbrev AreAbove : ℕ → List (ℕ × Content) → List StanzaKey → Type 0
AreAbove serial rows keys = AllByRecursion (λ key. AllByRecursion (λ (row : ℕ × Content). key_cmp (key_of serial row.0) key ≡ Less) rows) keys

above_none : (serial : ℕ) (keys : List StanzaKey) → AreAbove serial [] keys
above_none serial [] = tt
above_none serial (key ∷ keys) = (tt, above_none serial keys)

above_one : (serial : ℕ) (row : ℕ × Content) (rows : List (ℕ × Content)) (keys : List StanzaKey) → IsUnder (key_of serial row.0) keys → AreAbove serial rows keys → AreAbove serial (row ∷ rows) keys
above_one serial row rows [] h g = tt
above_one serial row rows (key ∷ keys) h g = ((h.0, g.0), above_one serial row rows keys h.1 g.1)

all_above : (serial : ℕ) (rows : List (ℕ × Content)) (keys : List StanzaKey) → AreRising (map (λ (row : ℕ × Content). key_of serial row.0) rows ++ keys) → AreAbove serial rows keys
all_above serial [] keys h = above_none serial keys
all_above serial (row ∷ rows) keys h =
    above_one serial row rows keys (under_behind (key_of serial row.0) (map (λ (row : ℕ × Content). key_of serial row.0) rows) keys h.0) (all_above serial rows keys h.1)

entry_keys_are : (ls : Lists) → map (λ (e : Entry). e.0) (entries_of ls) ≡ all_keys ls
entry_keys_are [] = refl
entry_keys_are (l ∷ ls) = both (entries_in l.1) (entries_of ls) ∙ (λ i. rows_keys l.1.serial l.1.slots i ++ entry_keys_are ls i)
  where
    both : (xs ys : List Entry) → map (λ (e : Entry). e.0) (xs ++ ys) ≡ map (λ (e : Entry). e.0) xs ++ map (λ (e : Entry). e.0) ys
    both [] ys = refl
    both (x ∷ xs) ys = ap (λ ks. x.0 ∷ ks) (both xs ys)

    rows_keys : (serial : ℕ) (rows : List (ℕ × Content)) → map (λ (e : Entry). e.0) (slots_under serial rows) ≡ map (λ (row : ℕ × Content). key_of serial row.0) rows
    rows_keys serial [] = refl
    rows_keys serial (row ∷ rows) = ap (λ ks. key_of serial row.0 ∷ ks) (rows_keys serial rows)

map_append : (f : Entry → Entry) (xs ys : List Entry) → map f (xs ++ ys) ≡ map f xs ++ map f ys
map_append f [] ys = refl
map_append f (x ∷ xs) ys = ap (λ l. f x ∷ l) (map_append f xs ys)

-- entries of later lists move as those lists say
later_moved : (n : ℕ) (l : KeyedList) (others : StanzaKey → StanzaKey) (es : List Entry) → AreAbove l.serial l.slots (map (λ (e : Entry). e.0) es) → map (entry_moved others) es ≡ map (entry_moved (moved_in n l others)) es
later_moved n l others [] h = refl
later_moved n l others (e ∷ es) h =
    let none : is_some (in_slots e.0 l) ≡ false = ap is_some (not_in l e.0 (nat_eq l.serial e.0.list) refl h.0) in
    λ i. (sym (ap (λ b. cond b (key_of n (place_in e.0.stanza l.slots)) (others e.0)) none) i, e.1) ∷ later_moved n l others es h.1 i

-- the stanzas stand in the same order under their new keys
pub entries_moved : (n : ℕ) (ls : Lists) → AreRising (all_keys ls) → entries_of (lists_anew n (stanza_lists ls)) ≡ map (entry_moved (moved n ls)) (entries_of ls)
entries_moved n [] h = refl
entries_moved n (l ∷ ls) h =
    let first = rows_moved (moved n (l ∷ ls)) l.1.serial n 0 l.1.slots (counted n l.1 (moved (suc n) ls) 0 l.1.slots (placed l.1.slots (rise_rows l.1.serial l.1.slots (all_keys ls) h))) in
    let rest = entries_moved (suc n) ls (rise_behind (keys_of l.1) (all_keys ls) h) in
    let later = later_moved n l.1 (moved (suc n) ls) (entries_of ls) (subst (AreAbove l.1.serial l.1.slots) (sym (entry_keys_are ls)) (all_above l.1.serial l.1.slots (all_keys ls) h)) in
    (λ i. first i ++ (rest ∙ later) i) ∙ sym (map_append (entry_moved (moved n (l ∷ ls))) (entries_in l.1) (entries_of ls))
