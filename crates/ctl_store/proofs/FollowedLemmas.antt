-- Under each key that comes a stanza comes.
use Rattle.std.proofs.Common.{◌≡◌, ℕ, suc, ◌+◌, List, [], ◌∷◌, map, IsSome, refl, ap, sym, subst, ◌∙◌, arith, zero, Bool, true, false, cond, nat_eq, ◌&&◌, ◌||◌, ◌++◌, Option, Some, None, ◌<◌, ◌≤◌, nat_lt}
use Rattle.std.specs.List.{AllByRecursion, slice_get, list_any}
use Rattle.ctl_stanza.specs.Content.{Content, package_of, version_of}
use Rattle.ctl_store.specs.declared.stanza_key.StanzaKey.{StanzaKey}
use Rattle.ctl_store.specs.Edits.{Edit, AddList, DropList, Put, Remove}
use Rattle.ctl_store.specs.Slots.{slots_from, Rises}
use Rattle.ctl_store.specs.Keys.{Keyed, key_of, added_of, AreComing, KeyedList, key_cmp, key_is, put_key, all_keys, AreRising, stanza_at, coming, found_key, put_keyed, remove_keyed, list_of_stanzas, keyed_after, removed_of}
use Rattle.std.specs.Map.{lookup}
use Rattle.std.specs.Option.{option_or, option_map_or}
use Rattle.std.specs.declared.cmp.Ordering.TheVariants.{Less}
use Rattle.std.proofs.lemmas.Bool.{or_left, or_right, and_from, and_parts, ltb-true}
use Rattle.std.proofs.lemmas.Bool.Decides.{nat_tests}
use Rattle.std.proofs.lemmas.List.Sums.{sum_by-append}
use Rattle.ctl_store.specs.Named.{at_name, without_name, change_named}
use Rattle.ctl_store.specs.Entries.{Entry, slots_under, entries_in, entries_of, entry_keys, AreAt, is_among, without_keys, entries_by, entries_coming, IsChange}
use Rattle.ctl_store.specs.Followed.{under, AreApart, AreDistinctKeys, coming_under, shown_under, IsFollowed}
use Rattle.ctl_store.specs.Inside.Sound.{coming_among, InOrder}
use Rattle.ctl_store.proofs.PlaceLemmas.{is_eq_from, gt_ne, all_map, all_zip, all_append, all_front, all_back, turned}
use Rattle.ctl_store.proofs.EntryLemmas.{keys_are_all, less_is_no_other, order_after}
use Rattle.ctl_store.proofs.ChangeLemmas.{is_itself, ends}
use Rattle.ctl_store.specs.Given.{was_given, is_given, AreFirstGiven, IsGivenOnce}
use Rattle.ctl_store.proofs.KeyLemmas.{none_later}
use Rattle.ctl_ordered.proofs.SlotLemmas.{rises_end}

each_there : (list n : ℕ) (all xs : List Content) → ((k : ℕ) → slice_get all (n + k) ≡ slice_get xs k) → AllByRecursion (λ (k : StanzaKey). IsSome (slice_get all k.stanza)) (map (λ (slot : ℕ × Content). key_of list slot.0) (slots_from n xs))
each_there list n all [] h = tt
each_there list n all (x ∷ xs) h = (
  subst IsSome (sym (ap (slice_get all) (let z : n ≡ n + 0 = omega arith in z) ∙ h 0)) refl,
  each_there list (suc n) all xs (λ k. ap (slice_get all) (let z : suc n + k ≡ n + suc k = omega arith in z) ∙ h (suc k)),
)

all_come : (x : Content) (list : List ℕ) (ks : List StanzaKey) → AreComing ks (Put list x)
all_come x list [] = tt
all_come x list (k ∷ ks) = (refl, all_come x list ks)

pub added_come : (s : Keyed) (edit : Edit) → AreComing (added_of s edit) edit
added_come s (AddList name kind class stanzas) = each_there s.next_list 0 stanzas stanzas (λ k. ap (slice_get stanzas) (let z : 0 + k ≡ k = omega arith in z))
added_come s (Put list x) = all_come x list (added_of s (Put list x))
added_come s edit = tt

-- ---- an edit that is followed key by key ends in the stanzas after it

key_is-turned : (a b : StanzaKey) → key_is a b ≡ key_is b a
key_is-turned a b = λ i. turned b.list a.list i && turned b.stanza a.stanza i

-- ---- the stanza under a key

pub under-append : (k : StanzaKey) (xs ys : List Entry) → under k (xs ++ ys) ≡ option_or (under k xs) (under k ys)
under-append k [] ys = refl
under-append k (x ∷ xs) ys = grind (arith, under-append k xs ys)

in_list : (k : StanzaKey) (serial : ℕ) (slots : List (ℕ × Content)) → under k (slots_under serial slots) ≡ cond (nat_eq serial k.list) (lookup (λ s. nat_eq s k.stanza) slots) None
in_list k serial [] = grind arith
in_list k serial (slot ∷ slots) = grind (arith, in_list k serial slots)

-- the stanza of a key is the one under it
pub stanza_under : (k : StanzaKey) (ls : List (List ℕ × KeyedList)) → stanza_at k ls ≡ under k (entries_of ls)
stanza_under k [] = refl
stanza_under k (l ∷ ls) = (λ i. option_or (sym (in_list k l.1.serial l.1.slots) i) (stanza_under k ls i)) ∙ sym (under-append k (entries_in l.1) (entries_of ls))

own_under : (es : List Entry) → AreApart es → AllByRecursion (λ (e : Entry). under e.0 es ≡ Some e.1) es
own_under [] h = tt
own_under (e ∷ es) h = (
  ap (λ b. cond b (Some e.1) (under e.0 es)) (is_itself e.0),
  all_zip (λ d apart is. ap (λ b. cond b (Some e.1) (under d.0 es)) (key_is-turned d.0 e.0 ∙ apart) ∙ is) es h.0 (own_under es h.1),
)

-- ---- keys that rise stand apart

apart_of_keys : (es : List Entry) → AreRising (entry_keys es) → AreApart es
apart_of_keys [] h = tt
apart_of_keys (e ∷ es) h = (go es h.0, apart_of_keys es h.1)
  where
    go : (ds : List Entry) → AllByRecursion (λ q. key_cmp e.0 q ≡ Less) (entry_keys ds) → AllByRecursion (λ (d : Entry). key_is e.0 d.0 ≡ false) ds
    go [] p = tt
    go (d ∷ ds) p = (less_is_no_other e.0.list d.0.list e.0.stanza d.0.stanza p.0, go ds p.1)

rising_apart : (ls : List (List ℕ × KeyedList)) → AreRising (all_keys ls) → AreApart (entries_of ls)
rising_apart ls h = apart_of_keys (entries_of ls) (subst AreRising (sym (keys_are_all ls)) h)

apart_front : (xs ys : List Entry) → AreApart (xs ++ ys) → AreApart xs
apart_front [] ys h = tt
apart_front (x ∷ xs) ys h = (all_front (λ (d : Entry). key_is x.0 d.0 ≡ false) xs ys h.0, apart_front xs ys h.1)

apart_back : (xs ys : List Entry) → AreApart (xs ++ ys) → AreApart ys
apart_back [] ys h = h
apart_back (x ∷ xs) ys h = apart_back xs ys h.1

apart_join : (xs ys : List Entry) → AreApart xs → AreApart ys → AllByRecursion (λ (e : Entry). AllByRecursion (λ (d : Entry). key_is e.0 d.0 ≡ false) ys) xs → AreApart (xs ++ ys)
apart_join [] ys p q r = q
apart_join (x ∷ xs) ys p q r = (all_append (λ (d : Entry). key_is x.0 d.0 ≡ false) xs ys p.0 r.0, apart_join xs ys p.1 q r.1)

keys_all : (P : StanzaKey → Type 0) (xs : List Entry) → AllByRecursion (λ (e : Entry). P e.0) xs → AllByRecursion P (entry_keys xs)
keys_all P [] h = tt
keys_all P (x ∷ xs) h = (h.0, keys_all P xs h.1)

distinct_keys : (xs : List Entry) → AreApart xs → AreDistinctKeys (entry_keys xs)
distinct_keys [] h = tt
distinct_keys (x ∷ xs) h = (keys_all (λ q. key_is x.0 q ≡ false) xs h.0, distinct_keys xs h.1)

-- ---- without some keys

all_kept : (P : Entry → Type 0) (ks : List StanzaKey) (es : List Entry) → AllByRecursion P es → AllByRecursion P (without_keys ks es)
all_kept P ks [] h = tt
all_kept P ks (e ∷ es) h = grind (arith, all_kept P ks es h.1)

apart_without : (ks : List StanzaKey) (es : List Entry) → AreApart es → AreApart (without_keys ks es)
apart_without ks [] h = tt
apart_without ks (e ∷ es) h = grind (arith, all_kept, apart_without ks es h.1)

-- those that stay are of none of the keys
none_among : (ks : List StanzaKey) (es : List Entry) → AllByRecursion (λ (e : Entry). is_among ks e ≡ false) (without_keys ks es)
none_among ks [] = tt
none_among ks (e ∷ es) = grind (arith, none_among ks es)

-- what is under a key without some keys
under-without : (k : StanzaKey) (ks : List StanzaKey) (es : List Entry) → under k (without_keys ks es) ≡ cond (list_any (key_is k) ks) None (under k es)
under-without k ks [] = grind arith
under-without k ks (e ∷ es) = grind (arith, under-without k ks es)

module _ (k : StanzaKey) where
  -- what is under a key in a part that has the key
  found_part : (es part : List Entry) → AllByRecursion (λ (e : Entry). under e.0 es ≡ Some e.1) part → list_any (key_is k) (entry_keys part) ≡ true → under k part ≡ under k es
  found_part es [] own h = absurd (let z : ⊥ = cc in z)
  found_part es (e ∷ part) own h = grind (arith, found_part es part own.1)

  none_part : (part : List Entry) → list_any (key_is k) (entry_keys part) ≡ false → under k part ≡ None
  none_part [] h = refl
  none_part (e ∷ part) h = grind (arith, none_part part)

  apart_part : (part : List Entry) → list_any (key_is k) (entry_keys part) ≡ false → AllByRecursion (λ (d : Entry). key_is k d.0 ≡ false) part
  apart_part [] h = tt
  apart_part (e ∷ part) h = grind (arith, apart_part part)

  -- one or both
  joined : (o p : Option Content) (b : Bool) → (b ≡ true → p ≡ o) → (b ≡ false → p ≡ None) → option_or (cond b None o) p ≡ o
  joined o p b f g = grind arith

own_among : (ks : List StanzaKey) → AllByRecursion (λ k. list_any (key_is k) ks ≡ true) ks
own_among [] = tt
own_among (k ∷ ks) = (
  or_left (key_is k k) (list_any (key_is k) ks) (is_itself k),
  all_map (λ q h. or_right (key_is q k) (list_any (key_is q) ks) h) ks (own_among ks),
)

found_by : (find : StanzaKey → Option Content) (P : StanzaKey → Type 0) (ks : List StanzaKey) → AllByRecursion P ks → AllByRecursion (λ (e : Entry). P e.0 × (find e.0 ≡ Some e.1)) (entries_by find ks)
found_by find P [] h = tt
found_by find P (k ∷ ks) h = grind (arith, found_by find P ks h.1)

-- ---- what comes under a key, by the first key that comes

module _ (k : StanzaKey) where
  abbrev Comes : Edit → List StanzaKey → Type 0
  Comes edit added = coming_among edit added k ≡ coming_under added edit k

  abbrev new_keys : ℕ → ℕ → List Content → List StanzaKey
  new_keys serial n xs = map (λ (slot : ℕ × Content). key_of serial slot.0) (slots_from n xs)

  no_list : (serial n : ℕ) (xs : List Content) → nat_eq serial k.list ≡ false → list_any (key_is k) (new_keys serial n xs) ≡ false
  no_list serial n [] h = refl
  no_list serial n (x ∷ xs) h = ap (λ b. (b && nat_eq n k.stanza) || list_any (key_is k) (new_keys serial (suc n) xs)) h ∙ no_list serial (suc n) xs h

  in_new : (serial n m : ℕ) (xs : List Content) → nat_eq serial k.list ≡ true → k.stanza ≡ n + m → slice_get xs m ≡ cond (list_any (key_is k) (new_keys serial n xs)) (slice_get xs m) None
  in_new serial n m [] h at = refl
  in_new serial n zero (x ∷ xs) h at = grind arith
  in_new serial n (suc m) (x ∷ xs) h at = grind (arith, in_new serial (suc n) m xs h (omega (arith, at)))

  add_comes : (serial : ℕ) (xs : List Content) → cond (nat_eq serial k.list) (slice_get xs k.stanza) None ≡ cond (list_any (key_is k) (new_keys serial 0 xs)) (slice_get xs k.stanza) None
  add_comes serial xs = grind (arith, in_new, no_list)

  put_comes : (list : List ℕ) (x : Content) (o : Option KeyedList) → Comes (Put list x) (option_map_or (put_key x) o [])
  put_comes list x o = grind arith

  pub comes_among : (s : Keyed) (edit : Edit) → coming_among edit (added_of s edit) k ≡ coming_under (added_of s edit) edit k
  comes_among s (AddList name kind class (x ∷ xs)) = add_comes s.next_list (x ∷ xs)
  comes_among s (Put list x) = put_comes list x (at_name list s.lists)
  comes_among s edit = refl

-- ---- the law

module _ (before after : List (List ℕ × KeyedList)) (removed added : List StanzaKey) (edit : Edit) (rising : AreRising (all_keys before)) (found : AreAt (entries_of before) before) (change : IsChange before after removed added edit) where
  abbrev rest : List Entry
  rest = without_keys removed (entries_of before)

  abbrev new : List Entry
  new = entries_coming added edit

  apart_before : AreApart (entries_of before)
  apart_before = rising_apart before rising

  apart_after : AreApart (entries_of after)
  apart_after = rising_apart after change.rises

  others : AllByRecursion (λ (e : Entry). is_among added e ≡ false) rest
  others = subst (AllByRecursion (λ (e : Entry). is_among added e ≡ false)) change.mid (none_among added (entries_of after))

  apart_new : AreApart new
  apart_new = apart_front new change.entries.tail (apart_back change.entries.head (new ++ change.entries.tail) (subst AreApart change.entries.after_is apart_after))

  apart_then : AreApart (rest ++ new)
  apart_then = grind (arith, apart_join, apart_without, apart_before, apart_new, all_map, apart_part, others)

  distinct : AreDistinctKeys removed
  distinct = grind (arith, apart_back, apart_before, distinct_keys, apart_front)

  distinct_added : AreDistinctKeys added
  distinct_added = subst AreDistinctKeys change.added_keys (distinct_keys new apart_new)

  shown_rest : AllByRecursion (λ (e : Entry). shown_under before added edit e.0 ≡ Some e.1) rest
  shown_rest = grind (arith, all_zip, others, all_kept)

  shown_new : AllByRecursion (λ (e : Entry). shown_under before added edit e.0 ≡ Some e.1) new
  shown_new =
      all_map (λ e is. ap (λ b. option_or (cond b (coming edit e.0) None) (stanza_at e.0 before)) is.0 ∙ ap (λ o. option_or o (stanza_at e.0 before)) is.1) new
      (found_by (coming edit) (λ k. list_any (key_is k) added ≡ true) added (own_among added))

  own_new : AllByRecursion (λ (e : Entry). under e.0 (entries_of after) ≡ Some e.1) new
  own_new =
      let own = subst (AllByRecursion (λ (e : Entry). under e.0 (entries_of after) ≡ Some e.1)) change.entries.after_is (own_under (entries_of after) apart_after) in
      all_front (λ (e : Entry). under e.0 (entries_of after) ≡ Some e.1) new change.entries.tail (all_back (λ (e : Entry). under e.0 (entries_of after) ≡ Some e.1) change.entries.head (new ++ change.entries.tail) own)

  under_then : (k : StanzaKey) → under k (rest ++ new) ≡ under k (entries_of after)
  under_then k = grind (arith, under-append, under-without, joined, found_part, own_new, none_part)

  pub followed_law : IsFollowed before after removed added edit
  followed_law = record {
    apart = apart_before;
    found = found;
    distinct = distinct;
    distinct_added = distinct_added;
    apart_then = apart_then;
    shown = all_append (λ (e : Entry). shown_under before added edit e.0 ≡ Some e.1) rest new shown_rest shown_new;
    sums = λ f. sum_by-append f rest new ∙ sym (change.takes f);
    unders = under_then;
  }

-- ---- no key is given again

lt_is : (a b : ℕ) → a < b → nat_lt a b ≡ true
lt_is a b h = grind (arith, nat_tests, h)

and_false : (a b : Bool) → b ≡ false → (a && b) ≡ false
and_false a b h = grind arith

not_below_itself : (a : ℕ) (b : Bool) → (nat_lt a a && b) ≡ false
not_below_itself a b = grind (arith, nat_tests)

-- a change of a list that keeps its serial, and gives more keys or as many
record Grows (f : KeyedList → KeyedList) : Type 0 where
  serial : (l : KeyedList) → (f l).serial ≡ l.serial
  next : (l : KeyedList) → l.next ≤ (f l).next

Grows-put : (x : Content) → Grows (put_keyed x)
Grows-put x = grind arith

Grows-remove : (name : List ℕ) (version : Option (List ℕ)) → Grows (remove_keyed name version)
Grows-remove name version = record { serial = λ l. refl; next = λ l. omega arith }

module _ (k : StanzaKey) where
  abbrev gave : KeyedList → Bool
  gave l = cond (nat_eq l.serial k.list) (nat_lt k.stanza l.next) true

  given_push : (ls : List (List ℕ × KeyedList)) (name : List ℕ) (l : KeyedList) → was_given k ls ≡ true → gave l ≡ true → was_given k (ls ++ (name, l) ∷ []) ≡ true
  given_push [] name l h g = and_from (gave l) true g refl
  given_push (x ∷ ls) name l h g = let both = and_parts (gave x.1) (was_given k ls) h in and_from (gave x.1) (was_given k (ls ++ (name, l) ∷ [])) both.0 (given_push ls name l both.1 g)

  given_without : (name : List ℕ) (ls : List (List ℕ × KeyedList)) → was_given k ls ≡ true → was_given k (without_name name ls) ≡ true
  given_without name [] h = refl
  given_without name (x ∷ ls) h = grind (arith, given_without name ls)

  given_change : (name : List ℕ) (f : KeyedList → KeyedList) → Grows f → (ls : List (List ℕ × KeyedList)) → was_given k ls ≡ true → was_given k (change_named name f ls) ≡ true
  given_change name f g [] h = refl
  given_change name f g (x ∷ ls) h = grind (arith, given_change name f g ls)

  stays_given : (s : Keyed) (edit : Edit) → is_given s k ≡ true → is_given (keyed_after s edit) k ≡ true
  stays_given s (AddList name kind class stanzas) h =
      let both = and_parts (nat_lt k.list s.next_list) (was_given k s.lists) h in
      let below = ltb-true k.list s.next_list both.0 in
      and_from (nat_lt k.list (s.next_list + 1)) (was_given k (s.lists ++ (name, list_of_stanzas s.next_list kind class stanzas) ∷ [])) (lt_is k.list (s.next_list + 1) (omega (arith, below)))
      (given_push s.lists name (list_of_stanzas s.next_list kind class stanzas) both.1 (ap (λ b. cond b (nat_lt k.stanza (list_of_stanzas s.next_list kind class stanzas).next) true) (gt_ne s.next_list k.list below)))
  stays_given s (DropList name) h =
      let both = and_parts (nat_lt k.list s.next_list) (was_given k s.lists) h in and_from (nat_lt k.list s.next_list) (was_given k (without_name name s.lists)) both.0 (given_without name s.lists both.1)
  stays_given s (Put list x) h =
      let both = and_parts (nat_lt k.list s.next_list) (was_given k s.lists) h in and_from (nat_lt k.list s.next_list) (was_given k (change_named list (put_keyed x) s.lists)) both.0 (given_change list (put_keyed x) (Grows-put x) s.lists both.1)
  stays_given s (Remove list name version) h =
      let both = and_parts (nat_lt k.list s.next_list) (was_given k s.lists) h in and_from (nat_lt k.list s.next_list) (was_given k (change_named list (remove_keyed name (Some version)) s.lists)) both.0
      (given_change list (remove_keyed name (Some version)) (Grows-remove name (Some version)) s.lists both.1)
  stays_given s edit h = h

  -- ---- a key that has a stanza was given

  slot_below : (n : ℕ) (rs : List (ℕ × Content)) (m : ℕ) → Rises n rs m → IsSome (lookup (λ s. nat_eq s k.stanza) rs) → k.stanza < m
  slot_below n [] m h some = absurd (let z : ⊥ = cc some in z)
  slot_below n (r ∷ rs) m h some = grind (arith, is_eq_from, rises_end, slot_below (suc r.0) rs m h.1)

  -- lists with higher serials gave no other
  later_given : (n : ℕ) (ls : List (List ℕ × KeyedList)) (m e : ℕ) → k.list < n → InOrder n ls m e → was_given k ls ≡ true
  later_given n [] m e l h = refl
  later_given n (x ∷ ls) m e l h = grind (arith, later_given (suc x.1.serial) ls m e (omega (arith, l, h.0)) h.3)

  or_none : (o : Option Content) → IsSome (option_or o None) → IsSome o
  or_none o h = grind arith

  held_in : (n : ℕ) (ls : List (List ℕ × KeyedList)) (m e : ℕ) → InOrder n ls m e → IsSome (stanza_at k ls) → (k.list < m) × (was_given k ls ≡ true)
  held_in n [] m e h some = absurd (let z : ⊥ = cc some in z)
  held_in n (x ∷ ls) m e h some = grind (arith, k, is_eq_from, none_later, slot_below, or_none, ends, and_from, lt_is, later_given, held_in (suc x.1.serial) ls m e h.3)

  held_given : (s : Keyed) (e : ℕ) → InOrder 0 s.lists s.next_list e → IsSome (stanza_at k s.lists) → is_given s k ≡ true
  held_given s e order some = grind (arith, held_in, and_from, k, lt_is)

-- ---- a key that comes was not

new_in : (list : List ℕ) (l : KeyedList) (ls : List (List ℕ × KeyedList)) → at_name list ls ≡ Some l → was_given (key_of l.serial l.next) ls ≡ false
new_in list l [] at = absurd (let z : ⊥ = cc at in z)
new_in list l (x ∷ ls) at = grind (arith, new_in list l ls)

new_first : (s : Keyed) (rs : List (ℕ × Content)) → AreFirstGiven s (map (λ (slot : ℕ × Content). key_of s.next_list slot.0) rs) []
new_first s [] = tt
new_first s (r ∷ rs) = ((λ h. not_below_itself s.next_list (was_given (key_of s.next_list r.0) s.lists)), new_first s rs)

put_new : (s : Keyed) (list : List ℕ) (x : Content) (o : Option KeyedList) → at_name list s.lists ≡ o → AreFirstGiven s (option_map_or (put_key x) o []) (option_map_or (found_key (package_of x) (version_of x)) o [])
put_new s list x o at = grind (arith, and_false, new_in, is_itself, all_map)

first_law : (s : Keyed) (edit : Edit) → AreFirstGiven s (added_of s edit) (removed_of s edit)
first_law s (AddList name kind class stanzas) = new_first s (slots_from 0 stanzas)
first_law s (Put list x) = put_new s list x (at_name list s.lists) refl
first_law s edit = tt

pub given_law : (s : Keyed) (e : ℕ) → InOrder 0 s.lists s.next_list e → (edit : Edit) → IsGivenOnce s (keyed_after s edit) (removed_of s edit) (added_of s edit)
given_law s e order edit = record {
  first = first_law s edit;
  stays = λ k h. stays_given k s edit h;
  held_before = λ k some. held_given k s e order some;
  held_after = λ k some. let o = order_after s e order edit in held_given k (keyed_after s edit) o.0 o.1 some;
}
