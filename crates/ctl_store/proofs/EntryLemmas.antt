-- What an edit makes of the stanzas with their keys.
use Rattle.std.proofs.Common.{◌≡◌, ℕ, zero, suc, ◌+◌, ◌≤◌, Bool, true, false, cond, not, ◌||◌, ◌&&◌, nat_eq, List, [], ◌∷◌, ◌++◌, map, take, drop, length, Option, None, Some, option_map, refl, ap, sym, subst, ◌∙◌, arith}
use Rattle.std.specs.List.{AllByRecursion, remove, sum_by, cons_option}
use Rattle.std.specs.Option.{option_or, option_map_or}
use Rattle.std.specs.Ordering.{nat_cmp, ordering_then}
use Rattle.std.specs.Str.{bytes_eq}
use Rattle.std.specs.declared.cmp.Ordering.TheVariants.{Less}
use Rattle.std.proofs.lemmas.Bool.{or_left, or_right}
use Rattle.std.proofs.lemmas.Bool.Decides.{nat_tests}
use Rattle.std.proofs.lemmas.List.{append_assoc, append-nil, map-append}
use Rattle.std.proofs.lemmas.List.Elements.{filter-append}
use Rattle.std.proofs.lemmas.List.Sums.{sum_by-append}
use Rattle.ctl_stanza.specs.Content.{Content, package_of, version_of}
use Rattle.ctl_store.specs.declared.stanza_key.StanzaKey.{StanzaKey}
use Rattle.ctl_store.specs.Named.{at_name, without_name, change_named}
use Rattle.ctl_store.specs.Step.{place, remove_stanza, with_stanzas}
use Rattle.ctl_store.specs.Edits.{Edit, AddList, DropList, Put, Remove}
use Rattle.ctl_store.specs.Slots.{Rises, by_name_and_version, slots_from, replace_at, put_slot_at, remove_slot_at}
use Rattle.ctl_store.specs.Keys.{KeyedList, Keyed, stanzas_of, stanza_lists, key_of, keys_of, key_at, key_or_new, found_key, put_key, key_is, key_cmp, all_keys, AreRising, stanza_at, put_keyed, remove_keyed, list_of_stanzas, keyed_after, removed_of, added_of, coming, AreCome}
use Rattle.ctl_store.specs.Entries.{Entry, slots_under, entries_in, entries_of, entry_keys, AreAt, is_among, without_keys, entries_by, entries_at, entries_coming, stanzas_in_order, lists_between, IsSpliced, IsChange}
use Rattle.ctl_store.specs.Inside.Sound.{InOrder}
use Rattle.ctl_store.proofs.PlaceLemmas.{eq_is, lt_ne, Rises-slots_from, all_map, all_front, all_back, all_append}
use Rattle.ctl_store.proofs.KeyLemmas.{keys_rise}
use Rattle.ctl_store.proofs.ListedLemmas.{InOrder-weaken, in_order_push, in_order_without, in_order_change, Changes-put, Changes-remove, remove_list, change_lists, without_lists}
use Rattle.ctl_store.proofs.ChangeLemmas.{come_law, is_itself, stanza_in}

module _ {X : Type 0} where
  longer : (h g t q : List X) → (h ++ (g ++ t)) ++ q ≡ h ++ (g ++ (t ++ q))
  longer h g t q = append_assoc h (g ++ t) q ∙ ap (λ z. h ++ z) (append_assoc g t q)

-- ---- one place where entries go and come

-- the same, by the keys
record Cut (before after : List Entry) (removed added : List StanzaKey) : Type 0 where
  gone : List Entry
  come : List Entry
  spliced : IsSpliced before after gone come
  removed_are : entry_keys gone ≡ removed
  added_are : entry_keys come ≡ added

cut : {before after : List Entry} {removed added : List StanzaKey} (head gone come tail : List Entry) → before ≡ head ++ (gone ++ tail) → after ≡ head ++ (come ++ tail) → entry_keys gone ≡ removed → entry_keys come ≡ added
    → Cut before after removed added
cut head gone come tail before_is after_is removed_are added_are = record {
  gone = gone;
  come = come;
  spliced = record { head = head; tail = tail; before_is = before_is; after_is = after_is };
  removed_are = removed_are;
  added_are = added_are;
}

uncut : (es : List Entry) → Cut es es [] []
uncut es = cut [] [] [] es refl refl refl refl

after_head : (p b a : List Entry) (r k : List StanzaKey) → Cut b a r k → Cut (p ++ b) (p ++ a) r k
after_head p b a r k c =
    let s = c.spliced in
    cut (p ++ s.head) c.gone c.come s.tail (ap (λ z. p ++ z) s.before_is ∙ sym (append_assoc p s.head (c.gone ++ s.tail))) (ap (λ z. p ++ z) s.after_is ∙ sym (append_assoc p s.head (c.come ++ s.tail))) c.removed_are c.added_are

before_tail : (b a q : List Entry) (r k : List StanzaKey) → Cut b a r k → Cut (b ++ q) (a ++ q) r k
before_tail b a q r k c =
    let s = c.spliced in
    cut s.head c.gone c.come (s.tail ++ q) (ap (λ z. z ++ q) s.before_is ∙ longer s.head c.gone s.tail q) (ap (λ z. z ++ q) s.after_is ∙ longer s.head c.come s.tail q) c.removed_are c.added_are

-- ---- slots

pub keys_under : (list : ℕ) (slots : List (ℕ × Content)) → entry_keys (slots_under list slots) ≡ map (λ (slot : ℕ × Content). key_of list slot.0) slots
keys_under list [] = refl
keys_under list (r ∷ slots) = ap (λ ks. key_of list r.0 ∷ ks) (keys_under list slots)

module _ (list : ℕ) where
  abbrev keys_there : ℕ → List (ℕ × Content) → List StanzaKey
  keys_there i slots = map (λ (slot : ℕ × Content). key_of list slot.0) (take 1 (drop i slots))

  replaced : (slots : List (ℕ × Content)) (i : ℕ) (x : Content) → Cut (slots_under list slots) (slots_under list (replace_at slots i x)) (keys_there i slots) (keys_there i slots)
  replaced [] zero x = uncut []
  replaced [] (suc i) x = uncut []
  replaced (r ∷ slots) zero x = cut [] ((key_of list r.0, r.1) ∷ []) ((key_of list r.0, x) ∷ []) (slots_under list slots) refl refl refl refl
  replaced (r ∷ slots) (suc i) x = after_head ((key_of list r.0, r.1) ∷ []) (slots_under list slots) (slots_under list (replace_at slots i x)) (keys_there i slots) (keys_there i slots) (replaced slots i x)

  taken : (slots : List (ℕ × Content)) (i : ℕ) → Cut (slots_under list slots) (slots_under list (remove slots i)) (keys_there i slots) []
  taken [] zero = uncut []
  taken [] (suc i) = uncut []
  taken (r ∷ slots) zero = cut [] ((key_of list r.0, r.1) ∷ []) [] (slots_under list slots) refl refl refl refl
  taken (r ∷ slots) (suc i) = after_head ((key_of list r.0, r.1) ∷ []) (slots_under list slots) (slots_under list (remove slots i)) (keys_there i slots) [] (taken slots i)

  pushed : (slots : List (ℕ × Content)) (next : ℕ) (x : Content) → Cut (slots_under list slots) (slots_under list (slots ++ (next, x) ∷ [])) [] (key_of list next ∷ [])
  pushed slots next x =
      cut (slots_under list slots) [] ((key_of list next, x) ∷ []) [] (sym (append-nil (slots_under list slots))) (map-append (λ (slot : ℕ × Content). (key_of list slot.0, slot.1)) slots ((next, x) ∷ [])) refl refl

-- ---- lists

put_cut : (x : Content) (l : KeyedList) → Cut (entries_in l) (entries_in (put_keyed x l)) (found_key (package_of x) (version_of x) l) (put_key x l)
put_cut x l = by (place (by_name_and_version (package_of x) (version_of x)) l.slots)
  where
    by : (o : Option ℕ) → Cut (slots_under l.serial l.slots) (slots_under l.serial (put_slot_at o x l.next l.slots)) (key_at l o) (key_or_new l o)
    by None = pushed l.serial l.slots l.next x
    by (Some i) = replaced l.serial l.slots i x

remove_cut : (name : List ℕ) (version : Option (List ℕ)) (l : KeyedList) → Cut (entries_in l) (entries_in (remove_keyed name version l)) (found_key name version l) []
remove_cut name version l = by (place (by_name_and_version name version) l.slots)
  where
    by : (o : Option ℕ) → Cut (slots_under l.serial l.slots) (slots_under l.serial (remove_slot_at o l.slots)) (key_at l o) []
    by None = uncut (slots_under l.serial l.slots)
    by (Some i) = taken l.serial l.slots i

module _ (name : List ℕ) (f : KeyedList → KeyedList) (r k : KeyedList → List StanzaKey) (each : (l : KeyedList) → Cut (entries_in l) (entries_in (f l)) (r l) (k l)) where
  changed : (ls : List (List ℕ × KeyedList)) → Cut (entries_of ls) (entries_of (change_named name f ls)) (option_map_or r (at_name name ls) []) (option_map_or k (at_name name ls) [])
  changed [] = uncut []
  changed (l ∷ ls) = by (bytes_eq name l.0) (changed ls)
    where
      by : (b : Bool) → Cut (entries_of ls) (entries_of (change_named name f ls)) (option_map_or r (at_name name ls) []) (option_map_or k (at_name name ls) [])
          → Cut (entries_of (l ∷ ls)) (entries_of (cond b ((l.0, f l.1) ∷ ls) (l ∷ change_named name f ls))) (option_map_or r (cond b (Some l.1) (at_name name ls)) []) (option_map_or k (cond b (Some l.1) (at_name name ls)) [])
      by true c = before_tail (entries_in l.1) (entries_in (f l.1)) (entries_of ls) (r l.1) (k l.1) (each l.1)
      by false c = after_head (entries_in l.1) (entries_of ls) (entries_of (change_named name f ls)) (option_map_or r (at_name name ls) []) (option_map_or k (at_name name ls) []) c

abbrev no_keys : KeyedList → List StanzaKey
no_keys l = []

none_in : (o : Option KeyedList) → [] ≡ option_map_or no_keys o []
none_in o = grind arith

dropped : (name : List ℕ) (ls : List (List ℕ × KeyedList)) → Cut (entries_of ls) (entries_of (without_name name ls)) (option_map_or keys_of (at_name name ls) []) []
dropped name [] = uncut []
dropped name (l ∷ ls) = by (bytes_eq name l.0) (dropped name ls)
  where
    by : (b : Bool) → Cut (entries_of ls) (entries_of (without_name name ls)) (option_map_or keys_of (at_name name ls) []) []
        → Cut (entries_of (l ∷ ls)) (entries_of (cond b ls (l ∷ without_name name ls))) (option_map_or keys_of (cond b (Some l.1) (at_name name ls)) []) []
    by true c = cut [] (entries_in l.1) [] (entries_of ls) refl refl (keys_under l.1.serial l.1.slots) refl
    by false c = after_head (entries_in l.1) (entries_of ls) (entries_of (without_name name ls)) (option_map_or keys_of (at_name name ls) []) [] c

last_entries : (ls : List (List ℕ × KeyedList)) (name : List ℕ) (l : KeyedList) → entries_of (ls ++ (name, l) ∷ []) ≡ entries_of ls ++ (entries_in l ++ [])
last_entries [] name l = refl
last_entries (x ∷ ls) name l = ap (λ es. entries_in x.1 ++ es) (last_entries ls name l) ∙ sym (append_assoc (entries_in x.1) (entries_of ls) (entries_in l ++ []))

new_cut : (ls : List (List ℕ × KeyedList)) (name : List ℕ) (l : KeyedList) → Cut (entries_of ls) (entries_of (ls ++ (name, l) ∷ [])) [] (keys_of l)
new_cut ls name l = cut (entries_of ls) [] (entries_in l) [] (sym (append-nil (entries_of ls))) (last_entries ls name l) refl (keys_under l.serial l.slots)

-- a change that takes out a stanza of a name and a version
taken_cut : (list name : List ℕ) (version : Option (List ℕ)) (ls : List (List ℕ × KeyedList)) → Cut (entries_of ls) (entries_of (change_named list (remove_keyed name version) ls)) (option_map_or (found_key name version) (at_name list ls) []) []
taken_cut list name version ls =
    subst (λ ks. Cut (entries_of ls) (entries_of (change_named list (remove_keyed name version) ls)) (option_map_or (found_key name version) (at_name list ls) []) ks) (sym (none_in (at_name list ls)))
    (changed list (remove_keyed name version) (found_key name version) no_keys (remove_cut name version) ls)

edit_cut : (s : Keyed) (edit : Edit) → Cut (entries_of s.lists) (entries_of (keyed_after s edit).lists) (removed_of s edit) (added_of s edit)
edit_cut s (AddList name kind class stanzas) = new_cut s.lists name (list_of_stanzas s.next_list kind class stanzas)
edit_cut s (DropList name) = dropped name s.lists
edit_cut s (Put list x) = changed list (put_keyed x) (found_key (package_of x) (version_of x)) (put_key x) (put_cut x) s.lists
edit_cut s (Remove list name version) = taken_cut list name (Some version) s.lists
edit_cut s edit = uncut (entries_of s.lists)

-- ---- the entries and the keys

pub keys_are_all : (ls : List (List ℕ × KeyedList)) → entry_keys (entries_of ls) ≡ all_keys ls
keys_are_all [] = refl
keys_are_all (l ∷ ls) = map-append (λ (e : Entry). e.0) (entries_in l.1) (entries_of ls) ∙ ap (λ ks. ks ++ entry_keys (entries_of ls)) (keys_under l.1.serial l.1.slots) ∙ ap (λ ks. keys_of l.1 ++ ks) (keys_are_all ls)

-- an entry of a list, from a serial on, with the stanza of its key
record IsIn (list n : ℕ) (slots : List (ℕ × Content)) (e : Entry) : Type 0 where
  list_is : list ≡ e.0.list
  from : n ≤ e.0.stanza
  found : stanza_in e.0.stanza slots ≡ Some e.1

slots_found : (list n : ℕ) (slots : List (ℕ × Content)) (m : ℕ) → Rises n slots m → AllByRecursion (IsIn list n slots) (slots_under list slots)
slots_found list n [] m h = tt
slots_found list n (r ∷ slots) m h = (
  record { list_is = refl; from = h.0; found = ap (λ b. cond b (Some r.1) (stanza_in r.0 slots)) (eq_is r.0 r.0 refl) },
  all_map (λ e g. record { list_is = g.list_is; from = omega (arith, h.0, g.from); found = ap (λ b. cond b (Some r.1) (stanza_in e.0.stanza slots)) (lt_ne r.0 e.0.stanza (omega (arith, g.from))) ∙ g.found }) (slots_under list slots) (slots_found list (suc r.0) slots m h.1),
)

record IsFound (n : ℕ) (ls : List (List ℕ × KeyedList)) (e : Entry) : Type 0 where
  from : n ≤ e.0.list
  found : stanza_at e.0 ls ≡ Some e.1

all_found : (n : ℕ) (ls : List (List ℕ × KeyedList)) (m e : ℕ) → InOrder n ls m e → AllByRecursion (IsFound n ls) (entries_of ls)
all_found n [] m e h = tt
all_found n (x ∷ ls) m e h =
    all_append (IsFound n (x ∷ ls)) (entries_in x.1) (entries_of ls)
    (all_map (λ q g. record { from = omega (arith, h.0, g.list_is); found = ap (λ b. option_or (cond b (stanza_in q.0.stanza x.1.slots) None) (stanza_at q.0 ls)) (eq_is x.1.serial q.0.list g.list_is) ∙ ap (λ o. option_or o (stanza_at q.0 ls)) g.found }) (entries_in x.1) (slots_found x.1.serial 0 x.1.slots x.1.next h.2))
    (all_map (λ q g. record { from = omega (arith, h.0, g.from); found = ap (λ b. option_or (cond b (stanza_in q.0.stanza x.1.slots) None) (stanza_at q.0 ls)) (lt_ne x.1.serial q.0.list (omega (arith, g.from))) ∙ g.found }) (entries_of ls) (all_found (suc x.1.serial) ls m e h.3))

pub entries_found : (n : ℕ) (ls : List (List ℕ × KeyedList)) (m e : ℕ) → InOrder n ls m e → AreAt (entries_of ls) ls
entries_found n ls m e h = all_map (λ q g. g.found) (entries_of ls) (all_found n ls m e h)

by_keys : (find : StanzaKey → Option Content) (es : List Entry) → AllByRecursion (λ (e : Entry). find e.0 ≡ Some e.1) es → es ≡ entries_by find (entry_keys es)
by_keys find [] h = refl
by_keys find (e ∷ es) h = sym (ap (λ o. cons_option (option_map (λ (x : Content). (e.0, x)) o) (entries_by find (entry_keys es))) h.0 ∙ ap (λ r. e ∷ r) (sym (by_keys find es h.1)))

-- ---- without some keys

less_is_not : (a b s t : ℕ) → ordering_then (nat_cmp a b) (nat_cmp s t) ≡ Less → (nat_eq a b && nat_eq s t) ≡ false
less_is_not a b s t h = grind (arith, nat_tests)

pub less_is_no_other : (a b s t : ℕ) → ordering_then (nat_cmp a b) (nat_cmp s t) ≡ Less → (nat_eq b a && nat_eq t s) ≡ false
less_is_no_other a b s t h = grind (arith, nat_tests)

is_neither : (a b : Bool) → a ≡ false → b ≡ false → (a || b) ≡ false
is_neither a b h g = grind arith

kept : (ks : List StanzaKey) (es : List Entry) → AllByRecursion (λ e. is_among ks e ≡ false) es → without_keys ks es ≡ es
kept ks [] h = refl
kept ks (e ∷ es) h = ap (λ b. cond (not b) (e ∷ without_keys ks es) (without_keys ks es)) h.0 ∙ ap (λ r. e ∷ r) (kept ks es h.1)

cut_off : (ks : List StanzaKey) (es : List Entry) → AllByRecursion (λ e. is_among ks e ≡ true) es → without_keys ks es ≡ []
cut_off ks [] h = refl
cut_off ks (e ∷ es) h = ap (λ b. cond (not b) (e ∷ without_keys ks es) (without_keys ks es)) h.0 ∙ cut_off ks es h.1

own_keys : (es : List Entry) → AllByRecursion (λ e. is_among (entry_keys es) e ≡ true) es
own_keys [] = tt
own_keys (e ∷ es) = (or_left (key_is e.0 e.0) (is_among (entry_keys es) e) (is_itself e.0), all_map (λ q g. or_right (key_is q.0 e.0) (is_among (entry_keys es) q) g) es (own_keys es))

-- a key below others is none of them
below_all : (e : Entry) (es rest : List Entry) → AllByRecursion (λ q. key_cmp e.0 q ≡ Less) (entry_keys (es ++ rest)) → is_among (entry_keys es) e ≡ false
below_all e [] rest h = refl
below_all e (q ∷ es) rest h = is_neither (key_is e.0 q.0) (is_among (entry_keys es) e) (less_is_no_other e.0.list q.0.list e.0.stanza q.0.stanza h.0) (below_all e es rest h.1)

-- and none above it is it
above_it : (k : StanzaKey) (ks : List StanzaKey) (es rest : List Entry) → AllByRecursion (λ q. key_cmp k q ≡ Less) (entry_keys (es ++ rest)) → AllByRecursion (λ e. is_among ks e ≡ false) rest → AllByRecursion (λ e. is_among (k ∷ ks) e ≡ false) rest
above_it k ks (q ∷ es) rest h g = above_it k ks es rest h.1 g
above_it k ks [] [] h g = tt
above_it k ks [] (e ∷ rest) h g = (is_neither (key_is e.0 k) (is_among ks e) (less_is_not k.list e.0.list k.stanza e.0.stanza h.0) g.0, above_it k ks [] rest h.1 g.1)

none_all : (es : List Entry) → AllByRecursion (λ e. is_among [] e ≡ false) es
none_all [] = tt
none_all (e ∷ es) = (refl, none_all es)

behind : (gone tail : List Entry) → AreRising (entry_keys (gone ++ tail)) → AllByRecursion (λ e. is_among (entry_keys gone) e ≡ false) tail
behind [] tail h = none_all tail
behind (g ∷ gone) tail h = above_it g.0 (entry_keys gone) gone tail h.0 (behind gone tail h.1)

-- those between two rests go
between : (head gone tail : List Entry) → AreRising (entry_keys (head ++ (gone ++ tail))) → without_keys (entry_keys gone) (head ++ (gone ++ tail)) ≡ head ++ tail
between [] gone tail h =
    filter-append (λ (e : Entry). not (is_among (entry_keys gone) e)) gone tail
    ∙ ap (λ es. es ++ without_keys (entry_keys gone) tail) (cut_off (entry_keys gone) gone (own_keys gone))
    ∙ kept (entry_keys gone) tail (behind gone tail h)
between (e ∷ head) gone tail h =
    ap (λ b. cond (not b) (e ∷ without_keys (entry_keys gone) (head ++ (gone ++ tail))) (without_keys (entry_keys gone) (head ++ (gone ++ tail)))) (before_gone head h.0)
    ∙ ap (λ r. e ∷ r) (between head gone tail h.1)
  where
    before_gone : (head : List Entry) → AllByRecursion (λ q. key_cmp e.0 q ≡ Less) (entry_keys (head ++ (gone ++ tail))) → is_among (entry_keys gone) e ≡ false
    before_gone [] h = below_all e gone tail h
    before_gone (x ∷ head) h = before_gone head h.1

-- ---- the laws

-- the order of the serials after an edit
pub order_after : (s : Keyed) (e : ℕ) → InOrder 0 s.lists s.next_list e → (edit : Edit) → (n : ℕ) × InOrder 0 (keyed_after s edit).lists (keyed_after s edit).next_list n
order_after s e order (AddList name kind class stanzas) = (
  e + length stanzas + 1,
  in_order_push 0 s.lists s.next_list (e + length stanzas) name (list_of_stanzas s.next_list kind class stanzas) refl (omega arith) (subst (λ m. Rises 0 (slots_from 0 stanzas) m) (let z : 0 + length stanzas ≡ length stanzas = omega arith in z) (Rises-slots_from 0 stanzas)) (InOrder-weaken 0 0 s.lists s.next_list e (e + length stanzas) (omega arith) (omega arith) order),
)
order_after s e order (DropList name) = (e + 1, in_order_without 0 s.lists s.next_list e name order)
order_after s e order (Put list x) = (e + 1, in_order_change 0 s.lists s.next_list e list (put_keyed x) (Changes-put x) order)
order_after s e order (Remove list name version) = (e + 1, in_order_change 0 s.lists s.next_list e list (remove_keyed name (Some version)) (Changes-remove name (Some version)) order)
order_after s e order edit = (e, order)

also_coming : (es : List Entry) (edit : Edit) (ls : List (List ℕ × KeyedList)) → AreAt es ls → AreCome (entry_keys es) edit ls → AllByRecursion (λ (e : Entry). coming edit e.0 ≡ Some e.1) es
also_coming [] edit ls h g = tt
also_coming (e ∷ es) edit ls h g = (sym g.0 ∙ h.0, also_coming es edit ls h.1 g.1)

-- without the keys that go the lists are those between
abbrev keyed_between : List (List ℕ × KeyedList) → Edit → List (List ℕ × KeyedList)
keyed_between ls (DropList name) = without_name name ls
keyed_between ls (Put list x) = change_named list (remove_keyed (package_of x) (version_of x)) ls
keyed_between ls (Remove list name version) = change_named list (remove_keyed name (Some version)) ls
keyed_between ls edit = ls

between_cut : (s : Keyed) (edit : Edit) → Cut (entries_of s.lists) (entries_of (keyed_between s.lists edit)) (removed_of s edit) []
between_cut s (DropList name) = dropped name s.lists
between_cut s (Put list x) = taken_cut list (package_of x) (version_of x) s.lists
between_cut s (Remove list name version) = taken_cut list name (Some version) s.lists
between_cut s edit = uncut (entries_of s.lists)

no_entries : (es : List Entry) → entry_keys es ≡ [] → es ≡ []
no_entries [] h = refl
no_entries (e ∷ es) h = cc h

-- the rest of a cut
rest_is : (b a : List Entry) (r k : List StanzaKey) (c : Cut b a r k) → AreRising (entry_keys b) → without_keys r b ≡ c.spliced.head ++ c.spliced.tail
rest_is b a r k c rising = grind (arith, between)

rest_only : (b a : List Entry) (r : List StanzaKey) (c : Cut b a r []) → AreRising (entry_keys b) → without_keys r b ≡ a
rest_only b a r c rising = rest_is b a r [] c rising ∙ ap (λ come. c.spliced.head ++ (come ++ c.spliced.tail)) (sym (no_entries c.come c.added_are)) ∙ sym c.spliced.after_is

slot_contents : (list : ℕ) (slots : List (ℕ × Content)) → map (λ (e : Entry). e.1) (slots_under list slots) ≡ stanzas_of slots
slot_contents list [] = refl
slot_contents list (r ∷ slots) = ap (λ xs. r.1 ∷ xs) (slot_contents list slots)

-- the stanzas without their keys
contents_are : (ls : List (List ℕ × KeyedList)) → map (λ (e : Entry). e.1) (entries_of ls) ≡ stanzas_in_order (stanza_lists ls)
contents_are [] = refl
contents_are (l ∷ ls) = map-append (λ (e : Entry). e.1) (entries_in l.1) (entries_of ls) ∙ ap (λ xs. xs ++ map (λ (e : Entry). e.1) (entries_of ls)) (slot_contents l.1.serial l.1.slots) ∙ ap (λ xs. stanzas_of l.1.slots ++ xs) (contents_are ls)

lists_are : (ls : List (List ℕ × KeyedList)) (edit : Edit) → stanza_lists (keyed_between ls edit) ≡ lists_between (stanza_lists ls) edit
lists_are ls (DropList name) = without_lists name ls
lists_are ls (Put list x) = change_lists list (remove_keyed (package_of x) (version_of x)) (with_stanzas (remove_stanza (package_of x) (version_of x))) (remove_list (package_of x) (version_of x)) ls
lists_are ls (Remove list name version) = change_lists list (remove_keyed name (Some version)) (with_stanzas (remove_stanza name (Some version))) (remove_list name (Some version)) ls
lists_are ls edit = refl

module _ (s : Keyed) (e : ℕ) (order : InOrder 0 s.lists s.next_list e) (edit : Edit) where
  abbrev t : Keyed
  t = keyed_after s edit

  c : Cut (entries_of s.lists) (entries_of t.lists) (removed_of s edit) (added_of s edit)
  c = edit_cut s edit

  gone_is : c.gone ≡ entries_at (removed_of s edit) s.lists
  gone_is = grind (arith, by_keys, all_front, all_back, entries_found)

  come_at : AreAt c.come t.lists
  come_at =
      all_front (λ (e : Entry). stanza_at e.0 t.lists ≡ Some e.1) c.come c.spliced.tail
      (all_back (λ (e : Entry). stanza_at e.0 t.lists ≡ Some e.1) c.spliced.head (c.come ++ c.spliced.tail)
      (let o = order_after s e order edit in subst (λ es. AreAt es t.lists) c.spliced.after_is (entries_found 0 t.lists t.next_list o.0 o.1)))

  come_is : c.come ≡ entries_coming (added_of s edit) edit
  come_is =
      by_keys (coming edit) c.come (also_coming c.come edit t.lists come_at (subst (λ ks. AreCome ks edit t.lists) (sym c.added_are) (come_law s e order edit)))
      ∙ ap (λ ks. entries_coming ks edit) c.added_are

  mid_before : without_keys (removed_of s edit) (entries_of s.lists) ≡ c.spliced.head ++ c.spliced.tail
  mid_before = grind (arith, between, keys_are_all, keys_rise)

  mid_after : without_keys (added_of s edit) (entries_of t.lists) ≡ c.spliced.head ++ c.spliced.tail
  mid_after =
      ap (λ ks. without_keys ks (entries_of t.lists)) (sym c.added_are)
      ∙ ap (without_keys (entry_keys c.come)) c.spliced.after_is
      ∙ between c.spliced.head c.come c.spliced.tail (let o = order_after s e order edit in subst (λ es. AreRising (entry_keys es)) c.spliced.after_is (subst AreRising (sym (keys_are_all t.lists)) (keys_rise 0 t.lists t.next_list o.0 o.1)))

  spliced_law : IsSpliced (entries_of s.lists) (entries_of t.lists) (entries_at (removed_of s edit) s.lists) (entries_coming (added_of s edit) edit)
  spliced_law = subst (λ gone. IsSpliced (entries_of s.lists) (entries_of t.lists) gone (entries_coming (added_of s edit) edit)) gone_is (subst (λ come. IsSpliced (entries_of s.lists) (entries_of t.lists) c.gone come) come_is c.spliced)

  mid_law : without_keys (added_of s edit) (entries_of t.lists) ≡ without_keys (removed_of s edit) (entries_of s.lists)
  mid_law = mid_after ∙ sym mid_before

  three : (f : Entry → ℕ) (h g t : List Entry) → sum_by f (h ++ (g ++ t)) ≡ sum_by f (h ++ t) + sum_by f g
  three f h g t = omega (arith, sum_by-append f h (g ++ t), sum_by-append f g t, sum_by-append f h t)

  sum_before : (f : Entry → ℕ) → sum_by f (entries_of s.lists) ≡ sum_by f (without_keys (removed_of s edit) (entries_of s.lists)) + sum_by f (entries_at (removed_of s edit) s.lists)
  sum_before f = grind (arith, three, mid_before, gone_is)

  sum_after : (f : Entry → ℕ) → sum_by f (entries_of t.lists) ≡ sum_by f (without_keys (removed_of s edit) (entries_of s.lists)) + sum_by f (entries_coming (added_of s edit) edit)
  sum_after f = grind (arith, three, mid_before, come_is)

  pub change_law : IsChange s.lists (keyed_after s edit).lists (removed_of s edit) (added_of s edit) edit
  change_law =
      let o = order_after s e order edit in
      record {
        entries = spliced_law;
        mid = mid_law;
        staying = ap (map (λ (e : Entry). e.1)) (rest_only (entries_of s.lists) (entries_of (keyed_between s.lists edit)) (removed_of s edit) (between_cut s edit) (subst AreRising (sym (keys_are_all s.lists)) (keys_rise 0 s.lists s.next_list e order))) ∙ contents_are (keyed_between s.lists edit) ∙ ap stanzas_in_order (lists_are s.lists edit);
        removed_keys = ap entry_keys (sym gone_is) ∙ c.removed_are;
        added_keys = ap entry_keys (sym come_is) ∙ c.added_are;
        loses = sum_before;
        takes = sum_after;
        rises = keys_rise 0 t.lists t.next_list o.0 o.1;
        found = entries_found 0 t.lists t.next_list o.0 o.1;
      }
