-- What it means that an edit is accepted, and how many stanzas an edit leaves.
use Rattle.std.proofs.Common.{◌≡◌, ℕ, ◌+◌, ◌≤◌, Bool, false, ◌||◌, nat_lt, List, [], ◌∷◌, ◌++◌, length, Option, None, Some, refl, arith, ◌-◌, true, cond, not, nat_le, is_some, length-append, length-set, suc, map, option_map, ap, sym, ◌∙◌}
use Rattle.std.specs.Option.{option_or, option_map_or}
use Rattle.ctl_store.specs.declared.limits.Limits.{Limits}
use Rattle.ctl_store.specs.declared.refusal.Refusal.{Refusal}
use Rattle.ctl_store.specs.Named.{at_name, without_name, change_named, has_name}
use Rattle.ctl_store.specs.State.{StanzaList, State, stanza_count, count_of_kind, status_count}
use Rattle.ctl_store.specs.Edits.{Edit, AddList, DropList, Put, Remove}
use Rattle.ctl_store.specs.Step.{when, changed, after, misfit_of, is_past, refusal_of, place, is_same, put_at, put_stanza, remove_stanza, takes_kind, with_stanzas, has_stanza, count_coming, has_status}
use Rattle.std.proofs.lemmas.Bool.Decides.{nat_tests}
use Rattle.std.proofs.lemmas.List.Edits.{length-remove}
use Rattle.ctl_stanza.specs.declared.list_kind.ListKind.{ListKind}
use Rattle.ctl_stanza.specs.Content.{Content, package_of, version_of}
use Rattle.ctl_store.proofs.PlaceLemmas.{place_within, some_is, some_of}
use Rattle.ctl_store.specs.declared.list_class.ListClass.{ListClass}
use Rattle.ctl_store.specs.Keys.{KeyedList, key_of, keys_of, stanzas_of, stanza_list, stanza_lists, all_in}
use Rattle.ctl_store.specs.Store.{HeldList, lists_of}
use Rattle.ctl_store.proofs.ListedLemmas.{has_name_lists, has_name_held, at_name-stanza_lists}

left_none : (a b : Option Refusal) → option_or a b ≡ None → a ≡ None
left_none a b e = grind arith

right_none : (a b : Option Refusal) → option_or a b ≡ None → b ≡ None
right_none a b e = grind arith

when_none : (b : Bool) (why : Refusal) → when b why ≡ None → b ≡ false
when_none b why e = grind arith

pub accepted_fits : (limits : Limits) (s : State) (edit : Edit) → refusal_of limits s edit ≡ None → misfit_of s edit ≡ None
accepted_fits limits s edit e = left_none _ _ e

accepted_within : (limits : Limits) (s : State) (edit : Edit) → refusal_of limits s edit ≡ None → is_past limits (after s edit) ≡ false
accepted_within limits s edit e = when_none _ _ (right_none (misfit_of s edit) _ e)

not_past : (a b c d : ℕ) → (nat_lt a b || nat_lt c d) ≡ false → (b ≤ a) × (d ≤ c)
not_past a b c d e = grind arith

pub accepted_stanzas : (limits : Limits) (s : State) (edit : Edit) → refusal_of limits s edit ≡ None → stanza_count (changed s edit).lists ≤ limits.stanzas
accepted_stanzas limits s edit e = (not_past limits.stanzas (stanza_count (changed s edit).lists) limits.edits (s.edits + 1) (accepted_within limits s edit e)).0

pub accepted_edits : (limits : Limits) (s : State) (edit : Edit) → refusal_of limits s edit ≡ None → s.edits + 1 ≤ limits.edits
accepted_edits limits s edit e = (not_past limits.stanzas (stanza_count (changed s edit).lists) limits.edits (s.edits + 1) (accepted_within limits s edit e)).1

-- ---- how many stanzas an edit leaves

pub count-push : (ls : List (List ℕ × StanzaList)) (name : List ℕ) (x : StanzaList) → stanza_count (ls ++ (name, x) ∷ []) ≡ stanza_count ls + length x.stanzas
count-push [] name x = omega arith
count-push (l ∷ ls) name x = omega (arith, count-push ls name x)

pub count-without : (name : List ℕ) (ls : List (List ℕ × StanzaList)) (l : StanzaList) → at_name name ls ≡ Some l → stanza_count (without_name name ls) + length l.stanzas ≡ stanza_count ls
count-without name [] l e = cc
count-without name (x ∷ ls) l e = grind (arith, count-without name ls l)

pub count-change : (name : List ℕ) (f : StanzaList → StanzaList) (ls : List (List ℕ × StanzaList)) (l : StanzaList) → at_name name ls ≡ Some l → stanza_count (change_named name f ls) + length l.stanzas ≡ stanza_count ls + length (f l).stanzas
count-change name f [] l e = cc
count-change name f (x ∷ ls) l e = grind (arith, count-change name f ls l)

-- ---- when an edit would pass a limit

pub put-length : (x : Content) (xs : List Content) → length (put_stanza x xs) ≡ length xs + cond (is_some (place (is_same (package_of x) (version_of x)) xs)) 0 1
put-length x xs = by (place (is_same (package_of x) (version_of x)) xs)
  where
    by : (o : Option ℕ) → length (put_at o x xs) ≡ length xs + cond (is_some o) 0 1
    by None = omega (arith, length-append xs (x ∷ []))
    by (Some i) = omega (arith, length-set xs i x)

pub remove-length : (name : List ℕ) (version : Option (List ℕ)) (xs : List Content) → length (remove_stanza name version xs) + cond (is_some (place (is_same name version) xs)) 1 0 ≡ length xs
remove-length name version xs = grind (arith, length-remove, place_within)

count-without_le : (name : List ℕ) (ls : List (List ℕ × StanzaList)) → stanza_count (without_name name ls) ≤ stanza_count ls
count-without_le name [] = omega arith
count-without_le name (l ∷ ls) = grind (arith, count-without_le name ls)

count-remove_le : (list name : List ℕ) (version : Option (List ℕ)) (ls : List (List ℕ × StanzaList)) → stanza_count (change_named list (with_stanzas (remove_stanza name version)) ls) ≤ stanza_count ls
count-remove_le list name version [] = omega arith
count-remove_le list name version (l ∷ ls) = grind (arith, remove-length, count-remove_le list name version ls)

count-put : (list : List ℕ) (x : Content) (ls : List (List ℕ × StanzaList)) → has_name list ls ≡ true → stanza_count (change_named list (with_stanzas (put_stanza x)) ls) ≡ stanza_count ls + cond (has_stanza list (package_of x) (version_of x) ls) 0 1
count-put list x ls e =
    let l = some_of (at_name list ls) e in omega (arith, count-change list (with_stanzas (put_stanza x)) ls l.0 l.1, put-length x l.0.stanzas, ap {B = ℕ} (λ o. cond (option_map_or (λ (l : StanzaList). is_some (place (is_same (package_of x) (version_of x)) l.stanzas)) o false) 0 1) l.1)

pub no_refusal : (b : Bool) (why : Refusal) → when (not b) why ≡ None → b ≡ true
no_refusal b why e = grind arith

edits_past : (a b : ℕ) → nat_lt a (b + 1) ≡ nat_le a b
edits_past a b = grind (arith, nat_tests)

more_past : (limit count more after : ℕ) → count ≤ limit → after ≡ count + more → nat_lt limit after ≡ nat_lt (limit - count) more
more_past limit count more after l e = grind (arith, nat_tests)

fewer_past : (limit count after : ℕ) → count ≤ limit → after ≤ count → nat_lt limit after ≡ nat_lt (limit - count) 0
fewer_past limit count after l e = grind (arith, nat_tests)

named : (kind : ListKind) (name : List ℕ) (ls : List (List ℕ × StanzaList)) → takes_kind kind name ls ≡ true → has_name name ls ≡ true
named kind name ls e = grind arith

stanzas_past : (limit : ℕ) (s : State) (edit : Edit) → misfit_of s edit ≡ None → stanza_count s.lists ≤ limit → nat_lt limit (stanza_count (changed s edit).lists) ≡ nat_lt (limit - stanza_count s.lists) (count_coming s edit)
stanzas_past limit s (AddList name kind class stanzas) e l = more_past limit (stanza_count s.lists) (length stanzas) _ l (count-push s.lists name (record { kind = kind; class = class; stanzas = stanzas }))
stanzas_past limit s (DropList name) e l = fewer_past limit (stanza_count s.lists) _ l (count-without_le name s.lists)
stanzas_past limit s (Put list content) e l = more_past limit (stanza_count s.lists) _ _ l (count-put list content s.lists (named content.kind list s.lists (no_refusal _ _ e)))
stanzas_past limit s (Remove list name version) e l = fewer_past limit (stanza_count s.lists) _ l (count-remove_le list name (Some version) s.lists)
stanzas_past limit s edit e l = fewer_past limit (stanza_count s.lists) (stanza_count s.lists) l (omega arith)

pub past_is : (limits : Limits) (s : State) (edit : Edit) → misfit_of s edit ≡ None → stanza_count s.lists ≤ limits.stanzas → is_past limits (after s edit) ≡ (nat_lt (limits.stanzas - stanza_count s.lists) (count_coming s edit) || nat_le limits.edits s.edits)
past_is limits s edit e l = grind (arith, stanzas_past, edits_past)

-- ---- what an accepted edit finds, and how many stanzas are there after it

pub add_new : (limits : Limits) (s : State) (name : List ℕ) (kind : ListKind) (class : ListClass) (xs : List Content) → refusal_of limits s (AddList name kind class xs) ≡ None → has_name name s.lists ≡ false
add_new limits s name kind class xs e = when_none _ _ (left_none _ _ (accepted_fits limits s (AddList name kind class xs) e))

pub add_fits : (limits : Limits) (s : State) (name : List ℕ) (kind : ListKind) (class : ListClass) (xs : List Content) → refusal_of limits s (AddList name kind class xs) ≡ None → stanza_count s.lists + length xs ≤ limits.stanzas
add_fits limits s name kind class xs e = omega (arith, accepted_stanzas limits s (AddList name kind class xs) e, count-push s.lists name (record { kind = kind; class = class; stanzas = xs }))

pub drop_found : (limits : Limits) (s : State) (name : List ℕ) → refusal_of limits s (DropList name) ≡ None → (l : StanzaList) × (at_name name s.lists ≡ Some l)
drop_found limits s name e = some_of (at_name name s.lists) (no_refusal _ _ (accepted_fits limits s (DropList name) e))

pub count_below : (s : State) (name : List ℕ) (l : StanzaList) → at_name name s.lists ≡ Some l → length l.stanzas ≤ stanza_count s.lists
count_below s name l e = omega (arith, count-without name s.lists l e)

slots_count : (list : ℕ) (slots : List (ℕ × Content)) → length (map (λ (slot : ℕ × Content). key_of list slot.0) slots) ≡ length (stanzas_of slots)
slots_count list [] = refl
slots_count list (slot ∷ slots) = ap (λ n. suc n) (slots_count list slots)

-- a list has as many keys as stanzas
pub keys_count : (name : List ℕ) (ls : List (List ℕ × KeyedList)) (l : StanzaList) → at_name name (stanza_lists ls) ≡ Some l → length (all_in name ls) ≡ length l.stanzas
keys_count name ls l e = by (at_name name ls) (sym (at_name-stanza_lists name ls) ∙ e)
  where
    by : (o : Option KeyedList) → option_map stanza_list o ≡ Some l → length (option_map_or keys_of o []) ≡ length l.stanzas
    by None e = cc e
    by (Some k) e = slots_count k.serial k.slots ∙ ap (λ (l : StanzaList). length l.stanzas) (some_is e)

pub put_takes : (limits : Limits) (s : State) (list : List ℕ) (x : Content) → refusal_of limits s (Put list x) ≡ None → takes_kind x.kind list s.lists ≡ true
put_takes limits s list x e = no_refusal _ _ (accepted_fits limits s (Put list x) e)

pub put_found : (limits : Limits) (s : State) (list : List ℕ) (x : Content) → refusal_of limits s (Put list x) ≡ None → (l : StanzaList) × (at_name list s.lists ≡ Some l)
put_found limits s list x e = some_of (at_name list s.lists) (named x.kind list s.lists (put_takes limits s list x e))

pub remove_found : (limits : Limits) (s : State) (list name version : List ℕ) → refusal_of limits s (Remove list name version) ≡ None → (l : StanzaList) × (at_name list s.lists ≡ Some l)
remove_found limits s list name version e = some_of (at_name list s.lists) (no_refusal _ _ (left_none _ _ (accepted_fits limits s (Remove list name version) e)))

has_it : (limits : Limits) (s : State) (list name version : List ℕ) → refusal_of limits s (Remove list name version) ≡ None → has_stanza list name (Some version) s.lists ≡ true
has_it limits s list name version e = no_refusal _ _ (right_none _ _ (accepted_fits limits s (Remove list name version) e))

has_is : (s : State) (list name : List ℕ) (version : Option (List ℕ)) (l : StanzaList) → at_name list s.lists ≡ Some l → has_stanza list name version s.lists ≡ is_some (place (is_same name version) l.stanzas)
has_is s list name version l e = ap (λ o. option_map_or (λ (l : StanzaList). is_some (place (is_same name version) l.stanzas)) o false) e

-- one stanza fewer
pub remove_count : (limits : Limits) (s : State) (list name version : List ℕ) (l : StanzaList) → refusal_of limits s (Remove list name version) ≡ None → at_name list s.lists ≡ Some l → length (remove_stanza name (Some version) l.stanzas) + 1 ≡ length l.stanzas
remove_count limits s list name version l e at = ap (λ b. length (remove_stanza name (Some version) l.stanzas) + cond b 1 0) (sym (sym (has_is s list name (Some version) l at) ∙ has_it limits s list name version e)) ∙ remove-length name (Some version) l.stanzas

-- one stanza more where none is replaced
pub put_count : (s : State) (list : List ℕ) (x : Content) (l : StanzaList) → at_name list s.lists ≡ Some l → length (put_stanza x l.stanzas) ≡ length l.stanzas + cond (has_stanza list (package_of x) (version_of x) s.lists) 0 1
put_count s list x l at = put-length x l.stanzas ∙ ap (λ b. length l.stanzas + cond b 0 1) (sym (has_is s list (package_of x) (version_of x) l at))

pub put_fits : (limits : Limits) (s : State) (list : List ℕ) (x : Content) (l : StanzaList) → refusal_of limits s (Put list x) ≡ None → at_name list s.lists ≡ Some l → stanza_count s.lists + cond (has_stanza list (package_of x) (version_of x) s.lists) 0 1 ≤ limits.stanzas
put_fits limits s list x l e at = omega (arith, accepted_stanzas limits s (Put list x) e, count-change list (with_stanzas (put_stanza x)) s.lists l at, put_count s list x l at)

-- a name that no list has, with the serials
pub new_among : (name : List ℕ) (es : List (List ℕ × HeldList)) → has_name name (stanza_lists (lists_of es)) ≡ false → has_name name (lists_of es) ≡ false
new_among name es e = has_name_lists name es ∙ sym (has_name_held name es) ∙ e

-- ---- how many status lists an edit leaves

pub status_count-push : (ls : List (List ℕ × StanzaList)) (name : List ℕ) (x : StanzaList) → status_count (ls ++ (name, x) ∷ []) ≡ status_count ls + count_of_kind x.kind
status_count-push [] name x = omega arith
status_count-push (l ∷ ls) name x = omega (arith, status_count-push ls name x)

pub status_count-without : (name : List ℕ) (ls : List (List ℕ × StanzaList)) (l : StanzaList) → at_name name ls ≡ Some l → status_count (without_name name ls) + count_of_kind l.kind ≡ status_count ls
status_count-without name [] l e = cc
status_count-without name (x ∷ ls) l e = grind (arith, status_count-without name ls l)

pub status_count-change : (name : List ℕ) (f : StanzaList → StanzaList) (ls : List (List ℕ × StanzaList)) → ((l : StanzaList) → (f l).kind ≡ l.kind) → status_count (change_named name f ls) ≡ status_count ls
status_count-change name f [] kinds = refl
status_count-change name f (x ∷ ls) kinds = grind (arith, status_count-change name f ls kinds)

-- there is one where the count is above 0
pub has_status-counted : (ls : List (List ℕ × StanzaList)) → has_status ls ≡ nat_lt 0 (status_count ls)
has_status-counted [] = refl
has_status-counted (l ∷ ls) = grind (arith, has_status-counted ls)

-- a status list comes only where there is none
pub add_statuses : (limits : Limits) (s : State) (name : List ℕ) (kind : ListKind) (class : ListClass) (xs : List Content) → refusal_of limits s (AddList name kind class xs) ≡ None
    → (n : ℕ) → status_count s.lists ≤ n → 1 ≤ n → status_count s.lists + count_of_kind kind ≤ n
add_statuses limits s name kind class xs e n l one = grind (arith, when_none, right_none, accepted_fits, nat_tests, has_status-counted)

-- the count of a list that is there is among them
pub kind_below : (name : List ℕ) (ls : List (List ℕ × StanzaList)) (l : StanzaList) → at_name name ls ≡ Some l → count_of_kind l.kind ≤ status_count ls
kind_below name ls l e = omega (arith, status_count-without name ls l e)
