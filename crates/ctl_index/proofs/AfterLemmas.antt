-- The lists after an edit, with serials and without.
use Rattle.std.proofs.Common.{◌≡◌, ℕ, zero, suc, Bool, true, false, cond, List, [], ◌∷◌, ◌++◌, set, Option, None, Some, refl, ap, sym, ◌∙◌}
use Rattle.std.specs.List.{remove}
use Rattle.std.specs.Option.{option_map}
use Rattle.std.specs.Str.{bytes_eq}
use Rattle.ctl_stanza.specs.declared.list_kind.ListKind.{ListKind}
use Rattle.ctl_stanza.specs.Content.{Content, package_of, version_of}
use Rattle.ctl_store.specs.declared.list_class.ListClass.{ListClass}
use Rattle.ctl_store.specs.Named.{without_name, change_named}
use Rattle.ctl_store.specs.State.{StanzaList}
use Rattle.ctl_store.specs.Edits.{Edit, AddList, DropList, Put, Remove, Mark, Unmark, Pin, Unpin, Target, Prefs}
use Rattle.ctl_store.specs.Step.{place, is_same, put_at, put_stanza, remove_at, remove_stanza, with_stanzas, after}
use Rattle.ctl_store.specs.Slots.{by_name_and_version, slots_from, replace_at, put_slot_at, remove_slot_at}
use Rattle.ctl_store.specs.Keys.{KeyedList, stanzas_of, stanza_list, stanza_lists, list_of_stanzas, put_keyed, remove_keyed, keyed_after}
use Rattle.ctl_store.specs.Store.{Held, keyed_of, state_of}

if_cases : {A B : Type 0} (f : A → B) (b : Bool) (x y : A) → f (cond b x y) ≡ cond b (f x) (f y)
if_cases f true x y = refl
if_cases f false x y = refl

place_stanzas : (p : Content → Bool) (rows : List (ℕ × Content)) → place p (stanzas_of rows) ≡ place (λ (r : ℕ × Content). p r.1) rows
place_stanzas p [] = refl
place_stanzas p (r ∷ rows) = ap (λ o. cond (p r.1) (Some 0) (option_map (λ n. suc n) o)) (place_stanzas p rows)

map_push : (rs : List (ℕ × Content)) (n : ℕ) (x : Content) → stanzas_of (rs ++ (n, x) ∷ []) ≡ stanzas_of rs ++ x ∷ []
map_push [] n x = refl
map_push (r ∷ rs) n x = ap (λ l. r.1 ∷ l) (map_push rs n x)

map_replace : (rs : List (ℕ × Content)) (i : ℕ) (x : Content) → stanzas_of (replace_at rs i x) ≡ set (stanzas_of rs) i x
map_replace [] i x = refl
map_replace (r ∷ rs) zero x = refl
map_replace (r ∷ rs) (suc i) x = ap (λ l. r.1 ∷ l) (map_replace rs i x)

map_remove : (rs : List (ℕ × Content)) (i : ℕ) → stanzas_of (remove rs i) ≡ remove (stanzas_of rs) i
map_remove [] zero = refl
map_remove [] (suc i) = refl
map_remove (r ∷ rs) zero = refl
map_remove (r ∷ rs) (suc i) = ap (λ l. r.1 ∷ l) (map_remove rs i)

stanzas_of-slots_from : (n : ℕ) (xs : List Content) → stanzas_of (slots_from n xs) ≡ xs
stanzas_of-slots_from n [] = refl
stanzas_of-slots_from n (x ∷ xs) = ap (λ l. x ∷ l) (stanzas_of-slots_from (suc n) xs)

put_stanzas : (x : Content) (rows : List (ℕ × Content)) (next : ℕ) → stanzas_of (put_slot_at (place (by_name_and_version (package_of x) (version_of x)) rows) x next rows) ≡ put_stanza x (stanzas_of rows)
put_stanzas x rows next = by (place (by_name_and_version (package_of x) (version_of x)) rows) ∙ ap (λ o. put_at o x (stanzas_of rows)) (sym (place_stanzas (is_same (package_of x) (version_of x)) rows))
  where
    by : (o : Option ℕ) → stanzas_of (put_slot_at o x next rows) ≡ put_at o x (stanzas_of rows)
    by None = map_push rows next x
    by (Some i) = map_replace rows i x

remove_stanzas : (name : List ℕ) (version : Option (List ℕ)) (rows : List (ℕ × Content)) → stanzas_of (remove_slot_at (place (by_name_and_version name version) rows) rows) ≡ remove_stanza name version (stanzas_of rows)
remove_stanzas name version rows = by (place (by_name_and_version name version) rows) ∙ ap (λ o. remove_at o (stanzas_of rows)) (sym (place_stanzas (is_same name version) rows))
  where
    by : (o : Option ℕ) → stanzas_of (remove_slot_at o rows) ≡ remove_at o (stanzas_of rows)
    by None = refl
    by (Some i) = map_remove rows i

put_list : (x : Content) (l : KeyedList) → stanza_list (put_keyed x l) ≡ with_stanzas (put_stanza x) (stanza_list l)
put_list x l = ap (λ (t : List Content). record { kind = l.kind; class = l.class; stanzas = t }) (put_stanzas x l.slots l.next)

remove_list : (name : List ℕ) (version : Option (List ℕ)) (l : KeyedList) → stanza_list (remove_keyed name version l) ≡ with_stanzas (remove_stanza name version) (stanza_list l)
remove_list name version l = ap (λ (t : List Content). record { kind = l.kind; class = l.class; stanzas = t }) (remove_stanzas name version l.slots)

new_lists : (ls : List (List ℕ × KeyedList)) (name : List ℕ) (serial : ℕ) (kind : ListKind) (class : ListClass) (xs : List Content) → stanza_lists (ls ++ (name, list_of_stanzas serial kind class xs) ∷ []) ≡ stanza_lists ls ++ (name, record { kind = kind; class = class; stanzas = xs }) ∷ []
new_lists [] name serial kind class xs = ap (λ (t : List Content). (name, record { kind = kind; class = class; stanzas = t }) ∷ []) (stanzas_of-slots_from 0 xs)
new_lists (l ∷ ls) name serial kind class xs = ap (λ r. (l.0, stanza_list l.1) ∷ r) (new_lists ls name serial kind class xs)

without_lists : (name : List ℕ) (ls : List (List ℕ × KeyedList)) → stanza_lists (without_name name ls) ≡ without_name name (stanza_lists ls)
without_lists name [] = refl
without_lists name (l ∷ ls) = if_cases stanza_lists (bytes_eq name l.0) _ _ ∙ ap (λ r. cond (bytes_eq name l.0) (stanza_lists ls) ((l.0, stanza_list l.1) ∷ r)) (without_lists name ls)

change_lists : (name : List ℕ) (f : KeyedList → KeyedList) (g : StanzaList → StanzaList) → ((l : KeyedList) → stanza_list (f l) ≡ g (stanza_list l)) → (ls : List (List ℕ × KeyedList)) → stanza_lists (change_named name f ls) ≡ change_named name g (stanza_lists ls)
change_lists name f g h [] = refl
change_lists name f g h (l ∷ ls) = if_cases stanza_lists (bytes_eq name l.0) _ _ ∙ by (bytes_eq name l.0) (change_lists name f g h ls)
  where
    by : (b : Bool) → stanza_lists (change_named name f ls) ≡ change_named name g (stanza_lists ls)
        → cond b ((l.0, stanza_list (f l.1)) ∷ stanza_lists ls) ((l.0, stanza_list l.1) ∷ stanza_lists (change_named name f ls)) ≡ cond b ((l.0, g (stanza_list l.1)) ∷ stanza_lists ls) ((l.0, stanza_list l.1) ∷ change_named name g (stanza_lists ls))
    by true e = ap (λ c. (l.0, c) ∷ stanza_lists ls) (h l.1)
    by false e = ap (λ r. (l.0, stanza_list l.1) ∷ r) e

pub lists_after : (h : Held) (edit : Edit) → stanza_lists (keyed_after (keyed_of h) edit).lists ≡ (after (state_of h) edit).lists
lists_after h (AddList name kind class stanzas) = new_lists (keyed_of h).lists name (keyed_of h).next_list kind class stanzas
lists_after h (DropList name) = without_lists name (keyed_of h).lists
lists_after h (Put list x) = change_lists list (put_keyed x) (with_stanzas (put_stanza x)) (put_list x) (keyed_of h).lists
lists_after h (Remove list name version) = change_lists list (remove_keyed name (Some version)) (with_stanzas (remove_stanza name (Some version))) (remove_list name (Some version)) (keyed_of h).lists
lists_after h (Mark name version) = refl
lists_after h (Unmark name) = refl
lists_after h (Pin selector priority) = refl
lists_after h (Unpin selector) = refl
lists_after h (Target name) = refl
lists_after h (Prefs pins) = refl
