-- Lists of values by name, and the finite maps that they are.
use Rattle.std.proofs.Common.{◌≡◌, ℕ, Bool, true, false, cond, List, [], ◌∷◌, ◌++◌, Option, None, Some, is_some, refl, ap, sym, subst, ◌∙◌, arith, ◌+◌, ◌≤◌, suc, option_map, map, IfSome, OnOk, Result, Ok, Err, nat_eq, ◌<◌, ◌-◌, zero, length, take, drop, ◌&&◌, set}
use Rattle.std.specs.Str.{bytes_eq}
use Rattle.std.specs.Map.{keys_of as names_of, lookup}
use Rattle.std.specs.List.{AllByRecursion, IsDistinct, remove}
use Rattle.std.specs.Cmp.Lexicographic.{slice_cmp, nat_list_cmp_total, nat_list_eq_equiv}
use Rattle.std.specs.Ordering.{nat_cmp, eq_by_cmp}
use Rattle.std.proofs.lemmas.Map.{lookup-remove_entry}
use Rattle.std.proofs.lemmas.Map.Lookups.{exact_bytes}
use Rattle.std.proofs.lemmas.Map.Text.{is_eq-slice_cmp}
use Rattle.std.proofs.lemmas.Slice.Eq.{bytes_eq-Decides}
use Rattle.ctl_store.specs.Named.{at_name, put_named, set_named, without_name, has_name, change_named}
use Rattle.ctl_stanza.specs.Content.{Content, package_of, version_of}
use Rattle.ctl_store.specs.State.{shown_lists, StanzaList}
use Rattle.ctl_store.specs.Step.{place, has_stanza, put_stanza, remove_stanza, with_stanzas}
use Rattle.std.specs.Option.{option_map_or, option_or}
use Rattle.ctl_store.specs.Slots.{Rises, by_name_and_version, remove_slot_at, slots_from, replace_at, put_slot_at}
use Rattle.ctl_store.specs.Keys.{KeyedList, stanzas_of, stanza_list, stanza_lists, put_keyed, remove_keyed, key_of, key_at, key_or_new, next_key, next_in, found_in, kept_in, Keyed, list_of_stanzas, keyed_after, keys_of, found_key, put_key, key_is, IsNotAmong, in_slots, stanza_at, removed_of, added_of}
use Rattle.ctl_store.specs.Store.{HeldList, keyed_list, lists_of}
use Rattle.ctl_store.specs.Inside.Sound.{InOrder, entry_of, AreNumbered}
use Rattle.ctl_store.proofs.PlaceLemmas.{Rises-replace, Rises-remove, none_is, place_within, place-map, if_cases}
use Rattle.ctl_ordered.specs.Ordered.{without_serials, set_filled, cut_filled}
use Rattle.ctl_store.specs.declared.stanza_key.StanzaKey.{StanzaKey}
use Rattle.ctl_stanza.specs.declared.list_kind.ListKind.{ListKind}
use Rattle.ctl_store.specs.declared.list_class.ListClass.{ListClass}
use Rattle.ctl_store.specs.Edits.{Edit, AddList, DropList, Put, Remove}
use Rattle.std.specs.FinMap as fin
use Rattle.std.proofs.lemmas.Map.Made.{lookup-map_values, keys_of-map_values}
use Rattle.std.proofs.lemmas.List.{map-append}
use Rattle.indexmap.proofs.SetLemmas.{map-remove}
use Rattle.ctl_ordered.proofs.SlotLemmas.{rises_last}

module _ {V : Type 0} where
  -- a new name goes last
  pub put_named-new : (name : List ℕ) (v : V) (es : List (List ℕ × V)) → at_name name es ≡ None → put_named name v es ≡ es ++ (name, v) ∷ []
  put_named-new name v [] e = refl
  put_named-new name v (x ∷ es) e = grind (arith, put_named-new name v es)

  -- what was set is there
  pub at_name-set_named : (name : List ℕ) (v w : V) (es : List (List ℕ × V)) → Some v ≡ at_name name es → at_name name (set_named name w es) ≡ Some w
  at_name-set_named name v w [] e = cc
  at_name-set_named name v w (x ∷ es) e = grind (arith, at_name-set_named name v w es)

-- ---- what each name has, after a change

choose : {X : Type 0} (a b c : Bool) (v w r s : X) → (a ≡ true → b ≡ c) → (c ≡ true → a ≡ b) → s ≡ cond c v r → cond a (cond b v r) (cond b w s) ≡ cond c v (cond b w r)
choose a b c v w r s h k e = grind arith

same_bytes : (x y : List ℕ) → bytes_eq x y ≡ true → x ≡ y
same_bytes x y h = (bytes_eq-Decides x y).0 h

module _ {V : Type 0} where
  pub at_name-put_named : (k : List ℕ) (v : V) (q : List ℕ) (es : List (List ℕ × V)) → at_name q (put_named k v es) ≡ cond (bytes_eq k q) (Some v) (at_name q es)
  at_name-put_named k v q [] = ap (λ b. cond b (Some v) None) (nat_list_eq_equiv.symm q k)
  at_name-put_named k v q (e ∷ es) =
      if_cases (at_name q) (bytes_eq k e.0) ((e.0, v) ∷ es) (e ∷ put_named k v es)
      ∙ choose (bytes_eq k e.0) (bytes_eq q e.0) (bytes_eq k q) (Some v) (Some e.1) (at_name q es) (at_name q (put_named k v es))
      (λ h. ap (bytes_eq q) (sym (same_bytes k e.0 h)) ∙ nat_list_eq_equiv.symm q k)
      (λ h. ap (λ x. bytes_eq x e.0) (same_bytes k q h))
      (at_name-put_named k v q es)

  pub at_name-without_name : (k q : List ℕ) (es : List (List ℕ × V)) → IsDistinct bytes_eq (names_of es) → at_name q (without_name k es) ≡ cond (bytes_eq k q) None (at_name q es)
  at_name-without_name k q es d = lookup-remove_entry nat_list_eq_equiv (bytes_eq k) (nat_list_eq_equiv.congr k) q es d

  find-at_name : (q : List ℕ) (es : List (List ℕ × V)) → fin.find (slice_cmp nat_cmp) q es ≡ at_name q es
  find-at_name q [] = refl
  find-at_name q (e ∷ es) = ap (λ b. cond b (Some e.1) (fin.find (slice_cmp nat_cmp) q es)) (is_eq-slice_cmp q e.0) ∙ ap (cond (bytes_eq q e.0) (Some e.1)) (find-at_name q es)

  pub get_at_name : (es : List (List ℕ × V)) (q : List ℕ) → fin.get (fin.from_entries {R = slice_cmp nat_cmp} es) q ≡ at_name q es
  get_at_name es q = fin.get-from_entries nat_list_cmp_total es q ∙ find-at_name q es

  -- the finite map of the entries, after `put_named`
  pub from_entries-put_named : (k : List ℕ) (v : V) (es : List (List ℕ × V)) → fin.from_entries {R = slice_cmp nat_cmp} (put_named k v es) ≡ fin.insert (fin.from_entries es) k v
  from_entries-put_named k v es = fin.same_map nat_list_cmp_total exact_bytes _ _ (λ q.
      get_at_name (put_named k v es) q ∙ at_name-put_named k v q es ∙ ap (λ b. cond b (Some v) (at_name q es)) (nat_list_eq_equiv.symm k q ∙ sym (is_eq-slice_cmp q k))
      ∙ ap (cond (eq_by_cmp (slice_cmp nat_cmp) q k) (Some v)) (sym (get_at_name es q)) ∙ sym (fin.get-insert nat_list_cmp_total (fin.from_entries es) k v q))

module _ {V : Type 0} where
  -- the finite map of entries that a name left
  pub from_entries-removed : (k : List ℕ) (es fs : List (List ℕ × V)) → ((q : List ℕ) → at_name q fs ≡ cond (bytes_eq k q) None (at_name q es)) → fin.from_entries {R = slice_cmp nat_cmp} fs ≡ fin.remove (fin.from_entries es) k
  from_entries-removed k es fs h = fin.same_map nat_list_cmp_total exact_bytes _ _ (λ q.
      get_at_name fs q ∙ h q ∙ ap (λ b. cond b None (at_name q es)) (nat_list_eq_equiv.symm k q ∙ sym (is_eq-slice_cmp q k))
      ∙ ap (cond (eq_by_cmp (slice_cmp nat_cmp) q k) None) (sym (get_at_name es q)) ∙ sym (fin.get-remove nat_list_cmp_total (fin.from_entries es) k q))

-- ---- changes of one list among the lists, and the order of serials through them

pub set_named-change : (name : List ℕ) (f : KeyedList → KeyedList) (es : List (List ℕ × HeldList)) (v w : HeldList) → Some v ≡ at_name name es → keyed_list w ≡ f (keyed_list v) → lists_of (set_named name w es) ≡ change_named name f (lists_of es)
set_named-change name f [] v w e h = refl
set_named-change name f (x ∷ es) v w e h = grind (arith, set_named-change name f es v w)

pub set_named-same : (name : List ℕ) (es : List (List ℕ × HeldList)) (v w : HeldList) → Some v ≡ at_name name es → keyed_list w ≡ keyed_list v → lists_of (set_named name w es) ≡ lists_of es
set_named-same name [] v w e h = refl
set_named-same name (x ∷ es) v w e h = grind (arith, set_named-same name es v w)

pub change_named-none : (name : List ℕ) (f : KeyedList → KeyedList) (es : List (List ℕ × HeldList)) → None ≡ at_name name es → lists_of es ≡ change_named name f (lists_of es)
change_named-none name f [] e = refl
change_named-none name f (x ∷ es) e = grind (arith, change_named-none name f es)

pub at_name_lists : (name : List ℕ) (es : List (List ℕ × HeldList)) → at_name name (lists_of es) ≡ option_map keyed_list (at_name name es)
at_name_lists name es = lookup-map_values keyed_list (bytes_eq name) es

pub lists_without : (name : List ℕ) (es : List (List ℕ × HeldList)) → lists_of (without_name name es) ≡ without_name name (lists_of es)
lists_without name [] = refl
lists_without name (x ∷ es) = if_cases lists_of (bytes_eq name x.0) _ _ ∙ ap (λ r. cond (bytes_eq name x.0) (lists_of es) ((x.0, keyed_list x.1) ∷ r)) (lists_without name es)

-- under names that `using` takes
pub has_name_lists : (name : List ℕ) (es : List (List ℕ × HeldList)) → has_name name (lists_of es) ≡ is_some (at_name name es)
has_name_lists name es = grind (arith, at_name_lists)

pub lists_put_new : (name : List ℕ) (v : HeldList) (es : List (List ℕ × HeldList)) → has_name name (lists_of es) ≡ false → lists_of (put_named name v es) ≡ lists_of es ++ (name, keyed_list v) ∷ []
lists_put_new name v es h = ap lists_of (put_named-new name v es (none_is (at_name name es) (sym (has_name_lists name es) ∙ h))) ∙ map-append (λ (e : List ℕ × HeldList). (e.0, keyed_list e.1)) es ((name, v) ∷ [])

-- ---- the order of serials

pub InOrder-weaken : (n k : ℕ) (ls : List (List ℕ × KeyedList)) (m e f : ℕ) → k ≤ n → e ≤ f → InOrder n ls m e → InOrder k ls m f
InOrder-weaken n k [] m e f le lf h = omega arith
InOrder-weaken n k (l ∷ ls) m e f le lf h = (omega (arith, h.0), omega (arith, h.1), h.2, InOrder-weaken (suc l.1.serial) (suc l.1.serial) ls m e f (omega arith) lf h.3)

pub in_order_push : (n : ℕ) (ls : List (List ℕ × KeyedList)) (m e : ℕ) (name : List ℕ) (x : KeyedList) → x.serial ≡ m → x.next ≤ e → Rises 0 x.slots x.next → InOrder n ls m e → InOrder n (ls ++ (name, x) ∷ []) (m + 1) (e + 1)
in_order_push n [] m e name x s few rises h = (omega (arith, h, s), omega (arith, few), rises, omega (arith, s))
in_order_push n (l ∷ ls) m e name x s few rises h = (h.0, omega (arith, h.1), h.2, in_order_push (suc l.1.serial) ls m e name x s few rises h.3)

pub in_order_without : (n : ℕ) (ls : List (List ℕ × KeyedList)) (m e : ℕ) (name : List ℕ) → InOrder n ls m e → InOrder n (without_name name ls) m (e + 1)
in_order_without n [] m e name h = h
in_order_without n (l ∷ ls) m e name h = grind (arith, InOrder-weaken, in_order_without (suc l.1.serial) ls m e name h.3)

-- a change of a list that keeps its serial and its order, and brings at most one new serial
pub record Changes (f : KeyedList → KeyedList) : Type 0 where
  pub serial : (l : KeyedList) → (f l).serial ≡ l.serial
  pub next : (l : KeyedList) → (f l).next ≤ l.next + 1
  pub rises : (l : KeyedList) → Rises 0 l.slots l.next → Rises 0 (f l).slots (f l).next

pub in_order_change : (n : ℕ) (ls : List (List ℕ × KeyedList)) (m e : ℕ) (name : List ℕ) (f : KeyedList → KeyedList) → Changes f → InOrder n ls m e → InOrder n (change_named name f ls) m (e + 1)
in_order_change n [] m e name f k h = h
in_order_change n (l ∷ ls) m e name f k h = grind (arith, InOrder-weaken, in_order_change (suc l.1.serial) ls m e name f k h.3)

pub Changes-put : (x : Content) → Changes (put_keyed x)
Changes-put x = grind (arith, rises_last, Rises-replace)

pub Changes-remove : (name : List ℕ) (version : Option (List ℕ)) → Changes (remove_keyed name version)
Changes-remove name version = record {
  serial = λ l. refl;
  next = λ l. omega arith;
  rises = λ l h. rises l (place (by_name_and_version name version) l.slots) refl h;
}
  where
    rises : (l : KeyedList) (o : Option ℕ) → place (by_name_and_version name version) l.slots ≡ o → Rises 0 l.slots l.next → Rises 0 (remove_slot_at o l.slots) l.next
    rises l None e h = h
    rises l (Some i) e h = Rises-remove 0 l.slots l.next i h (place_within (by_name_and_version name version) l.slots i e)

-- the next serial of a list that is there
pub in_order_next : (n : ℕ) (es : List (List ℕ × HeldList)) (m e : ℕ) (name : List ℕ) → InOrder n (lists_of es) m e → IfSome (at_name name es) (λ s. s.next ≤ e)
in_order_next n [] m e name h = tt
in_order_next n (x ∷ es) m e name h = grind (arith, in_order_next (suc x.1.serial) es m e name h.3)

pub on_ok_map : {X E : Type 0} (r : Result X E) {P Q : Type 0} → (P → Q) → OnOk r P → OnOk r Q
on_ok_map (Ok x) f p = f p
on_ok_map (Err e) f p = tt

pub if_some_map : {X : Type 0} (o : Option X) {P Q : X → Type 0} → ((x : X) → P x → Q x) → IfSome o P → IfSome o Q
if_some_map None f h = tt
if_some_map (Some x) f h = f x h

-- ---- the lists without serials

pub at_name-stanza_lists : (name : List ℕ) (ls : List (List ℕ × KeyedList)) → at_name name (stanza_lists ls) ≡ option_map stanza_list (at_name name ls)
at_name-stanza_lists name ls = lookup-map_values stanza_list (bytes_eq name) ls

-- under names that `using` takes
pub at_name_held : (name : List ℕ) (es : List (List ℕ × HeldList)) → at_name name (stanza_lists (lists_of es)) ≡ option_map stanza_list (option_map keyed_list (at_name name es))
at_name_held name es = at_name-stanza_lists name (lists_of es) ∙ ap (option_map stanza_list) (at_name_lists name es)

pub has_name_held : (name : List ℕ) (es : List (List ℕ × HeldList)) → has_name name (stanza_lists (lists_of es)) ≡ is_some (at_name name es)
has_name_held name es = grind (arith, at_name_held)

pub place_stanzas : (p : Content → Bool) (slots : List (ℕ × Content)) → place p (stanzas_of slots) ≡ place (λ (r : ℕ × Content). p r.1) slots
place_stanzas p slots = place-map (λ (r : ℕ × Content). r.1) p slots

pub has_stanza_held : (list name : List ℕ) (version : Option (List ℕ)) (es : List (List ℕ × HeldList)) → has_stanza list name version (stanza_lists (lists_of es)) ≡ option_map_or (λ (s : HeldList). is_some (place (by_name_and_version name version) s.slots)) (at_name list es) false
has_stanza_held list name version es = grind (arith, at_name_held, place_stanzas)

pub shown_entries : (es : List (List ℕ × HeldList)) → map (λ (e : List ℕ × HeldList). (e.0, e.1.kind, e.1.class)) es ≡ shown_lists (stanza_lists (lists_of es))
shown_entries [] = refl
shown_entries (e ∷ es) = ap (λ l. (e.0, e.1.kind, e.1.class) ∷ l) (shown_entries es)

pub names_held : (es : List (List ℕ × HeldList)) → names_of (stanza_lists (lists_of es)) ≡ names_of es
names_held es = keys_of-map_values stanza_list (lists_of es) ∙ keys_of-map_values keyed_list es

-- ---- lists under their own serials, of which one is changed, comes or goes

-- a name that is not among those of the lists is not that of the list of a serial
entry_apart : (name : List ℕ) (serial : ℕ) (es : List (List ℕ × HeldList)) → AllByRecursion (λ q. bytes_eq name q ≡ false) (names_of es) → IfSome (entry_of serial es) (λ e. bytes_eq e.0 name ≡ false)
entry_apart name serial [] h = tt
entry_apart name serial (x ∷ es) h = grind (arith, nat_list_eq_equiv.symm name x.0, entry_apart name serial es h.1)

-- the list of a serial is that of its name
pub entry_named : (serial : ℕ) (es : List (List ℕ × HeldList)) → IsDistinct bytes_eq (names_of es) → IfSome (entry_of serial es) (λ e. at_name e.0 es ≡ Some e.1)
unfolding IsDistinct
entry_named serial [] h = tt
entry_named serial (x ∷ es) h = grind (arith, nat_list_eq_equiv.refl x.0, entry_apart x.0 serial es h.0, entry_named serial es h.1)

-- so its kind and its class are those of its name
pub list_named : (serial : ℕ) (es : List (List ℕ × HeldList)) (e : List ℕ × HeldList) → IsDistinct bytes_eq (names_of es) → Some e ≡ entry_of serial es → at_name e.0 (stanza_lists (lists_of es)) ≡ Some (stanza_list (keyed_list e.1))
list_named serial es e d found = at_name_held e.0 es ∙ ap (λ o. option_map stanza_list (option_map keyed_list o)) (subst (λ o. IfSome o (λ x. at_name x.0 es ≡ Some x.1)) (sym found) (entry_named serial es d))

-- the slot of a serial is the list of that serial
pub entry_is : (serial : ℕ) (slots : List (ℕ × (List ℕ × HeldList))) → AreNumbered slots → lookup (nat_eq serial) slots ≡ entry_of serial (without_serials slots)
entry_is serial [] h = refl
entry_is serial (slot ∷ slots) h = grind (arith, entry_is serial slots h.1)

pub numbered_last : (n : ℕ) (x : List ℕ × HeldList) (slots : List (ℕ × (List ℕ × HeldList))) → n ≡ x.1.serial → AreNumbered slots → AreNumbered (slots ++ (n, x) ∷ [])
numbered_last n x [] e h = (e, tt)
numbered_last n x (slot ∷ slots) e h = (h.0, numbered_last n x slots e h.1)

pub numbered_cut : (test : List ℕ → Bool) (slots : List (ℕ × (List ℕ × HeldList))) → AreNumbered slots → AreNumbered (cut_filled test slots)
numbered_cut test [] h = h
numbered_cut test (slot ∷ slots) h = grind (arith, numbered_cut test slots h.1)

-- a list is written that has the serial of the one that was there
pub numbered_set : (test : List ℕ → Bool) (slots : List (ℕ × (List ℕ × HeldList))) (v w : HeldList) → Some v ≡ lookup test (without_serials slots) → w.serial ≡ v.serial → AreNumbered slots → AreNumbered (set_filled test slots w)
numbered_set test [] v w at e h = h
numbered_set test (slot ∷ slots) v w at e h = grind (arith, numbered_set test slots v w)

-- what was there, written again
pub set_slot_same : (test : List ℕ → Bool) (slots : List (ℕ × (List ℕ × HeldList))) (v w : HeldList) → Some v ≡ lookup test (without_serials slots) → w ≡ v → set_filled test slots w ≡ slots
set_slot_same test [] v w at e = refl
set_slot_same test (slot ∷ slots) v w at e = grind (arith, set_slot_same test slots v w)

-- ---- the keys that go and come as a stanza is put: at most one goes, and it comes again

abbrev first_key : ℕ → List (ℕ × Content) → List StanzaKey
first_key list slots = map (λ (slot : ℕ × Content). key_of list slot.0) (take 1 slots)

count : (list : ℕ) (slots : List (ℕ × Content)) (i : ℕ) → i < length slots → length (first_key list (drop i slots)) ≡ 1
count list [] i l = absurd (omega arith)
count list (r ∷ slots) zero l = refl
count list (r ∷ slots) (suc i) l = count list slots i (omega arith)

none_new : (l : KeyedList) (o : Option ℕ) → ((i : ℕ) → o ≡ Some i → i < length l.slots) → key_at l o ≡ [] → key_or_new l o ≡ next_key l
none_new l None h e = refl
none_new l (Some i) h e = absurd (omega (arith, count l.serial l.slots i (h i refl), ap (λ (ks : List StanzaKey). length ks) e))

key_count : (l : KeyedList) (o : Option ℕ) → ((i : ℕ) → o ≡ Some i → i < length l.slots) → length (key_at l o) ≡ cond (is_some o) 1 0
key_count l None h = refl
key_count l (Some i) h = count l.serial l.slots i (h i refl)

-- where none goes, a new one comes
pub kept_new : (list : List ℕ) (x : Content) (ls : List (List ℕ × KeyedList)) → found_in list (package_of x) (version_of x) ls ≡ [] → kept_in list x ls ≡ next_in list ls
kept_new list x ls = grind (arith, none_new, place_within)

-- one goes where the list has a stanza of the name and an equal version
pub found_count : (list name : List ℕ) (version : Option (List ℕ)) (ls : List (List ℕ × KeyedList)) → length (found_in list name version ls) ≡ cond (has_stanza list name version (stanza_lists ls)) 1 0
found_count list name version ls = grind (arith, at_name-stanza_lists, key_count, place_within, place_stanzas)

pub more_is : (b : Bool) (gone : ℕ) → gone ≡ cond b 1 0 → 1 - gone ≡ cond b 0 1
more_is b gone e = grind arith

-- ---- what an edit leaves: the stanza of each key that neither goes nor comes, and the lists without serials

other : (a b : Bool) → a ≡ true → (a && b) ≡ false → b ≡ false
other a b e h = grind arith

module _ (k : StanzaKey) where
  absent : (list : ℕ) (rs : List (ℕ × Content)) → nat_eq list k.list ≡ true → IsNotAmong k (map (λ (r : ℕ × Content). key_of list r.0) rs) → lookup (λ s. nat_eq s k.stanza) rs ≡ None
  absent list [] e h = refl
  absent list (r ∷ rs) e h = ap (λ b. cond b (Some r.1) (lookup (λ s. nat_eq s k.stanza) rs)) (other _ _ e h.0) ∙ absent list rs e h.1

  pushed : (list next : ℕ) (x : Content) (rs : List (ℕ × Content)) → nat_eq list k.list ≡ true → key_is k (key_of list next) ≡ false → lookup (λ s. nat_eq s k.stanza) (rs ++ (next, x) ∷ []) ≡ lookup (λ s. nat_eq s k.stanza) rs
  pushed list next x [] e h = ap (λ b. cond b (Some x) None) (other _ _ e h)
  pushed list next x (r ∷ rs) e h = ap (cond (nat_eq r.0 k.stanza) (Some r.1)) (pushed list next x rs e h)

  replaced : (list i : ℕ) (x : Content) (rs : List (ℕ × Content)) → nat_eq list k.list ≡ true → IsNotAmong k (map (λ (r : ℕ × Content). key_of list r.0) (take 1 (drop i rs))) → lookup (λ s. nat_eq s k.stanza) (replace_at rs i x) ≡ lookup (λ s. nat_eq s k.stanza) rs
  replaced list i x [] e h = refl
  replaced list zero x (r ∷ rs) e h = grind arith
  replaced list (suc i) x (r ∷ rs) e h = ap (cond (nat_eq r.0 k.stanza) (Some r.1)) (replaced list i x rs e h)

  removed : (list i : ℕ) (rs : List (ℕ × Content)) → nat_eq list k.list ≡ true → IsNotAmong k (map (λ (r : ℕ × Content). key_of list r.0) (take 1 (drop i rs))) → lookup (λ s. nat_eq s k.stanza) (remove rs i) ≡ lookup (λ s. nat_eq s k.stanza) rs
  removed list zero [] e h = refl
  removed list (suc i) [] e h = refl
  removed list zero (r ∷ rs) e h = sym (ap (λ b. cond b (Some r.1) (lookup (λ s. nat_eq s k.stanza) rs)) (other (nat_eq list k.list) (nat_eq r.0 k.stanza) e h.0))
  removed list (suc i) (r ∷ rs) e h = ap (cond (nat_eq r.0 k.stanza) (Some r.1)) (removed list i rs e h)

  -- where the list is that of the key
  in_list : (list : ℕ) (o p : Option Content) → (nat_eq list k.list ≡ true → o ≡ p) → cond (nat_eq list k.list) o None ≡ cond (nat_eq list k.list) p None
  in_list list o p f = grind arith

  put_stays : (x : Content) (l : KeyedList) → IsNotAmong k (put_key x l) → in_slots k (put_keyed x l) ≡ in_slots k l
  put_stays x l h = grind (arith, in_list, pushed, replaced)

  remove_stays : (name : List ℕ) (version : Option (List ℕ)) (l : KeyedList) → IsNotAmong k (found_key name version l) → in_slots k (remove_keyed name version l) ≡ in_slots k l
  remove_stays name version l h = by (place (by_name_and_version name version) l.slots) h
    where
      by : (o : Option ℕ) → IsNotAmong k (key_at l o) → cond (nat_eq l.serial k.list) (lookup (λ s. nat_eq s k.stanza) (remove_slot_at o l.slots)) None ≡ in_slots k l
      by None h = refl
      by (Some i) h = in_list l.serial _ _ (λ e. removed l.serial i l.slots e h)

  change_stays : (name : List ℕ) (f : KeyedList → KeyedList) (g : KeyedList → List StanzaKey) → ((l : KeyedList) → IsNotAmong k (g l) → in_slots k (f l) ≡ in_slots k l)
      → (ls : List (List ℕ × KeyedList)) → IsNotAmong k (option_map_or g (at_name name ls) []) → stanza_at k (change_named name f ls) ≡ stanza_at k ls
  change_stays name f g s [] h = refl
  change_stays name f g s (l ∷ ls) h = grind (arith, change_stays name f g s ls)

  drop_stays : (name : List ℕ) (ls : List (List ℕ × KeyedList)) → IsNotAmong k (option_map_or keys_of (at_name name ls) []) → stanza_at k (without_name name ls) ≡ stanza_at k ls
  drop_stays name [] h = refl
  drop_stays name (l ∷ ls) h = grind (arith, absent l.1.serial l.1.slots, drop_stays name ls)

  add_stays : (name : List ℕ) (x : KeyedList) (ls : List (List ℕ × KeyedList)) → IsNotAmong k (keys_of x) → stanza_at k (ls ++ (name, x) ∷ []) ≡ stanza_at k ls
  add_stays name x [] h = grind (arith, absent x.serial x.slots)
  add_stays name x (l ∷ ls) h = ap (option_or (in_slots k l.1)) (add_stays name x ls h)

  -- a key that neither goes nor comes keeps its stanza
  pub stays_law : (s : Keyed) (edit : Edit) → IsNotAmong k (removed_of s edit) → IsNotAmong k (added_of s edit) → stanza_at k (keyed_after s edit).lists ≡ stanza_at k s.lists
  stays_law s (AddList name kind class stanzas) h g = add_stays name (list_of_stanzas s.next_list kind class stanzas) s.lists g
  stays_law s (DropList name) h g = drop_stays name s.lists h
  stays_law s (Put list x) h g = change_stays list (put_keyed x) (put_key x) (put_stays x) s.lists g
  stays_law s (Remove list name version) h g = change_stays list (remove_keyed name (Some version)) (found_key name (Some version)) (remove_stays name (Some version)) s.lists h
  stays_law s edit h g = refl

-- ---- the lists without serials

map_replace : (rs : List (ℕ × Content)) (i : ℕ) (x : Content) → stanzas_of (replace_at rs i x) ≡ set (stanzas_of rs) i x
map_replace [] i x = refl
map_replace (r ∷ rs) zero x = refl
map_replace (r ∷ rs) (suc i) x = ap (λ l. r.1 ∷ l) (map_replace rs i x)

pub stanzas_of-slots_from : (n : ℕ) (xs : List Content) → stanzas_of (slots_from n xs) ≡ xs
stanzas_of-slots_from n [] = refl
stanzas_of-slots_from n (x ∷ xs) = ap (λ l. x ∷ l) (stanzas_of-slots_from (suc n) xs)

put_stanzas : (x : Content) (slots : List (ℕ × Content)) (next : ℕ) → stanzas_of (put_slot_at (place (by_name_and_version (package_of x) (version_of x)) slots) x next slots) ≡ put_stanza x (stanzas_of slots)
put_stanzas x slots next = grind (arith, place_stanzas, map-append, map_replace)

remove_stanzas : (name : List ℕ) (version : Option (List ℕ)) (slots : List (ℕ × Content)) → stanzas_of (remove_slot_at (place (by_name_and_version name version) slots) slots) ≡ remove_stanza name version (stanzas_of slots)
remove_stanzas name version slots = grind (arith, place_stanzas, map-remove)

pub put_list : (x : Content) (l : KeyedList) → stanza_list (put_keyed x l) ≡ with_stanzas (put_stanza x) (stanza_list l)
put_list x l = ap (λ (t : List Content). record { kind = l.kind; class = l.class; stanzas = t }) (put_stanzas x l.slots l.next)

pub remove_list : (name : List ℕ) (version : Option (List ℕ)) (l : KeyedList) → stanza_list (remove_keyed name version l) ≡ with_stanzas (remove_stanza name version) (stanza_list l)
remove_list name version l = ap (λ (t : List Content). record { kind = l.kind; class = l.class; stanzas = t }) (remove_stanzas name version l.slots)

pub new_lists : (ls : List (List ℕ × KeyedList)) (name : List ℕ) (serial : ℕ) (kind : ListKind) (class : ListClass) (xs : List Content) → stanza_lists (ls ++ (name, list_of_stanzas serial kind class xs) ∷ []) ≡ stanza_lists ls ++ (name, record { kind = kind; class = class; stanzas = xs }) ∷ []
new_lists [] name serial kind class xs = ap (λ (t : List Content). (name, record { kind = kind; class = class; stanzas = t }) ∷ []) (stanzas_of-slots_from 0 xs)
new_lists (l ∷ ls) name serial kind class xs = ap (λ r. (l.0, stanza_list l.1) ∷ r) (new_lists ls name serial kind class xs)

pub without_lists : (name : List ℕ) (ls : List (List ℕ × KeyedList)) → stanza_lists (without_name name ls) ≡ without_name name (stanza_lists ls)
without_lists name [] = refl
without_lists name (l ∷ ls) = if_cases stanza_lists (bytes_eq name l.0) _ _ ∙ ap (λ r. cond (bytes_eq name l.0) (stanza_lists ls) ((l.0, stanza_list l.1) ∷ r)) (without_lists name ls)

pub change_lists : (name : List ℕ) (f : KeyedList → KeyedList) (g : StanzaList → StanzaList) → ((l : KeyedList) → stanza_list (f l) ≡ g (stanza_list l)) → (ls : List (List ℕ × KeyedList)) → stanza_lists (change_named name f ls) ≡ change_named name g (stanza_lists ls)
change_lists name f g h [] = refl
change_lists name f g h (l ∷ ls) = grind (arith, change_lists name f g h ls)
