-- The order of keys is the order of the lists and of the stanzas in them.
use Rattle.std.proofs.Common.{◌≡◌, ℕ, ◌<◌, suc, List, [], ◌∷◌, ◌++◌, map, arith, ◌∙◌, Bool, true, false, cond, nat_eq, drop, Option, None, Some, refl, ap, ap₂, IfSome, IsSome, sym, subst, is_some, option_map}
use Rattle.std.specs.List.{AllByRecursion}
use Rattle.std.specs.Ordering.{nat_cmp, ordering_then}
use Rattle.std.specs.declared.cmp.Ordering.TheVariants.{Less}
use Rattle.std.proofs.lemmas.Bool.Decides.{nat_tests}
use Rattle.ctl_stanza.specs.Content.{Content}
use Rattle.ctl_store.specs.declared.stanza_key.StanzaKey.{StanzaKey}
use Rattle.ctl_store.specs.Slots.{Rises}
use Rattle.ctl_store.specs.Keys.{KeyedList, key_of, keys_of, key_cmp, all_keys, AreRising, stanzas_of, in_slots, stanza_at, stanza_lists, AreHeld, list_at, holder_of}
use Rattle.ctl_store.specs.Store.{HeldList, lists_of}
use Rattle.ctl_store.specs.Inside.Sound.{InOrder, entry_of}
use Rattle.std.specs.Map.{lookup}
use Rattle.std.specs.Option.{option_or, option_map_or}
use Rattle.std.specs.Str.{bytes_eq}
use Rattle.ctl_store.specs.Named.{at_name}
use Rattle.ctl_store.specs.State.{StanzaList, stanzas_named}
use Rattle.ctl_stanza.specs.declared.list_kind.ListKind.{ListKind}
use Rattle.ctl_store.specs.Kinds.{AreOfKind, KeepKinds}
use Rattle.ctl_store.proofs.PlaceLemmas.{is_eq_from, if_cases, or_none, eq_is, lt_ne, all_map, all_append}

later_list : (a b s t : ℕ) → a < b → ordering_then (nat_cmp a b) (nat_cmp s t) ≡ Less
later_list a b s t l = grind (arith, nat_tests)

later_stanza : (a s t : ℕ) → s < t → ordering_then (nat_cmp a a) (nat_cmp s t) ≡ Less
later_stanza a s t l = grind (arith, nat_tests)

-- each key of the slots from n on is above a serial below n of the same list
above_slots : (list s n : ℕ) (rs : List (ℕ × Content)) (m : ℕ) → s < n → Rises n rs m → AllByRecursion (λ q. key_cmp (key_of list s) q ≡ Less) (map (λ (r : ℕ × Content). key_of list r.0) rs)
above_slots list s n [] m l h = tt
above_slots list s n (r ∷ rs) m l h = (later_stanza list s r.0 (omega (arith, h.0)), above_slots list s (suc r.0) rs m (omega (arith, h.0)) h.1)

slots_of_later : (list s other : ℕ) (rs : List (ℕ × Content)) → list < other → AllByRecursion (λ q. key_cmp (key_of list s) q ≡ Less) (map (λ (r : ℕ × Content). key_of other r.0) rs)
slots_of_later list s other [] l = tt
slots_of_later list s other (r ∷ rs) l = (later_list list other s r.0 l, slots_of_later list s other rs l)

-- and below those of later lists
above_lists : (list s n : ℕ) (ls : List (List ℕ × KeyedList)) (m e : ℕ) → list < n → InOrder n ls m e → AllByRecursion (λ q. key_cmp (key_of list s) q ≡ Less) (all_keys ls)
above_lists list s n [] m e l h = tt
above_lists list s n (x ∷ ls) m e l h = all_append (λ q. key_cmp (key_of list s) q ≡ Less) (keys_of x.1) (all_keys ls) (slots_of_later list s x.1.serial x.1.slots (omega (arith, h.0))) (above_lists list s (suc x.1.serial) ls m e (omega (arith, h.0)) h.3)

rising_slots : (list n : ℕ) (rs : List (ℕ × Content)) (m : ℕ) (ks : List StanzaKey) → Rises n rs m → ((s : ℕ) → AllByRecursion (λ q. key_cmp (key_of list s) q ≡ Less) ks) → AreRising ks → AreRising (map (λ (r : ℕ × Content). key_of list r.0) rs ++ ks)
rising_slots list n [] m ks h a r = r
rising_slots list n (x ∷ rs) m ks h a r =
    (all_append (λ q. key_cmp (key_of list x.0) q ≡ Less) (map (λ (r : ℕ × Content). key_of list r.0) rs) ks (above_slots list x.0 (suc x.0) rs m (omega arith) h.1) (a x.0), rising_slots list (suc x.0) rs m ks h.1 a r)

pub keys_rise : (n : ℕ) (ls : List (List ℕ × KeyedList)) (m e : ℕ) → InOrder n ls m e → AreRising (all_keys ls)
keys_rise n [] m e h = tt
keys_rise n (x ∷ ls) m e h = rising_slots x.1.serial 0 x.1.slots x.1.next (all_keys ls) h.2 (λ s. above_lists x.1.serial s (suc x.1.serial) ls m e (omega arith) h.3) (keys_rise (suc x.1.serial) ls m e h.3)

-- ---- the stanzas under the keys of a list are its stanzas

-- the stanza of a serial among slots
abbrev in_slot : List (ℕ × Content) → StanzaKey → Option Content
in_slot slots k = lookup (λ s. nat_eq s k.stanza) slots

abbrev slot_keys : ℕ → List (ℕ × Content) → List StanzaKey
slot_keys list slots = map (λ (slot : ℕ × Content). key_of list slot.0) slots

-- a slot with a lower serial than these keys
skip_slot : (list s n : ℕ) (x : Content) (slots later : List (ℕ × Content)) (m : ℕ) → s < n → Rises n later m → map (in_slot ((s, x) ∷ slots)) (slot_keys list later) ≡ map (in_slot slots) (slot_keys list later)
skip_slot list s n x slots [] m l h = refl
skip_slot list s n x slots (r ∷ later) m l h =
    ap₂ (λ o os. o ∷ os) (ap (λ b. cond b (Some x) (lookup (λ t. nat_eq t r.0) slots)) (lt_ne s r.0 (omega (arith, h.0)))) (skip_slot list s (suc r.0) x slots later m (omega (arith, h.0)) h.1)

in_slots_found : (list n : ℕ) (slots : List (ℕ × Content)) (m : ℕ) → Rises n slots m → map (in_slot slots) (slot_keys list slots) ≡ map Some (stanzas_of slots)
in_slots_found list n [] m h = refl
in_slots_found list n (r ∷ slots) m h =
    ap₂ (λ o os. o ∷ os) (ap (λ b. cond b (Some r.1) (lookup (λ t. nat_eq t r.0) slots)) (eq_is r.0 r.0 refl))
    (skip_slot list r.0 (suc r.0) r.1 slots slots m (omega arith) h.1 ∙ in_slots_found list (suc r.0) slots m h.1)

-- the list of these keys is the first that is asked
in_first : (l : KeyedList) (ls : List (List ℕ × KeyedList)) (slots : List (ℕ × Content)) (xs : List Content) → map (in_slot l.slots) (slot_keys l.serial slots) ≡ map Some xs →
    map (λ k. option_or (in_slots k l) (stanza_at k ls)) (slot_keys l.serial slots) ≡ map Some xs
in_first l ls [] [] e = refl
in_first l ls [] (x ∷ xs) e = cc e
in_first l ls (r ∷ slots) [] e = cc e
in_first l ls (r ∷ slots) (x ∷ xs) e = grind (arith, in_first l ls slots xs (ap (λ os. drop 1 os) e))

-- a list with a lower serial than these keys
skip_list : (l : KeyedList) (ls : List (List ℕ × KeyedList)) (ks : List StanzaKey) → AllByRecursion (λ k. l.serial < k.list) ks → map (λ k. option_or (in_slots k l) (stanza_at k ls)) ks ≡ map (λ k. stanza_at k ls) ks
skip_list l ls [] h = refl
skip_list l ls (k ∷ ks) h = ap₂ (λ o os. o ∷ os) (ap (λ b. option_or (cond b (in_slot l.slots k) None) (stanza_at k ls)) (lt_ne l.serial k.list h.0)) (skip_list l ls ks h.1)

slots_later : (list n : ℕ) (slots : List (ℕ × Content)) → n < list → AllByRecursion (λ k. n < k.list) (slot_keys list slots)
slots_later list n [] l = tt
slots_later list n (r ∷ slots) l = (l, slots_later list n slots l)

keys_later : (name : List ℕ) (s n : ℕ) (ls : List (List ℕ × KeyedList)) (m e : ℕ) → s < n → InOrder n ls m e → AllByRecursion (λ k. s < k.list) (option_map_or keys_of (at_name name ls) [])
keys_later name s n [] m e l h = tt
keys_later name s n (x ∷ ls) m e l h = grind (arith, slots_later x.1.serial s x.1.slots (omega (arith, h.0)), keys_later name s (suc x.1.serial) ls m e (omega (arith, h.0)) h.3)

pub keys_find : (name : List ℕ) (n : ℕ) (ls : List (List ℕ × KeyedList)) (m e : ℕ) → InOrder n ls m e →
    map (λ k. stanza_at k ls) (option_map_or keys_of (at_name name ls) []) ≡ map Some (stanzas_named name (stanza_lists ls))
keys_find name n [] m e h = refl
keys_find name n (x ∷ ls) m e h = by (bytes_eq name x.0) (keys_find name (suc x.1.serial) ls m e h.3)
  where
    by : (b : Bool) → map (λ k. stanza_at k ls) (option_map_or keys_of (at_name name ls) []) ≡ map Some (stanzas_named name (stanza_lists ls))
        → map (λ k. stanza_at k (x ∷ ls)) (option_map_or keys_of (cond b (Some x.1) (at_name name ls)) [])
        ≡ map Some (option_map_or (λ (l : StanzaList). l.stanzas) (cond b (Some (record { kind = x.1.kind; class = x.1.class; stanzas = stanzas_of x.1.slots })) (at_name name (stanza_lists ls))) [])
    by true found = in_first x.1 ls x.1.slots (stanzas_of x.1.slots) (in_slots_found x.1.serial 0 x.1.slots x.1.next h.2)
    by false found = skip_list x.1 ls (option_map_or keys_of (at_name name ls) []) (keys_later name x.1.serial (suc x.1.serial) ls m e (omega arith) h.3) ∙ found

-- ---- each key of a list is one of the store

module _ {X : Type 0} where
  pub first_is : (b c : Bool) (x : X) (o : Option X) → b ≡ true → c ≡ true → IsSome (cond b (cond c (Some x) o) None)
  first_is b c x o e f = subst (λ b. IsSome (cond b (cond c (Some x) o) None)) (sym e) (subst (λ c. IsSome (cond c (Some x) o)) (sym f) refl)

  pub later_is : (b c : Bool) (x : X) (o : Option X) → IsSome (cond b o None) → IsSome (cond b (cond c (Some x) o) None)
  later_is b c x o h = grind arith

  pub either_first : (a b : Option X) → IsSome a → IsSome (option_or a b)
  either_first a b h = grind arith

  pub either_second : (a b : Option X) → IsSome b → IsSome (option_or a b)
  either_second a b h = grind arith

abbrev pub in_some : ℕ → List (ℕ × Content) → StanzaKey → Type 0
in_some list rs k = IsSome (cond (nat_eq list k.list) (lookup (λ s. nat_eq s k.stanza) rs) None)

slots_there : (list : ℕ) (rs : List (ℕ × Content)) → AllByRecursion (in_some list rs) (map (λ (r : ℕ × Content). key_of list r.0) rs)
slots_there list [] = tt
slots_there list (r ∷ rs) = (
  first_is (nat_eq list list) (nat_eq r.0 r.0) r.1 (lookup (λ s. nat_eq s r.0) rs) (eq_is list list refl) (eq_is r.0 r.0 refl),
  all_map (λ k h. later_is (nat_eq list k.list) (nat_eq r.0 k.stanza) r.1 (lookup (λ s. nat_eq s k.stanza) rs) h) (map (λ (r : ℕ × Content). key_of list r.0) rs) (slots_there list rs),
)

-- keys of the list of a name, which its slots have
pub held_in : (keys : KeyedList → List StanzaKey) → ((l : KeyedList) → AllByRecursion (in_some l.serial l.slots) (keys l)) → (name : List ℕ) (ls : List (List ℕ × KeyedList)) → AreHeld (option_map_or keys (at_name name ls) []) ls
held_in keys there name [] = tt
held_in keys there name (l ∷ ls) = by (bytes_eq name l.0) (held_in keys there name ls)
  where
    by : (b : Bool) → AreHeld (option_map_or keys (at_name name ls) []) ls → AreHeld (option_map_or keys (cond b (Some l.1) (at_name name ls)) []) (l ∷ ls)
    by true h = all_map (λ k g. either_first (in_slots k l.1) (stanza_at k ls) g) (keys l.1) (there l.1)
    by false h = all_map (λ k g. either_second (in_slots k l.1) (stanza_at k ls) g) (option_map_or keys (at_name name ls) []) h

pub keys_held : (name : List ℕ) (ls : List (List ℕ × KeyedList)) → AreHeld (option_map_or keys_of (at_name name ls) []) ls
keys_held name ls = held_in keys_of (λ l. slots_there l.serial l.slots) name ls

-- ---- the stanza of a key, found by the serial of its list

pub none_later : (k : StanzaKey) (n : ℕ) (ls : List (List ℕ × KeyedList)) (m e : ℕ) → k.list < n → InOrder n ls m e → stanza_at k ls ≡ None
none_later k n [] m e l h = refl
none_later k n (x ∷ ls) m e l h = grind (arith, none_later k (suc x.1.serial) ls m e (omega (arith, h.0)) h.3)

abbrev pub in_entry : StanzaKey → Option (List ℕ × HeldList) → Option Content
in_entry k None = None
in_entry k (Some e) = lookup (λ s. nat_eq s k.stanza) e.1.slots

pub look_up : (k : StanzaKey) (n : ℕ) (es : List (List ℕ × HeldList)) (m e : ℕ) → InOrder n (lists_of es) m e → stanza_at k (lists_of es) ≡ in_entry k (entry_of k.list es)
look_up k n [] m e h = refl
look_up k n (x ∷ es) m e h = grind (arith, none_later, is_eq_from, or_none, look_up k (suc x.1.serial) es m e h.3)

pub list_at_entry : (serial : ℕ) (es : List (List ℕ × HeldList)) → list_at serial (lists_of es) ≡ option_map (λ (e : List ℕ × HeldList). e.0) (entry_of serial es)
list_at_entry serial [] = refl
list_at_entry serial (x ∷ es) = ap (cond (nat_eq x.1.serial serial) (Some x.0)) (list_at_entry serial es) ∙ sym (if_cases (option_map (λ (e : List ℕ × HeldList). e.0)) (nat_eq x.1.serial serial) _ _)

pub not_none : {X : Type 0} {P : Type 0} (o : Option X) → IsSome o → o ≡ None → P
not_none o h e = let z : is_some o ≡ false = ap is_some e in absurd (let w : ⊥ = cc in w)

-- the list of its serial holds a key that has a stanza
pub holder_is : (k : StanzaKey) (n : ℕ) (es : List (List ℕ × HeldList)) (m e : ℕ) → InOrder n (lists_of es) m e → IsSome (stanza_at k (lists_of es)) → holder_of k (lists_of es) ≡ list_at k.list (lists_of es)
holder_is k n [] m e h there = refl
holder_is k n (x ∷ es) m e h there = grind (arith, not_none, none_later, is_eq_from, holder_is k (suc x.1.serial) es m e h.3)

-- ---- the kind of a list is that of its stanzas

lookup_kind : (kind : ListKind) (serial : ℕ) (slots : List (ℕ × Content)) → AreOfKind kind (stanzas_of slots) → IfSome (lookup (λ s. nat_eq s serial) slots) (λ x. x.kind ≡ kind)
lookup_kind kind serial [] h = tt
lookup_kind kind serial (slot ∷ slots) h = grind (arith, lookup_kind kind serial slots h.1)

entry_kind : (serial : ℕ) (es : List (List ℕ × HeldList)) (e : List ℕ × HeldList) → KeepKinds (stanza_lists (lists_of es)) → entry_of serial es ≡ Some e → AreOfKind e.1.kind (stanzas_of e.1.slots)
entry_kind serial [] e h is = cc
entry_kind serial (x ∷ es) e h is = grind (arith, entry_kind serial es e h.1)

pub kind_at : (k : StanzaKey) (es : List (List ℕ × HeldList)) (e : List ℕ × HeldList) → KeepKinds (stanza_lists (lists_of es)) → entry_of k.list es ≡ Some e → IsSome (in_entry k (Some e)) → Some e.1.kind ≡ option_map (λ (x : Content). x.kind) (in_entry k (Some e))
kind_at k es e h is there = grind (arith, lookup_kind e.1.kind k.stanza e.1.slots (entry_kind k.list es e h is))

-- it is that of each stanza under a key of the list
pub each_kind : (k : StanzaKey) (n : ℕ) (es : List (List ℕ × HeldList)) (m b : ℕ) (e : List ℕ × HeldList) → InOrder n (lists_of es) m b → KeepKinds (stanza_lists (lists_of es)) → entry_of k.list es ≡ Some e
    → IfSome (stanza_at k (lists_of es)) (λ (x : Content). x.kind ≡ e.1.kind)
each_kind k n es m b e order h is =
    subst (λ o. IfSome o (λ (x : Content). x.kind ≡ e.1.kind)) (sym (look_up k n es m b order ∙ ap (in_entry k) is))
    (lookup_kind e.1.kind k.stanza e.1.slots (entry_kind k.list es e h is))
