-- Stanzas under keys: what stands under a key, keys that stand apart, and those of a store.
use Rattle.std.proofs.Common.{◌≡◌, ℕ, Bool, true, false, cond, not, nat_eq, ◌&&◌, ◌||◌, List, [], ◌∷◌, ◌++◌, map, Option, Some, None, option_map, refl, ap, sym, subst, ◌∙◌, arith, nat_cmp}
use Rattle.std.specs.List.{list_any, cons_option, AllByRecursion}
use Rattle.std.specs.Map.{lookup}
use Rattle.std.specs.Option.{option_or}
use Rattle.std.specs.Ordering.{is_eq}
use Rattle.std.specs.declared.cmp.Ordering.TheVariants.{Less}
use Rattle.std.proofs.lemmas.Bool.Decides.{nat_tests}
use Rattle.std.proofs.lemmas.List.{map-append}
use Rattle.ctl_stanza.specs.Content.{Content}
use Rattle.ctl_store.specs.declared.stanza_key.StanzaKey.{StanzaKey}
use Rattle.ctl_store.specs.Keys.{KeyedList, key_of, key_cmp, key_is, all_keys, AreRising, stanza_at}
use Rattle.ctl_store.specs.Entries.{Entry, entries_in, entries_of, entry_keys, is_among, without_keys, entries_by}
use Rattle.ctl_store.specs.Store.{Held, keyed_of}
use Rattle.ctl_store.specs.Followed.{under, AreApart}
use Rattle.ctl_index.specs.Inside.TablesPending.{seen, AreSeen, in_store}
use Rattle.ctl_index.proofs.ClauseLemmas.{is_eq_nat, is_eq_then, nat_eq-refl}
use Rattle.ctl_index.proofs.SeenLemmas.{key_is-same}

-- ---- in general

pub all_both : {X : Type 0} (P Q R : X → Type 0) (xs : List X) → ((x : X) → P x → Q x → R x) → AllByRecursion P xs → AllByRecursion Q xs → AllByRecursion R xs
all_both P Q R [] f p q = tt
all_both P Q R (x ∷ xs) f p q = (f x p.0 q.0, all_both P Q R xs f p.1 q.1)

pub all_append : {X : Type 0} (P : X → Type 0) (xs ys : List X) → AllByRecursion P xs → AllByRecursion P ys → AllByRecursion P (xs ++ ys)
all_append P [] ys p q = q
all_append P (x ∷ xs) ys p q = (p.0, all_append P xs ys p.1 q)

pub all_back : {X : Type 0} (P : X → Type 0) (xs ys : List X) → AllByRecursion P (xs ++ ys) → AllByRecursion P ys
all_back P [] ys h = h
all_back P (x ∷ xs) ys h = all_back P xs ys h.1

pub all_front : {X : Type 0} (P : X → Type 0) (xs ys : List X) → AllByRecursion P (xs ++ ys) → AllByRecursion P xs
all_front P [] ys h = tt
all_front P (x ∷ xs) ys h = (h.0, all_front P xs ys h.1)

pub apart_back : (xs ys : List Entry) → AreApart (xs ++ ys) → AreApart ys
apart_back [] ys h = h
apart_back (x ∷ xs) ys h = apart_back xs ys h.1

pub apart_front : (xs ys : List Entry) → AreApart (xs ++ ys) → AreApart xs
apart_front [] ys h = tt
apart_front (x ∷ xs) ys h = (all_front (λ (d : Entry). key_is x.0 d.0 ≡ false) xs ys h.0, apart_front xs ys h.1)

nat_eq-turned : (a b : ℕ) → nat_eq a b ≡ nat_eq b a
nat_eq-turned a b = grind (arith, nat_tests)

pub key_is-turned : (a b : StanzaKey) → key_is a b ≡ key_is b a
key_is-turned a b = λ i. nat_eq-turned b.list a.list i && nat_eq-turned b.stanza a.stanza i

pub key_is-own : (a : StanzaKey) → key_is a a ≡ true
key_is-own a = λ i. nat_eq-refl a.list i && nat_eq-refl a.stanza i

-- ---- what stands under a key

pub under-append : (k : StanzaKey) (xs ys : List Entry) → under k (xs ++ ys) ≡ option_or (under k xs) (under k ys)
under-append k [] ys = refl
under-append k (x ∷ xs) ys = by (key_is k x.0) (under-append k xs ys)
  where
    by : (b : Bool) → under k (xs ++ ys) ≡ option_or (under k xs) (under k ys) → cond b (Some x.1) (under k (xs ++ ys)) ≡ option_or (cond b (Some x.1) (under k xs)) (under k ys)
    by true rest = refl
    by false rest = rest

in_list : (k : StanzaKey) (serial : ℕ) (rows : List (ℕ × Content)) → under k (map (λ (row : ℕ × Content). (key_of serial row.0, row.1)) rows) ≡ cond (nat_eq serial k.list) (lookup (λ s. nat_eq s k.stanza) rows) None
in_list k serial [] = by (nat_eq serial k.list)
  where
    by : (b : Bool) → ◌≡◌ {A = Option Content} None (cond b None None)
    by true = refl
    by false = refl
in_list k serial (row ∷ rows) = by (nat_eq serial k.list) (nat_eq row.0 k.stanza) (in_list k serial rows)
  where
    by : (b d : Bool) → under k (map (λ (r : ℕ × Content). (key_of serial r.0, r.1)) rows) ≡ cond b (lookup (λ s. nat_eq s k.stanza) rows) None
        → cond (b && d) (Some row.1) (under k (map (λ (r : ℕ × Content). (key_of serial r.0, r.1)) rows)) ≡ cond b (cond d (Some row.1) (lookup (λ s. nat_eq s k.stanza) rows)) None
    by true true rest = refl
    by true false rest = rest
    by false d rest = rest

-- a store's stanza of a key is the one under it
pub stanza_under : (k : StanzaKey) (ls : List (List ℕ × KeyedList)) → stanza_at k ls ≡ under k (entries_of ls)
stanza_under k [] = refl
stanza_under k (l ∷ ls) = (λ i. option_or (sym (in_list k l.1.serial l.1.slots) i) (stanza_under k ls i)) ∙ sym (under-append k (entries_in l.1) (entries_of ls))

pub own_under : (es : List Entry) → AreApart es → AllByRecursion (λ (e : Entry). under e.0 es ≡ Some e.1) es
own_under [] h = tt
own_under (e ∷ es) h = (
  ap (λ b. cond b (Some e.1) (under e.0 es)) (key_is-own e.0),
  all_both (λ (d : Entry). key_is e.0 d.0 ≡ false) (λ (d : Entry). under d.0 es ≡ Some d.1) (λ (d : Entry). under d.0 (e ∷ es) ≡ Some d.1) es
      (λ d apart is. ap (λ b. cond b (Some e.1) (under d.0 es)) (key_is-turned d.0 e.0 ∙ apart) ∙ is) h.0 (own_under es h.1),
)

pub store_seen : (h : Held) → AreApart (entries_of (keyed_of h).lists) → AreSeen (in_store h) (entries_of (keyed_of h).lists)
store_seen h apart =
    let es = entries_of (keyed_of h).lists in
    all_both (λ (e : Entry). under e.0 es ≡ Some e.1) (λ (e : Entry). under e.0 es ≡ Some e.1) (λ (e : Entry). seen (in_store h) e.0 ≡ Some e.1) es
    (λ e is _. stanza_under e.0 (keyed_of h).lists ∙ is) (own_under es apart) (own_under es apart)

-- ---- keys that rise stand apart

plain_keys : (serial : ℕ) (rows : List (ℕ × Content)) → map (λ (e : Entry). e.0) (map (λ (row : ℕ × Content). (key_of serial row.0, row.1)) rows) ≡ map (λ (row : ℕ × Content). key_of serial row.0) rows
plain_keys serial [] = refl
plain_keys serial (row ∷ rows) = ap (λ ks. key_of serial row.0 ∷ ks) (plain_keys serial rows)

pub keys_of_entries : (ls : List (List ℕ × KeyedList)) → map (λ (e : Entry). e.0) (entries_of ls) ≡ all_keys ls
keys_of_entries [] = refl
keys_of_entries (l ∷ ls) = map-append (λ (e : Entry). e.0) (entries_in l.1) (entries_of ls) ∙ (λ i. plain_keys l.1.serial l.1.slots i ++ keys_of_entries ls i)

below_apart : (k q : StanzaKey) → key_cmp k q ≡ Less → key_is k q ≡ false
below_apart k q h = turned ∙ sym tie ∙ ap is_eq h
  where
    turned : key_is k q ≡ nat_eq k.list q.list && nat_eq k.stanza q.stanza
    turned = (λ i. nat_eq-turned q.list k.list i && nat_eq-turned q.stanza k.stanza i)

    tie : is_eq (key_cmp k q) ≡ nat_eq k.list q.list && nat_eq k.stanza q.stanza
    tie = is_eq_then (nat_cmp k.list q.list) (nat_cmp k.stanza q.stanza) ∙ (λ i. is_eq_nat k.list q.list i && is_eq_nat k.stanza q.stanza i)

apart_of_keys : (es : List Entry) → AreRising (map (λ (e : Entry). e.0) es) → AreApart es
apart_of_keys [] h = tt
apart_of_keys (e ∷ es) h = (go es h.0, apart_of_keys es h.1)
  where
    go : (ds : List Entry) → AllByRecursion (λ q. key_cmp e.0 q ≡ Less) (map (λ (d : Entry). d.0) ds) → AllByRecursion (λ (d : Entry). key_is e.0 d.0 ≡ false) ds
    go [] p = tt
    go (d ∷ ds) p = (below_apart e.0 d.0 p.0, go ds p.1)

pub rising_apart : (ls : List (List ℕ × KeyedList)) → AreRising (all_keys ls) → AreApart (entries_of ls)
rising_apart ls h = apart_of_keys (entries_of ls) (subst AreRising (sym (keys_of_entries ls)) h)

-- ---- stanzas without those of some keys

pub all_kept : (P : Entry → Type 0) (ks : List StanzaKey) (es : List Entry) → AllByRecursion P es → AllByRecursion P (without_keys ks es)
all_kept P ks [] h = tt
all_kept P ks (e ∷ es) h = by (is_among ks e) (all_kept P ks es h.1)
  where
    by : (b : Bool) → AllByRecursion P (without_keys ks es) → AllByRecursion P (cond (not b) (e ∷ without_keys ks es) (without_keys ks es))
    by true rest = rest
    by false rest = (h.0, rest)

-- where each that is of none of the keys has it
pub all_others : (R : Entry → Type 0) (ks : List StanzaKey) (es : List Entry) → AllByRecursion (λ (e : Entry). is_among ks e ≡ false → R e) es → AllByRecursion R (without_keys ks es)
all_others R ks [] h = tt
all_others R ks (e ∷ es) h = by (is_among ks e) refl (all_others R ks es h.1)
  where
    by : (b : Bool) → is_among ks e ≡ b → AllByRecursion R (without_keys ks es) → AllByRecursion R (cond (not b) (e ∷ without_keys ks es) (without_keys ks es))
    by true is rest = rest
    by false is rest = (h.0 is, rest)

pub apart_kept : (ks : List StanzaKey) (es : List Entry) → AreApart es → AreApart (without_keys ks es)
apart_kept ks [] h = tt
apart_kept ks (e ∷ es) h = by (is_among ks e) (apart_kept ks es h.1)
  where
    by : (b : Bool) → AreApart (without_keys ks es) → AreApart (cond (not b) (e ∷ without_keys ks es) (without_keys ks es))
    by true rest = rest
    by false rest = (all_kept (λ (d : Entry). key_is e.0 d.0 ≡ false) ks es h.0, rest)

-- those that stay are of none of the keys
pub none_among : (ks : List StanzaKey) (es : List Entry) → AllByRecursion (λ (e : Entry). is_among ks e ≡ false) (without_keys ks es)
none_among ks [] = tt
none_among ks (e ∷ es) = by (is_among ks e) refl (none_among ks es)
  where
    by : (b : Bool) → is_among ks e ≡ b → AllByRecursion (λ (d : Entry). is_among ks d ≡ false) (without_keys ks es) → AllByRecursion (λ (d : Entry). is_among ks d ≡ false) (cond (not b) (e ∷ without_keys ks es) (without_keys ks es))
    by true is rest = rest
    by false is rest = (is, rest)

-- what is under a key without some keys
pub under-without_keys : (k : StanzaKey) (ks : List StanzaKey) (es : List Entry) → under k (without_keys ks es) ≡ cond (list_any (key_is k) ks) None (under k es)
under-without_keys k ks [] = either (list_any (key_is k) ks)
  where
    either : (b : Bool) → ◌≡◌ {A = Option Content} None (cond b None None)
    either true = refl
    either false = refl
under-without_keys k ks (e ∷ es) = by (key_is k e.0) (is_among ks e) (list_any (key_is k) ks) refl (λ h. ap (λ (q : StanzaKey). list_any (key_is q) ks) (key_is-same k e.0 h)) (under-without_keys k ks es)
  where
    by : (b c a : Bool) → key_is k e.0 ≡ b → (b ≡ true → a ≡ c) → under k (without_keys ks es) ≡ cond a None (under k es)
        → under k (cond (not c) (e ∷ without_keys ks es) (without_keys ks es)) ≡ cond a None (cond b (Some e.1) (under k es))
    by true true a h s rest = rest ∙ ap (λ z. cond z None (under k es)) (s refl) ∙ sym (ap (λ z. cond z None (Some e.1)) (s refl))
    by true false a h s rest = ap (λ z. cond z (Some e.1) (under k (without_keys ks es))) h ∙ sym (ap (λ z. cond z None (Some e.1)) (s refl))
    by false true a h s rest = rest
    by false false a h s rest = ap (λ z. cond z (Some e.1) (under k (without_keys ks es))) h ∙ rest

module _ (k : StanzaKey) where
  -- what is under a key in a part that has the key
  pub found_part : (es part : List Entry) → AllByRecursion (λ (e : Entry). under e.0 es ≡ Some e.1) part → list_any (key_is k) (entry_keys part) ≡ true → under k part ≡ under k es
  found_part es [] own h = absurd (let z : ⊥ = cc in z)
  found_part es (e ∷ part) own h = by (key_is k e.0) refl h (found_part es part own.1)
    where
      by : (b : Bool) → key_is k e.0 ≡ b → (b || list_any (key_is k) (entry_keys part)) ≡ true → (list_any (key_is k) (entry_keys part) ≡ true → under k part ≡ under k es) → cond b (Some e.1) (under k part) ≡ under k es
      by true is h rest = sym (ap (λ q. under q es) (key_is-same k e.0 is) ∙ own.0)
      by false is h rest = rest h

-- what is found under keys
pub under_by : (find : StanzaKey → Option Content) (ks : List StanzaKey) (k : StanzaKey) → under k (entries_by find ks) ≡ cond (list_any (key_is k) ks) (find k) None
under_by find [] k = refl
under_by find (q ∷ ks) k = by (find q) refl (under_by find ks k)
  where
    none : (b : Bool) → ◌≡◌ {A = Option Content} (cond b None None) None
    none true = refl
    none false = refl

    gone : (b : Bool) → key_is k q ≡ b → find q ≡ None → cond (list_any (key_is k) ks) (find k) None ≡ cond (b || list_any (key_is k) ks) (find k) None
    gone true is e = let z : find k ≡ None = ap find (key_is-same k q is) ∙ e in ap (λ o. cond (list_any (key_is k) ks) o None) z ∙ none (list_any (key_is k) ks) ∙ sym z
    gone false is e = refl

    here : (b : Bool) → key_is k q ≡ b → (x : Content) → find q ≡ Some x → under k (entries_by find ks) ≡ cond (list_any (key_is k) ks) (find k) None
        → cond b (Some x) (under k (entries_by find ks)) ≡ cond (b || list_any (key_is k) ks) (find k) None
    here true is x e rest = sym (ap find (key_is-same k q is) ∙ e)
    here false is x e rest = rest

    by : (o : Option Content) → find q ≡ o → under k (entries_by find ks) ≡ cond (list_any (key_is k) ks) (find k) None
        → under k (cons_option (option_map (λ (x : Content). (q, x)) o) (entries_by find ks)) ≡ cond (key_is k q || list_any (key_is k) ks) (find k) None
    by None e rest = rest ∙ gone (key_is k q) refl e
    by (Some x) e rest = here (key_is k q) refl x e rest

or_more : (a b : Bool) → b ≡ true → (a || b) ≡ true
or_more true b h = refl
or_more false b h = h

pub own_among : (ks : List StanzaKey) → AllByRecursion (λ k. list_any (key_is k) ks ≡ true) ks
own_among [] = tt
own_among (k ∷ ks) = (
  ap (λ b. b || list_any (key_is k) ks) (key_is-own k),
  all_both (λ q. list_any (key_is q) ks ≡ true) (λ q. list_any (key_is q) ks ≡ true) (λ q. list_any (key_is q) (k ∷ ks) ≡ true) ks (λ q h _. or_more (key_is q k) (list_any (key_is q) ks) h) (own_among ks) (own_among ks),
)

-- what is found alike is the same
pub entries_alike : (f g : StanzaKey → Option Content) (ks : List StanzaKey) → AllByRecursion (λ k. f k ≡ g k) ks → entries_by f ks ≡ entries_by g ks
entries_alike f g [] h = refl
entries_alike f g (k ∷ ks) h = λ i. cons_option (option_map (λ (x : Content). (k, x)) (h.0 i)) (entries_alike f g ks h.1 i)

-- all stanzas are found under their keys
pub own_found : (find : StanzaKey → Option Content) (es : List Entry) → AllByRecursion (λ (e : Entry). find e.0 ≡ Some e.1) es → entries_by find (entry_keys es) ≡ es
own_found find [] h = refl
own_found find (e ∷ es) h = λ i. cons_option (option_map (λ (x : Content). (e.0, x)) (h.0 i)) (own_found find es h.1 i)
