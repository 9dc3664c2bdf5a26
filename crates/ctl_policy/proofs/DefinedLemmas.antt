-- The rows of a name by their definition.
use Rattle.std.proofs.Common.{◌≡◌, ℕ, Bool, true, false, cond, ◌&&◌, ◌||◌, nat_eq, List, [], ◌∷◌, ◌++◌, map, Option, None, Some, IsSome, refl, ap, sym, subst, ◌∙◌, Equal}
use Rattle.std.specs.Map.{lookup}
use Rattle.std.specs.Ordering.{is_eq}
use Rattle.std.specs.Option.{option_map_or, option_or}
use Rattle.std.specs.FinMap as fin
use Rattle.std.proofs.lemmas.Bool.{false≢true}
use Rattle.std.proofs.lemmas.Cmp.{eq_by_cmp_equiv, alike_right}
use Rattle.ctl_relation.specs.Version.{version_cmp}
use Rattle.ctl_relation.specs.Orders.Versions.{version_total}
use Rattle.ctl_stanza.specs.Content.{Content}
use Rattle.ctl_store.specs.declared.stanza_key.StanzaKey.{StanzaKey}
use Rattle.ctl_store.specs.Keys.{key_of, all_keys, key_is, stanza_at, AreRising}
use Rattle.ctl_store.specs.Entries.{Entry, entries_of, entries_in, entry_keys}
use Rattle.ctl_policy.specs.Keys.{has_key, or_none, some_keys}
use Rattle.ctl_policy.specs.Rows.{Lists, version_in, versions_of, is_of_version, is_in_row, keys_with, keys_at, rows_of, rows_named, AreRowsOf}
use Rattle.ctl_policy.specs.Kept.{RowsByName, stanzas_in, IsKept}
use Rattle.ctl_policy.proofs.RowLemmas.{eq_is}
use Rattle.ctl_policy.proofs.SetLemmas.{IsBelow, below_absent, key_is-same, same_keys}

pub or_none-some : (ks : List StanzaKey) → or_none (some_keys ks) ≡ ks
or_none-some [] = refl
or_none-some (k ∷ ks) = refl

-- the keys of a version
abbrev pub class : List ℕ → List (StanzaKey × List ℕ) → List StanzaKey
class v [] = []
class v (s ∷ ss) = cond (is_eq (version_cmp s.1 v)) (s.0 ∷ class v ss) (class v ss)

class-equal : (v w : List ℕ) (ss : List (StanzaKey × List ℕ)) → version_cmp v w ≡ Equal → class v ss ≡ class w ss
class-equal v w [] e = refl
class-equal v w (s ∷ ss) e = λ i. cond (is_eq (alike_right version_total v w s.1 e i)) (s.0 ∷ class-equal v w ss e i) (class-equal v w ss e i)

pub get_class : (v : List ℕ) (ss : List (StanzaKey × List ℕ)) → fin.get (rows_of ss) v ≡ some_keys (class v ss)
get_class v [] = fin.get-empty version_cmp v
get_class v (s ∷ ss) = fin.get-insert version_total (rows_of ss) s.1 (s.0 ∷ keys_at (rows_of ss) s.1) v ∙ ap (λ b. cond b (Some (s.0 ∷ keys_at (rows_of ss) s.1)) (fin.get (rows_of ss) v)) ((eq_by_cmp_equiv version_total).symm v s.1) ∙ by (is_eq (version_cmp s.1 v)) refl (get_class v ss) (get_class s.1 ss)
  where
    by : (b : Bool) → is_eq (version_cmp s.1 v) ≡ b → fin.get (rows_of ss) v ≡ some_keys (class v ss) → fin.get (rows_of ss) s.1 ≡ some_keys (class s.1 ss)
        → cond b (Some (s.0 ∷ keys_at (rows_of ss) s.1)) (fin.get (rows_of ss) v) ≡ some_keys (cond b (s.0 ∷ class v ss) (class v ss))
    by true e h g = ap (λ l. Some (s.0 ∷ l)) (ap or_none g ∙ or_none-some (class s.1 ss) ∙ class-equal s.1 v ss (eq_is _ e))
    by false e h g = h

pub class_named : (q v : List ℕ) (ss : List Entry) → class v (versions_of q ss) ≡ keys_with (is_in_row q v) ss
class_named q v [] = refl
class_named q v (s ∷ ss) = by (version_in q s.1) (class_named q v ss)
  where
    by : (o : Option (List ℕ)) → class v (versions_of q ss) ≡ keys_with (is_in_row q v) ss
        → class v (option_map_or (λ (w : List ℕ). (s.0, w) ∷ versions_of q ss) o (versions_of q ss)) ≡ cond (is_of_version v o) (s.0 ∷ keys_with (is_in_row q v) ss) (keys_with (is_in_row q v) ss)
    by None e = e
    by (Some w) e = λ i. cond (is_eq (version_cmp w v)) (s.0 ∷ e i) (e i)

-- ---- the keys of what is placed

pub placed_rows : (serial : ℕ) (rows : List (ℕ × Content)) → entry_keys (map (λ (row : ℕ × Content). (key_of serial row.0, row.1)) rows) ≡ map (λ (row : ℕ × Content). key_of serial row.0) rows
placed_rows serial [] = refl
placed_rows serial (r ∷ rows) = ap (λ l. key_of serial r.0 ∷ l) (placed_rows serial rows)

keys-append : (ss ts : List Entry) → entry_keys (ss ++ ts) ≡ entry_keys ss ++ entry_keys ts
keys-append [] ts = refl
keys-append (s ∷ ss) ts = ap (λ l. s.0 ∷ l) (keys-append ss ts)

pub keys_are : (lists : Lists) → entry_keys (entries_of lists) ≡ all_keys lists
keys_are [] = refl
keys_are (l ∷ ls) = keys-append (entries_in l.1) (entries_of ls) ∙ (λ i. placed_rows l.1.serial l.1.slots i ++ keys_are ls i)

pub with_below : (p : Content → Bool) (k : StanzaKey) (ss : List Entry) → IsBelow k (entry_keys ss) → IsBelow k (keys_with p ss)
with_below p k [] h = tt
with_below p k (s ∷ ss) h = by (p s.1) (with_below p k ss h.1)
  where
    by : (b : Bool) → IsBelow k (keys_with p ss) → IsBelow k (cond b (s.0 ∷ keys_with p ss) (keys_with p ss))
    by true r = (h.0, r)
    by false r = r

pub with_rises : (p : Content → Bool) (ss : List Entry) → AreRising (entry_keys ss) → AreRising (keys_with p ss)
with_rises p [] h = tt
with_rises p (s ∷ ss) h = by (p s.1) (with_rises p ss h.1)
  where
    by : (b : Bool) → AreRising (keys_with p ss) → AreRising (cond b (s.0 ∷ keys_with p ss) (keys_with p ss))
    by true r = (with_below p s.0 ss h.0, r)
    by false r = r

-- the stanza of a key among those that are placed
abbrev pub find_in : StanzaKey → List Entry → Option Content
find_in k [] = None
find_in k (s ∷ ss) = cond (key_is k s.0) (Some s.1) (find_in k ss)

find_in-append : (k : StanzaKey) (ss ts : List Entry) → find_in k (ss ++ ts) ≡ option_or (find_in k ss) (find_in k ts)
find_in-append k [] ts = refl
find_in-append k (s ∷ ss) ts = by (key_is k s.0) (find_in-append k ss ts)
  where
    by : (b : Bool) → find_in k (ss ++ ts) ≡ option_or (find_in k ss) (find_in k ts) → cond b (Some s.1) (find_in k (ss ++ ts)) ≡ option_or (cond b (Some s.1) (find_in k ss)) (find_in k ts)
    by true e = refl
    by false e = e

pub find_in-rows : (k : StanzaKey) (serial : ℕ) (rows : List (ℕ × Content)) (b : Bool) → nat_eq serial k.list ≡ b → find_in k (map (λ (row : ℕ × Content). (key_of serial row.0, row.1)) rows) ≡ cond b (lookup (λ s. nat_eq s k.stanza) rows) None
find_in-rows k serial [] true e = refl
find_in-rows k serial [] false e = refl
find_in-rows k serial (r ∷ rows) true e = λ i. cond (e i && nat_eq r.0 k.stanza) (Some r.1) (find_in-rows k serial rows true e i)
find_in-rows k serial (r ∷ rows) false e = λ i. cond (e i && nat_eq r.0 k.stanza) (Some r.1) (find_in-rows k serial rows false e i)

pub find_placed : (k : StanzaKey) (lists : Lists) → find_in k (entries_of lists) ≡ stanza_at k lists
find_placed k [] = refl
find_placed k (l ∷ ls) = find_in-append k (entries_in l.1) (entries_of ls) ∙ (λ i. option_or (find_in-rows k l.1.serial l.1.slots (nat_eq l.1.serial k.list) refl i) (find_placed k ls i))

pub has_key-placed : (p : Content → Bool) (k : StanzaKey) (ss : List Entry) → AreRising (entry_keys ss) → has_key k (keys_with p ss) ≡ option_map_or p (find_in k ss) false
has_key-placed p k [] h = refl
has_key-placed p k (s ∷ ss) h = by (key_is k s.0) refl (p s.1) refl (has_key-placed p k ss h.1)
  where
    by : (c : Bool) → key_is k s.0 ≡ c → (b : Bool) → p s.1 ≡ b → has_key k (keys_with p ss) ≡ option_map_or p (find_in k ss) false
        → has_key k (cond b (s.0 ∷ keys_with p ss) (keys_with p ss)) ≡ option_map_or p (cond c (Some s.1) (find_in k ss)) false
    by true e true is h' = ap (λ c. c || has_key k (keys_with p ss)) e ∙ sym is
    by true e false is h' = ap (λ z. has_key z (keys_with p ss)) (key_is-same k s.0 e) ∙ below_absent s.0 (keys_with p ss) (with_below p s.0 ss h.0) ∙ sym is
    by false e true is h' = ap (λ c. c || has_key k (keys_with p ss)) e ∙ h'
    by false e false is h' = h'

-- the row of a name and a version is a class of equal versions
pub row_defined : (q v : List ℕ) (lists : Lists) → fin.get (rows_named q lists) v ≡ some_keys (keys_with (is_in_row q v) (entries_of lists))
row_defined q v lists = get_class v (versions_of q (entries_of lists)) ∙ ap some_keys (class_named q v (entries_of lists))

-- Rows that follow the stanzas are those of the definition.
pub kept_rows : (rows : RowsByName) (lists : Lists) → AreRising (all_keys lists) → IsKept rows (stanzas_in lists) → (q : List ℕ) → AreRowsOf (rows q) q lists
kept_rows rows lists rising kept q v =
    let up = subst AreRising (sym (keys_are lists)) rising in
    kept.some q v
    ∙ ap some_keys (same_keys (keys_at (rows q) v) (keys_with (is_in_row q v) (entries_of lists)) (kept.rises q v) (with_rises (is_in_row q v) (entries_of lists) up)
    (λ k. kept.held q v k ∙ ap (λ o. option_map_or (is_in_row q v) o false) (sym (find_placed k lists)) ∙ sym (has_key-placed (is_in_row q v) k (entries_of lists) up)))
    ∙ sym (row_defined q v lists)

-- ---- keys in rows have stanzas

has_key-found : (p : Content → Bool) (k : StanzaKey) (ss : List Entry) → has_key k (keys_with p ss) ≡ true → IsSome (find_in k ss)
has_key-found p k [] h = absurd (false≢true h)
has_key-found p k (s ∷ ss) h = by (p s.1) (key_is k s.0) refl h (has_key-found p k ss)
  where
    by : (b c : Bool) → key_is k s.0 ≡ c → has_key k (cond b (s.0 ∷ keys_with p ss) (keys_with p ss)) ≡ true → (has_key k (keys_with p ss) ≡ true → IsSome (find_in k ss)) → IsSome (cond c (Some s.1) (find_in k ss))
    by b true is h rest = refl
    by true false is h rest = rest (ap (λ c. c || has_key k (keys_with p ss)) (sym is) ∙ h)
    by false false is h rest = rest h

pub key_held : (q v : List ℕ) (lists : Lists) (k : StanzaKey) → has_key k (keys_at (rows_named q lists) v) ≡ true → IsSome (stanza_at k lists)
key_held q v lists k h =
    subst (λ o. IsSome o) (find_placed k lists)
    (has_key-found (is_in_row q v) k (entries_of lists) (ap (has_key k) (sym (ap or_none (row_defined q v lists) ∙ or_none-some (keys_with (is_in_row q v) (entries_of lists)))) ∙ h))
