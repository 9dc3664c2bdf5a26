-- Stanzas that come and go leave other names; lists that hold no stanza of a name are no source of its rows.
use Rattle.std.proofs.Common.{◌≡◌, ◌⊎◌, inl, inr, ℕ, Bool, true, false, cond, ◌&&◌, ◌||◌, List, [], ◌∷◌, ◌++◌, map, reverse, Option, None, Some, IfSome, IsSome, option_map, unwrap_or, is_some, refl, ap, sym, subst, ◌∙◌}
use Rattle.std.specs.Str.{bytes_eq}
use Rattle.std.specs.Option.{option_map_or}
use Rattle.std.specs.List.{AllByRecursion}
use Rattle.std.specs.FinMap as fin
use Rattle.std.proofs.lemmas.Bool.{false≢true}
use Rattle.std.proofs.lemmas.List.{reverse-append}
use Rattle.ctl_relation.specs.Version.{triple_of}
use Rattle.ctl_stanza.specs.Content.{Content, version_of}
use Rattle.ctl_store.specs.declared.selector.Selector.{Selector}
use Rattle.ctl_store.specs.declared.selector.Selector.TheVariants.{Version, Release}
use Rattle.ctl_store.specs.declared.stanza_key.StanzaKey.{StanzaKey}
use Rattle.ctl_store.specs.Step.{is_status}
use Rattle.ctl_store.specs.Keys.{key_is, stanza_at, holder_of, all_keys, AreHeld, AreRising}
use Rattle.ctl_store.specs.Entries.{entries_of}
use Rattle.ctl_policy.specs.Keys.{has_key, or_none, some_keys}
use Rattle.ctl_policy.specs.Rows.{Lists, Rows, Row, keys_at, keys_of_row, AreRowsOf, is_of_version, is_in_row, keys_with, rows_named, newest_first, HasLead, lead_of, lead_at, version_under, is_called, is_source}
use Rattle.ctl_policy.specs.Priority.{Settings, World, matches_text, matches_row, specific_pin, priority_found, source_priorities, greatest, row_priority}
use Rattle.ctl_policy.specs.Candidate.{is_status_of, wanted_version, version_if_row}
use Rattle.ctl_policy.specs.Laws.{rows_in, with_lists, version_found, Stays, IsUntouched, AreSameLists, IsNoSource, HoldsNone}
use Rattle.ctl_policy.proofs.SetLemmas.{same_keys, key_is-itself}
use Rattle.ctl_policy.proofs.DefinedLemmas.{or_none-some, key_held, keys_are, with_rises, find_placed, has_key-placed, row_defined}
use Rattle.ctl_policy.proofs.ShownLemmas.{sorted, find_is}
use Rattle.ctl_policy.proofs.HeldLemmas.{each_key, each_value}
use Rattle.ctl_policy.proofs.ChoiceLemmas.{shown_alike}
use Rattle.ctl_policy.proofs.RestLemmas.{stays}

or_left : (a b : Bool) → a ≡ true → (a || b) ≡ true
or_left true b e = refl
or_left false b e = cc

pub or_right : (a b : Bool) → b ≡ true → (a || b) ≡ true
or_right true b e = refl
or_right false b e = e

both_false : (a b : Bool) → a ≡ false → b ≡ false → (a || b) ≡ false
both_false true b e f = e
both_false false b e f = f

-- what a test that looks at the version alone says of a stanza that was found
tells_version : (q v : List ℕ) (o : Option Content) → option_map_or (is_in_row q v) o false ≡ is_of_version v (version_found q o)
tells_version q v None = refl
tells_version q v (Some x) = refl

status_none : (q : List ℕ) (o : Option Content) → version_found q o ≡ None → option_map_or (is_status_of q) o false ≡ false
status_none q None e = refl
status_none q (Some x) e = ap (λ o. is_status x.kind && is_some o) e ∙ by (is_status x.kind)
  where
    by : (b : Bool) → (b && false) ≡ false
    by true = refl
    by false = refl

-- ---- all of some rows

module _ {X : Type 0} (P : X → Type 0) where
  pub all_append : (xs ys : List X) → AllByRecursion P xs → AllByRecursion P ys → AllByRecursion P (xs ++ ys)
  all_append [] ys h k = k
  all_append (x ∷ xs) ys h k = (h.0, all_append xs ys h.1 k)

  pub all_reverse : (xs : List X) → AllByRecursion P xs → AllByRecursion P (reverse xs)
  all_reverse [] h = tt
  all_reverse (x ∷ xs) h = subst (AllByRecursion P) (sym (reverse-append (x ∷ []) xs)) (all_append (reverse xs) (x ∷ []) (all_reverse xs h.1) (h.0, tt))

pub all_shown : (P : List StanzaKey → Type 0) (es : List (List ℕ × List StanzaKey)) → AllByRecursion (λ (e : List ℕ × List StanzaKey). P e.1) es → AllByRecursion (λ (row : Row). P row.1) (map (λ (row : List ℕ × List StanzaKey). (triple_of row.0, row.1)) es)
all_shown P [] h = tt
all_shown P (e ∷ es) h = (h.0, all_shown P es h.1)

all_implies : (P Q : List StanzaKey → Type 0) (rows : List Row) → ((keys : List StanzaKey) → P keys → Q keys) → AllByRecursion (λ (row : Row). P row.1) rows → AllByRecursion (λ (row : Row). Q row.1) rows
all_implies P Q [] f h = tt
all_implies P Q (row ∷ rows) f h = (f row.1 h.0, all_implies P Q rows f h.1)

if_some_keys : (P : List StanzaKey → Type 0) (ks : List StanzaKey) → P ks → IfSome (some_keys ks) P
if_some_keys P [] h = tt
if_some_keys P (k ∷ ks) h = h

-- what holds of the keys of each class that has some holds of each row
each_some : (P : List StanzaKey → Type 0) (q : List ℕ) (lists : Lists) → ((v : List ℕ) → IfSome (some_keys (keys_with (is_in_row q v) (entries_of lists))) P) → AllByRecursion (λ (row : Row). P row.1) (newest_first (rows_named q lists))
each_some P q lists h =
    let es = fin.entries (rows_named q lists) in
    all_reverse (λ (row : Row). P row.1) (map (λ (row : List ℕ × List StanzaKey). (triple_of row.0, row.1)) es) (all_shown P es
    (each_value P es (sorted es (fin.entries_sorted (rows_named q lists)))
    (λ v. subst (λ o. IfSome o P) (sym (find_is v es ∙ sym (fin.get-entries (rows_named q lists) v) ∙ row_defined q v lists)) (h v))))

-- and so does what holds of the keys of each class
each_class : (P : List StanzaKey → Type 0) (q : List ℕ) (lists : Lists) → ((v : List ℕ) → P (keys_with (is_in_row q v) (entries_of lists))) → AllByRecursion (λ (row : Row). P row.1) (newest_first (rows_named q lists))
each_class P q lists h = each_some P q lists (λ v. if_some_keys P (keys_with (is_in_row q v) (entries_of lists)) (h v))

among : (lists : Lists) → AreRising (all_keys lists) → (p : Content → Bool) (k : StanzaKey) → has_key k (keys_with p (entries_of lists)) ≡ option_map_or p (stanza_at k lists) false
among lists rising p k = has_key-placed p k (entries_of lists) (subst AreRising (sym (keys_are lists)) rising) ∙ ap (λ o. option_map_or p o false) (find_placed k lists)

in_order : (lists : Lists) → AreRising (all_keys lists) → (p : Content → Bool) → AreRising (keys_with p (entries_of lists))
in_order lists rising p = with_rises p (entries_of lists) (subst AreRising (sym (keys_are lists)) rising)

module _ (q : List ℕ) (w : World) (lists : Lists) (same : AreSameLists q w lists) (s : IsUntouched q w.lists lists) where
  abbrev u : World
  u = with_lists lists w

  found_same : (k : StanzaKey) → version_found q (stanza_at k lists) ≡ version_found q (stanza_at k w.lists)
  found_same k = by (s k)
    where
      by : (stanza_at k lists ≡ stanza_at k w.lists) ⊎ ((version_found q (stanza_at k w.lists) ≡ None) × (version_found q (stanza_at k lists) ≡ None)) → version_found q (stanza_at k lists) ≡ version_found q (stanza_at k w.lists)
      by (inl e) = ap (version_found q) e
      by (inr e) = e.1 ∙ sym e.0

  -- the same rows
  row_same : (v : List ℕ) → fin.get (rows_named q lists) v ≡ fin.get (rows_named q w.lists) v
  row_same v =
      row_defined q v lists
      ∙ ap some_keys (same_keys (keys_with (is_in_row q v) (entries_of lists)) (keys_with (is_in_row q v) (entries_of w.lists)) (in_order lists same.rising_after (is_in_row q v)) (in_order w.lists same.rising (is_in_row q v))
      (λ k. among lists same.rising_after (is_in_row q v) k ∙ tells_version q v (stanza_at k lists) ∙ ap (is_of_version v) (found_same k)
      ∙ sym (among w.lists same.rising (is_in_row q v) k ∙ tells_version q v (stanza_at k w.lists))))
      ∙ sym (row_defined q v w.lists)

  rows_same : rows_in q u ≡ rows_in q w
  rows_same = shown_alike (rows_named q lists) (rows_named q w.lists) row_same

  -- ---- live stanzas of the name stay

  abbrev IsLive : StanzaKey → Type 0
  IsLive k = version_found q (stanza_at k w.lists) ≡ None → ⊥

  stanza_same : (k : StanzaKey) → IsLive k → stanza_at k lists ≡ stanza_at k w.lists
  stanza_same k h = by (s k)
    where
      by : (stanza_at k lists ≡ stanza_at k w.lists) ⊎ ((version_found q (stanza_at k w.lists) ≡ None) × (version_found q (stanza_at k lists) ≡ None)) → stanza_at k lists ≡ stanza_at k w.lists
      by (inl e) = e
      by (inr e) = absurd (h e.0)

  in_row_live : (v : List ℕ) (k : StanzaKey) → has_key k (keys_with (is_in_row q v) (entries_of w.lists)) ≡ true → IsLive k
  in_row_live v k h e = false≢true (sym (ap (is_of_version v) e) ∙ sym (tells_version q v (stanza_at k w.lists)) ∙ sym (among w.lists same.rising (is_in_row q v) k) ∙ h)

  status_live : (k : StanzaKey) → has_key k (keys_with (is_status_of q) (entries_of w.lists)) ≡ true → IsLive k
  status_live k h e = false≢true (sym (status_none q (stanza_at k w.lists) e) ∙ sym (among w.lists same.rising (is_status_of q) k) ∙ h)

  lead_same : (keys : List StanzaKey) → ((k : StanzaKey) → has_key k keys ≡ true → IsLive k) → version_under lists (lead_of keys) ≡ version_under w.lists (lead_of keys)
  lead_same [] h = refl
  lead_same (k ∷ keys) h = ap (λ o. option_map_or version_of o None) (stanza_same k (h k (or_left (key_is k k) (has_key k keys) (key_is-itself k))))

  -- ---- the status list

  status_keys : keys_with (is_status_of q) (entries_of lists) ≡ keys_with (is_status_of q) (entries_of w.lists)
  status_keys = same_keys (keys_with (is_status_of q) (entries_of lists)) (keys_with (is_status_of q) (entries_of w.lists)) (in_order lists same.rising_after (is_status_of q)) (in_order w.lists same.rising (is_status_of q))
      (λ k. among lists same.rising_after (is_status_of q) k ∙ by k (s k) ∙ sym (among w.lists same.rising (is_status_of q) k))
    where
      by : (k : StanzaKey) → (stanza_at k lists ≡ stanza_at k w.lists) ⊎ ((version_found q (stanza_at k w.lists) ≡ None) × (version_found q (stanza_at k lists) ≡ None)) → option_map_or (is_status_of q) (stanza_at k lists) false ≡ option_map_or (is_status_of q) (stanza_at k w.lists) false
      by k (inl e) = ap (λ o. option_map_or (is_status_of q) o false) e
      by k (inr e) = status_none q (stanza_at k lists) e.1 ∙ sym (status_none q (stanza_at k w.lists) e.0)

  wanted_same : wanted_version q u ≡ wanted_version q w
  wanted_same = ap (λ v. unwrap_or (fin.get w.marks q) v)
      (ap (λ ks. version_under lists (lead_of ks)) status_keys ∙ lead_same (keys_with (is_status_of q) (entries_of w.lists)) status_live)

  -- ---- priorities

  abbrev IsLedAlike : List StanzaKey → Type 0
  IsLedAlike keys = (version_under lists (lead_of keys) ≡ version_under w.lists (lead_of keys)) × AllByRecursion IsLive keys

  source_same : (list : List ℕ) (keys : List StanzaKey) → AllByRecursion IsLive keys → is_source list lists keys ≡ is_source list w.lists keys
  source_same list [] h = refl
  source_same list (k ∷ keys) h = λ i. is_called list (same.names k h.0 i) || source_same list keys h.1 i

  sources_same : (keys : List StanzaKey) → AllByRecursion IsLive keys → source_priorities u keys ≡ source_priorities w keys
  sources_same [] h = refl
  sources_same (k ∷ keys) h = λ i. (ap (priority_found u) (same.names k h.0) ∙ same.priorities k h.0) i ∷ sources_same keys h.1 i

  matches_same : (keys : List StanzaKey) → IsLedAlike keys → (t : Selector) → matches_row q lists keys t ≡ matches_row q w.lists keys t
  matches_same keys h (Version p v) = ap (λ o. bytes_eq p q && matches_text v o) h.0
  matches_same keys h (Release None l) = refl
  matches_same keys h (Release (Some p) l) = ap (λ b. bytes_eq p q && b) (source_same l keys h.1)

  specific_same : (keys : List StanzaKey) → IsLedAlike keys → (settings : Settings) → specific_pin q lists keys settings ≡ specific_pin q w.lists keys settings
  specific_same keys h [] = refl
  specific_same keys h (t ∷ settings) = λ i. cond (matches_same keys h t.0 i) (Some t.1) (specific_same keys h settings i)

  priority_same : (keys : List StanzaKey) → IsLedAlike keys → row_priority q u keys ≡ row_priority q w keys
  priority_same keys h = λ i. unwrap_or (specific_same keys h w.pins i) (greatest (sources_same keys h.1 i))

  priorities_same : AllByRecursion (λ (row : Row). row_priority q u row.1 ≡ row_priority q w row.1) (rows_in q w)
  priorities_same = all_implies IsLedAlike (λ keys. row_priority q u keys ≡ row_priority q w keys) (rows_in q w) priority_same
      (each_class IsLedAlike q w.lists (λ v. (lead_same (keys_with (is_in_row q v) (entries_of w.lists)) (in_row_live v), each_key IsLive (keys_with (is_in_row q v) (entries_of w.lists)) (in_row_live v))))

  -- ---- what is chosen

  there_same : (o : Option (List ℕ)) → version_if_row (rows_named q lists) o ≡ version_if_row (rows_named q w.lists) o
  there_same None = refl
  there_same (Some v) = ap (option_map (λ (keys : List StanzaKey). triple_of v)) (row_same v)

  installed_same : (o : Option (List ℕ)) → option_map_or (lead_at (rows_named q lists)) o None ≡ option_map_or (lead_at (rows_named q w.lists)) o None
  installed_same None = refl
  installed_same (Some v) = ap (λ o. lead_of (or_none o)) (row_same v)

  pub stanza_stays : Stays q w u
  stanza_stays = stays q w u rows_same priorities_same
      (ap (λ o. option_map_or (lead_at (rows_named q lists)) o None) wanted_same ∙ installed_same (wanted_version q w))
      (ap (version_if_row (rows_named q lists)) wanted_same ∙ there_same (wanted_version q w))

pub stanza_others : (q : List ℕ) (w : World) (lists : Lists) → AreSameLists q w lists → IsUntouched q w.lists lists → Stays q w (with_lists lists w)
stanza_others q w lists same s = stanza_stays q w lists same s

-- ---- the names of a list

none_called : (list : List ℕ) (lists : Lists) (keys : List StanzaKey) → ((k : StanzaKey) → has_key k keys ≡ true → is_called list (holder_of k lists) ≡ false) → is_source list lists keys ≡ false
none_called list lists [] h = refl
none_called list lists (k ∷ keys) h = both_false (is_called list (holder_of k lists)) (is_source list lists keys) (h k (or_left (key_is k k) (has_key k keys) (key_is-itself k))) (none_called list lists keys (λ j e. h j (or_right (key_is j k) (has_key j keys) e)))

pub no_source : (list q : List ℕ) (w : World) → AreRising (all_keys w.lists) → HoldsNone list q w.lists → IsNoSource list q w
no_source list q w rising none =
    each_class (λ keys. is_source list w.lists keys ≡ false) q w.lists
    (λ v. none_called list w.lists (keys_with (is_in_row q v) (entries_of w.lists))
    (λ k e. other k v (is_called list (holder_of k w.lists)) refl (sym (among w.lists rising (is_in_row q v) k ∙ tells_version q v (stanza_at k w.lists)) ∙ e)))
  where
    other : (k : StanzaKey) (v : List ℕ) (b : Bool) → is_called list (holder_of k w.lists) ≡ b → is_of_version v (version_found q (stanza_at k w.lists)) ≡ true → b ≡ false
    other k v true is e = absurd (false≢true (sym (ap (is_of_version v) (none k is)) ∙ e))
    other k v false is e = refl

-- ---- the stanzas of rows stand in the lists

pub version_held : (rows : Rows) (name : List ℕ) (lists : Lists) → AreRowsOf rows name lists → (version : List ℕ) → AreHeld (keys_at rows version) lists
version_held rows name lists h v = each_key (λ k. IsSome (stanza_at k lists)) (keys_at rows v) (λ k e. key_held name v lists k (ap (λ o. has_key k (or_none o)) (sym (h v)) ∙ e))

all_mapped : (P : List StanzaKey → Type 0) (rows : List Row) → AllByRecursion (λ (row : Row). P row.1) rows → AllByRecursion P (map keys_of_row rows)
all_mapped P [] h = tt
all_mapped P (row ∷ rows) h = (h.0, all_mapped P rows h.1)

class_held : (name v : List ℕ) (lists : Lists) → AreHeld (keys_with (is_in_row name v) (entries_of lists)) lists
class_held name v lists = subst (λ ks. AreHeld ks lists) (ap or_none (row_defined name v lists) ∙ or_none-some (keys_with (is_in_row name v) (entries_of lists)))
    (each_key (λ k. IsSome (stanza_at k lists)) (keys_at (rows_named name lists) v) (key_held name v lists))

pub rows_held : (rows : Rows) (name : List ℕ) (lists : Lists) → AreRowsOf rows name lists → AllByRecursion (λ keys. AreHeld keys lists) (map keys_of_row (newest_first rows))
rows_held rows name lists h =
    subst (λ rs. AllByRecursion (λ keys. AreHeld keys lists) (map keys_of_row rs)) (sym (shown_alike rows (rows_named name lists) h))
    (all_mapped (λ keys. AreHeld keys lists) (newest_first (rows_named name lists)) (each_class (λ keys. AreHeld keys lists) name lists (λ v. class_held name v lists)))

-- ---- each row has a lead

some_lead : (keys : List StanzaKey) → IfSome (some_keys keys) HasLead
some_lead [] = tt
some_lead (k ∷ keys) = refl

pub rows_lead : (rows : Rows) (name : List ℕ) (lists : Lists) → AreRowsOf rows name lists → AllByRecursion HasLead (map keys_of_row (newest_first rows))
rows_lead rows name lists h =
    subst (λ rs. AllByRecursion HasLead (map keys_of_row rs)) (sym (shown_alike rows (rows_named name lists) h))
    (all_mapped HasLead (newest_first (rows_named name lists)) (each_some HasLead name lists (λ v. some_lead (keys_with (is_in_row name v) (entries_of lists)))))
