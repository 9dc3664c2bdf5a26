-- The first stanza of a name in the status list is the lowest of such keys in its rows.
use Rattle.std.proofs.Common.{◌≡◌, ℕ, Bool, true, false, cond, ◌&&◌, ◌||◌, List, [], ◌∷◌, Option, None, Some, option_map, is_some, Vec, Global, nat_eq, refl, ap, sym, subst, ◌∙◌, Ordering, Less, Equal, Greater}
use Rattle.std.specs.Ordering.{is_lt, is_eq, ordering_reverse}
use Rattle.std.specs.Option.{option_map_or, option_or}
use Rattle.std.specs.List.{AllByRecursion}
use Rattle.std.specs.Map.{lookup, keys_of}
use Rattle.std.specs.BTreeMap.{is_at}
use Rattle.std.proofs.lemmas.Bool.{false≢true}
use Rattle.std.proofs.lemmas.Cmp.{tied_itself}
use Rattle.ctl_relation.specs.Version.{version_cmp}
use Rattle.ctl_relation.specs.Orders.Versions.{version_total}
use Rattle.ctl_stanza.specs.Content.{Content}
use Rattle.ctl_store.specs.declared.stanza_key.StanzaKey.{StanzaKey}
use Rattle.ctl_stanza.specs.declared.list_kind.ListKind.{ListKind}
use Rattle.ctl_store.specs.Kinds.{AreOfKind, KeepKinds}
use Rattle.ctl_store.specs.Step.{has_status, is_status}
use Rattle.ctl_store.specs.Keys.{key_cmp, key_is, stanza_at, stanza_lists, stanzas_of, all_keys, in_slots, AreRising}
use Rattle.ctl_store.specs.Entries.{entries_of, entry_keys}
use Rattle.ctl_policy.specs.Keys.{has_key, or_none}
use Rattle.ctl_policy.specs.Rows.{Lists, version_in, is_of_version, is_in_row, keys_with, keys_at, rows_named, lead_of, version_under}
use Rattle.ctl_policy.specs.Candidate.{is_status_of, status_version}
use Rattle.ctl_policy.specs.declared.form.Form.{Form}
use Rattle.ctl_policy.specs.declared.form.Form.TheVariants.{Empty, One, Many}
use Rattle.ctl_policy.specs.Inside.HeldRows.{RowMap, IsOrderedForm, IsFormOf}
use Rattle.ctl_policy.specs.Inside.HeldWalk.{is_status_key, first_status, lower, lowest_status, status_key}
use Rattle.ctl_policy.proofs.KeyLemmas.{key_total}
use Rattle.ctl_policy.proofs.SetLemmas.{same_key, key_is-same, key_is-itself, below_absent, below_further}
use Rattle.ctl_policy.proofs.AlikeLemmas.{rising_is}
use Rattle.ctl_policy.proofs.DefinedLemmas.{or_none-some, keys_are, with_rises, find_placed, has_key-placed, row_defined}
use Rattle.ctl_policy.proofs.HeldLemmas.{each_row}

-- ---- truth values

or_left : (a b : Bool) → a ≡ true → (a || b) ≡ true
or_left true b e = refl
or_left false b e = cc

or_right : (a b : Bool) → b ≡ true → (a || b) ≡ true
or_right true b e = refl
or_right false b e = e

or_cases : {P : Type 0} (a b : Bool) → (a || b) ≡ true → (a ≡ true → P) → (b ≡ true → P) → P
or_cases true b e f g = f refl
or_cases false b e f g = g e

or_false : (a : Bool) → a ≡ (a || false)
or_false true = refl
or_false false = refl

or_assoc : (a b c : Bool) → ((a || b) || c) ≡ (a || (b || c))
or_assoc true b c = refl
or_assoc false b c = refl

and_both : (a b : Bool) → a ≡ true → b ≡ true → (a && b) ≡ true
and_both true b p q = q
and_both false b p q = cc

and_first : (a b : Bool) → (a && b) ≡ true → a ≡ true
and_first true b e = refl
and_first false b e = cc

and_second : (a b : Bool) → (a && b) ≡ true → b ≡ true
and_second true b e = e
and_second false b e = cc

not_true : (b : Bool) → (b ≡ true → ⊥) → b ≡ false
not_true true h = absurd (h refl)
not_true false h = refl

same_truth : (a b : Bool) → (a ≡ true → b ≡ true) → (b ≡ true → a ≡ true) → a ≡ b
same_truth true b f g = sym (f refl)
same_truth false b f g = sym (not_true b (λ e. false≢true (g e)))

-- ---- keys below others

less_of : (o : Ordering) → is_lt o ≡ true → o ≡ Less
less_of Less e = refl
less_of Equal e = cc
less_of Greater e = cc

lower_still : (j m k : StanzaKey) → is_lt (key_cmp j m) ≡ true → is_lt (key_cmp m k) ≡ true → is_lt (key_cmp j k) ≡ true
lower_still j m k e f = ap is_lt (key_total.trans j m k (less_of _ e) (less_of _ f))

-- what is below k is below m, where m isn't below k
lower_than : (j m k : StanzaKey) → is_lt (key_cmp j k) ≡ true → is_lt (key_cmp m k) ≡ false → is_lt (key_cmp j m) ≡ true
lower_than j m k e f = by (key_cmp m k) refl
  where
    by : (o : Ordering) → key_cmp m k ≡ o → is_lt (key_cmp j m) ≡ true
    by Less g = absurd (false≢true (sym f ∙ ap is_lt g))
    by Equal g = ap (λ z. is_lt (key_cmp j z)) (same_key m k g) ∙ e
    by Greater g = ap is_lt (key_total.trans j k m (less_of _ e) (key_total.antisymm k m ∙ ap ordering_reverse g))

-- the lowest key that passes, if one does
abbrev IsLowest : (StanzaKey → Bool) → Option StanzaKey → Type 0
IsLowest p None = (k : StanzaKey) → p k ≡ false
IsLowest p (Some k) = (p k ≡ true) × ((j : StanzaKey) → p j ≡ true → is_lt (key_cmp j k) ≡ false)

lowest_alike : (p q : StanzaKey → Bool) (o : Option StanzaKey) → ((k : StanzaKey) → p k ≡ q k) → IsLowest p o → IsLowest q o
lowest_alike p q None e h = λ k. sym (e k) ∙ h k
lowest_alike p q (Some k) e h = (sym (e k) ∙ h.0, λ j t. h.1 j (e j ∙ t))

first_there : (x : StanzaKey) (xs : List StanzaKey) → has_key x (x ∷ xs) ≡ true
first_there x xs = or_left (key_is x x) (has_key x xs) (key_is-itself x)

none_below : (j x : StanzaKey) (xs : List StanzaKey) → AreRising (x ∷ xs) → has_key j (x ∷ xs) ≡ true → is_lt (key_cmp j x) ≡ false
none_below j x xs r h = not_true _ (λ e. false≢true (sym (below_absent j (x ∷ xs) (less_of _ e, below_further j x xs (less_of _ e) r.0)) ∙ h))

lowest_lead : (xs : List StanzaKey) → AreRising xs → (o : Option StanzaKey) → IsLowest (λ k. has_key k xs) o → o ≡ lead_of xs
lowest_lead [] r None h = refl
lowest_lead [] r (Some k) h = absurd (false≢true h.0)
lowest_lead (x ∷ xs) r None h = absurd (false≢true (sym (h x) ∙ first_there x xs))
lowest_lead (x ∷ xs) r (Some k) h = ap (λ z. Some z) (by (key_cmp k x) refl)
  where
    by : (o : Ordering) → key_cmp k x ≡ o → k ≡ x
    by Less e = absurd (false≢true (sym (none_below k x xs r h.0) ∙ ap is_lt e))
    by Equal e = same_key k x e
    by Greater e = absurd (false≢true (sym (h.1 x (first_there x xs)) ∙ ap is_lt (key_total.antisymm x k ∙ ap ordering_reverse e)))

first_lowest : (lists : Lists) (keys : List StanzaKey) → AreRising keys → IsLowest (λ k. has_key k keys && is_status_key lists k) (first_status lists keys)
first_lowest lists [] r = λ k. refl
first_lowest lists (x ∷ xs) r = by (is_status_key lists x) refl (first_lowest lists xs r.1)
  where
    by : (b : Bool) → is_status_key lists x ≡ b → IsLowest (λ k. has_key k xs && is_status_key lists k) (first_status lists xs)
        → IsLowest (λ k. has_key k (x ∷ xs) && is_status_key lists k) (cond b (Some x) (first_status lists xs))
    by true e h = (and_both (has_key x (x ∷ xs)) (is_status_key lists x) (first_there x xs) e, λ j t. none_below j x xs r (and_first (has_key j (x ∷ xs)) (is_status_key lists j) t))
    by false e h = lowest_alike (λ k. has_key k xs && is_status_key lists k) (λ k. has_key k (x ∷ xs) && is_status_key lists k) (first_status lists xs) (λ k. at k (key_is k x) refl) h
      where
        and_none : (a : Bool) → (a && false) ≡ false
        and_none true = refl
        and_none false = refl

        at : (k : StanzaKey) (c : Bool) → key_is k x ≡ c → (has_key k xs && is_status_key lists k) ≡ ((key_is k x || has_key k xs) && is_status_key lists k)
        at k true s =
            let no = ap (is_status_key lists) (key_is-same k x s) ∙ e in
            ap (λ z. has_key k xs && z) no ∙ and_none (has_key k xs) ∙ sym (ap (λ z. (key_is k x || has_key k xs) && z) no ∙ and_none (key_is k x || has_key k xs))
        at k false s = ap (λ z. (z || has_key k xs) && is_status_key lists k) (sym s)

lower_lowest : (p q : StanzaKey → Bool) (a b : Option StanzaKey) → IsLowest p a → IsLowest q b → IsLowest (λ k. p k || q k) (lower a b)
lower_lowest p q None b h g = lowest_alike q (λ k. p k || q k) b (λ k. ap (λ z. z || q k) (sym (h k))) g
lower_lowest p q (Some k) None h g = lowest_alike p (λ k. p k || q k) (Some k) (λ j. or_false (p j) ∙ ap (λ z. p j || z) (sym (g j))) h
lower_lowest p q (Some k) (Some m) h g = by (is_lt (key_cmp m k)) refl
  where
    by : (b : Bool) → is_lt (key_cmp m k) ≡ b → IsLowest (λ k. p k || q k) (cond b (Some m) (Some k))
    by true e = (or_right (p m) (q m) g.0, λ j t. or_cases (p j) (q j) t (λ s. not_true _ (λ f. false≢true (sym (h.1 j s) ∙ lower_still j m k f e))) (λ s. g.1 j s))
    by false e = (or_left (p k) (q k) h.0, λ j t. or_cases (p j) (q j) t (λ s. h.1 j s) (λ s. not_true _ (λ f. false≢true (sym (g.1 j s) ∙ lower_than j m k f e))))

-- ---- the rows of a map

abbrev Entries : Type 0
Entries = List (List ℕ × Vec StanzaKey Global)

-- whether a key stands in one of the rows
abbrev in_rows : StanzaKey → Entries → Bool
in_rows k [] = false
in_rows k (e ∷ es) = has_key k e.1.items || in_rows k es

abbrev status_in : Lists → Entries → StanzaKey → Bool
status_in lists [] k = false
status_in lists (e ∷ es) k = (has_key k e.1.items && is_status_key lists k) || status_in lists es k

status_both : (lists : Lists) (es : Entries) (k : StanzaKey) → status_in lists es k ≡ (in_rows k es && is_status_key lists k)
status_both lists [] k = refl
status_both lists (e ∷ es) k = ap (λ z. (has_key k e.1.items && is_status_key lists k) || z) (status_both lists es k) ∙ by (has_key k e.1.items) (in_rows k es) (is_status_key lists k)
  where
    by : (a b s : Bool) → ((a && s) || (b && s)) ≡ ((a || b) && s)
    by true true true = refl
    by true true false = refl
    by true false true = refl
    by true false false = refl
    by false b s = refl

lowest_rows : (lists : Lists) (p : StanzaKey → Bool) (found : Option StanzaKey) (es : Entries) → AllByRecursion (λ (e : List ℕ × Vec StanzaKey Global). AreRising e.1.items) es → IsLowest p found → IsLowest (λ k. p k || status_in lists es k) (lowest_status lists found es)
lowest_rows lists p found [] r h = lowest_alike p (λ k. p k || false) found (λ k. or_false (p k)) h
lowest_rows lists p found (e ∷ es) r h =
    let here : StanzaKey → Bool = λ k. has_key k e.1.items && is_status_key lists k in
    let next = lower found (first_status lists e.1.items) in
    lowest_alike (λ k. (p k || here k) || status_in lists es k) (λ k. p k || (here k || status_in lists es k)) (lowest_status lists next es) (λ k. or_assoc (p k) (here k) (status_in lists es k))
    (lowest_rows lists (λ k. p k || here k) next es r.1 (lower_lowest p here found (first_status lists e.1.items) h (first_lowest lists e.1.items r.0)))

-- ---- a key that is found under a version stands in a row, and the other way round

in_rows-found : (k : StanzaKey) (v : List ℕ) (es : Entries) → has_key k (or_none (option_map (λ (x : Vec StanzaKey Global). x.items) (lookup (is_at (version_cmp v)) es))) ≡ true → in_rows k es ≡ true
in_rows-found k v [] h = absurd (false≢true h)
in_rows-found k v (e ∷ es) h = by (is_eq (version_cmp v e.0)) h (in_rows-found k v es)
  where
    by : (b : Bool) → has_key k (or_none (option_map (λ (x : Vec StanzaKey Global). x.items) (cond b (Some e.1) (lookup (is_at (version_cmp v)) es)))) ≡ true
        → (has_key k (or_none (option_map (λ (x : Vec StanzaKey Global). x.items) (lookup (is_at (version_cmp v)) es))) ≡ true → in_rows k es ≡ true) → in_rows k (e ∷ es) ≡ true
    by true h rest = or_left (has_key k e.1.items) (in_rows k es) h
    by false h rest = or_right (has_key k e.1.items) (in_rows k es) (rest h)

in_rows-each : (P : StanzaKey → Type 0) (k : StanzaKey) (es : Entries) → AllByRecursion (λ (e : List ℕ × Vec StanzaKey Global). (j : StanzaKey) → has_key j e.1.items ≡ true → P j) es → in_rows k es ≡ true → P k
in_rows-each P k [] a h = absurd (false≢true h)
in_rows-each P k (e ∷ es) a h = or_cases (has_key k e.1.items) (in_rows k es) h (a.0 k) (in_rows-each P k es a.1)

-- ---- live stanzas of a name

module _ (q : List ℕ) (lists : Lists) (rising : AreRising (all_keys lists)) where
  up : AreRising (entry_keys (entries_of lists))
  up = subst AreRising (sym (keys_are lists)) rising

  abbrev tells : (Content → Bool) → StanzaKey → Bool
  tells p k = option_map_or p (stanza_at k lists) false

  among : (p : Content → Bool) (k : StanzaKey) → has_key k (keys_with p (entries_of lists)) ≡ tells p k
  among p k = has_key-placed p k (entries_of lists) up ∙ ap (λ o. option_map_or p o false) (find_placed k lists)

  named : (v : List ℕ) (k : StanzaKey) → has_key k (keys_at (rows_named q lists) v) ≡ tells (is_in_row q v) k
  named v k = ap (has_key k) (ap or_none (row_defined q v lists) ∙ or_none-some (keys_with (is_in_row q v) (entries_of lists))) ∙ among (is_in_row q v) k

  abbrev is_live : Content → Bool
  is_live x = is_some (version_in q x)

  live_row : (v : List ℕ) (o : Option Content) → option_map_or (is_in_row q v) o false ≡ true → option_map_or is_live o false ≡ true
  live_row v None e = e
  live_row v (Some x) e = by (version_in q x) e
    where
      by : (o : Option (List ℕ)) → is_of_version v o ≡ true → is_some o ≡ true
      by None e = e
      by (Some w) e = refl

  row_live : (o : Option Content) → option_map_or is_live o false ≡ true → (v : List ℕ) × (option_map_or (is_in_row q v) o false ≡ true)
  row_live None e = absurd (false≢true e)
  row_live (Some x) e = by (version_in q x) refl e
    where
      by : (o : Option (List ℕ)) → version_in q x ≡ o → is_some o ≡ true → (v : List ℕ) × (is_of_version v (version_in q x) ≡ true)
      by None h e = absurd (false≢true e)
      by (Some w) h e = (w, ap (is_of_version w) h ∙ ap is_eq (tied_itself version_total w))

  both_tell : (k : StanzaKey) → (tells is_live k && is_status_key lists k) ≡ tells (is_status_of q) k
  both_tell k = by (stanza_at k lists)
    where
      swap : (a b : Bool) → (a && b) ≡ (b && a)
      swap true true = refl
      swap true false = refl
      swap false true = refl
      swap false false = refl

      by : (o : Option Content) → (option_map_or is_live o false && option_map_or (λ (x : Content). is_status x.kind) o false) ≡ option_map_or (is_status_of q) o false
      by None = refl
      by (Some x) = swap (is_live x) (is_status x.kind)

  -- which keys stand in the rows of the name
  in_map : (m : RowMap) → IsOrderedForm (Many m) → IsFormOf (Many m) (rows_named q lists) → (k : StanzaKey) → in_rows k m.entries ≡ tells is_live k
  in_map m ordered form k = same_truth (in_rows k m.entries) (tells is_live k)
      (in_rows-each (λ j. tells is_live j ≡ true) k m.entries
      (each_row (λ ks. (j : StanzaKey) → has_key j ks ≡ true → tells is_live j ≡ true) m.entries (rising_is (keys_of m.entries) ordered)
      (λ v j h. live_row v (stanza_at j lists) (sym (named v j) ∙ ap (λ o. has_key j (or_none o)) (sym (form v)) ∙ h))))
      (λ h. let found = row_live (stanza_at k lists) h in in_rows-found k found.0 m.entries (ap (λ o. has_key k (or_none o)) (form found.0) ∙ named found.0 k ∙ found.1))

  rows_rise : (m : RowMap) → IsOrderedForm (Many m) → IsFormOf (Many m) (rows_named q lists) → AllByRecursion (λ (e : List ℕ × Vec StanzaKey Global). AreRising e.1.items) m.entries
  rows_rise m ordered form = each_row AreRising m.entries (rising_is (keys_of m.entries) ordered)
      (λ v. subst (λ o. AreRising (or_none o)) (sym (form v ∙ row_defined q v lists)) (subst AreRising (sym (or_none-some (keys_with (is_in_row q v) (entries_of lists)))) (with_rises (is_in_row q v) (entries_of lists) up)))

  lowest_form : (form : Form) → IsOrderedForm form → IsFormOf form (rows_named q lists) → IsLowest (tells (is_status_of q)) (status_key lists form)
  lowest_form Empty ordered form = λ k. sym (both_tell k) ∙ ap (λ b. b && is_status_key lists k) (not_true (tells is_live k)
      (λ h. let found = row_live (stanza_at k lists) h in false≢true (ap (λ o. has_key k (or_none o)) (form found.0) ∙ named found.0 k ∙ found.1)))
  lowest_form (One version key) ordered form =
      lowest_alike (λ k. has_key k (key ∷ []) && is_status_key lists k) (tells (is_status_of q)) (first_status lists (key ∷ []))
      (λ k. ap (λ b. b && is_status_key lists k) (one k) ∙ both_tell k) (first_lowest lists (key ∷ []) (tt, tt))
    where
      under : (k : StanzaKey) (v : List ℕ) (b : Bool) → has_key k (or_none (cond b (Some (key ∷ [])) None)) ≡ true → has_key k (key ∷ []) ≡ true
      under k v true h = h
      under k v false h = absurd (false≢true h)

      one : (k : StanzaKey) → has_key k (key ∷ []) ≡ tells is_live k
      one k = same_truth (has_key k (key ∷ [])) (tells is_live k)
          (λ h. live_row version (stanza_at k lists) (sym (named version k) ∙ ap (λ o. has_key k (or_none o)) (sym (form version) ∙ ap (λ o. cond (is_eq o) (Some (key ∷ [])) None) (tied_itself version_total version)) ∙ h))
          (λ h. let found = row_live (stanza_at k lists) h in under k found.0 (is_eq (version_cmp version found.0)) (ap (λ o. has_key k (or_none o)) (form found.0) ∙ named found.0 k ∙ found.1))
  lowest_form (Many m) ordered form =
      lowest_alike (λ k. false || status_in lists m.entries k) (tells (is_status_of q)) (lowest_status lists None m.entries)
      (λ k. status_both lists m.entries k ∙ ap (λ b. b && is_status_key lists k) (in_map m ordered form k) ∙ both_tell k)
      (lowest_rows lists (λ k. false) None m.entries (rows_rise m ordered form) (λ k. refl))

  -- the version of the first stanza in the status list
  pub status_is : (form : Form) → IsOrderedForm form → IsFormOf form (rows_named q lists) → version_under lists (status_key lists form) ≡ status_version q lists
  status_is form ordered h = ap (version_under lists) (lowest_lead (keys_with (is_status_of q) (entries_of lists)) (with_rises (is_status_of q) (entries_of lists) up) (status_key lists form)
      (lowest_alike (tells (is_status_of q)) (λ k. has_key k (keys_with (is_status_of q) (entries_of lists))) (status_key lists form) (λ k. sym (among (is_status_of q) k)) (lowest_form form ordered h)))

-- ---- without a status list no stanza stands in it

neither : (a b : Bool) → (a || b) ≡ false → (a ≡ false) × (b ≡ false)
neither true b e = absurd (false≢true (sym e))
neither false b e = (refl, e)

abbrev has_kind : Option Content → Bool
has_kind o = option_map_or (λ (x : Content). is_status x.kind) o false

of_kind : (kind : ListKind) (p : ℕ → Bool) (rows : List (ℕ × Content)) → is_status kind ≡ false → AreOfKind kind (stanzas_of rows) → has_kind (lookup p rows) ≡ false
of_kind kind p [] e h = refl
of_kind kind p (row ∷ rows) e h = by (p row.0) (ap is_status h.0 ∙ e) (of_kind kind p rows e h.1)
  where
    by : (b : Bool) → is_status row.1.kind ≡ false → has_kind (lookup p rows) ≡ false → has_kind (cond b (Some row.1) (lookup p rows)) ≡ false
    by true here there = here
    by false here there = there

none_held : (lists : Lists) → KeepKinds (stanza_lists lists) → has_status (stanza_lists lists) ≡ false → (k : StanzaKey) → is_status_key lists k ≡ false
none_held [] h none k = refl
none_held (l ∷ ls) h none k =
    let both = neither (is_status l.1.kind) (has_status (stanza_lists ls)) none in
    by (in_slots k l.1) (here (nat_eq l.1.serial k.list) (of_kind l.1.kind (λ s. nat_eq s k.stanza) l.1.slots both.0 h.0)) (none_held ls h.1 both.1 k)
  where
    here : (b : Bool) → has_kind (lookup (λ s. nat_eq s k.stanza) l.1.slots) ≡ false → has_kind (cond b (lookup (λ s. nat_eq s k.stanza) l.1.slots) None) ≡ false
    here true e = e
    here false e = refl

    by : (o : Option Content) → has_kind o ≡ false → is_status_key ls k ≡ false → has_kind (option_or o (stanza_at k ls)) ≡ false
    by None e f = f
    by (Some x) e f = e

module _ (lists : Lists) (none : (k : StanzaKey) → is_status_key lists k ≡ false) where
  none_first : (keys : List StanzaKey) → first_status lists keys ≡ None
  none_first [] = refl
  none_first (k ∷ keys) = ap (λ b. cond b (Some k) (first_status lists keys)) (none k) ∙ none_first keys

  none_lowest : (es : Entries) → lowest_status lists None es ≡ None
  none_lowest [] = refl
  none_lowest (e ∷ es) = ap (λ o. lowest_status lists o es) (none_first e.1.items) ∙ none_lowest es

  none_found : (form : Form) → status_key lists form ≡ None
  none_found Empty = refl
  none_found (One version key) = none_first (key ∷ [])
  none_found (Many row_map) = none_lowest row_map.entries

pub no_status_key : (lists : Lists) (form : Form) → KeepKinds (stanza_lists lists) → has_status (stanza_lists lists) ≡ false → status_key lists form ≡ None
no_status_key lists form h none = none_found lists (none_held lists h none) form
