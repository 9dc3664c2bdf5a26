-- Where a list comes, each name of which a live stanza comes has a row with a key of that list.
use Rattle.std.proofs.Common.{◌≡◌, ℕ, Bool, true, false, cond, ◌||◌, nat_eq, List, [], ◌∷◌, map, reverse, Option, None, Some, refl, ap, sym, ◌∙◌, arith}
use Rattle.std.specs.List.{list_any}
use Rattle.std.specs.FinMap as fin
use Rattle.std.specs.Option.{option_map_or}
use Rattle.std.specs.Ordering.{is_eq}
use Rattle.std.proofs.lemmas.Bool.{false≢true, or_right}
use Rattle.std.proofs.lemmas.Bool.Decides.{nat_tests}
use Rattle.std.proofs.lemmas.Cmp.{tied_itself}
use Rattle.std.proofs.lemmas.List.Sorted.{IsPermutation-reverse, list_any-IsPermutation}
use Rattle.ctl_relation.specs.Version.{version_cmp, triple_of}
use Rattle.ctl_relation.specs.Orders.Versions.{version_total}
use Rattle.ctl_stanza.specs.declared.list_kind.ListKind.{ListKind}
use Rattle.ctl_stanza.specs.Content.{Content}
use Rattle.ctl_store.specs.declared.list_class.ListClass.{ListClass}
use Rattle.ctl_store.specs.declared.stanza_key.StanzaKey.{StanzaKey}
use Rattle.ctl_store.specs.Edits.{Edit, AddList}
use Rattle.ctl_store.specs.Keys.{key_of, key_is, stanza_at, coming, added_of, keyed_after}
use Rattle.ctl_store.specs.Entries.{Entry, entries_of}
use Rattle.ctl_store.specs.Slots.{slots_from}
use Rattle.ctl_store.specs.Store.{Held, keyed_of}
use Rattle.ctl_policy.specs.Keys.{has_key, some_keys}
use Rattle.ctl_policy.specs.Rows.{Lists, Rows, Row, AreRowsOf, keys_with, version_in, is_in_row, is_of_list, has_list, keys_of_row}
use Rattle.ctl_policy.specs.Laws.{version_found}
use Rattle.ctl_policy.specs.Touched.{LeavesStanzas, IsAccepted}
use Rattle.ctl_policy.proofs.SetLemmas.{key_is-same}
use Rattle.ctl_policy.proofs.DefinedLemmas.{find_in, find_placed, row_defined}
use Rattle.ctl_policy.proofs.StepLemmas.{one_of}

-- ---- keys of a list

-- the stanzas of a list have its serial
of_serial : (serial : ℕ) (slots : List (ℕ × Content)) (k : StanzaKey) → has_key k (map (λ (slot : ℕ × Content). key_of serial slot.0) slots) ≡ true → k.list ≡ serial
of_serial serial [] k h = absurd (false≢true h)
of_serial serial (s ∷ slots) k h = by (key_is k (key_of serial s.0)) refl h (of_serial serial slots k)
  where
    by : (b : Bool) → key_is k (key_of serial s.0) ≡ b → (b || has_key k (map (λ (slot : ℕ × Content). key_of serial slot.0) slots)) ≡ true
        → (has_key k (map (λ (slot : ℕ × Content). key_of serial slot.0) slots) ≡ true → k.list ≡ serial) → k.list ≡ serial
    by true is h rest = ap (λ (z : StanzaKey). z.list) (key_is-same k (key_of serial s.0) is)
    by false is h rest = rest h

same_number : (a b : ℕ) → a ≡ b → nat_eq a b ≡ true
same_number a b e = grind (arith, nat_tests)

-- keys with one of a list have one of that list
with_serial : (serial : ℕ) (k : StanzaKey) (ks : List StanzaKey) → k.list ≡ serial → has_key k ks ≡ true → list_any (is_of_list serial) ks ≡ true
with_serial serial k [] e h = absurd (false≢true h)
with_serial serial k (x ∷ xs) e h = by (key_is k x) refl h (with_serial serial k xs e)
  where
    by : (b : Bool) → key_is k x ≡ b → (b || has_key k xs) ≡ true → (has_key k xs ≡ true → list_any (is_of_list serial) xs ≡ true) → (is_of_list serial x || list_any (is_of_list serial) xs) ≡ true
    by true is h rest = ap (λ b. b || list_any (is_of_list serial) xs) (same_number x.list serial (ap (λ (z : StanzaKey). z.list) (sym (key_is-same k x is)) ∙ e))
    by false is h rest = or_right (is_of_list serial x) (list_any (is_of_list serial) xs) (rest h)

-- ---- rows that are found

-- the key of a stanza that is found and passes is among those that pass
key_there : (p : Content → Bool) (k : StanzaKey) (x : Content) → p x ≡ true → (ss : List Entry) → find_in k ss ≡ Some x → has_key k (keys_with p ss) ≡ true
key_there p k x passes [] e = cc
key_there p k x passes (s ∷ ss) e = by (key_is k s.0) refl (p s.1) refl e (key_there p k x passes ss)
  where
    by : (c : Bool) → key_is k s.0 ≡ c → (b : Bool) → p s.1 ≡ b → cond c (Some s.1) (find_in k ss) ≡ Some x → (find_in k ss ≡ Some x → has_key k (keys_with p ss) ≡ true)
        → has_key k (cond b (s.0 ∷ keys_with p ss) (keys_with p ss)) ≡ true
    by true is true pass found rest = ap (λ b. b || has_key k (keys_with p ss)) is
    by true is false pass found rest = absurd (false≢true (sym pass ∙ ap p (content found) ∙ passes))
      where
        content : Some s.1 ≡ Some x → s.1 ≡ x
        content f = cc
    by false is true pass found rest = ap (λ b. b || has_key k (keys_with p ss)) is ∙ rest found
    by false is false pass found rest = rest found

-- keys of which there is one are some keys
some_there : (k : StanzaKey) (ks : List StanzaKey) → has_key k ks ≡ true → some_keys ks ≡ Some ks
some_there k [] h = absurd (false≢true h)
some_there k (x ∷ xs) h = refl

-- a row that is found is one of the entries
entry_there : (v : List ℕ) (p : List StanzaKey → Bool) (ks : List StanzaKey) → p ks ≡ true → (es : List (List ℕ × List StanzaKey)) → fin.find version_cmp v es ≡ Some ks → list_any (λ (e : List ℕ × List StanzaKey). p e.1) es ≡ true
entry_there v p ks passes [] found = cc
entry_there v p ks passes (e ∷ es) found = by (is_eq (version_cmp v e.0)) found (entry_there v p ks passes es)
  where
    by : (b : Bool) → cond b (Some e.1) (fin.find version_cmp v es) ≡ Some ks → (fin.find version_cmp v es ≡ Some ks → list_any (λ (e : List ℕ × List StanzaKey). p e.1) es ≡ true)
        → (p e.1 || list_any (λ (e : List ℕ × List StanzaKey). p e.1) es) ≡ true
    by true f rest = ap (λ b. b || list_any (λ (e : List ℕ × List StanzaKey). p e.1) es) (ap p (keys f) ∙ passes)
      where
        keys : Some e.1 ≡ Some ks → e.1 ≡ ks
        keys g = cc
    by false f rest = or_right (p e.1) (list_any (λ (e : List ℕ × List StanzaKey). p e.1) es) (rest f)

any_map : {A B : Type 0} (p : B → Bool) (f : A → B) (xs : List A) → list_any p (map f xs) ≡ list_any (λ x. p (f x)) xs
any_map p f [] = refl
any_map p f (x ∷ xs) = ap (λ b. p (f x) || b) (any_map p f xs)

-- a row that is found is one of those that are shown
row_there : (rows : Rows) (v : List ℕ) (p : List StanzaKey → Bool) (ks : List StanzaKey) → fin.get rows v ≡ Some ks → p ks ≡ true
    → list_any p (map keys_of_row (reverse (map (λ (row : List ℕ × List StanzaKey). (triple_of row.0, row.1)) (fin.entries rows)))) ≡ true
row_there rows v p ks found passes =
    let shown : List Row = map (λ (row : List ℕ × List StanzaKey). (triple_of row.0, row.1)) (fin.entries rows) in
    any_map p keys_of_row (reverse shown)
    ∙ sym (list_any-IsPermutation (λ (row : Row). p row.1) shown (reverse shown) (IsPermutation-reverse shown))
    ∙ any_map (λ (row : Row). p row.1) (λ (row : List ℕ × List StanzaKey). (triple_of row.0, row.1)) (fin.entries rows)
    ∙ entry_there v p ks passes (fin.entries rows) (sym (fin.get-entries rows v) ∙ found)

-- ---- a list that comes

-- the version of a live stanza is that of its row
own_row : (q v : List ℕ) (x : Content) → version_in q x ≡ Some v → is_in_row q v x ≡ true
own_row q v x e = ap (λ o. option_map_or (λ (w : List ℕ). is_eq (version_cmp w v)) o false) e ∙ ap is_eq (tied_itself version_total v)

module _ (h : Held) (list : List ℕ) (kind : ListKind) (class : ListClass) (xs : List Content) (rows : Rows) (q : List ℕ) where
  abbrev edit : Edit
  edit = AddList list kind class xs

  abbrev after : Lists
  after = (keyed_after (keyed_of h) edit).lists

  -- a live stanza that comes stands in a row
  has_row : IsAccepted h edit → AreRowsOf rows q after → (k : StanzaKey) → has_key k (added_of (keyed_of h) edit) ≡ true
      → (x : Content) → coming edit k ≡ Some x → (v : List ℕ) → version_in q x ≡ Some v → has_list h.next_list rows ≡ true
  has_row a are k comes x is v version =
      let there : stanza_at k after ≡ Some x = one_of (λ k. stanza_at k after ≡ coming edit k) k (added_of (keyed_of h) edit) a.come comes ∙ is in
      let ks = keys_with (is_in_row q v) (entries_of after) in
      let key : has_key k ks ≡ true = key_there (is_in_row q v) k x (own_row q v x version) (entries_of after) (find_placed k after ∙ there) in
      row_there rows v (λ keys. list_any (is_of_list h.next_list) keys) ks (are v ∙ row_defined q v after ∙ some_there k ks key)
      (with_serial h.next_list k ks (of_serial h.next_list (slots_from 0 xs) k comes) key)

  pub added_leaves : IsAccepted h edit → AreRowsOf rows q after → has_list h.next_list rows ≡ false → LeavesStanzas q h edit
  added_leaves a are none = record {
    gone = λ k e. absurd (false≢true e);
    come = λ k e. by k e (coming edit k) refl;
  }
    where
      live : (k : StanzaKey) → has_key k (added_of (keyed_of h) edit) ≡ true → (x : Content) → coming edit k ≡ Some x → (o : Option (List ℕ)) → version_in q x ≡ o → o ≡ None
      live k comes x is None version = refl
      live k comes x is (Some v) version = absurd (false≢true (sym none ∙ has_row a are k comes x is v version))

      by : (k : StanzaKey) → has_key k (added_of (keyed_of h) edit) ≡ true → (o : Option Content) → coming edit k ≡ o → version_found q o ≡ None
      by k comes None is = refl
      by k comes (Some x) is = live k comes x is (version_in q x) refl
