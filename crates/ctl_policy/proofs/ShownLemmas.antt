-- What the form of a name's rows shows.
use Rattle.std.proofs.Common.{◌≡◌, ◌↔◌, ℕ, Bool, true, false, cond, ◌&&◌, T, List, [], ◌∷◌, ◌++◌, length, arith, map, reverse, None, Some, option_map, Vec, Global, refl, ap, sym, subst, ◌∙◌, Ordering, Less, Equal, Greater, Result, Ok, Err, OnOk, OnErr}
use Rattle.std.specs.Ordering.{is_eq, is_lt}
use Rattle.std.specs.Map.{lookup, keys_of}
use Rattle.std.specs.FinMap as fin
use Rattle.std.specs.FinMap.Entries.{below_all}
use Rattle.std.specs.BTreeMap.{is_at}
use Rattle.std.specs.Bool.{OnTrue, OnFalse}
use Rattle.std.proofs.lemmas.Bool.{false≢true}
use Rattle.std.proofs.lemmas.List.{reverse-append}
use Rattle.std.proofs.lemmas.Cmp.{eq_by_cmp_equiv}
use Rattle.ctl_relation.specs.Version.{triple_of, version_cmp}
use Rattle.ctl_relation.specs.Orders.Versions.{version_total}
use Rattle.ctl_store.specs.declared.stanza_key.StanzaKey.{StanzaKey}
use Rattle.ctl_store.specs.Keys.{AreRising}
use Rattle.ctl_policy.specs.Keys.{with_key, without_key, or_none, some_keys}
use Rattle.ctl_policy.specs.Rows.{Rows, Row, keys_of_row, newest_first}
use Rattle.ctl_policy.specs.Inside.HeldIter.{one_left, items_left}
use Rattle.ctl_policy.specs.Kept.{HasPut, HasTaken, HasSame}
use Rattle.ctl_policy.specs.declared.form.Form.{Form}
use Rattle.ctl_policy.specs.declared.form.Form.TheVariants.{Empty, One, Many}
use Rattle.ctl_policy.specs.Inside.HeldRows.{RowMap, shown_row, with_items, form_at, form_with, form_without, rows_of_form, IsOrderedForm, IsFormed}
use Rattle.ctl_policy.proofs.RowLemmas.{if_cases}
use Rattle.ctl_policy.proofs.SetLemmas.{rises-with, rises-without}
use Rattle.ctl_policy.proofs.AlikeLemmas.{IsUnder, IsRising, rising_is, read_alike}

-- ---- entries of a finite map, in order

first_true : (a b : Bool) → T (a && b) → T a
first_true true b h = tt
first_true false b h = absurd h

second_true : (a b : Bool) → T (a && b) → T b
second_true true b h = h
second_true false b h = absurd h

less_of : (o : Ordering) → T (is_lt o) → o ≡ Less
less_of Less h = refl
less_of Equal h = absurd h
less_of Greater h = absurd h

module _ {X : Type 0} where
  below : (k : List ℕ) (es : List (List ℕ × X)) → T (below_all version_cmp k es) → IsUnder k (keys_of es)
  below k [] h = tt
  below k (e ∷ es) h = (less_of _ (first_true _ _ h), below k es (second_true _ _ h))

  pub sorted : (es : List (List ℕ × X)) → T (fin.is_sorted version_cmp es) → IsRising (keys_of es)
  sorted [] h = tt
  sorted (e ∷ es) h = (below e.0 es (first_true _ _ h), sorted es (second_true _ _ h))

  pub find_is : (q : List ℕ) (es : List (List ℕ × X)) → lookup (is_at (version_cmp q)) es ≡ fin.find version_cmp q es
  find_is q [] = refl
  find_is q (e ∷ es) = ap (cond (is_eq (version_cmp q e.0)) (Some e.1)) (find_is q es)

-- entries in order that answer as rows do are shown as they are
pub shown_as : (es : List (List ℕ × List StanzaKey)) (rows : Rows) → IsRising (keys_of es) → ((q : List ℕ) → lookup (is_at (version_cmp q)) es ≡ fin.get rows q)
    → reverse (map (λ (row : List ℕ × List StanzaKey). (triple_of row.0, row.1)) es) ≡ newest_first rows
shown_as es rows rising h = ap reverse (read_alike es (fin.entries rows) rising (sorted (fin.entries rows) (fin.entries_sorted rows)) (λ q. h q ∙ fin.get-entries rows q ∙ sym (find_is q (fin.entries rows))))

-- ---- forms

pub keys_items : (es : List (List ℕ × Vec StanzaKey Global)) → keys_of (map with_items es) ≡ keys_of es
keys_items [] = refl
keys_items (e ∷ es) = ap (λ l. e.0 ∷ l) (keys_items es)

lookup_items : (q : List ℕ) (es : List (List ℕ × Vec StanzaKey Global)) → lookup (is_at (version_cmp q)) (map with_items es) ≡ option_map (λ (v : Vec StanzaKey Global). v.items) (lookup (is_at (version_cmp q)) es)
lookup_items q [] = refl
lookup_items q (e ∷ es) = ap (cond (is_eq (version_cmp q e.0)) (Some e.1.items)) (lookup_items q es) ∙ sym (if_cases (option_map (λ (v : Vec StanzaKey Global). v.items)) (is_eq (version_cmp q e.0)) (Some e.1) (lookup (is_at (version_cmp q)) es))

shown_items : (es : List (List ℕ × Vec StanzaKey Global)) → map shown_row es ≡ map (λ (row : List ℕ × List StanzaKey). (triple_of row.0, row.1)) (map with_items es)
shown_items [] = refl
shown_items (e ∷ es) = ap (λ l. shown_row e ∷ l) (shown_items es)

back : (v w : List ℕ) → is_eq (version_cmp v w) ≡ is_eq (version_cmp w v)
back v w = (eq_by_cmp_equiv version_total).symm v w

-- the rows of a form answer as the form does
pub shown_get : (f : Form) (v : List ℕ) → fin.get (rows_of_form f) v ≡ form_at f v
shown_get Empty v = fin.get-empty version_cmp v
shown_get (One version key) v = fin.get-insert version_total fin.empty version (key ∷ []) v ∙ (λ i. cond (back v version i) (Some (key ∷ [])) (fin.get-empty version_cmp v i))
shown_get (Many m) v = fin.get-from_entries version_total (map with_items m.entries) v ∙ sym (find_is v (map with_items m.entries)) ∙ lookup_items v m.entries

-- the rows of a form, newest first
abbrev pub shown_rows : Form → List Row
shown_rows Empty = []
shown_rows (One version key) = (triple_of version, key ∷ []) ∷ []
shown_rows (Many m) = reverse (map shown_row m.entries)

pub rows_shown : (f : Form) → IsOrderedForm f → shown_rows f ≡ newest_first (rows_of_form f)
rows_shown Empty h = shown_as [] (rows_of_form Empty) tt (λ q. sym (shown_get Empty q))
rows_shown (One version key) h = shown_as ((version, key ∷ []) ∷ []) (rows_of_form (One version key)) (tt, tt) (λ q. ap (λ b. cond b (Some (key ∷ [])) None) (back q version) ∙ sym (shown_get (One version key) q))
rows_shown (Many m) h =
    ap reverse (shown_items m.entries)
    ∙ shown_as (map with_items m.entries) (rows_of_form (Many m)) (subst IsRising (sym (keys_items m.entries)) (rising_is (keys_of m.entries) h)) (λ q. lookup_items q m.entries ∙ sym (shown_get (Many m) q))

-- ---- a key comes or goes

pub put_shown : (old new : Form) (version : List ℕ) (key : StanzaKey) → ((v : List ℕ) → form_at new v ≡ form_with version key (form_at old) v) → HasPut version key (rows_of_form old) (rows_of_form new)
put_shown old new version key h v = shown_get new v ∙ h v ∙ sym (λ i. cond (is_eq (version_cmp version v)) (Some (with_key key (or_none (shown_get old version i)))) (shown_get old v i))

pub take_shown : (old new : Form) (version : List ℕ) (key : StanzaKey) → ((v : List ℕ) → form_at new v ≡ form_without version key (form_at old) v) → HasTaken version key (rows_of_form old) (rows_of_form new)
take_shown old new version key h v = shown_get new v ∙ h v ∙ sym (λ i. cond (is_eq (version_cmp version v)) (some_keys (without_key key (or_none (shown_get old version i)))) (shown_get old v i))

pub same_shown : (old new : Form) → ((v : List ℕ) → form_at new v ≡ form_at old v) → HasSame (rows_of_form old) (rows_of_form new)
same_shown old new h v = shown_get new v ∙ h v ∙ sym (shown_get old v)

pub put_formed : (old new : Form) (version : List ℕ) (key : StanzaKey) → ((v : List ℕ) → form_at new v ≡ form_with version key (form_at old) v) → IsFormed old → IsFormed new
put_formed old new version key h formed v = subst (λ o. AreRising (or_none o)) (sym (h v)) (by (is_eq (version_cmp version v)))
  where
    by : (b : Bool) → AreRising (or_none (cond b (Some (with_key key (or_none (form_at old version)))) (form_at old v)))
    by true = rises-with key (or_none (form_at old version)) (formed version)
    by false = formed v

pub some_rises : (ks : List StanzaKey) → AreRising ks → AreRising (or_none (some_keys ks))
some_rises [] h = tt
some_rises (k ∷ ks) h = h

pub take_formed : (old new : Form) (version : List ℕ) (key : StanzaKey) → ((v : List ℕ) → form_at new v ≡ form_without version key (form_at old) v) → IsFormed old → IsFormed new
take_formed old new version key h formed v = subst (λ o. AreRising (or_none o)) (sym (h v)) (by (is_eq (version_cmp version v)))
  where
    by : (b : Bool) → AreRising (or_none (cond b (some_keys (without_key key (or_none (form_at old version)))) (form_at old v)))
    by true = some_rises (without_key key (or_none (form_at old version))) (rises-without key (or_none (form_at old version)) (formed version))
    by false = formed v

pub same_formed : (old new : Form) → ((v : List ℕ) → form_at new v ≡ form_at old v) → IsFormed old → IsFormed new
same_formed old new h formed v = subst (λ o. AreRising (or_none o)) (sym (h v)) (formed v)

-- ---- results

pub on_ok_map : {X E : Type 0} (r : Result X E) {P Q : Type 0} → (P → Q) → OnOk r P → OnOk r Q
on_ok_map (Ok x) f p = f p
on_ok_map (Err e) f p = tt

pub on_err_map : {X E : Type 0} (r : Result X E) {P Q : Type 0} → (P → Q) → OnErr r P → OnErr r Q
on_err_map (Ok x) f p = tt
on_err_map (Err e) f p = f p

pub either_way : {X E : Type 0} (r : Result X E) {P Q R : Type 0} → (P → R) → (Q → R) → OnOk r P → OnErr r Q → R
either_way (Ok x) f g p q = f p
either_way (Err e) f g p q = g q

-- ---- no rows

no_cons : {X : Type 0} (x : X) (xs : List X) → x ∷ xs ≡ [] → ⊥
no_cons x xs e = absurd (omega (arith, ap length e))

pub one_there : (version : List ℕ) (key : StanzaKey) → newest_first (rows_of_form (One version key)) ≡ [] → ⊥
one_there version key e = no_cons (triple_of version, key ∷ []) [] (rows_shown (One version key) tt ∙ e)

some_last : {X : Type 0} (xs : List X) (x : X) → xs ++ x ∷ [] ≡ [] → ⊥
some_last [] x e = no_cons x [] e
some_last (y ∷ ys) x e = no_cons y (ys ++ x ∷ []) e

many_there : (es : List (List ℕ × Vec StanzaKey Global)) → (length es ≡ 0 → ⊥) → reverse (map shown_row es) ≡ [] → ⊥
many_there [] h e = h refl
many_there (x ∷ es) h e = some_last (reverse (map shown_row es)) (shown_row x) (sym (reverse-append (shown_row x ∷ []) (map shown_row es)) ∙ e)

none_of : (es : List (List ℕ × Vec StanzaKey Global)) → length es ≡ 0 → reverse (map shown_row es) ≡ []
none_of [] h = refl
none_of (e ∷ es) h = absurd (omega (arith, h))

pub bare_many : (m : RowMap) (b : Bool) → IsOrderedForm (Many m) → (b ≡ true) ↔ (length m.entries ≡ 0) → OnTrue b (newest_first (rows_of_form (Many m)) ≡ [])
bare_many m true o h = sym (rows_shown (Many m) o) ∙ none_of m.entries (h.0 refl)
bare_many m false o h = tt

pub filled_many : (m : RowMap) (b : Bool) → IsOrderedForm (Many m) → (b ≡ true) ↔ (length m.entries ≡ 0) → OnFalse b (newest_first (rows_of_form (Many m)) ≡ [] → ⊥)
filled_many m true o h = tt
filled_many m false o h = λ e. many_there m.entries (λ z. false≢true (h.1 z)) (rows_shown (Many m) o ∙ e)

-- ---- rows that are lent, newest first

map_append : {A B : Type 0} (f : A → B) (xs ys : List A) → map f (xs ++ ys) ≡ map f xs ++ map f ys
map_append f [] ys = refl
map_append f (x ∷ xs) ys = ap (λ l. f x ∷ l) (map_append f xs ys)

items_shown : (es : List (List ℕ × Vec StanzaKey Global)) → items_left es ≡ map keys_of_row (reverse (map shown_row es))
items_shown [] = refl
items_shown (e ∷ es) =
    reverse-append (e.1.items ∷ []) (map (λ (e : List ℕ × Vec StanzaKey Global). e.1.items) es)
    ∙ ap (λ l. l ++ e.1.items ∷ []) (items_shown es)
    ∙ sym (ap (map keys_of_row) (reverse-append (shown_row e ∷ []) (map shown_row es)) ∙ map_append keys_of_row (reverse (map shown_row es)) (shown_row e ∷ []))

pub empty_left : one_left None ≡ map keys_of_row (newest_first (rows_of_form Empty))
empty_left = ap (map keys_of_row) (rows_shown Empty tt)

pub one_is_left : (version : List ℕ) (key : StanzaKey) → one_left (Some key) ≡ map keys_of_row (newest_first (rows_of_form (One version key)))
one_is_left version key = ap (map keys_of_row) (rows_shown (One version key) tt)

pub many_left : (m : RowMap) → IsOrderedForm (Many m) → items_left m.entries ≡ map keys_of_row (newest_first (rows_of_form (Many m)))
many_left m o = items_shown m.entries ∙ ap (map keys_of_row) (rows_shown (Many m) o)

pub last_first : (es : List (List ℕ × Vec StanzaKey Global)) (e : List ℕ × Vec StanzaKey Global) → items_left (es ++ e ∷ []) ≡ e.1.items ∷ items_left es
last_first es e = ap reverse (map_append (λ (e : List ℕ × Vec StanzaKey Global). e.1.items) es (e ∷ [])) ∙ reverse-append (map (λ (e : List ℕ × Vec StanzaKey Global). e.1.items) es) (e.1.items ∷ [])
