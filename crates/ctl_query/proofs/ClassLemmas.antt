-- What holds of the stanzas of each version of a name holds of each of its rows.
use Rattle.std.proofs.Common.{◌≡◌, ◌∙◌, ℕ, Bool, true, false, cond, ◌&&◌, T, List, [], ◌∷◌, ◌++◌, map, reverse, Option, None, Some, IfSome, refl, ap, sym, subst, Ordering, Less, Equal, Greater}
use Rattle.std.specs.FinMap as fin
use Rattle.std.specs.FinMap.Entries.{below_all}
use Rattle.std.specs.BTreeMap.{is_at}
use Rattle.std.specs.List.{AllByRecursion}
use Rattle.std.specs.Map.{lookup, keys_of}
use Rattle.std.specs.Ordering.{is_eq, is_lt}
use Rattle.std.proofs.lemmas.Cmp.{tied_itself}
use Rattle.std.proofs.lemmas.List.{reverse-append}
use Rattle.ctl_relation.specs.Version.{triple_of, version_cmp}
use Rattle.ctl_relation.specs.Orders.Versions.{version_total}
use Rattle.ctl_store.specs.declared.stanza_key.StanzaKey.{StanzaKey}
use Rattle.ctl_store.specs.Entries.{entries_of}
use Rattle.ctl_policy.specs.Keys.{some_keys}
use Rattle.ctl_policy.specs.Rows.{Lists, Row, is_in_row, keys_with, rows_named, newest_first}

-- ---- entries of a finite map, in order

abbrev IsUnder : List ℕ → List (List ℕ) → Type 0
IsUnder k ks = AllByRecursion (λ q. version_cmp k q ≡ Less) ks

abbrev IsRising : List (List ℕ) → Type 0
IsRising [] = Unit {0}
IsRising (k ∷ ks) = IsUnder k ks × IsRising ks

first_true : (a b : Bool) → T (a && b) → T a
first_true true b h = tt
first_true false b h = absurd h

second_true : (a b : Bool) → T (a && b) → T b
second_true true b h = h
second_true false b h = absurd h

less_of : (o : Ordering) → T (is_lt o) → o ≡ Less
less_of Less h = refl
less_of Equal h = absurd h
less_of Greater h = absurd h

eq_is : (o : Ordering) → is_eq o ≡ true → o ≡ Equal
eq_is Less e = cc
eq_is Equal e = refl
eq_is Greater e = cc

under_equal : (q k : List ℕ) (ks : List (List ℕ)) → is_eq (version_cmp q k) ≡ true → IsUnder k ks → IsUnder q ks
under_equal q k [] e h = tt
under_equal q k (x ∷ ks) e h = (version_total.congr q k x (eq_is _ e) ∙ h.0, under_equal q k ks e h.1)

module _ {X : Type 0} where
  below : (k : List ℕ) (es : List (List ℕ × X)) → T (below_all version_cmp k es) → IsUnder k (keys_of es)
  below k [] h = tt
  below k (e ∷ es) h = (less_of _ (first_true _ _ h), below k es (second_true _ _ h))

  sorted : (es : List (List ℕ × X)) → T (fin.is_sorted version_cmp es) → IsRising (keys_of es)
  sorted [] h = tt
  sorted (e ∷ es) h = (below e.0 es (first_true _ _ h), sorted es (second_true _ _ h))

  abbrev find : List ℕ → List (List ℕ × X) → Option X
  find q es = lookup (is_at (version_cmp q)) es

  find_is : (q : List ℕ) (es : List (List ℕ × X)) → find q es ≡ fin.find version_cmp q es
  find_is q [] = refl
  find_is q (e ∷ es) = ap (cond (is_eq (version_cmp q e.0)) (Some e.1)) (find_is q es)

  absent : (q : List ℕ) (es : List (List ℕ × X)) → IsUnder q (keys_of es) → find q es ≡ None
  absent q [] h = refl
  absent q (e ∷ es) h = ap (λ o. cond (is_eq o) (Some e.1) (find q es)) h.0 ∙ absent q es h.1

  -- each value of entries in order is found by its key
  each_value : (P : X → Type 0) (es : List (List ℕ × X)) → IsRising (keys_of es) → ((q : List ℕ) → IfSome (find q es) P) → AllByRecursion (λ (e : List ℕ × X). P e.1) es
  each_value P [] s h = tt
  each_value P (e ∷ es) s h = (subst (λ b. IfSome (cond b (Some e.1) (find e.0 es)) P) (ap is_eq (tied_itself version_total e.0)) (h e.0), each_value P es s.1 (λ q. tail q (is_eq (version_cmp q e.0)) refl (h q)))
    where
      tail : (q : List ℕ) (b : Bool) → is_eq (version_cmp q e.0) ≡ b → IfSome (cond (is_eq (version_cmp q e.0)) (Some e.1) (find q es)) P → IfSome (find q es) P
      tail q true is g = subst (λ o. IfSome o P) (sym (absent q es (under_equal q e.0 (keys_of es) is s.0))) tt
      tail q false is g = subst (λ b. IfSome (cond b (Some e.1) (find q es)) P) is g

-- ---- rows

module _ {X : Type 0} (P : X → Type 0) where
  all_append : (xs ys : List X) → AllByRecursion P xs → AllByRecursion P ys → AllByRecursion P (xs ++ ys)
  all_append [] ys h k = k
  all_append (x ∷ xs) ys h k = (h.0, all_append xs ys h.1 k)

  all_reverse : (xs : List X) → AllByRecursion P xs → AllByRecursion P (reverse xs)
  all_reverse [] h = tt
  all_reverse (x ∷ xs) h = subst (AllByRecursion P) (sym (reverse-append (x ∷ []) xs)) (all_append (reverse xs) (x ∷ []) (all_reverse xs h.1) (h.0, tt))

all_shown : (P : List StanzaKey → Type 0) (es : List (List ℕ × List StanzaKey)) → AllByRecursion (λ (e : List ℕ × List StanzaKey). P e.1) es → AllByRecursion (λ (row : Row). P row.1) (map (λ (row : List ℕ × List StanzaKey). (triple_of row.0, row.1)) es)
all_shown P [] h = tt
all_shown P (e ∷ es) h = (h.0, all_shown P es h.1)

-- a row of a version of a name has the live stanzas of that name with an equal version
abbrev pub AreClasses : Type 0
AreClasses = (name : List ℕ) → (version : List ℕ) → (lists : Lists) → fin.get (rows_named name lists) version ≡ some_keys (keys_with (is_in_row name version) (entries_of lists))

pub each_class : AreClasses → (P : List StanzaKey → Type 0) (name : List ℕ) (lists : Lists) → ((version : List ℕ) → IfSome (some_keys (keys_with (is_in_row name version) (entries_of lists))) P) → AllByRecursion (λ (row : Row). P row.1) (newest_first (rows_named name lists))
each_class classes P name lists h =
    let es = fin.entries (rows_named name lists) in
    all_reverse (λ (row : Row). P row.1) (map (λ (row : List ℕ × List StanzaKey). (triple_of row.0, row.1)) es) (all_shown P es
    (each_value P es (sorted es (fin.entries_sorted (rows_named name lists)))
    (λ v. subst (λ o. IfSome o P) (sym (find_is v es ∙ sym (fin.get-entries (rows_named name lists) v) ∙ classes name v lists)) (h v))))
