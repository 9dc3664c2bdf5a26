-- The clauses at 0, in order, are those that no offer meets.
use Rattle.std.proofs.Common.{◌≡◌, ℕ, suc, ◌<◌, Bool, true, false, cond, nat_eq, ◌&&◌, ◌||◌, List, [], ◌∷◌, ◌++◌, filter, Option, Some, None, is_some, refl, ap, sym, ◌∙◌, arith, nat_cmp}
use Rattle.std.specs.Prelude.{slice_get}
use Rattle.std.specs.List.{flat_map, list_any, AllByRecursion}
use Rattle.std.specs.List.Sorted.{IsStrictlySortedBy}
use Rattle.std.specs.Option.{option_map, option_map_or, option_and_then}
use Rattle.std.specs.Ordering.{is_eq, ordering_then}
use Rattle.std.specs.declared.cmp.Ordering.TheVariants.{Less}
use Rattle.std.specs.Cmp.{eq_by_cmp_equiv}
use Rattle.std.specs.BTreeSet.{BTreeSet, contains, IsOrdered}
use Rattle.std.proofs.lemmas.Bool.Decides.{nat_tests}
use Rattle.std.proofs.lemmas.List.Kept.{IsStrictlySortedBy-filter}
use Rattle.std.proofs.lemmas.Map.Lookups.{btree_set_from_contains}
use Rattle.ctl_relation.specs.declared.field_kind.FieldKind.{FieldKind}
use Rattle.ctl_relation.specs.declared.field_kind.FieldKind.TheVariants.{PreDepends, Depends, Conflicts, Breaks, Recommends, Suggests, Replaces, Enhances, Provides}
use Rattle.ctl_relation.specs.FieldKind.{field_place}
use Rattle.ctl_relation.specs.Parts.{AtomParts}
use Rattle.ctl_stanza.specs.Content.{Content, groups_of}
use Rattle.ctl_store.specs.declared.stanza_key.StanzaKey.{StanzaKey}
use Rattle.ctl_store.specs.Keys.{key_cmp, key_is, AreRising}
use Rattle.ctl_store.specs.Entries.{Entry, entry_keys}
use Rattle.ctl_store.specs.Followed.{under, AreApart}
use Rattle.ctl_index.specs.declared.keys.ClauseKey.{ClauseKey}
use Rattle.ctl_index.specs.Clauses.{clause_fields, is_clause_field, clause_cmp, clause_of, clause_at, is_unmet, group_keys, clauses_of, clauses, unmet_clauses}
use Rattle.ctl_index.proofs.ClauseLemmas.{tie_is, same_stanza, same_field, at_from, at_from-start}
use Rattle.ctl_index.proofs.CounterLemmas.{exact_clauses, same_clause}
use Rattle.ctl_index.specs.ClauseOrder.{clauses_total}
use Rattle.ctl_index.proofs.SeenLemmas.{key_is-same, none_under}
use Rattle.ctl_index.proofs.KeyLemmas.{nat_same, key_same}
use Rattle.ctl_index.proofs.StoreLemmas.{all_append}

-- ---- all clauses stand in order

abbrev Below : ClauseKey → List ClauseKey → Type 0
Below a ks = AllByRecursion (λ b. clause_cmp a b ≡ Less) ks

sorted_append : (xs ys : List ClauseKey) → IsStrictlySortedBy clause_cmp xs → IsStrictlySortedBy clause_cmp ys → AllByRecursion (λ x. Below x ys) xs → IsStrictlySortedBy clause_cmp (xs ++ ys)
unfolding IsStrictlySortedBy
sorted_append [] ys p q r = q
sorted_append (x ∷ xs) ys p q r = (all_append (λ b. clause_cmp x b ≡ Less) xs ys p.0 r.0, sorted_append xs ys p.1 q r.1)

nat_less : (a b : ℕ) → a < b → nat_cmp a b ≡ Less
nat_less a b l = grind (arith, nat_tests)

abbrev clause : StanzaKey → FieldKind → ℕ → ClauseKey
clause key field n = record { stanza = key; field = field; group = n }

-- what holds of each clause of a field, from n on
all_groups : (P : ClauseKey → Type 0) (key : StanzaKey) (field : FieldKind) (n : ℕ) (groups : List (List AtomParts)) → ((m : ℕ) → n < suc m → P (clause key field m)) → AllByRecursion P (group_keys key field n groups)
all_groups P key field n [] h = tt
all_groups P key field n (group ∷ groups) h = (h n (omega arith), all_groups P key field (suc n) groups (λ m l. h m (omega (arith, l))))

all_fields : (P : ClauseKey → Type 0) (key : StanzaKey) (x : Content) (fields : List FieldKind) → AllByRecursion (λ field. (m : ℕ) → P (clause key field m)) fields → AllByRecursion P (flat_map (λ field. group_keys key field 0 (groups_of field x)) fields)
all_fields P key x [] h = tt
all_fields P key x (field ∷ fields) h =
    all_append P (group_keys key field 0 (groups_of field x)) (flat_map (λ f. group_keys key f 0 (groups_of f x)) fields) (all_groups P key field 0 (groups_of field x) (λ m _. h.0 m)) (all_fields P key x fields h.1)

groups_sorted : (key : StanzaKey) (field : FieldKind) (n : ℕ) (groups : List (List AtomParts)) → IsStrictlySortedBy clause_cmp (group_keys key field n groups)
unfolding IsStrictlySortedBy
groups_sorted key field n [] = tt
groups_sorted key field n (group ∷ groups) =
    (all_groups (λ b. clause_cmp (clause key field n) b ≡ Less) key field (suc n) groups (λ m l i. ordering_then (key_same key i) (ordering_then (nat_same (field_place field) i) (nat_less n m (omega (arith, l)) i))), groups_sorted key field (suc n) groups)

abbrev Rise : List FieldKind → Type 0
Rise [] = Unit {0}
Rise (field ∷ fields) = AllByRecursion (λ other. field_place field < field_place other) fields × Rise fields

fields_sorted : (key : StanzaKey) (x : Content) (fields : List FieldKind) → Rise fields → IsStrictlySortedBy clause_cmp (flat_map (λ field. group_keys key field 0 (groups_of field x)) fields)
unfolding IsStrictlySortedBy
fields_sorted key x [] h = tt
fields_sorted key x (field ∷ fields) h =
    sorted_append (group_keys key field 0 (groups_of field x)) (flat_map (λ f. group_keys key f 0 (groups_of f x)) fields) (groups_sorted key field 0 (groups_of field x)) (fields_sorted key x fields h.1)
    (all_groups (λ a. Below a (flat_map (λ f. group_keys key f 0 (groups_of f x)) fields)) key field 0 (groups_of field x)
    (λ n _. all_fields (λ b. clause_cmp (clause key field n) b ≡ Less) key x fields (others n fields h.0)))
  where
    others : (n : ℕ) (fs : List FieldKind) → AllByRecursion (λ other. field_place field < field_place other) fs → AllByRecursion (λ other. (m : ℕ) → clause_cmp (clause key field n) (clause key other m) ≡ Less) fs
    others n [] l = tt
    others n (f ∷ fs) l = (λ m i. ordering_then (key_same key i) (ordering_then (nat_less (field_place field) (field_place f) l.0 i) (nat_cmp n m)), others n fs l.1)

-- the fields of clauses stand in their order
fields_rise : Rise clause_fields
fields_rise = ((omega arith, (omega arith, (omega arith, tt))), ((omega arith, (omega arith, tt)), ((omega arith, tt), (tt, tt))))

pub clauses_sorted : (es : List Entry) → AreRising (entry_keys es) → IsStrictlySortedBy clause_cmp (clauses es)
unfolding IsStrictlySortedBy
clauses_sorted [] h = tt
clauses_sorted (e ∷ es) h =
    sorted_append (clauses_of e) (clauses es) (fields_sorted e.0 e.1 clause_fields fields_rise) (clauses_sorted es h.1)
    (all_fields (λ a. Below a (clauses es)) e.0 e.1 clause_fields (each clause_fields))
  where
    behind : (field : FieldKind) (n : ℕ) (ds : List Entry) → AllByRecursion (λ q. key_cmp e.0 q ≡ Less) (entry_keys ds) → Below (clause e.0 field n) (clauses ds)
    behind field n [] l = tt
    behind field n (d ∷ ds) l =
        all_append (λ b. clause_cmp (clause e.0 field n) b ≡ Less) (clauses_of d) (clauses ds)
        (all_fields (λ b. clause_cmp (clause e.0 field n) b ≡ Less) d.0 d.1 clause_fields (further clause_fields)) (behind field n ds l.1)
      where
        further : (fs : List FieldKind) → AllByRecursion (λ f. (m : ℕ) → clause_cmp (clause e.0 field n) (clause d.0 f m) ≡ Less) fs
        further [] = tt
        further (f ∷ fs) = (λ m. ap (λ o. ordering_then o (ordering_then (nat_cmp (field_place field) (field_place f)) (nat_cmp n m))) l.0, further fs)

    each : (fs : List FieldKind) → AllByRecursion (λ field. (n : ℕ) → Below (clause e.0 field n) (clauses es)) fs
    each [] = tt
    each (f ∷ fs) = (λ n. behind f n es h.0, each fs)

-- ---- which clauses are there

any_append : {X : Type 0} (p : X → Bool) (xs ys : List X) → list_any p (xs ++ ys) ≡ (list_any p xs || list_any p ys)
any_append p [] ys = refl
any_append p (x ∷ xs) ys = ap (λ b. p x || b) (any_append p xs ys) ∙ by (p x)
  where
    by : (b : Bool) → (b || (list_any p xs || list_any p ys)) ≡ ((b || list_any p xs) || list_any p ys)
    by true = refl
    by false = refl

or_false : (b : Bool) → (b || false) ≡ b
or_false true = refl
or_false false = refl

module _ (q : ClauseKey) where
  abbrev is : ClauseKey → Bool
  is b = is_eq (clause_cmp q b)

  is_turned : (b : ClauseKey) → is b ≡ same_stanza b.stanza q.stanza && (same_field b.field q.field && nat_eq b.group q.group)
  is_turned b = (eq_by_cmp_equiv clauses_total).symm q b ∙ tie_is b q

  any_group : (key : StanzaKey) (field : FieldKind) (n : ℕ) (groups : List (List AtomParts)) → list_any is (group_keys key field n groups) ≡ same_stanza key q.stanza && (same_field field q.field && is_some (at_from n groups q.group))
  any_group key field n [] = by (same_stanza key q.stanza) (same_field field q.field)
    where
      by : (ss sf : Bool) → false ≡ ss && (sf && false)
      by true true = refl
      by true false = refl
      by false sf = refl
  any_group key field n (group ∷ groups) =
      (λ i. is_turned (clause key field n) i || any_group key field (suc n) groups i)
      ∙ by (same_stanza key q.stanza) (same_field field q.field) (nat_eq n q.group) (at_from (suc n) groups q.group)
    where
      by : (ss sf e : Bool) (o : Option (List AtomParts)) → ((ss && (sf && e)) || (ss && (sf && is_some o))) ≡ ss && (sf && is_some (cond e (Some group) o))
      by true true true o = refl
      by true true false o = refl
      by true false e o = refl
      by false sf e o = refl

  any_stanza : (e : Entry) → list_any is (clauses_of e) ≡ same_stanza e.0 q.stanza && is_some (clause_of q e.1)
  any_stanza e =
      each clause_fields
      ∙ by (λ field. is_some (at_from 0 (groups_of field e.1) q.group)) (same_stanza e.0 q.stanza) q.field
      ∙ ap (λ b. same_stanza e.0 q.stanza && (is_clause_field q.field && b)) (ap is_some (at_from-start (groups_of q.field e.1) q.group))
      ∙ ap (λ b. same_stanza e.0 q.stanza && b) (none (is_clause_field q.field))
    where
      all : List FieldKind → Bool
      all [] = false
      all (field ∷ fields) = (same_stanza e.0 q.stanza && (same_field field q.field && is_some (at_from 0 (groups_of field e.1) q.group))) || all fields

      each : (fields : List FieldKind) → list_any is (flat_map (λ field. group_keys e.0 field 0 (groups_of field e.1)) fields) ≡ all fields
      each [] = refl
      each (field ∷ fields) = any_append is (group_keys e.0 field 0 (groups_of field e.1)) (flat_map (λ f. group_keys e.0 f 0 (groups_of f e.1)) fields) ∙ (λ i. any_group e.0 field 0 (groups_of field e.1) i || each fields i)

      by : (W : FieldKind → Bool) (ss : Bool) (field : FieldKind) → ((ss && (same_field PreDepends field && W PreDepends)) || ((ss && (same_field Depends field && W Depends)) || ((ss && (same_field Recommends field && W Recommends)) || ((ss && (same_field Suggests field && W Suggests)) || false))))
          ≡ ss && (is_clause_field field && W field)
      by W false field = refl
      by W true PreDepends = or_false (W PreDepends)
      by W true Depends = or_false (W Depends)
      by W true Conflicts = refl
      by W true Breaks = refl
      by W true Recommends = or_false (W Recommends)
      by W true Suggests = or_false (W Suggests)
      by W true Replaces = refl
      by W true Enhances = refl
      by W true Provides = refl

      none : (b : Bool) → b && is_some (slice_get (groups_of q.field e.1) q.group) ≡ is_some (cond b (slice_get (groups_of q.field e.1) q.group) None)
      none true = refl
      none false = refl

  any_clause : (es : List Entry) → AreApart es → list_any is (clauses es) ≡ is_some (clause_at q es)
  any_clause [] apart = refl
  any_clause (e ∷ es) apart =
      any_append is (clauses_of e) (clauses es) ∙ (λ i. any_stanza e i || any_clause es apart.1 i)
      ∙ by (key_is q.stanza e.0) refl
    where
      by : (b : Bool) → key_is q.stanza e.0 ≡ b → ((b && is_some (clause_of q e.1)) || is_some (clause_at q es)) ≡ is_some (option_and_then (clause_of q) (cond b (Some e.1) (under q.stanza es)))
      by true here =
          let none : under q.stanza es ≡ None = ap (λ k. under k es) (key_is-same q.stanza e.0 here) ∙ none_under e.0 es apart.0 in
          ap (λ o. is_some (clause_of q e.1) || is_some (option_and_then (clause_of q) o)) none ∙ or_false (is_some (clause_of q e.1))
      by false here = refl

  -- those that pass a test
  any_filter : (u : ClauseKey → Bool) (ks : List ClauseKey) → list_any is (filter u ks) ≡ list_any is ks && u q
  any_filter u [] = refl
  any_filter u (k ∷ ks) = by (u k) refl (any_filter u ks)
    where
      never : (a : Bool) → (a && false) ≡ false
      never true = refl
      never false = refl

      stays : u k ≡ true → (t : Bool) → is k ≡ t → (t || (list_any is ks && u q)) ≡ ((t || list_any is ks) && u q)
      stays uk true tie = sym (ap u (same_clause q k tie) ∙ uk)
      stays uk false tie = refl

      goes : u k ≡ false → (t : Bool) → is k ≡ t → (list_any is ks && u q) ≡ ((t || list_any is ks) && u q)
      goes uk true tie = let z : u q ≡ false = ap u (same_clause q k tie) ∙ uk in ap (λ b. list_any is ks && b) z ∙ never (list_any is ks) ∙ sym z
      goes uk false tie = refl

      by : (v : Bool) → u k ≡ v → list_any is (filter u ks) ≡ (list_any is ks && u q) → list_any is (cond v (k ∷ filter u ks) (filter u ks)) ≡ ((is k || list_any is ks) && u q)
      by true uk rest = ap (λ b. is k || b) rest ∙ stays uk (is k) refl
      by false uk rest = rest ∙ goes uk (is k) refl

-- ---- those that no offer meets

pub unmet_is : (es : List Entry) (ks : BTreeSet ClauseKey) → AreRising (entry_keys es) → AreApart es → IsOrdered clause_cmp ks → ((k : ClauseKey) → contains clause_cmp ks k ≡ is_unmet es k) → ks.keys ≡ unmet_clauses es
unfolding unmet_clauses
unmet_is es ks rising apart ordered same =
    btree_set_from_contains clauses_total ks (record { keys = filter (is_unmet es) (clauses es) }) ordered (IsStrictlySortedBy-filter clause_cmp (is_unmet es) (clauses es) (clauses_sorted es rising))
    (λ q. same q ∙ sym (any_filter q (is_unmet es) (clauses es) ∙ ap (λ b. b && is_unmet es q) (any_clause q es apart) ∙ there (clause_at q es) _)) exact_clauses
  where
    there : (c : Option (List AtomParts)) (f : List AtomParts → ℕ) → (is_some c && option_map_or (λ n. nat_eq n 0) (option_map f c) false) ≡ option_map_or (λ n. nat_eq n 0) (option_map f c) false
    there None f = refl
    there (Some atoms) f = refl
