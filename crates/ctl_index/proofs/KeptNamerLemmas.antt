-- What the tables list of the atoms that name a name, each with what is kept of it, is what the definitions say.
use Rattle.std.proofs.Common.{◌≡◌, ℕ, Bool, true, false, nat_eq, ◌&&◌, List, [], ◌∷◌, map, filter, get_or, Option, Some, None, refl, ap, sym, ◌∙◌}
use Rattle.std.specs.List.{sum_by}
use Rattle.std.specs.List.Sorted.{IsPermutation}
use Rattle.std.specs.Str.{bytes_eq}
use Rattle.std.specs.Cmp.Lexicographic.{nat_list_eq_equiv}
use Rattle.std.proofs.lemmas.Bool.{true≢false}
use Rattle.std.proofs.lemmas.Slice.Eq.{bytes_eq-Decides}
use Rattle.ctl_relation.specs.declared.operator.Operator.{Operator}
use Rattle.ctl_relation.specs.declared.operator.Operator.TheVariants.{Earlier, EarlierOrEqual, Equal, LaterOrEqual, Later}
use Rattle.ctl_relation.specs.Parts.{AtomParts}
use Rattle.ctl_store.specs.Entries.{Entry}
use Rattle.ctl_index.specs.declared.keys.AtomKey.{AtomKey}
use Rattle.ctl_index.specs.declared.tables.Tables.{Tables}
use Rattle.ctl_index.specs.Names.{AllButName, KeptNamer, keyed_atoms, is_named, kept_of, kept_namers_of, kept_namers_named}
use Rattle.ctl_index.specs.Inside.TablesByName.{namers_under}
use Rattle.ctl_index.specs.Inside.TablesIndexed.{IsIndexed, atom_named}
use Rattle.ctl_index.specs.Inside.TablesOrder.{kept_namer}
use Rattle.ctl_index.proofs.ClauseLemmas.{nat_eq-is, nat_eq-refl}
use Rattle.ctl_index.proofs.PermutationLemmas.{permutation_of_sums}
use Rattle.ctl_index.proofs.SumLemmas.{sum-cong, sum-flat_map, sum-map, sum-filter}
use Rattle.ctl_index.proofs.ViewLemmas.{and_true, both_true, atom_same, atom_exact, atom_own}

-- ---- what is the same

abbrev same_option : {X : Type 0} → (X → X → Bool) → Option X → Option X → Bool
same_option same None None = true
same_option same None (Some y) = false
same_option same (Some x) None = false
same_option same (Some x) (Some y) = same x y

option_exact : {X : Type 0} (same : X → X → Bool) → ((x y : X) → same x y ≡ true → x ≡ y) → (a b : Option X) → same_option same a b ≡ true → a ≡ b
option_exact same exact None None h = refl
option_exact same exact None (Some y) h = absurd (true≢false (sym h))
option_exact same exact (Some x) None h = absurd (true≢false (sym h))
option_exact same exact (Some x) (Some y) h = λ i. Some (exact x y h i)

option_own : {X : Type 0} (same : X → X → Bool) → ((x : X) → same x x ≡ true) → (a : Option X) → same_option same a a ≡ true
option_own same own None = refl
option_own same own (Some x) = own x

bytes_exact : (a b : List ℕ) → bytes_eq a b ≡ true → a ≡ b
bytes_exact a b h = (bytes_eq-Decides a b).0 h

bytes_own : (a : List ℕ) → bytes_eq a a ≡ true
bytes_own a = nat_list_eq_equiv.refl a

abbrev place : Operator → ℕ
place Earlier = 0
place EarlierOrEqual = 1
place Equal = 2
place LaterOrEqual = 3
place Later = 4

abbrev at_place : ℕ → Operator
at_place n = get_or (Earlier ∷ EarlierOrEqual ∷ Equal ∷ LaterOrEqual ∷ []) n Later

own_place : (o : Operator) → at_place (place o) ≡ o
own_place Earlier = refl
own_place EarlierOrEqual = refl
own_place Equal = refl
own_place LaterOrEqual = refl
own_place Later = refl

abbrev same_bound : Operator × List ℕ → Operator × List ℕ → Bool
same_bound a b = nat_eq (place a.0) (place b.0) && bytes_eq a.1 b.1

bound_exact : (a b : Operator × List ℕ) → same_bound a b ≡ true → a ≡ b
bound_exact a b h =
    let both = and_true (nat_eq (place a.0) (place b.0)) _ h in
    let operator : a.0 ≡ b.0 = sym (own_place a.0) ∙ ap at_place (nat_eq-is (place a.0) (place b.0) both.0) ∙ own_place b.0 in
    λ i. (operator i, bytes_exact a.1 b.1 both.1 i)

bound_own : (a : Operator × List ℕ) → same_bound a a ≡ true
bound_own a = both_true _ _ (nat_eq-refl (place a.0)) (bytes_own a.1)

abbrev same_rest : AllButName → AllButName → Bool
same_rest a b = same_option bytes_eq a.0 b.0 && same_option same_bound a.1 b.1

rest_exact : (a b : AllButName) → same_rest a b ≡ true → a ≡ b
rest_exact a b h =
    let both = and_true (same_option bytes_eq a.0 b.0) _ h in
    λ i. (option_exact bytes_eq bytes_exact a.0 b.0 both.0 i, option_exact same_bound bound_exact a.1 b.1 both.1 i)

rest_own : (a : AllButName) → same_rest a a ≡ true
rest_own a = both_true _ _ (option_own bytes_eq bytes_own a.0) (option_own same_bound bound_own a.1)

abbrev same_namer : KeptNamer → KeptNamer → Bool
same_namer a b = atom_same a.0 b.0 && same_option same_rest a.1 b.1

namer_exact : (a b : KeptNamer) → same_namer a b ≡ true → a ≡ b
namer_exact a b h =
    let both = and_true (atom_same a.0 b.0) _ h in
    λ i. (atom_exact a.0 b.0 both.0 i, option_exact same_rest rest_exact a.1 b.1 both.1 i)

namer_own : (a : KeptNamer) → same_namer a a ≡ true
namer_own a = both_true _ _ (atom_own a.0) (option_own same_rest rest_own a.1)

-- ---- the atoms that name a name

module _ (es : List Entry) (t : Tables) (was : IsIndexed es t) (q : List ℕ) where
  abbrev listed : List KeptNamer
  listed = map kept_namer (namers_under t.names.map q)

  listed-sum : (f : KeptNamer → ℕ) → sum_by f listed ≡ sum_by (λ (e : Entry). sum_by (atom_named q (λ n. f (kept_namer n))) (keyed_atoms e)) es
  listed-sum f = sum-map f kept_namer (namers_under t.names.map q) ∙ was.namers q (λ n. f (kept_namer n))

  named-sum : (f : KeptNamer → ℕ) → sum_by f (kept_namers_named q es) ≡ sum_by (λ (e : Entry). sum_by (atom_named q (λ n. f (kept_namer n))) (keyed_atoms e)) es
  named-sum f =
      let told : AtomKey × AtomParts → KeptNamer = λ y. (y.0, kept_of y.1) in
      sum-flat_map f (kept_namers_of q) es
      ∙ sum-cong _ _ (λ (e : Entry). sum-map f told (filter (is_named q) (keyed_atoms e)) ∙ sum-filter (is_named q) (λ (y : AtomKey × AtomParts). f (told y)) (keyed_atoms e)) es

  pub kept_permuted : IsPermutation (kept_namers_named q es) listed
  kept_permuted = permutation_of_sums same_namer namer_exact namer_own (kept_namers_named q es) listed (λ f. named-sum f ∙ sym (listed-sum f))
