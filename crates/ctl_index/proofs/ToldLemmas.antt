-- Numbers of clauses and known names, in words that tell no sum and no order of insertion.
use Rattle.std.proofs.Common.{◌≡◌, ℕ, zero, suc, ◌+◌, Bool, true, false, not, ◌||◌, ◌&&◌, List, [], ◌∷◌, ◌++◌, Option, None, Some, option_map, refl, ap, sym, ◌∙◌, arith}
use Rattle.std.specs.Prelude.{nat_eq, flat_map}
use Rattle.std.specs.Cmp.Lexicographic.{slice_cmp}
use Rattle.std.specs.List.{list_any}
use Rattle.std.specs.List.Sorted.{IsStrictlySortedBy}
use Rattle.std.specs.Option.{option_map_or}
use Rattle.std.specs.Ordering.{nat_cmp}
use Rattle.std.specs.Str.{bytes_eq}
use Rattle.std.proofs.lemmas.Bool.Decides.{nat_tests}
use Rattle.std.proofs.lemmas.List.Sums.{sum_by-cons}
use Rattle.ctl_relation.specs.Parts.{AtomParts, OfferParts}
use Rattle.ctl_relation.specs.Met.{met, met_count, met_pairs}
use Rattle.ctl_stanza.specs.Content.{Content}
use Rattle.ctl_store.specs.Entries.{Entry}
use Rattle.ctl_index.specs.declared.keys.ClauseKey.{ClauseKey}
use Rattle.ctl_index.specs.Clauses.{clause_at, is_met, is_unmet}
use Rattle.ctl_index.specs.Names.{known_names, names_told}
use Rattle.ctl_index.specs.Offers.{contents, offers_among}
use Rattle.ctl_index.proofs.NamesLemmas.{any-counted}
use Rattle.ctl_index.proofs.OrderLemmas.{in_order_sorted, among_in_order}

-- ---- numbers

no_sum : (a b : ℕ) → nat_eq (a + b) 0 ≡ (nat_eq a 0 && nat_eq b 0)
no_sum zero b = let plain : 0 + b ≡ b = omega arith in ap (λ n. nat_eq n 0) plain
no_sum (suc a) b =
    let left : nat_eq (suc a + b) 0 ≡ false = grind (arith, nat_tests) in
    let right : nat_eq (suc a) 0 ≡ false = grind (arith, nat_tests) in
    left ∙ sym (ap (λ t. t && nat_eq b 0) right)

neither : (a b : Bool) → (not a && not b) ≡ not (a || b)
neither true b = refl
neither false b = refl

turned : (a b : Bool) → a ≡ not b → b ≡ not a
turned a true e = sym (ap not e)
turned a false e = sym (ap not e)

none_of : (atom : AtomParts) (offers : List OfferParts) → nat_eq (met_count atom offers) 0 ≡ not (list_any (met atom) offers)
none_of atom offers = turned (list_any (met atom) offers) (nat_eq (met_count atom offers) 0) (any-counted (met atom) offers)

no_pairs : (atoms : List AtomParts) (offers : List OfferParts) → nat_eq (met_pairs atoms offers) 0 ≡ not (is_met atoms offers)
no_pairs [] offers = refl
no_pairs (atom ∷ atoms) offers =
    ap (λ n. nat_eq n 0) (sum_by-cons (λ (a : AtomParts). met_count a offers) atom atoms)
    ∙ no_sum (met_count atom offers) (met_pairs atoms offers)
    ∙ (λ i. none_of atom offers i && no_pairs atoms offers i)
    ∙ neither (list_any (met atom) offers) (is_met atoms offers)

pub unmet_is : (key : ClauseKey) (es : List Entry) → is_unmet es key ≡ option_map_or (λ atoms. not (is_met atoms (offers_among (contents es)))) (clause_at key es) false
unmet_is key es = by (clause_at key es)
  where
    by : (o : Option (List AtomParts)) → option_map_or (λ n. nat_eq n 0) (option_map (λ atoms. met_pairs atoms (offers_among (contents es))) o) false ≡ option_map_or (λ atoms. not (is_met atoms (offers_among (contents es)))) o false
    by None = refl
    by (Some atoms) = no_pairs atoms (offers_among (contents es))

-- ---- names

pub names_rise : (stanzas : List Content) → IsStrictlySortedBy (slice_cmp nat_cmp) (known_names stanzas)
unfolding known_names
names_rise stanzas = in_order_sorted (flat_map names_told stanzas)

module _ {X : Type 0} (p : X → Bool) where
  any_append : (xs ys : List X) → list_any p (xs ++ ys) ≡ (list_any p xs || list_any p ys)
  any_append [] ys = refl
  any_append (x ∷ xs) ys = ap (λ t. p x || t) (any_append xs ys) ∙ by (p x)
    where
      by : (b : Bool) → (b || (list_any p xs || list_any p ys)) ≡ ((b || list_any p xs) || list_any p ys)
      by true = refl
      by false = refl

  any_of_each : {Y : Type 0} (f : Y → List X) (ys : List Y) → list_any p (flat_map f ys) ≡ list_any (λ y. list_any p (f y)) ys
  any_of_each f [] = refl
  any_of_each f (y ∷ ys) = any_append (f y) (flat_map f ys) ∙ ap (λ t. list_any p (f y) || t) (any_of_each f ys)

pub names_are : (name : List ℕ) (stanzas : List Content) → list_any (bytes_eq name) (known_names stanzas) ≡ list_any (λ stanza. list_any (bytes_eq name) (names_told stanza)) stanzas
unfolding known_names
names_are name stanzas = among_in_order name (flat_map names_told stanzas) ∙ any_of_each (bytes_eq name) names_told stanzas
