-- An answer over all packages is one over those that it says something of.
use Rattle.std.proofs.Common.{◌≡◌, ◌∙◌, ℕ, Bool, true, false, ◌&&◌, List, [], ◌∷◌, ◌++◌, flat_map, refl, sym, ap}
use Rattle.std.specs.Cmp.Lexicographic.{slice_cmp}
use Rattle.std.specs.List.{filter}
use Rattle.std.specs.List.Sorted.{IsStrictlySortedBy}
use Rattle.std.specs.Ordering.{nat_cmp}
use Rattle.std.specs.Str.{bytes_eq}
use Rattle.std.proofs.lemmas.List.Kept.{IsStrictlySortedBy-filter}
use Rattle.std.proofs.lemmas.Slice.Eq.{bytes_eq-Decides}
use Rattle.ctl_stanza.specs.Content.{Content}
use Rattle.ctl_store.specs.Entries.{entries_of, AreAt}
use Rattle.ctl_index.specs.Names.{known_names}
use Rattle.ctl_policy.specs.Priority.{World}
use Rattle.ctl_query.specs.NameSet.{is_among}
use Rattle.ctl_query.specs.Packages.{has_row, names_known, packages_of, of_rows}
use Rattle.ctl_query.proofs.ClassLemmas.{AreClasses}
use Rattle.ctl_query.proofs.OrderLemmas.{in_order_sorted, one_in_order}
use Rattle.ctl_query.proofs.SilentLemmas.{IsSilent, silent_rows, no_rows}

-- what has no text can be left out
skip_at : {A B : Type 0} (f : A → List B) (p : A → Bool) (x : A) (xs : List A) → flat_map f xs ≡ flat_map f (filter p xs) → (p x ≡ false → f x ≡ []) →
    (b : Bool) → p x ≡ b → flat_map f (x ∷ xs) ≡ flat_map f (filter p (x ∷ xs))
skip_at f p x xs rest none true e = rw e (ap (λ t. f x ++ t) rest)
skip_at f p x xs rest none false e = rw e (ap (λ t. t ++ flat_map f xs) (none e) ∙ rest)

pub skip : {A B : Type 0} (f : A → List B) (p : A → Bool) → ((x : A) → p x ≡ false → f x ≡ []) → (xs : List A) → flat_map f xs ≡ flat_map f (filter p xs)
skip f p none [] = refl
skip f p none (x ∷ xs) = skip_at f p x xs (skip f p none xs) (none x) (p x) refl

pub and_false : (b : Bool) → false ≡ (b && false)
and_false true = refl
and_false false = refl

pub turned : (a b : Bool) → (a && b) ≡ (b && a)
turned true true = refl
turned true false = refl
turned false true = refl
turned false false = refl

among_at : (p : List ℕ → Bool) (x : List ℕ) (xs : List (List ℕ)) (q : List ℕ) → is_among (filter p xs) q ≡ (p q && is_among xs q) →
    (b : Bool) → p x ≡ b → (s : Bool) → bytes_eq q x ≡ s → is_among (filter p (x ∷ xs)) q ≡ (p q && is_among (x ∷ xs) q)
among_at p x xs q rest true e true s = let same : p q ≡ true = ap p ((bytes_eq-Decides q x).0 s) ∙ e in rw (e, s, same) refl
among_at p x xs q rest true e false s = rw (e, s) rest
among_at p x xs q rest false e true s = let same : p q ≡ false = ap p ((bytes_eq-Decides q x).0 s) ∙ e in rw (e, s) (rest ∙ ap (λ b. b && is_among xs q) same ∙ ap (λ b. b && true) (sym same))
among_at p x xs q rest false e false s = rw (e, s) rest

among_filter : (p : List ℕ → Bool) (xs : List (List ℕ)) (q : List ℕ) → is_among (filter p xs) q ≡ (p q && is_among xs q)
among_filter p [] q = and_false (p q)
among_filter p (x ∷ xs) q = among_at p x xs q (among_filter p xs q) (p x) refl (bytes_eq q x) refl

-- Two lists of names in order have one text, if what stands in one of them alone has none.
pub of_two : (f : List ℕ → List ℕ) (all some : List (List ℕ)) → IsStrictlySortedBy (slice_cmp nat_cmp) all → IsStrictlySortedBy (slice_cmp nat_cmp) some →
    ((x : List ℕ) → is_among all x ≡ false → f x ≡ []) → ((x : List ℕ) → is_among some x ≡ false → f x ≡ []) → flat_map f some ≡ flat_map f all
of_two f all some sa ss outside none =
    skip f (is_among all) outside some
    ∙ ap (flat_map f) (one_in_order (filter (is_among all) some) (filter (is_among some) all)
    (IsStrictlySortedBy-filter (slice_cmp nat_cmp) (is_among all) some ss) (IsStrictlySortedBy-filter (slice_cmp nat_cmp) (is_among some) all sa)
    (λ q. among_filter (is_among all) some q ∙ turned (is_among all q) (is_among some q) ∙ sym (among_filter (is_among some) all q)))
    ∙ sym (skip f (is_among some) none all)

-- what is not a package has no row, as a name with a row is known
pub no_package : (world : World) → ((name : List ℕ) → has_row world name ≡ true → is_among (names_known world) name ≡ true) → (x : List ℕ) → is_among (packages_of world) x ≡ false → has_row world x ≡ false
unfolding packages_of
no_package world known x out = by (has_row world x) refl (sym (among_filter (has_row world) (names_known world) x) ∙ out)
  where
    by : (b : Bool) → has_row world x ≡ b → (has_row world x && is_among (names_known world) x) ≡ false → has_row world x ≡ false
    by true e h = absurd (let same : (true && true) ≡ false = (λ i. sym e i && sym (known x e) i) ∙ h in let z : ⊥ = cc in z)
    by false e h = e

module _ {A : Type 0} (world : World) (text : Content → List A) (f : List ℕ → List ℕ) (said : (x : List ℕ) → of_rows world text x ≡ [] → f x ≡ []) where
  -- Of all packages those are enough beside which nothing is told of any stanza.
  pub of_interest : AreClasses → AreAt (entries_of world.lists) world.lists → ((name : List ℕ) → has_row world name ≡ true → is_among (names_known world) name ≡ true) →
      (some : List (List ℕ)) → IsStrictlySortedBy (slice_cmp nat_cmp) some → ((x : List ℕ) → is_among some x ≡ false → IsSilent text x (entries_of world.lists)) →
      flat_map f some ≡ flat_map f (packages_of world)
  unfolding packages_of known_names
  of_interest classes at known some sorted silent =
      of_two f (packages_of world) some (IsStrictlySortedBy-filter (slice_cmp nat_cmp) (has_row world) (names_known world) (in_order_sorted _)) sorted
      (λ x out. said x (no_rows world text x (no_package world known x out)))
      (λ x out. said x (silent_rows world text x classes at (silent x out)))
