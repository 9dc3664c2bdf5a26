-- Names in order that begin with a prefix stand together.
use Rattle.std.proofs.Common.{◌≡◌, ◌∙◌, ℕ, ◌<◌, Bool, true, false, cond, nat_eq, ◌&&◌, List, [], ◌∷◌, ◌++◌, filter, flat_map, append_assoc, refl, ap, sym, arith, nat_cmp}
use Rattle.std.specs.List.{starts_with, AllByRecursion}
use Rattle.std.specs.List.Sorted.{IsStrictlySortedBy}
use Rattle.std.specs.Ordering.{ordering_then, is_le}
use Rattle.std.specs.Cmp.Lexicographic.{slice_cmp}
use Rattle.std.specs.declared.cmp.Ordering.{Ordering}
use Rattle.std.specs.declared.cmp.Ordering.TheVariants.{Less, Equal, Greater}
use Rattle.std.proofs.lemmas.Bool.{true≢false}
use Rattle.std.proofs.lemmas.Bool.Decides.{nat_tests}
use Rattle.std.proofs.lemmas.Cmp.{ranked}
use Rattle.ctl_query.specs.PackageNames.{begins_with, name_line}

apart : (a c : ℕ) → a < c → nat_eq a c ≡ false
apart a c h = grind (arith, nat_tests, h)

tied : (a b : ℕ) → a ≡ b → nat_eq a b ≡ true
tied a b h = grind (arith, nat_tests, h)

never : (b : Bool) → (b && false) ≡ false
never true = refl
never false = refl

less≢greater : Greater ≡ Less → ⊥
less≢greater e = let z : ⊥ = cc in z

-- behind a name that isn't before the prefix and doesn't begin with it
none_later : (p n m : List ℕ) → is_le (slice_cmp nat_cmp p n) ≡ true → starts_with nat_eq n p ≡ false → slice_cmp nat_cmp n m ≡ Less → starts_with nat_eq m p ≡ false
none_later [] n m from other below = absurd (true≢false other)
none_later (a ∷ p) [] m from other below = absurd (true≢false (sym from))
none_later (a ∷ p) (b ∷ n) [] from other below = refl
none_later (a ∷ p) (b ∷ n) (c ∷ m) from other below = by (nat_cmp a b) refl (nat_cmp b c) refl from below (none_later p n m)
  where
    first : a < c → (nat_eq a c && starts_with nat_eq m p) ≡ false
    first h = ap (λ t. t && starts_with nat_eq m p) (apart a c h)

    by : (o : Ordering) → o ≡ nat_cmp a b → (r : Ordering) → r ≡ nat_cmp b c → is_le (ordering_then o (slice_cmp nat_cmp p n)) ≡ true → ordering_then r (slice_cmp nat_cmp n m) ≡ Less
        → (is_le (slice_cmp nat_cmp p n) ≡ true → starts_with nat_eq n p ≡ false → slice_cmp nat_cmp n m ≡ Less → starts_with nat_eq m p ≡ false)
        → (nat_eq a c && starts_with nat_eq m p) ≡ false
    by Less e Less f from' below' rest = first (omega (arith, ranked a b Less e, ranked b c Less f))
    by Less e Equal f from' below' rest = first (omega (arith, ranked a b Less e, ranked b c Equal f))
    by Less e Greater f from' below' rest = absurd (less≢greater below')
    by Equal e Less f from' below' rest = first (omega (arith, ranked a b Equal e, ranked b c Less f))
    by Equal e Equal f from' below' rest =
        ap (λ t. nat_eq a c && t) (rest from' (sym (ap (λ t. t && starts_with nat_eq n p) (tied a b (ranked a b Equal e))) ∙ other) below') ∙ never (nat_eq a c)
    by Equal e Greater f from' below' rest = absurd (less≢greater below')
    by Greater e r f from' below' rest = absurd (true≢false (sym from'))

none_in : (p n : List ℕ) (names : List (List ℕ)) → is_le (slice_cmp nat_cmp p n) ≡ true → begins_with p n ≡ false → AllByRecursion (λ m. slice_cmp nat_cmp n m ≡ Less) names → filter (begins_with p) names ≡ []
none_in p n [] from other below = refl
none_in p n (m ∷ names) from other below = rw (none_later p n m from other below.0) (none_in p n names from other below.1)

-- neither it nor a name behind it begins with the prefix
pub none_begins : (p n : List ℕ) (names : List (List ℕ)) → is_le (slice_cmp nat_cmp p n) ≡ true → begins_with p n ≡ false → AllByRecursion (λ m. slice_cmp nat_cmp n m ≡ Less) names → filter (begins_with p) (n ∷ names) ≡ []
none_begins p n names from other below = rw other (none_in p n names from other below)

-- the same of names in order
pub none_of_sorted : (p n : List ℕ) (names : List (List ℕ)) → is_le (slice_cmp nat_cmp p n) ≡ true → begins_with p n ≡ false → IsStrictlySortedBy (slice_cmp nat_cmp) (n ∷ names) → filter (begins_with p) (n ∷ names) ≡ []
unfolding IsStrictlySortedBy
none_of_sorted p n names from other sorted = none_begins p n names from other sorted.0

pub order_left : (n : List ℕ) (names : List (List ℕ)) → IsStrictlySortedBy (slice_cmp nat_cmp) (n ∷ names) → IsStrictlySortedBy (slice_cmp nat_cmp) names
unfolding IsStrictlySortedBy
order_left n names sorted = sorted.1

-- a name more that begins with the prefix
pub one_more : (p n : List ℕ) (names : List (List ℕ)) (out : List ℕ) → begins_with p n ≡ true
    → (out ++ name_line n) ++ flat_map name_line (filter (begins_with p) names) ≡ out ++ flat_map name_line (filter (begins_with p) (n ∷ names))
one_more p n names out begins =
    append_assoc out (name_line n) (flat_map name_line (filter (begins_with p) names))
    ∙ sym (ap (λ b. out ++ flat_map name_line (cond b (n ∷ filter (begins_with p) names) (filter (begins_with p) names))) begins)
