-- Where the fronts of two names differ, they stand as the names do.
use Rattle.std.proofs.Common.{◌≡◌, ℕ, zero, suc, ◌+◌, ◌-◌, ◌*◌, ◌^◌, ◌<◌, ◌≤◌, min, true, false, Bool, cond, List, [], ◌∷◌, refl, ap, sym, subst, ◌∙◌, arith, nat_lt}
use Rattle.std.specs.Cmp.Lexicographic.{slice_cmp}
use Rattle.std.specs.Ordering.{nat_cmp, ordering_then, MatchOrdering}
use Rattle.std.specs.declared.cmp.Ordering.{Ordering}
use Rattle.std.specs.declared.cmp.Ordering.TheVariants.{Less, Equal, Greater}
use Rattle.std.specs.Cmp.{nat_cmp_total, tied_itself, ranks}
use Rattle.std.proofs.lemmas.Grind.{pow_more}
use Rattle.std.proofs.Math.Nat.{pow-le-pow_right}
use Rattle.ctl_store.specs.Fronts.{front_len, digit, has_digit, last_ones, first_digit, behind_first, packed, front_of}
use Rattle.std.proofs.lemmas.Bool.Decides.{nat_tests}

run : (x y k w : ℕ) → x ≤ y → min (x - k) w ≤ min (y - k) w
run x y k w l = omega arith

digit_rises : (x y : ℕ) → x ≤ y → digit x ≤ digit y
digit_rises x y l = omega (arith, run x y 42 1 l, run x y 44 2 l, run x y 47 10 l, run x y 96 26 l)

digit_most : (x : ℕ) → digit x ≤ 39
digit_most x = omega arith

-- a greater character of the same number has none of its own
shared : (x y : ℕ) → x < y → digit x ≡ digit y → has_digit y ≡ false
shared x y l e = grind (arith, nat_tests, digit_rises x (y - 1) (omega arith))

pub first_most : (xs : List ℕ) → first_digit xs ≤ 39
first_most [] = omega arith
first_most (x ∷ xs) = digit_most x

rises : (k n m : ℕ) (xs ys : List ℕ) → n < m → packed k n xs < packed k m ys
rises zero n m xs ys l = l
rises (suc k) n m xs ys l = omega (arith, rises k (n * 40 + first_digit xs) (m * 40 + first_digit ys) (behind_first xs) (behind_first ys) (omega (arith, first_most xs, first_most ys)))

-- the end is the least, and the last ones are the greatest
least : (k n m : ℕ) (ys : List ℕ) → n ≤ m → packed k n [] ≤ packed k m ys
least zero n m ys l = l
least (suc k) n m ys l = omega (arith, least k (n * 40 + 0) (m * 40 + first_digit ys) (behind_first ys) (omega (arith, l)))

greatest : (k n m j : ℕ) (xs : List ℕ) → n ≤ m → k ≤ j → packed k n xs ≤ packed k m (last_ones j)
greatest zero n m j xs l w = l
greatest (suc k) n m zero xs l w = absurd (omega (arith, w))
greatest (suc k) n m (suc j) xs l w = omega (arith, greatest k (n * 40 + first_digit xs) (m * 40 + 39) j (behind_first xs) (omega (arith, l, first_most xs)) (omega (arith, w)))

-- numbers that differ
differs : (x y : ℕ) (o : Ordering) → o ≡ nat_cmp x y → (o ≡ Equal → ⊥) → x ≤ y → o ≡ Less
differs x y o e n l = grind arith

differs_back : (x y : ℕ) (o : Ordering) → o ≡ nat_cmp x y → (o ≡ Equal → ⊥) → y ≤ x → o ≡ Greater
differs_back x y o e n l = grind arith

-- of two names that differ in their first character the number of the lesser is no greater
grows : (k n x y : ℕ) (xs ys : List ℕ) → k ≤ front_len → x < y → packed (suc k) n (x ∷ xs) ≤ packed (suc k) n (y ∷ ys)
grows k n x y xs ys w l = by (nat_lt (digit x) (digit y)) refl
  where
    apart : digit x < digit y → packed (suc k) n (x ∷ xs) ≤ packed (suc k) n (y ∷ ys)
    apart l = omega (arith, rises k (n * 40 + digit x) (n * 40 + digit y) (behind_first (x ∷ xs)) (behind_first (y ∷ ys)) (omega (arith, l)))

    alike : digit x ≡ digit y → packed (suc k) n (x ∷ xs) ≤ packed (suc k) n (y ∷ ys)
    alike e = subst (λ b. packed (suc k) n (x ∷ xs) ≤ packed k (n * 40 + digit y) (cond b ys (last_ones front_len))) (sym (shared x y l e))
        (greatest k (n * 40 + digit x) (n * 40 + digit y) front_len (behind_first (x ∷ xs)) (omega (arith, e)) w)

    by : (b : Bool) → nat_lt (digit x) (digit y) ≡ b → packed (suc k) n (x ∷ xs) ≤ packed (suc k) n (y ∷ ys)
    by true e = apart (grind (arith, nat_tests))
    by false e = alike (let g : digit y ≤ digit x = grind (arith, nat_tests) in omega (arith, g, digit_rises x y (omega (arith, l))))

itself : (n : ℕ) → nat_cmp n n ≡ Equal
itself n = tied_itself nat_cmp_total n

-- names of one first character stand as what is behind it
same_first : (k n x : ℕ) (xs ys : List ℕ) (o : Ordering) → o ≡ nat_cmp (packed (suc k) n (x ∷ xs)) (packed (suc k) n (x ∷ ys)) → (o ≡ Equal → ⊥) → (o ≡ nat_cmp (packed k (n * 40 + digit x) xs) (packed k (n * 40 + digit x) ys) → o ≡ slice_cmp nat_cmp xs ys) → o ≡ slice_cmp nat_cmp xs ys
same_first k n x xs ys o e d behind = by (has_digit x) e
  where
    by : (b : Bool) → o ≡ nat_cmp (packed k (n * 40 + digit x) (cond b xs (last_ones front_len))) (packed k (n * 40 + digit x) (cond b ys (last_ones front_len))) → o ≡ slice_cmp nat_cmp xs ys
    by true e = behind e
    by false e = absurd (d (e ∙ itself (packed k (n * 40 + digit x) (last_ones front_len))))

front_tells : (k n : ℕ) (xs ys : List ℕ) (o : Ordering) → k ≤ front_len → o ≡ nat_cmp (packed k n xs) (packed k n ys) → (o ≡ Equal → ⊥) → o ≡ slice_cmp nat_cmp xs ys
front_tells zero n xs ys o w e d = absurd (d (e ∙ itself n))
front_tells (suc k) n [] [] o w e d = absurd (d (e ∙ itself (packed (suc k) n [])))
front_tells (suc k) n [] (y ∷ ys) o w e d = differs (packed (suc k) n []) (packed (suc k) n (y ∷ ys)) o e d (least (suc k) n n (y ∷ ys) (omega arith))
front_tells (suc k) n (x ∷ xs) [] o w e d = differs_back (packed (suc k) n (x ∷ xs)) (packed (suc k) n []) o e d (least (suc k) n n (x ∷ xs) (omega arith))
front_tells (suc k) n (x ∷ xs) (y ∷ ys) o w e d = by (nat_cmp x y) refl (ranks x y) (front_tells k (n * 40 + digit x) xs ys o (omega (arith, w)))
  where
    by : (r : Ordering) → nat_cmp x y ≡ r → MatchOrdering r (x < y) (x ≡ y) (y < x)
        → (o ≡ nat_cmp (packed k (n * 40 + digit x) xs) (packed k (n * 40 + digit x) ys) → (o ≡ Equal → ⊥) → o ≡ slice_cmp nat_cmp xs ys) → o ≡ ordering_then r (slice_cmp nat_cmp xs ys)
    by Less r m behind = differs (packed (suc k) n (x ∷ xs)) (packed (suc k) n (y ∷ ys)) o e d (grows k n x y xs ys (omega (arith, w)) m)
    by Greater r m behind = differs_back (packed (suc k) n (x ∷ xs)) (packed (suc k) n (y ∷ ys)) o e d (grows k n y x ys xs (omega (arith, w)) m)
    by Equal r m behind = same_first k n x xs ys o (e ∙ (λ j. nat_cmp (packed (suc k) n (x ∷ xs)) (packed (suc k) n (sym m j ∷ ys)))) d (λ h. behind h d)

-- fronts that differ stand as their names do
pub fronts_tell : (xs ys : List ℕ) (o : Ordering) → o ≡ nat_cmp (front_of xs) (front_of ys) → (o ≡ Equal → ⊥) → o ≡ slice_cmp nat_cmp xs ys
unfolding front_of
fronts_tell xs ys o e d = front_tells front_len 0 xs ys o (omega arith) e d

-- ---- a front as it is made

pub whole : (name : List ℕ) → packed (front_len - 0) 0 name ≡ front_of name
unfolding front_of
whole name = refl

pub made : (i n : ℕ) (xs : List ℕ) → i < front_len → packed (front_len - i) n xs ≡ packed (front_len - (i + 1)) (n * 40 + first_digit xs) (behind_first xs)
made i n xs l = let e : front_len - i ≡ suc (front_len - (i + 1)) = omega (arith, l) in ap (λ k. packed k n xs) e

pub fits : (i n : ℕ) → n < 40 ^ i → n * 40 + 39 < 40 ^ (i + 1)
fits i n w = omega (arith, w, pow_more 40 i)

pub fits_word : (i n : ℕ) → i < front_len → n < 40 ^ i → n * 40 + 39 < 2 ^ 64
fits_word i n l w =
    let some : zero < 40 = omega arith in
    let up : i + 1 ≤ 12 = omega (arith, l) in
    let most : 40 ^ (i + 1) ≤ 40 ^ 12 = pow-le-pow_right some up in
    omega (arith, fits i n w, most)
