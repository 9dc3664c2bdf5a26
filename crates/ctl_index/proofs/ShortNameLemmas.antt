-- Names that stand in the value itself: the numbers of their places compare as the names do.
use Rattle.std.proofs.Common.{◌≡◌, ℕ, zero, suc, ◌+◌, ◌*◌, ◌<◌, ◌≤◌, List, [], ◌∷◌, ◌++◌, length, take, drop, replicate, get_or, set, refl, ap, sym, subst, ◌∙◌, arith}
use Rattle.std.proofs.lemmas.Cmp.{ranked}
use Rattle.std.proofs.lemmas.List.{length-append, length-drop, drop-drop, drop_all, get_or_at}
use Rattle.std.specs.Cmp.{nat_cmp_is}
use Rattle.std.specs.Cmp.Lexicographic.{slice_cmp}
use Rattle.std.specs.Ordering.{nat_cmp, ordering_then}
use Rattle.std.specs.declared.cmp.Ordering.{Ordering}
use Rattle.std.specs.declared.cmp.Ordering.TheVariants.{Less, Equal, Greater}
use Rattle.ctl_index.specs.Inside.ShortName.{held_name, IsHeldIn, spelled, word_at, filled, order_behind}

-- ---- orders one after another

then_assoc : (o p q : Ordering) → ordering_then (ordering_then o p) q ≡ ordering_then o (ordering_then p q)
then_assoc Less p q = refl
then_assoc Equal p q = refl
then_assoc Greater p q = refl

then_equal : (o : Ordering) → ordering_then o Equal ≡ o
then_equal Less = refl
then_equal Equal = refl
then_equal Greater = refl

none_under : (y : ℕ) → Greater ≡ nat_cmp 0 y → ⊥
none_under y e = let h : y < 0 = ranked 0 y Greater e in omega arith

zero_over : (x : ℕ) → Less ≡ nat_cmp x 0 → ⊥
zero_over x e = let h : x < 0 = ranked x 0 Less e in omega arith

-- ---- numbers that are spelled by as many bytes compare as the bytes do

abbrev AreBytes : List ℕ → Type 0
AreBytes xs = (k : ℕ) → get_or xs k 0 < 256

-- parts of bytes are bytes
bytes_taken : (n : ℕ) (xs : List ℕ) → AreBytes xs → AreBytes (take n xs)
bytes_taken zero xs h k = omega arith
bytes_taken (suc n) [] h k = omega arith
bytes_taken (suc n) (x ∷ xs) h zero = h 0
bytes_taken (suc n) (x ∷ xs) h (suc k) = bytes_taken n xs (λ k. h (suc k)) k

bytes_left : (n : ℕ) (xs : List ℕ) → AreBytes xs → AreBytes (drop n xs)
bytes_left zero xs h = h
bytes_left (suc n) [] h = h
bytes_left (suc n) (x ∷ xs) h = bytes_left n xs (λ k. h (suc k))

-- one byte more
one_more : (m n x y : ℕ) → x < 256 → y < 256 → nat_cmp (m * 256 + x) (n * 256 + y) ≡ ordering_then (nat_cmp m n) (nat_cmp x y)
one_more m n x y g h = by (nat_cmp m n) refl
  where
    by : (o : Ordering) → o ≡ nat_cmp m n → nat_cmp (m * 256 + x) (n * 256 + y) ≡ ordering_then o (nat_cmp x y)
    by Less e = sym (nat_cmp_is (m * 256 + x) (n * 256 + y) Less (omega (arith, ranked m n Less e)))
    by Equal e = last (nat_cmp x y) refl
      where
        last : (o : Ordering) → o ≡ nat_cmp x y → nat_cmp (m * 256 + x) (n * 256 + y) ≡ o
        last Less f = sym (nat_cmp_is (m * 256 + x) (n * 256 + y) Less (omega (arith, ranked m n Equal e, ranked x y Less f)))
        last Equal f = sym (nat_cmp_is (m * 256 + x) (n * 256 + y) Equal (omega (arith, ranked m n Equal e, ranked x y Equal f)))
        last Greater f = sym (nat_cmp_is (m * 256 + x) (n * 256 + y) Greater (omega (arith, ranked m n Equal e, ranked x y Greater f)))
    by Greater e = sym (nat_cmp_is (m * 256 + x) (n * 256 + y) Greater (omega (arith, ranked m n Greater e)))

numbers_tell : (m n : ℕ) (xs ys : List ℕ) → length xs ≡ length ys → AreBytes xs → AreBytes ys → nat_cmp (spelled m xs) (spelled n ys) ≡ ordering_then (nat_cmp m n) (slice_cmp nat_cmp xs ys)
numbers_tell m n [] [] e g h = sym (then_equal (nat_cmp m n))
numbers_tell m n [] (y ∷ ys) e g h = absurd (omega arith)
numbers_tell m n (x ∷ xs) [] e g h = absurd (omega arith)
numbers_tell m n (x ∷ xs) (y ∷ ys) e g h =
    numbers_tell (m * 256 + x) (n * 256 + y) xs ys (omega arith) (λ k. g (suc k)) (λ k. h (suc k))
    ∙ ap (λ o. ordering_then o (slice_cmp nat_cmp xs ys)) (one_more m n x y (g 0) (h 0))
    ∙ then_assoc (nat_cmp m n) (nat_cmp x y) (slice_cmp nat_cmp xs ys)

-- ---- lists of one length compare by a part of them, and then by the rest

by_parts : (n : ℕ) (xs ys : List ℕ) → length xs ≡ length ys → slice_cmp nat_cmp xs ys ≡ ordering_then (slice_cmp nat_cmp (take n xs) (take n ys)) (slice_cmp nat_cmp (drop n xs) (drop n ys))
by_parts zero xs ys e = refl
by_parts (suc n) [] [] e = refl
by_parts (suc n) [] (y ∷ ys) e = absurd (omega arith)
by_parts (suc n) (x ∷ xs) [] e = absurd (omega arith)
by_parts (suc n) (x ∷ xs) (y ∷ ys) e =
    ap (ordering_then (nat_cmp x y)) (by_parts n xs ys (omega arith)) ∙ sym (then_assoc (nat_cmp x y) (slice_cmp nat_cmp (take n xs) (take n ys)) (slice_cmp nat_cmp (drop n xs) (drop n ys)))

same_taken : (n : ℕ) (xs ys : List ℕ) → length xs ≡ length ys → length (take n xs) ≡ length (take n ys)
same_taken zero xs ys e = refl
same_taken (suc n) [] [] e = refl
same_taken (suc n) [] (y ∷ ys) e = absurd (omega arith)
same_taken (suc n) (x ∷ xs) [] e = absurd (omega arith)
same_taken (suc n) (x ∷ xs) (y ∷ ys) e = ap suc (same_taken n xs ys (omega arith))

-- so what is left of them at a place compares by the numbers there, and then by what is behind those
by_number : (at : ℕ) (xs ys : List ℕ) → length xs ≡ length ys → AreBytes xs → AreBytes ys
    → slice_cmp nat_cmp (drop at xs) (drop at ys) ≡ ordering_then (nat_cmp (word_at at xs) (word_at at ys)) (slice_cmp nat_cmp (drop (at + 8) xs) (drop (at + 8) ys))
by_number at xs ys e g h =
    let left : length (drop at xs) ≡ length (drop at ys) = omega (arith, length-drop at xs, length-drop at ys) in
    let here : AreBytes (take 8 (drop at xs)) = bytes_taken 8 (drop at xs) (bytes_left at xs g) in
    let there : AreBytes (take 8 (drop at ys)) = bytes_taken 8 (drop at ys) (bytes_left at ys h) in
    let numbers = numbers_tell 0 0 (take 8 (drop at xs)) (take 8 (drop at ys)) (same_taken 8 (drop at xs) (drop at ys) left) here there in
    by_parts 8 (drop at xs) (drop at ys) left
    ∙ (λ i. ordering_then (sym numbers i) (slice_cmp nat_cmp (drop-drop 8 at xs i) (drop-drop 8 at ys i)))

-- ---- zeros behind names, and then their lengths, leave their order

-- a shorter name is before one that goes on, also if it goes on with zeros
short_first : (k : ℕ) (ys : List ℕ) (p q : ℕ) → p < q → slice_cmp nat_cmp (filled k [] ++ (p ∷ [])) (filled k ys ++ (q ∷ [])) ≡ Less
short_first zero ys p q h = ap (λ o. ordering_then o Equal) (sym (nat_cmp_is p q Less h))
short_first (suc k) [] p q h = short_first k [] p q h
short_first (suc k) (y ∷ ys) p q h = by (nat_cmp 0 y) refl (short_first k ys p q h)
  where
    by : (o : Ordering) → o ≡ nat_cmp 0 y → slice_cmp nat_cmp (filled k [] ++ (p ∷ [])) (filled k ys ++ (q ∷ [])) ≡ Less
        → ordering_then o (slice_cmp nat_cmp (filled k [] ++ (p ∷ [])) (filled k ys ++ (q ∷ []))) ≡ Less
    by Less e rest = refl
    by Equal e rest = rest
    by Greater e rest = absurd (none_under y e)

long_last : (k : ℕ) (xs : List ℕ) (p q : ℕ) → q < p → slice_cmp nat_cmp (filled k xs ++ (p ∷ [])) (filled k [] ++ (q ∷ [])) ≡ Greater
long_last zero xs p q h = ap (λ o. ordering_then o Equal) (sym (nat_cmp_is p q Greater h))
long_last (suc k) [] p q h = long_last k [] p q h
long_last (suc k) (x ∷ xs) p q h = by (nat_cmp x 0) refl (long_last k xs p q h)
  where
    by : (o : Ordering) → o ≡ nat_cmp x 0 → slice_cmp nat_cmp (filled k xs ++ (p ∷ [])) (filled k [] ++ (q ∷ [])) ≡ Greater
        → ordering_then o (slice_cmp nat_cmp (filled k xs ++ (p ∷ [])) (filled k [] ++ (q ∷ []))) ≡ Greater
    by Less e rest = absurd (zero_over x e)
    by Equal e rest = rest
    by Greater e rest = refl

-- the last places differ as the lengths do
padded : (k : ℕ) (a b : List ℕ) (p q : ℕ) → length a ≤ k → length b ≤ k → p + length b ≡ q + length a → slice_cmp nat_cmp (filled k a ++ (p ∷ [])) (filled k b ++ (q ∷ [])) ≡ slice_cmp nat_cmp a b
padded zero [] [] p q f g e = let same : p ≡ q = omega arith in ap (λ o. ordering_then o Equal) (sym (nat_cmp_is p q Equal same))
padded zero [] (y ∷ ys) p q f g e = absurd (omega arith)
padded zero (x ∷ xs) b p q f g e = absurd (omega arith)
padded (suc k) [] [] p q f g e = padded k [] [] p q (omega arith) (omega arith) e
padded (suc k) [] (y ∷ ys) p q f g e = short_first (suc k) (y ∷ ys) p q (omega arith)
padded (suc k) (x ∷ xs) [] p q f g e = long_last (suc k) (x ∷ xs) p q (omega arith)
padded (suc k) (x ∷ xs) (y ∷ ys) p q f g e = ap (ordering_then (nat_cmp x y)) (padded k xs ys p q (omega arith) (omega arith) (omega arith))

-- ---- the places of two names compare as the names do, by their numbers in turn

-- numbers that differ decide
differ_then : (a b : ℕ) (o p : Ordering) → (a ≡ b → ⊥) → o ≡ nat_cmp a b → o ≡ ordering_then (nat_cmp a b) p
differ_then a b o p n e = by o e
  where
    by : (r : Ordering) → r ≡ nat_cmp a b → r ≡ ordering_then (nat_cmp a b) p
    by Less f = ap (λ q. ordering_then q p) f
    by Equal f = absurd (n (ranked a b Equal f))
    by Greater f = ap (λ q. ordering_then q p) f

tie_then : (a b : ℕ) (p : Ordering) → a ≡ b → p ≡ ordering_then (nat_cmp a b) p
tie_then a b p e = ap (λ q. ordering_then q p) (nat_cmp_is a b Equal e)

-- the same of numbers that are told by others
pub told_apart : (x y a b : ℕ) (o p : Ordering) → a ≡ x → b ≡ y → (a ≡ b → ⊥) → o ≡ nat_cmp a b → o ≡ ordering_then (nat_cmp x y) p
told_apart x y a b o p e f apart is = differ_then a b o p apart is ∙ (λ i. ordering_then (nat_cmp (e i) (f i)) p)

pub told_equal : (x y a b : ℕ) (o p : Ordering) → a ≡ x → b ≡ y → a ≡ b → o ≡ p → o ≡ ordering_then (nat_cmp x y) p
told_equal x y a b o p e f same is = is ∙ tie_then a b p same ∙ (λ i. ordering_then (nat_cmp (e i) (f i)) p)

length_filled : (k : ℕ) (name : List ℕ) → length (filled k name) ≡ k
length_filled zero name = refl
length_filled (suc k) [] = ap suc (length_filled k [])
length_filled (suc k) (x ∷ xs) = ap suc (length_filled k xs)

length_held : (places name : List ℕ) → IsHeldIn places name → length places ≡ 32
length_held places name h = omega (arith, ap length h.are, length-append (filled 31 name) (length name ∷ []), length_filled 31 name)

-- what two lists of places say from one place on
abbrev from_place : ℕ → List ℕ → List ℕ → Ordering
from_place at xs ys = slice_cmp nat_cmp (drop at xs) (drop at ys)

module _ (xs ys name other : List ℕ) (m : IsHeldIn xs name) (n : IsHeldIn ys other) (g : AreBytes xs) (h : AreBytes ys) where
  by_held : (at : ℕ) → from_place at xs ys ≡ ordering_then (nat_cmp (word_at at xs) (word_at at ys)) (from_place (at + 8) xs ys)
  by_held at = by_number at xs ys (length_held xs name m ∙ sym (length_held ys other n)) g h

  -- numbers that differ tell it
  pub numbers_differ : (at a b : ℕ) (o : Ordering) → a ≡ word_at at xs → b ≡ word_at at ys → (a ≡ b → ⊥) → o ≡ nat_cmp a b → o ≡ from_place at xs ys
  numbers_differ at a b o p q apart e =
      differ_then a b o (from_place (at + 8) xs ys) apart e ∙ (λ i. ordering_then (nat_cmp (p i) (q i)) (from_place (at + 8) xs ys)) ∙ sym (by_held at)

  -- and else what is behind them does
  pub numbers_tie : (at a b : ℕ) → a ≡ word_at at xs → b ≡ word_at at ys → a ≡ b → from_place (at + 8) xs ys ≡ from_place at xs ys
  numbers_tie at a b p q e =
      tie_then a b (from_place (at + 8) xs ys) e ∙ (λ i. ordering_then (nat_cmp (p i) (q i)) (from_place (at + 8) xs ys)) ∙ sym (by_held at)

  -- behind the last there is none
  pub last_numbers : (a b : ℕ) (o : Ordering) → a ≡ word_at 24 xs → b ≡ word_at 24 ys → o ≡ nat_cmp a b → o ≡ from_place 24 xs ys
  last_numbers a b o p q e =
      let none_here : drop 32 xs ≡ [] = drop_all 32 xs (omega (arith, length_held xs name m)) in
      let none_there : drop 32 ys ≡ [] = drop_all 32 ys (omega (arith, length_held ys other n)) in
      e ∙ (λ i. nat_cmp (p i) (q i)) ∙ sym (then_equal (nat_cmp (word_at 24 xs) (word_at 24 ys)))
      ∙ (λ i. ordering_then (nat_cmp (word_at 24 xs) (word_at 24 ys)) (slice_cmp nat_cmp (sym none_here i) (sym none_there i))) ∙ sym (by_held 24)

  -- those behind the first, in turn
  pub numbers_behind : order_behind xs ys ≡ from_place 8 xs ys
  numbers_behind =
      let last : nat_cmp (word_at 24 xs) (word_at 24 ys) ≡ from_place 24 xs ys = last_numbers _ _ _ refl refl refl in
      let two : ordering_then (nat_cmp (word_at 16 xs) (word_at 16 ys)) (nat_cmp (word_at 24 xs) (word_at 24 ys)) ≡ from_place 16 xs ys =
      ap (ordering_then (nat_cmp (word_at 16 xs) (word_at 16 ys))) last ∙ sym (by_held 16) in
      ap (ordering_then (nat_cmp (word_at 8 xs) (word_at 8 ys))) two ∙ sym (by_held 8)

  -- and all of them do as the names that are seen
  pub names_tell : (a b : List ℕ) → name ≡ a → other ≡ b → from_place 0 xs ys ≡ slice_cmp nat_cmp a b
  names_tell a b p q = (λ i. slice_cmp nat_cmp (m.are i) (n.are i)) ∙ padded 31 name other (length name) (length other) m.few n.few (omega arith) ∙ (λ i. slice_cmp nat_cmp (p i) (q i))

-- ---- a name that is copied over zeros, with its length behind them

copied : (k : ℕ) (name : List ℕ) (v : ℕ) → length name ≤ k → set (name ++ drop (length name) (replicate (suc k) 0)) k v ≡ filled k name ++ (v ∷ [])
copied zero [] v h = refl
copied zero (x ∷ xs) v h = absurd (omega arith)
copied (suc k) [] v h = ap (λ l. 0 ∷ l) (copied k [] v (omega arith))
copied (suc k) (x ∷ xs) v h = ap (λ l. x ∷ l) (copied k xs v (omega arith))

-- as many places as the last one says are the name
taken : (k : ℕ) (name rest : List ℕ) → length name ≤ k → take (length name) (filled k name ++ rest) ≡ name
taken k [] rest h = refl
taken zero (x ∷ xs) rest h = absurd (omega arith)
taken (suc k) (x ∷ xs) rest h = ap (λ l. x ∷ l) (taken k xs rest (omega arith))

held : (name : List ℕ) → length name ≤ 31 → held_name (filled 31 name ++ (length name ∷ [])) ≡ name
held name h = ap (λ n. take n (filled 31 name ++ (length name ∷ []))) (get_or_at (filled 31 name) (length name) [] 0 31 (length_filled 31 name)) ∙ taken 31 name (length name ∷ []) h

is_held : (name : List ℕ) → length name ≤ 31 → IsHeldIn (filled 31 name ++ (length name ∷ [])) (held_name (filled 31 name ++ (length name ∷ [])))
is_held name h = subst (IsHeldIn (filled 31 name ++ (length name ∷ []))) (sym (held name h)) (record { are = refl; few = h })

pub copied_held : (places name : List ℕ) → length name ≤ 31 → places ≡ set (name ++ drop (length name) (replicate 32 0)) 31 (length name) → IsHeldIn places (held_name places)
copied_held places name h e = subst (λ l. IsHeldIn l (held_name l)) (sym (e ∙ copied 31 name (length name) h)) (is_held name h)
