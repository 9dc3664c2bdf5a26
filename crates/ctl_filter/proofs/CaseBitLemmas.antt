-- A pattern of bytes with the case bit that isn't in a text whose bytes all have it isn't in the text's small letters either.
use Rattle.std.proofs.Common.{◌≡◌, ◌∙◌, ℕ, ◌<◌, ◌≤◌, ◌+◌, ◌==◌, ◌&&◌, Bool, true, false, List, [], ◌∷◌, ◌++◌, zero, suc, refl, sym, ap, subst, arith, ⊎_elim, take, drop, take-append-drop}
use Rattle.std.specs.Prelude.{nat_lt, cond}
use Rattle.std.specs.Char.{to_ascii_lowercase}
use Rattle.std.specs.Str.{str_to_ascii_lowercase}
use Rattle.std.proofs.lemmas.Bool.Decides.{nat_tests}
use Rattle.std.proofs.lemmas.Bool.{and_parts, eqb-true, cases_Bool, false_from_ne_true}
use Rattle.std.proofs.lemmas.List.{map-append}
use Rattle.ctl_filter.specs.Substring.{contains}
use Rattle.ctl_filter.specs.Inside.CaseBits.{with_case_bit, with_case_bits}
use Rattle.ctl_filter.proofs.SubstringLemmas.{contains-iff}

-- ---- a byte

abbrev all_below : (ℕ → Bool) → ℕ → Bool
all_below test zero = true
all_below test (suc n) = test n && all_below test n

all_below-at : (test : ℕ → Bool) (n b : ℕ) → all_below test n ≡ true → b < n → test b ≡ true
all_below-at test zero b ok low = absurd (omega arith)
all_below-at test (suc n) b ok low =
    let both = and_parts (test n) (all_below test n) ok in
    ⊎_elim
    (λ yes. let same : n ≡ b = eqb-true n b yes in subst (λ x. test x ≡ true) same both.0)
    (λ other. all_below-at test n b both.1 (below n b low other))
    (cases_Bool (n == b))
  where
    below : (n b : ℕ) → b < suc n → (n == b) ≡ false → b < n
    below n b low other = grind (arith, nat_tests)

abbrev is_same : ℕ → Bool
is_same b = with_case_bit (to_ascii_lowercase b) == with_case_bit b

high-stays : (b : ℕ) → 91 ≤ b → to_ascii_lowercase b ≡ b
high-stays b high = by (nat_lt b 65) (nat_lt b 91) refl refl
  where
    too_low : nat_lt b 65 ≡ false → nat_lt b 91 ≡ true → ⊥
    too_low low h = grind (arith, nat_tests)

    by : (x y : Bool) → nat_lt b 65 ≡ x → nat_lt b 91 ≡ y → cond x b (cond y (b + 32) b) ≡ b
    by true y low h = refl
    by false true low h = absurd (too_low low h)
    by false false low h = refl

lowered-bit : (b : ℕ) → with_case_bit (to_ascii_lowercase b) ≡ with_case_bit b
lowered-bit b = ⊎_elim
    (λ low. eqb-true _ _ (all_below-at is_same 91 b refl (below low)))
    (λ high. ap with_case_bit (high-stays b (not_below high)))
    (cases_Bool (nat_lt b 91))
  where
    below : nat_lt b 91 ≡ true → b < 91
    below low = grind (arith, nat_tests)

    not_below : nat_lt b 91 ≡ false → 91 ≤ b
    not_below high = grind (arith, nat_tests)

-- ---- a text

lowered-bits : (text : List ℕ) → with_case_bits (str_to_ascii_lowercase text) ≡ with_case_bits text
lowered-bits [] = refl
lowered-bits (b ∷ bs) = λ i. lowered-bit b i ∷ lowered-bits bs i

parts-with-bits : (prefix pattern suffix : List ℕ) → with_case_bits pattern ≡ pattern
    → with_case_bits (prefix ++ (pattern ++ suffix)) ≡ with_case_bits prefix ++ (pattern ++ with_case_bits suffix)
parts-with-bits prefix pattern suffix bits =
    map-append with_case_bit prefix (pattern ++ suffix)
    ∙ ap (λ l. with_case_bits prefix ++ l) (map-append with_case_bit pattern suffix ∙ ap (λ p. p ++ with_case_bits suffix) bits)

pub not_in_lowered : (pattern text : List ℕ) → with_case_bits pattern ≡ pattern → contains pattern (with_case_bits text) ≡ false
    → contains pattern (str_to_ascii_lowercase text) ≡ false
not_in_lowered pattern text bits none =
    false_from_ne_true (contains pattern (str_to_ascii_lowercase text)) (λ yes.
    let s = (contains-iff pattern (str_to_ascii_lowercase text)).0 yes in
    let parts : with_case_bits text ≡ with_case_bits s.0 ++ (pattern ++ with_case_bits s.1) =
    sym (lowered-bits text) ∙ ap with_case_bits s.2 ∙ parts-with-bits s.0 pattern s.1 bits in
    let found = (contains-iff pattern (with_case_bits text)).1 (with_case_bits s.0, with_case_bits s.1, parts) in
    cc)

pub in_lowered : (pattern text : List ℕ) (at n : ℕ) → str_to_ascii_lowercase (take n (drop at text)) ≡ pattern
    → contains pattern (str_to_ascii_lowercase text) ≡ true
in_lowered pattern text at n same =
    let rest = drop n (drop at text) in
    let parts : text ≡ take at text ++ (take n (drop at text) ++ rest) =
    sym (take-append-drop at text) ∙ ap (λ l. take at text ++ l) (sym (take-append-drop n (drop at text))) in
    let lowered : str_to_ascii_lowercase text ≡ str_to_ascii_lowercase (take at text) ++ (pattern ++ str_to_ascii_lowercase rest) =
    ap str_to_ascii_lowercase parts ∙ map-append to_ascii_lowercase (take at text) (take n (drop at text) ++ rest)
    ∙ ap (λ l. str_to_ascii_lowercase (take at text) ++ l)
    (map-append to_ascii_lowercase (take n (drop at text)) rest ∙ ap (λ p. p ++ str_to_ascii_lowercase rest) same) in
    (contains-iff pattern (str_to_ascii_lowercase text)).1 (str_to_ascii_lowercase (take at text), str_to_ascii_lowercase rest, lowered)
