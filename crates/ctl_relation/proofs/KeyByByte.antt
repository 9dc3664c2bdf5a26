-- The numbers of a part byte by byte, as the code meets them, are those that its turns give.
use Rattle.std.proofs.Common.{◌≡◌, ℕ, zero, suc, ◌+◌, ◌*◌, ◌≤◌, Bool, true, false, cond, ℤ, pos, negsuc, List, [], ◌∷◌, ◌++◌, length, Some, None, Option, take, refl, sym, ap, ◌∙◌, arith, zero-add, length-append}
use Rattle.std.specs.Prelude.{map, not, ◌&&◌}
use Rattle.std.specs.List.{AllPass}
use Rattle.std.specs.Char.{is_ascii_digit, digit_value}
use Rattle.std.specs.Str.Parse.{digits_value, digits_value_after}
use Rattle.std.proofs.lemmas.List.Sums.{AllPass-from_list_all}
use Rattle.ctl_relation.specs.Runs.{run, rest, Stops}
use Rattle.ctl_relation.specs.Key.{weight, is_no_digit, numbers, strike, struck, key, key_cmp}
use Rattle.ctl_relation.specs.KeyTurns.{IsTurn}
use Rattle.ctl_relation.specs.Orders.Keys.{key_cmp-struck}
use Rattle.ctl_relation.proofs.LongestRuns.{run-rest, run-passes, run-more, rest-stops}

-- The numbers of a part, byte by byte. `None` is within a run of other bytes, and `Some n` behind digits of the value n.
abbrev pub places : Option ℕ → List ℕ → List ℤ
places None [] = []
places (Some n) [] = pos n ∷ []
places None (b ∷ text) = cond (is_ascii_digit b) (pos 0 ∷ places (Some (digit_value b)) text) (weight b ∷ places None text)
places (Some n) (b ∷ text) = cond (is_ascii_digit b) (places (Some (n * 10 + digit_value b)) text) (pos n ∷ weight b ∷ places None text)

-- ---- a test of each byte, from its front

pass_first : (p : ℕ → Bool) (b : ℕ) (text : List ℕ) → AllPass p (b ∷ text) → p b ≡ true
pass_first p b text h = h 0 b (omega arith)

pass_others : (p : ℕ → Bool) (b : ℕ) (text : List ℕ) → AllPass p (b ∷ text) → AllPass p text
pass_others p b text h = λ k d less. h (suc k) d (omega arith)

not_true : (b : Bool) → not b ≡ true → b ≡ false
not_true true h = absurd cc
not_true false h = refl

-- ---- zeros at the end

struck-strike : (x : ℤ) (xs : List ℤ) → struck xs ≡ xs → struck (strike x xs) ≡ strike x xs
struck-strike x (y ∷ xs) h = ap (strike x) h
struck-strike (pos zero) [] h = refl
struck-strike (pos (suc n)) [] h = refl
struck-strike (negsuc n) [] h = refl

struck-struck : (xs : List ℤ) → struck (struck xs) ≡ struck xs
struck-struck [] = refl
struck-struck (x ∷ xs) = struck-strike x (struck xs) (struck-struck xs)

struck-append : (xs ys : List ℤ) → struck (xs ++ struck ys) ≡ struck (xs ++ ys)
struck-append [] ys = struck-struck ys
struck-append (x ∷ xs) ys = ap (strike x) (struck-append xs ys)

-- ---- one turn

places-run : (run text : List ℕ) → AllPass (λ b. not (is_ascii_digit b)) run → places None (run ++ text) ≡ map weight run ++ places None text
places-run [] text h = refl
places-run (b ∷ run) text h =
    let other = not_true (is_ascii_digit b) (pass_first (λ b. not (is_ascii_digit b)) b run h) in
    ap (λ t. cond t (pos 0 ∷ places (Some (digit_value b)) (run ++ text)) (weight b ∷ places None (run ++ text))) other
    ∙ ap (λ (l : List ℤ). weight b ∷ l) (places-run run text (pass_others (λ b. not (is_ascii_digit b)) b run h))

places-digits : (n : ℕ) (digits rest : List ℕ) → AllPass is_ascii_digit digits → AllPass (λ b. not (is_ascii_digit b)) (take 1 rest)
    → places (Some n) (digits ++ rest) ≡ pos (digits_value_after 10 n digits) ∷ places None rest
places-digits n [] [] h k = refl
places-digits n [] (b ∷ rest) h k =
    let other = not_true (is_ascii_digit b) (pass_first (λ b. not (is_ascii_digit b)) b [] k) in
    ap (λ t. cond t (places (Some (n * 10 + digit_value b)) rest) (pos n ∷ weight b ∷ places None rest)) other
    ∙ sym (ap (λ t. pos n ∷ cond t (pos 0 ∷ places (Some (digit_value b)) rest) (weight b ∷ places None rest)) other)
places-digits n (b ∷ digits) rest h k =
    ap (λ t. cond t (places (Some (n * 10 + digit_value b)) (digits ++ rest)) (pos n ∷ weight b ∷ places None (digits ++ rest))) (pass_first is_ascii_digit b digits h)
    ∙ places-digits (n * 10 + digit_value b) digits rest (pass_others is_ascii_digit b digits h) k

-- the numbers of a turn, and zeros where it has no digits
places-turn : (digits rest : List ℕ) → AllPass is_ascii_digit digits → AllPass (λ b. not (is_ascii_digit b)) (take 1 rest) → (digits ≡ [] → rest ≡ [])
    → struck (places None (digits ++ rest)) ≡ struck (pos 0 ∷ pos (digits_value 10 digits) ∷ places None rest)
places-turn [] rest h k last = let P : List ℕ → List ℤ = λ l. places None l in ap (λ l. struck (P l)) (last refl) ∙ sym (ap (λ l. struck (pos 0 ∷ pos 0 ∷ P l)) (last refl))
places-turn (b ∷ digits) rest h k last =
    ap (λ t. struck (cond t (pos 0 ∷ places (Some (digit_value b)) (digits ++ rest)) (weight b ∷ places None (digits ++ rest)))) (pass_first is_ascii_digit b digits h)
    ∙ ap (λ (l : List ℤ). struck (pos 0 ∷ l)) (places-digits (digit_value b) digits rest (pass_others is_ascii_digit b digits h) k)
    ∙ ap (λ n. struck (pos 0 ∷ pos (digits_value_after 10 n digits) ∷ places None rest)) (sym (zero-add (digit_value b)))

-- the numbers of a turn, and then the others
turn_places : (others digits after : List ℕ) → IsTurn others digits after
    → struck (places None (others ++ (digits ++ after))) ≡ struck (map weight others ++ strike (pos 0) (strike (pos (digits_value 10 digits)) (struck (places None after))))
turn_places others digits after turn =
    let w : List ℤ = map weight others in
    ap struck (places-run others (digits ++ after) turn.others)
    ∙ sym (struck-append w (places None (digits ++ after)))
    ∙ ap (λ (l : List ℤ). struck (w ++ l)) (places-turn digits after turn.numerals turn.longest turn.last)

-- ---- the longest runs at the front are a turn

stops_front : (text : List ℕ) → Stops is_ascii_digit text → AllPass is_no_digit (take 1 text)
stops_front [] s = λ k d less. absurd (omega arith)
stops_front (b ∷ text) s = AllPass-from_list_all is_no_digit (b ∷ []) (ap (λ t. not t && true) s)

-- where no digit stands behind the other bytes, the part is used up
used_up : (behind : List ℕ) → Stops is_no_digit behind → run is_ascii_digit behind ≡ [] → rest is_ascii_digit behind ≡ []
used_up [] s e = refl
used_up (b ∷ behind) s e = absurd (by (is_ascii_digit b) refl)
  where
    by : (t : Bool) → is_ascii_digit b ≡ t → ⊥
    by true h = let k : b ∷ run is_ascii_digit behind ≡ [] = sym (run-more is_ascii_digit b behind h) ∙ e in cc
    by false h = let k : is_no_digit b ≡ true = ap not h in let c : true ≡ false = sym k ∙ s in cc

front_turn : (part : List ℕ) → IsTurn (run is_no_digit part) (run is_ascii_digit (rest is_no_digit part)) (rest is_ascii_digit (rest is_no_digit part))
front_turn part =
    let behind = rest is_no_digit part in
    record {
      others = AllPass-from_list_all is_no_digit (run is_no_digit part) (run-passes is_no_digit part);
      numerals = AllPass-from_list_all is_ascii_digit (run is_ascii_digit behind) (run-passes is_ascii_digit behind);
      longest = stops_front (rest is_ascii_digit behind) (rest-stops is_ascii_digit behind);
      last = used_up behind (rest-stops is_no_digit part);
    }

whole_turn : (part : List ℕ) → part ≡ run is_no_digit part ++ (run is_ascii_digit (rest is_no_digit part) ++ rest is_ascii_digit (rest is_no_digit part))
whole_turn part = run-rest is_no_digit part ∙ ap (λ (l : List ℕ). run is_no_digit part ++ l) (run-rest is_ascii_digit (rest is_no_digit part))

-- a turn takes a byte where one is left
shorter_turn : (n : ℕ) (part others digits after : List ℕ) → part ≡ others ++ (digits ++ after) → (digits ≡ [] → after ≡ []) → length part ≤ suc n → length after ≤ n
shorter_turn n part others [] after e last h = let k : length after ≡ 0 = ap length (last refl) in omega (arith, k)
shorter_turn n part others (d ∷ digits) after e last h =
    omega (arith, h, ap length e, length-append others (d ∷ digits ++ after), length-append digits after)

-- ---- the numbers by turns

numbers-places : (n : ℕ) (part : List ℕ) → length part ≤ n → struck (numbers n part) ≡ struck (places None part)
numbers-places zero [] h = refl
numbers-places zero (b ∷ part) h = absurd (omega (arith, h))
numbers-places (suc n) part h =
    let behind = rest is_no_digit part in
    let w : List ℤ = map weight (run is_no_digit part) in
    let v = digits_value 10 (run is_ascii_digit behind) in
    let after = rest is_ascii_digit behind in
    let turn = front_turn part in
    let less = shorter_turn n part (run is_no_digit part) (run is_ascii_digit behind) after (whole_turn part) turn.last h in
    sym (struck-append w (pos 0 ∷ pos v ∷ numbers n after))
    ∙ ap (λ (l : List ℤ). struck (w ++ strike (pos 0) (strike (pos v) l))) (numbers-places n after less)
    ∙ sym (turn_places (run is_no_digit part) (run is_ascii_digit behind) after turn)
    ∙ ap (λ (l : List ℕ). struck (places None l)) (sym (whole_turn part))

pub key-places : (part : List ℕ) → key part ≡ struck (places None part)
key-places part = numbers-places (length part) part (omega arith)

pub turn-key : (others digits after : List ℕ) → IsTurn others digits after → key (others ++ (digits ++ after)) ≡ struck (map weight others ++ (pos 0 ∷ pos (digits_value 10 digits) ∷ key after))
turn-key others digits after turn =
    let w : List ℤ = map weight others in
    let v = digits_value 10 digits in
    key-places (others ++ (digits ++ after))
    ∙ turn_places others digits after turn
    ∙ ap (λ (l : List ℤ). struck (w ++ strike (pos 0) (strike (pos v) l))) (sym (struck-struck (places None after)))
    ∙ struck-append w (pos 0 ∷ pos v ∷ struck (places None after))
    ∙ ap (λ (l : List ℤ). struck (w ++ (pos 0 ∷ pos v ∷ l))) (sym (key-places after))

-- Parts compare as their numbers byte by byte do.
pub key_cmp-places : (a b : List ℕ) → key_cmp (key a) (key b) ≡ key_cmp (places None a) (places None b)
key_cmp-places a b =
    ap (λ (l : List ℤ). key_cmp l (key b)) (key-places a) ∙ ap (key_cmp (struck (places None a))) (key-places b)
    ∙ key_cmp-struck (places None a) (places None b)
