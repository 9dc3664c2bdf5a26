-- Where the lines of a stanza stand among the lines round it.
use Rattle.std.proofs.Common.{◌≡◌, ◌∙◌, ◌+◌, ◌-◌, ◌<◌, ◌≤◌, ◌++◌, ℕ, zero, suc, not, true, false, List, [], ◌∷◌, length, take, drop, sym, ap, ap₂, arith, ⊎_elim}
use Rattle.std.proofs.Math.ListN.{get_or-append}
use Rattle.std.proofs.Math.Seq.{take-append-add, take-append_seam, drop-append-add}
use Rattle.std.proofs.lemmas.Bool.{cases_lt}
use Rattle.std.proofs.lemmas.List.{get_or-append-add, length-append, length-take-le, take-append-le, take-append-drop}
use Rattle.std.proofs.lemmas.List.Sums.{suffix_len_is}
use Rattle.std.specs.List.{suffix_len}
use Rattle.ctl_stanza.specs.Lines.{is_blank}
use Rattle.ctl_stanza.specs.LineRuns.{line_at, IsStanzaAt}
use Rattle.ctl_stanza.specs.Laws.{lines_before}
use Rattle.ctl_stanza.proofs.PieceLemmas.{AreOther, StartsGap}

-- a blank line comes last, or none
abbrev pub EndsGap : List (List ℕ) → Type 0
EndsGap front = (i : ℕ) → i + 1 ≡ length front → is_blank (line_at front i) ≡ true

pub at-front : (front back : List (List ℕ)) (i : ℕ) → i < length front → line_at (front ++ back) i ≡ line_at front i
at-front front back i lt = get_or-append front back [] i lt

pub at-back : (front back : List (List ℕ)) (k : ℕ) → line_at (front ++ back) (length front + k) ≡ line_at back k
at-back front back k = get_or-append-add front back k []

pub at-mid : (front mid rest : List (List ℕ)) (k : ℕ) → k < length mid → line_at (front ++ (mid ++ rest)) (length front + k) ≡ line_at mid k
at-mid front mid rest k lt = at-back front (mid ++ rest) k ∙ at-front mid rest k lt

other-at : (ls : List (List ℕ)) → AreOther ls → (k : ℕ) → k < length ls → is_blank (line_at ls k) ≡ false
other-at [] others k lt = absurd (omega arith)
other-at (l ∷ ls) others zero lt = others.0
other-at (l ∷ ls) others (suc k) lt = other-at ls others.1 k (omega arith)

gap-at : (ls : List (List ℕ)) → StartsGap ls → 0 < length ls → is_blank (line_at ls 0) ≡ true
gap-at [] gap some = absurd (omega arith)
gap-at (l ∷ ls) gap some = gap

-- the lines before a line of a stanza, back to the last blank one
pub lines_before-mid : (front mid rest : List (List ℕ)) (k : ℕ) → EndsGap front → AreOther mid → k < length mid → lines_before (front ++ (mid ++ rest)) (length front + k) ≡ take k mid
lines_before-mid front mid rest k gap others lt =
    let xs = front ++ take k mid in
    let front_is : take (length front + k) (front ++ (mid ++ rest)) ≡ xs = take-append-add front (mid ++ rest) k ∙ ap (λ t. front ++ t) (take-append-le k mid rest (omega arith)) in
    let size : length xs ≡ length front + k = length-append front (take k mid) ∙ ap (λ n. length front + n) (length-take-le k mid (omega arith)) in
    let passes : (j : ℕ) → length front ≤ j → j < length xs → not (is_blank (line_at xs j)) ≡ true = λ j le less.
    let place : length front + (j - length front) ≡ j = omega arith in
    let inside : line_at xs j ≡ line_at mid (j - length front) =
    ap (line_at xs) (sym place) ∙ at-back front (take k mid) (j - length front)
    ∙ sym (at-front (take k mid) (drop k mid) (j - length front) (omega (arith, size, length-take-le k mid (omega arith)))) ∙ ap (λ t. line_at t (j - length front)) (take-append-drop k mid) in
    ap (λ t. not (is_blank t)) inside ∙ ap not (other-at mid others (j - length front) (omega (arith, size))) in
    let stops : 0 < length front → not (is_blank (line_at xs (length front - 1))) ≡ false = λ some.
    ap (λ t. not (is_blank t)) (at-front front (take k mid) (length front - 1) (omega arith)) ∙ ap not (gap (length front - 1) (omega arith)) in
    let suffix : suffix_len (λ x. not (is_blank x)) xs ≡ length xs - length front = suffix_len_is (λ x. not (is_blank x)) xs (length front) [] (omega (arith, size)) passes stops in
    let from : length xs - (length xs - length front) ≡ length front + 0 = omega (arith, size) in
    ap (λ t. drop (length t - suffix_len (λ x. not (is_blank x)) t) t) front_is
    ∙ ap (λ n. drop (length xs - n) xs) suffix ∙ ap (λ n. drop n xs) from ∙ drop-append-add front (take k mid) 0

-- a run of lines that aren't blank between blank ones is a stanza
pub stands-mid : (front mid rest : List (List ℕ)) → 0 < length mid → EndsGap front → AreOther mid → StartsGap rest → IsStanzaAt (front ++ (mid ++ rest)) (length front) mid
stands-mid front mid rest some gap others gap_after =
    let size : length (front ++ (mid ++ rest)) ≡ length front + (length mid + length rest) = omega (arith, length-append front (mid ++ rest), length-append mid rest) in
    let here : length front + 0 ≡ length front = omega arith in
    record {
      some = some;
      within = omega (arith, size);
      lines_are = ap (λ n. take (length mid) (drop n (front ++ (mid ++ rest)))) (sym here) ∙ ap (take (length mid)) (drop-append-add front (mid ++ rest) 0) ∙ take-append_seam mid rest;
      no_blank = λ i le lt.
          let place : length front + (i - length front) ≡ i = omega arith in
          ap (λ n. is_blank (line_at (front ++ (mid ++ rest)) n)) (sym place) ∙ ap is_blank (at-mid front mid rest (i - length front) (omega arith)) ∙ other-at mid others (i - length front) (omega arith);
      begins = λ i e. ap is_blank (at-front front (mid ++ rest) i (omega arith)) ∙ gap i e;
      ends = λ lt.
          let first : length mid + 0 ≡ length mid = omega arith in
          ap is_blank (at-back front (mid ++ rest) (length mid) ∙ ap (line_at (mid ++ rest)) (sym first) ∙ at-back mid rest 0) ∙ gap-at rest gap_after (omega (arith, size));
    }

-- one line stands in one stanza
pub unique : (all : List (List ℕ)) (a b : ℕ) (s t : List (List ℕ)) (i : ℕ) → IsStanzaAt all a s → IsStanzaAt all b t → a ≤ i → i < a + length s → b ≤ i → i < b + length t → (a ≡ b) × (s ≡ t)
unique all a b s t i is_s is_t a_le s_lt b_le t_lt =
    let not_before : a < b → ⊥ = λ less. let clash = sym (is_s.no_blank (b - 1) (omega arith) (omega arith)) ∙ is_t.begins (b - 1) (omega arith) in cc in
    let not_after : b < a → ⊥ = λ less. let clash = sym (is_t.no_blank (a - 1) (omega arith) (omega arith)) ∙ is_s.begins (a - 1) (omega arith) in cc in
    let start : a ≡ b = ⊎_elim (λ less. absurd (not_before less)) (λ le. ⊎_elim (λ less. absurd (not_after less)) (λ ge. omega arith) (cases_lt b a)) (cases_lt a b) in
    let not_shorter : a + length s < b + length t → ⊥ = λ less. let clash = sym (is_t.no_blank (a + length s) (omega arith) less) ∙ is_s.ends (omega (arith, is_t.within)) in cc in
    let not_longer : b + length t < a + length s → ⊥ = λ less. let clash = sym (is_s.no_blank (b + length t) (omega arith) less) ∙ is_t.ends (omega (arith, is_s.within)) in cc in
    let end : a + length s ≡ b + length t =
    ⊎_elim (λ less. absurd (not_shorter less)) (λ le. ⊎_elim (λ less. absurd (not_longer less)) (λ ge. omega arith) (cases_lt (b + length t) (a + length s))) (cases_lt (a + length s) (b + length t)) in
    let size : length s ≡ length t = omega arith in
    (start, sym is_s.lines_are ∙ ap₂ (λ n k. take n (drop k all)) size start ∙ is_t.lines_are)
