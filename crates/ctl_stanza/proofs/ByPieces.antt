-- What holds of no line, and goes on over a blank line and over a run of other lines, holds of all lines and their pieces.
use Rattle.std.proofs.Common.{◌≡◌, ◌+◌, ◌≤◌, ◌++◌, ℕ, zero, suc, true, false, List, [], ◌∷◌, length, refl, sym, ap, subst, arith, ⊎_elim}
use Rattle.std.proofs.lemmas.Bool.{cases_Bool, cond-true}
use Rattle.std.proofs.lemmas.List.{length-append}
use Rattle.ctl_stanza.specs.Lines.{is_blank}
use Rattle.ctl_stanza.specs.Text.{Piece, piece, pieces_of}
use Rattle.ctl_stanza.proofs.PieceLemmas.{AreOther, StartsGap, run-whole}

-- lines up to a blank one, and the others
pub record Splits (ls : List (List ℕ)) : Type 0 where
  pub run : List (List ℕ)
  pub rest : List (List ℕ)
  pub whole : ls ≡ run ++ rest
  pub others : AreOther run
  pub gap : StartsGap rest

split : (ls : List (List ℕ)) → Splits ls
split [] = record { run = []; rest = []; whole = refl; others = tt; gap = tt }
split (l ∷ ls) = ⊎_elim
    (λ (blank : is_blank l ≡ true). let none : Splits (l ∷ ls) = record { run = []; rest = l ∷ ls; whole = refl; others = tt; gap = blank } in none)
    (λ (other : is_blank l ≡ false).
    let more = split ls in
    let one_more : Splits (l ∷ ls) = record { run = l ∷ more.run; rest = more.rest; whole = ap (λ t. l ∷ t) more.whole; others = (other, more.others); gap = more.gap } in one_more)
    (cases_Bool (is_blank l))

module _ (P : ℕ → List (List ℕ) → List Piece → Type 0) (nil : (n : ℕ) → P n [] [])
    (gap : (n : ℕ) (l : List ℕ) (ls : List (List ℕ)) (ps : List Piece) → is_blank l ≡ true → P (suc n) ls ps → P n (l ∷ ls) (piece n (l ∷ []) ∷ ps))
    (run : (n : ℕ) (l : List ℕ) (ls rest : List (List ℕ)) (ps : List Piece) → AreOther (l ∷ ls) → StartsGap rest → P (n + length (l ∷ ls)) rest ps
    → P n (l ∷ (ls ++ rest)) (piece n (l ∷ ls) ∷ ps)) where
  by_fuel : (fuel n : ℕ) (ls : List (List ℕ)) → length ls ≤ fuel → P n ls (pieces_of n ls)
  by_fuel zero n [] le = nil n
  by_fuel zero n (l ∷ ls) le = absurd (omega arith)
  by_fuel (suc fuel) n [] le = nil n
  by_fuel (suc fuel) n (l ∷ ls) le = ⊎_elim
      (λ (blank : is_blank l ≡ true).
      subst (λ ps. P n (l ∷ ls) ps) (sym (cond-true _ _ _ blank)) (gap n l ls (pieces_of (suc n) ls) blank (by_fuel fuel (suc n) ls (omega arith))))
      (λ (other : is_blank l ≡ false).
      let s = split ls in
      let short : length s.rest ≤ fuel = omega (arith, ap length s.whole, length-append s.run s.rest) in
      let here : P n (l ∷ (s.run ++ s.rest)) (piece n (l ∷ s.run) ∷ pieces_of (n + length (l ∷ s.run)) s.rest) =
      run n l s.run s.rest (pieces_of (n + length (l ∷ s.run)) s.rest) (other, s.others) s.gap (by_fuel fuel (n + length (l ∷ s.run)) s.rest short) in
      let pieces_are = run-whole n l s.run s.rest (other, s.others) s.gap in
      let goal_here : P n (l ∷ (s.run ++ s.rest)) (pieces_of n (l ∷ (s.run ++ s.rest))) = subst (λ ps. P n (l ∷ (s.run ++ s.rest)) ps) (sym pieces_are) here in
      subst (λ t. P n (l ∷ t) (pieces_of n (l ∷ t))) (sym s.whole) goal_here)
      (cases_Bool (is_blank l))

  pub by_pieces : (n : ℕ) (ls : List (List ℕ)) → P n ls (pieces_of n ls)
  by_pieces n ls = by_fuel (length ls) n ls (omega arith)
