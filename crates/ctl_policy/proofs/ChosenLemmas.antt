-- Rows that are considered from the newest to the oldest give the best of them.
use Rattle.std.proofs.Common.{◌≡◌, ◌≤ℤ◌, ℕ, ℤ, Bool, true, false, cond, ◌&&◌, List, [], ◌∷◌, ◌++◌, map, reverse, Option, None, Some, IfSome, Vec, Global, refl, ap, sym, ◌∙◌, arith}
use Rattle.std.specs.Prelude.{int_lt}
use Rattle.std.specs.List.{AllByRecursion}
use Rattle.std.proofs.lemmas.Int.{ints}
use Rattle.std.proofs.lemmas.List.{map-append, reverse-append}
use Rattle.ctl_relation.specs.Version.{Triple}
use Rattle.ctl_store.specs.declared.stanza_key.StanzaKey.{StanzaKey}
use Rattle.ctl_policy.specs.Rows.{Row, lead_of}
use Rattle.ctl_policy.specs.Candidate.{Choice, best_of, better, may_be_taken}
use Rattle.ctl_policy.specs.Inside.HeldRows.{shown_row}
use Rattle.ctl_policy.specs.Inside.HeldWalk.{carried, considered_row, may_win, wins}

-- the better of what newer rows have, and of what older ones have
abbrev joined : Choice → Choice → Choice
joined None older = older
joined (Some newer) older = better newer older

joined_none : (newer : Choice) → joined newer None ≡ newer
joined_none None = refl
joined_none (Some newer) = refl

less_than : (a b c : ℤ) → int_lt a b ≡ true → int_lt b c ≡ true → int_lt a c ≡ true
less_than a b c h k = grind (arith, ints)

not_less : (a b c : ℤ) → int_lt a b ≡ false → int_lt b c ≡ false → int_lt a c ≡ false
not_less a b c h k = grind (arith, ints)

abbrev either : Bool → ℤ × Option StanzaKey → ℤ × Option StanzaKey → Choice
either older one other = cond older (Some one) (Some other)

-- where a row has a greater priority than a newer one, that one can't win, and else the row can't
row_wins : (newer row : ℤ × Option StanzaKey) (older : Choice) → int_lt newer.0 row.0 ≡ true → better row older ≡ better newer (better row older)
row_wins newer row None h = ap (λ b. either b row newer) (sym h)
row_wins newer row (Some older) h = by (int_lt row.0 older.0) refl
  where
    by : (b : Bool) → int_lt row.0 older.0 ≡ b → either b older row ≡ better newer (either b older row)
    by true k = ap (λ b. either b older newer) (sym (less_than newer.0 row.0 older.0 h k))
    by false k = ap (λ b. either b row newer) (sym h)

row_loses : (newer row : ℤ × Option StanzaKey) (older : Choice) → int_lt newer.0 row.0 ≡ false → better newer older ≡ better newer (better row older)
row_loses newer row None h = ap (λ b. either b row newer) (sym h)
row_loses newer row (Some older) h = by (int_lt row.0 older.0) refl
  where
    by : (b : Bool) → int_lt row.0 older.0 ≡ b → better newer (Some older) ≡ better newer (either b older row)
    by true k = refl
    by false k = ap (λ b. either b older newer) (not_less newer.0 row.0 older.0 h k) ∙ ap (λ b. either b row newer) (sym h)

-- where a row of a priority doesn't win, none of at most that priority does
no_win : (newer : Choice) (p bound : ℤ) → p ≤ℤ bound → wins bound newer ≡ false → wins p newer ≡ false
no_win None p bound le e = e
no_win (Some newer) p bound le e = grind (arith, ints)

pub all_before : {X : Type 0} (P : X → Type 0) (xs ys : List X) → AllByRecursion P (xs ++ ys) → AllByRecursion P xs
all_before P [] ys h = tt
all_before P (x ∷ xs) ys h = (h.0, all_before P xs ys h.1)

module _ (priority : List StanzaKey → ℤ) (installed : Option Triple) where
  step : (newer : Choice) (row : Row) (older : Choice) → joined (considered_row priority installed newer row) older
      ≡ joined newer (cond (may_be_taken (priority row.1) row.0 installed) (better (priority row.1, lead_of row.1) older) older)
  step None row older = by (may_be_taken (priority row.1) row.0 installed)
    where
      by : (may : Bool) → joined (cond may (Some (priority row.1, lead_of row.1)) None) older ≡ cond may (better (priority row.1, lead_of row.1) older) older
      by true = refl
      by false = refl
  step (Some newer) row older = by (may_be_taken (priority row.1) row.0 installed) (int_lt newer.0 (priority row.1)) refl
    where
      this : ℤ × Option StanzaKey
      this = (priority row.1, lead_of row.1)

      by : (may more : Bool) → int_lt newer.0 (priority row.1) ≡ more → joined (cond (more && may) (Some this) (Some newer)) older ≡ better newer (cond may (better this older) older)
      by true true h = row_wins newer this older h
      by true false h = row_loses newer this older h
      by false true h = refl
      by false false h = refl

  carried_is : (newer : Choice) (rows : List Row) → carried priority installed newer rows ≡ joined newer (best_of priority installed rows)
  carried_is newer [] = sym (joined_none newer)
  carried_is newer (row ∷ rows) = carried_is (considered_row priority installed newer row) rows ∙ step newer row (best_of priority installed rows)

  pub best_carried : (rows : List Row) → carried priority installed None rows ≡ best_of priority installed rows
  best_carried rows = carried_is None rows

  -- the last entry of a map is the newest row that is left, and the others are considered after it
  pub considered_last : (newer choice : Choice) (all es : List (List ℕ × Vec StanzaKey Global)) (e : List ℕ × Vec StanzaKey Global) → choice ≡ considered_row priority installed newer (shown_row e) → all ≡ es ++ e ∷ []
      → carried priority installed choice (reverse (map shown_row es)) ≡ carried priority installed newer (reverse (map shown_row all))
  considered_last newer choice all es e is steps =
      ap (λ c. carried priority installed c (reverse (map shown_row es))) is
      ∙ sym (ap (carried priority installed newer) (ap (λ l. reverse (map shown_row l)) steps ∙ ap reverse (map-append shown_row es (e ∷ [])) ∙ reverse-append (map shown_row es) (shown_row e ∷ [])))

  -- where no older row may win, the rest of the walk changes nothing
  pub settled : (bound : Option ℤ) (newer : Choice) (rows : List Row) → IfSome bound (λ b. (keys : List StanzaKey) → priority keys ≤ℤ b) → may_win bound newer ≡ false → carried priority installed newer rows ≡ newer
  settled None newer rows h e = cc
  settled (Some bound) newer [] h e = refl
  settled (Some bound) newer (row ∷ rows) h e =
      ap (λ c. carried priority installed c rows)
      (ap (λ b. cond (b && may_be_taken (priority row.1) row.0 installed) (Some (priority row.1, lead_of row.1)) newer) (no_win newer (priority row.1) bound (h row.1) e))
      ∙ settled (Some bound) newer rows h e
