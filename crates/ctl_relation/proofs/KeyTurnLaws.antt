-- The key of a part goes by turns, and a tilde comes first.
use Rattle.std.proofs.Common.{◌≡◌, ℕ, ◌+◌, ◌*◌, Bool, true, false, cond, ℤ, pos, negsuc, List, [], ◌∷◌, ◌++◌, Some, None, Option, ap, ◌∙◌, refl}
use Rattle.std.specs.Char.{is_ascii_digit, digit_value}
use Rattle.std.specs.Ordering.{ordering_then}
use Rattle.std.specs.Cmp.{int_cmp_total}
use Rattle.std.specs.declared.cmp.Ordering.TheVariants.{Less}
use Rattle.std.proofs.lemmas.Cmp.{tied_itself}
use Rattle.ctl_relation.specs.Bytes.{tilde}
use Rattle.ctl_relation.specs.Key.{weight, key_cmp}
use Rattle.ctl_relation.specs.KeyTurns.{KeysGoByTurns, TildeComesFirst}
use Rattle.ctl_relation.proofs.KeyByByte.{places, turn-key, key_cmp-places}

pub keys_go_by_turns : KeysGoByTurns
keys_go_by_turns = turn-key

-- ---- a tilde

same_front : (x : ℤ) (xs ys : List ℤ) → key_cmp (x ∷ xs) (x ∷ ys) ≡ key_cmp xs ys
same_front x xs ys = ap (λ o. ordering_then o (key_cmp xs ys)) (tied_itself int_cmp_total x)

tilde-places : (from : Option ℕ) (part more : List ℕ) → key_cmp (places from (part ++ tilde ∷ more)) (places from part) ≡ Less
tilde-places None [] more = refl
tilde-places (Some n) [] more = same_front (pos n) (negsuc 0 ∷ places None more) []
tilde-places None (b ∷ part) more =
    let P : Bool → Type 0 = λ t. key_cmp (cond t (pos 0 ∷ places (Some (digit_value b)) (part ++ tilde ∷ more)) (weight b ∷ places None (part ++ tilde ∷ more))) (cond t (pos 0 ∷ places (Some (digit_value b)) part) (weight b ∷ places None part)) ≡ Less in
    elim (is_ascii_digit b) as P [
      | true ↦ same_front (pos 0) (places (Some (digit_value b)) (part ++ tilde ∷ more)) (places (Some (digit_value b)) part) ∙ tilde-places (Some (digit_value b)) part more
      | false ↦ same_front (weight b) (places None (part ++ tilde ∷ more)) (places None part) ∙ tilde-places None part more
    ]
tilde-places (Some n) (b ∷ part) more =
    let P : Bool → Type 0 = λ t. key_cmp (cond t (places (Some (n * 10 + digit_value b)) (part ++ tilde ∷ more)) (pos n ∷ weight b ∷ places None (part ++ tilde ∷ more))) (cond t (places (Some (n * 10 + digit_value b)) part) (pos n ∷ weight b ∷ places None part)) ≡ Less in
    elim (is_ascii_digit b) as P [
      | true ↦ tilde-places (Some (n * 10 + digit_value b)) part more
      | false ↦ same_front (pos n) (weight b ∷ places None (part ++ tilde ∷ more)) (weight b ∷ places None part)
          ∙ same_front (weight b) (places None (part ++ tilde ∷ more)) (places None part) ∙ tilde-places None part more
    ]

pub tilde_comes_first : TildeComesFirst
tilde_comes_first part more = key_cmp-places (part ++ tilde ∷ more) part ∙ tilde-places None part more
