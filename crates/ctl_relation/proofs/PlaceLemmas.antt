-- Places that rise, and the groups that are held at them.
use Rattle.std.proofs.Common.{◌≡◌, ◌∙◌, ◌⊎◌, ◌+◌, ◌<◌, ◌≤◌, ◌^◌, ℕ, zero, suc, true, false, cond, nat_lt, List, [], ◌∷◌, ◌++◌, length, length-drop, take, drop, get_or, slice_get, Option, None, Some, MatchOption, inl, inr, refl, sym, ap, ap₂, subst, arith, ⊎_elim, drop-drop, take_all, ltb-true, ltb-false, lt-ltb, le-ltb}
use lib.Seq.{take-append-le, drop-append-le}
use Rattle.std.proofs.lemmas.Bool.{cases_Bool, cond-true, cond-false}
use Rattle.std.proofs.lemmas.List.Elements.{All-tail, All-drop}
use Rattle.std.specs.List.Sorted.{IsNonDecreasing}
use Rattle.std.proofs.Math.Seq.{drop-append_seam}
use Rattle.ctl_relation.specs.declared.field_kind.FieldKind.{FieldKind}
use Rattle.std.specs.List.{flat_map}
use Rattle.ctl_relation.specs.Printed.{alternative_text}
use Rattle.ctl_relation.specs.Inside.HeldPlaces.{HasAtom, HaveAtoms, AreHeld, atom_held, atoms_held, behind_earlier, count_below, count_before, groups_held, places_left, Rise}

-- ---- places that rise

pub rise-bounds : (low high : ℕ) (xs : List ℕ) → Rise low high xs → low ≤ high
rise-bounds low high [] h = h
rise-bounds low high (x ∷ xs) h = omega (arith, h.0, rise-bounds (suc x) high xs h.1)

pub rise-low : (low lower high : ℕ) (xs : List ℕ) → lower ≤ low → Rise low high xs → Rise lower high xs
rise-low low lower high [] le h = omega (arith, le, h)
rise-low low lower high (x ∷ xs) le h = (omega (arith, le, h.0), h.1)

pub rise-high : (low high higher : ℕ) (xs : List ℕ) → high ≤ higher → Rise low high xs → Rise low higher xs
rise-high low high higher [] le h = omega (arith, le, h)
rise-high low high higher (x ∷ xs) le h = (h.0, rise-high (suc x) high higher xs le h.1)

pub rise-append : (low middle high : ℕ) (xs ys : List ℕ) → Rise low middle xs → Rise middle high ys → Rise low high (xs ++ ys)
rise-append low middle high [] ys h k = rise-low middle low high ys h k
rise-append low middle high (x ∷ xs) ys h k = (h.0, rise-append (suc x) middle high xs ys h.1 k)

pub rise-drop : (n low high : ℕ) (xs : List ℕ) → Rise low high xs → Rise low high (drop n xs)
rise-drop zero low high xs h = h
rise-drop (suc n) low high [] h = h
rise-drop (suc n) low high (x ∷ xs) h = rise-drop n low high xs (rise-low (suc x) low high xs (omega (arith, h.0)) h.1)

pub rise-length : (low high : ℕ) (xs : List ℕ) → Rise low high xs → low + length xs ≤ high
rise-length low high [] h = omega (arith, h)
rise-length low high (x ∷ xs) h = omega (arith, h.0, rise-length (suc x) high xs h.1)

rise-above : (low high : ℕ) (xs : List ℕ) (i d : ℕ) → i < length xs → Rise low high xs → low ≤ get_or xs i d
rise-above low high [] i d lt h = absurd (omega arith)
rise-above low high (x ∷ xs) zero d lt h = h.0
rise-above low high (x ∷ xs) (suc i) d lt h = omega (arith, h.0, rise-above (suc x) high xs i d (omega (arith, lt)) h.1)

rise-ordered : (low high : ℕ) (xs : List ℕ) → Rise low high xs → (i j d : ℕ) → i ≤ j → j < length xs → get_or xs i d ≤ get_or xs j d
rise-ordered low high [] h i j d le lt = absurd (omega arith)
rise-ordered low high (x ∷ xs) h zero zero d le lt = omega arith
rise-ordered low high (x ∷ xs) h zero (suc j) d le lt = omega (arith, rise-above (suc x) high xs j d (omega (arith, lt)) h.1)
rise-ordered low high (x ∷ xs) h (suc i) zero d le lt = absurd (omega arith)
rise-ordered low high (x ∷ xs) h (suc i) (suc j) d le lt = rise-ordered (suc x) high xs h.1 i j d (omega (arith, le)) (omega (arith, lt))

pub rise-sorted : (low high : ℕ) (xs : List ℕ) → Rise low high xs → IsNonDecreasing xs
rise-sorted low high xs h = rise-ordered low high xs h

-- ---- how many come before a bound

below-step : (bound x : ℕ) (xs : List ℕ) → x < bound → count_below bound (x ∷ xs) ≡ 1 + count_below bound xs
below-step bound x xs lt = cond-true (nat_lt x bound) (1 + count_below bound xs) 0 (lt-ltb x bound lt)

below-stop : (bound x : ℕ) (xs : List ℕ) → bound ≤ x → count_below bound (x ∷ xs) ≡ 0
below-stop bound x xs le = cond-false (nat_lt x bound) (1 + count_below bound xs) 0 (le-ltb x bound le)

by-bound : (x bound : ℕ) → (x < bound) ⊎ (bound ≤ x)
by-bound x bound = ⊎_elim
    (λ (t : nat_lt x bound ≡ true). inl (ltb-true x bound t))
    (λ (f : nat_lt x bound ≡ false). inr (ltb-false x bound f))
    (cases_Bool (nat_lt x bound))

pub below-le : (bound : ℕ) (xs : List ℕ) → count_below bound xs ≤ length xs
below-le bound [] = omega arith
below-le bound (x ∷ xs) = ⊎_elim
    (λ (lt : x < bound). omega (arith, below-step bound x xs lt, below-le bound xs))
    (λ (le : bound ≤ x). omega (arith, below-stop bound x xs le))
    (by-bound x bound)

-- what comes before a greater bound is what comes before the lesser one, and more
below-more : (lesser greater : ℕ) (xs : List ℕ) → lesser ≤ greater
    → count_below greater xs ≡ count_below lesser xs + count_below greater (drop (count_below lesser xs) xs)
below-more lesser greater [] le = refl
below-more lesser greater (x ∷ xs) le = ⊎_elim
    (λ (lt : x < lesser).
    let one : count_below lesser (x ∷ xs) ≡ suc (count_below lesser xs) = omega (arith, below-step lesser x xs lt) in
    let tail : count_below greater (drop (count_below lesser (x ∷ xs)) (x ∷ xs)) ≡ count_below greater (drop (count_below lesser xs) xs) = ap (λ n. count_below greater (drop n (x ∷ xs))) one in
    omega (arith, one, tail, below-step greater x xs (omega (arith, lt, le)), below-more lesser greater xs le))
    (λ (above : lesser ≤ x).
    let none : count_below lesser (x ∷ xs) ≡ 0 = below-stop lesser x xs above in
    let all : count_below greater (drop (count_below lesser (x ∷ xs)) (x ∷ xs)) ≡ count_below greater (x ∷ xs) = ap (λ n. count_below greater (drop n (x ∷ xs))) none in
    omega (arith, none, all))
    (by-bound x lesser)

-- none of those behind comes before the bound
below-append : (bound high : ℕ) (xs ys : List ℕ) → Rise bound high ys → count_below bound (xs ++ ys) ≡ count_below bound xs
below-append bound high [] [] h = refl
below-append bound high [] (y ∷ ys) h = below-stop bound y ys h.0
below-append bound high (x ∷ xs) ys h = ap (λ n. cond (nat_lt x bound) (1 + n) 0) (below-append bound high xs ys h)

below-all : (low bound : ℕ) (xs : List ℕ) → Rise low bound xs → count_below bound xs ≡ length xs
below-all low bound [] h = refl
below-all low bound (x ∷ xs) h = omega (arith, below-step bound x xs (omega (arith, rise-bounds (suc x) bound xs h.1)), below-all (suc x) bound xs h.1)

-- ---- the groups that are held

from-drop : {A : Type 0} (i : ℕ) (xs ys : List A) → drop i xs ≡ ys → slice_get xs i ≡ slice_get ys 0
from-drop zero xs ys e = ap (λ t. slice_get t 0) e
from-drop (suc i) [] ys e = ap (λ t. slice_get t 0) e
from-drop (suc i) (x ∷ xs) ys e = from-drop i xs ys e

-- what comes first of the rest from an index on is what stands there
pub first-from : {A : Type 0} (i : ℕ) (xs rest : List A) (r : Option A) → MatchOption r ((drop i xs ≡ []) × (rest ≡ [])) (λ x. drop i xs ≡ x ∷ rest) → r ≡ slice_get xs i
first-from i xs rest None h = sym (from-drop i xs [] h.0)
first-from i xs rest (Some x) h = sym (from-drop i xs (x ∷ rest) h)

module _ (kind : FieldKind) (body : List ℕ) where
  pub others-text : (places : List ℕ) → flat_map (λ (place : ℕ). alternative_text (atom_held kind body place)) places ≡ flat_map alternative_text (atoms_held kind body places)
  others-text [] = refl
  others-text (place ∷ places) = ap (λ t. alternative_text (atom_held kind body place) ++ t) (others-text places)

  pub held-length : (starts further : List ℕ) → length (groups_held kind body starts further) ≡ length starts
  held-length [] further = refl
  held-length (start ∷ starts) further = ap suc (held-length starts (drop (count_before starts further) further))

  -- what is left behind the next group is what is left behind a later one
  earlier-again : (next high : ℕ) (later further : List ℕ) → 0 < length later → Rise (suc next) high later
      → behind_earlier later (drop (count_below next further) further) ≡ behind_earlier later further
  earlier-again next high [] further some h = absurd (omega (arith, some))
  earlier-again next high (bound ∷ later) further some h =
      let n : ℕ = count_below next further in
      drop-drop (count_below bound (drop n further)) n further ∙ ap (λ k. drop k further) (sym (below-more next bound further (omega (arith, h.0))))

  held-drop : (i low high start : ℕ) (starts further : List ℕ) → i < length starts → Rise low high starts
      → groups_held kind body (drop i starts) (behind_earlier (drop i starts) further) ≡ drop (suc i) (groups_held kind body (start ∷ starts) further)
  held-drop i low high start [] further lt h = absurd (omega (arith, lt))
  held-drop zero low high start (next ∷ starts) further lt h = refl
  held-drop (suc i) low high start (next ∷ starts) further lt h =
      let n : ℕ = count_below next further in
      ap (λ t. groups_held kind body (drop i starts) t) (sym (earlier-again next high (drop i starts) further (omega (arith, lt, length-drop i starts)) (rise-drop i (suc next) high starts h.1)))
      ∙ held-drop i (suc next) high next starts (drop n further) (omega (arith, lt)) h.1

  -- the groups from one on
  pub held-from : (i high : ℕ) (starts further : List ℕ) → (i ≡ 0 → ⊥) → i < length starts → Rise 0 high starts
      → groups_held kind body (drop i starts) (behind_earlier (drop i starts) further) ≡ drop i (groups_held kind body starts further)
  held-from zero high starts further some lt h = absurd (some refl)
  held-from (suc i) high [] further some lt h = absurd (omega (arith, lt))
  held-from (suc i) high (start ∷ starts) further some lt h = held-drop i (suc start) high start starts further (omega (arith, lt)) h.1

  pub are-held-from : (i : ℕ) (starts further : List ℕ) → AreHeld kind body starts further → AreHeld kind body (drop i starts) (behind_earlier (drop i starts) further)
  are-held-from i starts further h = earlier (drop i starts) (All-drop (HasAtom kind body) i starts h.first_atoms) (rise-drop i 0 (2 ^ 32) starts h.starts_rise)
    where
      earlier : (later : List ℕ) → HaveAtoms kind body later → Rise 0 (2 ^ 32) later → AreHeld kind body later (behind_earlier later further)
      earlier [] atoms rise = record { first_atoms = atoms; further_atoms = h.further_atoms; starts_rise = rise; further_rise = h.further_rise }
      earlier (bound ∷ later) atoms rise = record {
        first_atoms = atoms;
        further_atoms = All-drop (HasAtom kind body) (count_below bound further) further h.further_atoms;
        starts_rise = rise;
        further_rise = rise-drop (count_below bound further) 0 (2 ^ 32) further h.further_rise;
      }

  -- the groups behind the first one
  pub are-held-behind : (start n : ℕ) (starts all further others : List ℕ) → all ≡ start ∷ starts → others ≡ drop n further → AreHeld kind body all further → AreHeld kind body starts others
  are-held-behind start n starts all further others e o h =
      let rise = subst (Rise 0 (2 ^ 32)) e h.starts_rise in
      record {
        first_atoms = All-tail (HasAtom kind body) start starts (subst (HaveAtoms kind body) e h.first_atoms);
        further_atoms = subst (HaveAtoms kind body) (sym o) (All-drop (HasAtom kind body) n further h.further_atoms);
        starts_rise = rise-low (suc start) 0 (2 ^ 32) starts (omega arith) rise.1;
        further_rise = subst (Rise 0 (2 ^ 32)) (sym o) (rise-drop n 0 (2 ^ 32) further h.further_rise);
      }

  -- the atoms behind the first one
  pub atoms-left : (first : Option ℕ) (place : ℕ) (further : List ℕ) → first ≡ Some place → HaveAtoms kind body (places_left first further) → HaveAtoms kind body further
  atoms-left None place further e h = absurd cc
  atoms-left (Some p) place further e h = All-tail (HasAtom kind body) p further h

  pub atoms-left-further : (first : Option ℕ) (place : ℕ) (all further : List ℕ) → first ≡ None → all ≡ place ∷ further → HaveAtoms kind body (places_left first all) → HaveAtoms kind body (places_left first further)
  atoms-left-further None place all further e is h = All-tail (HasAtom kind body) place further (subst (HaveAtoms kind body) is h)
  atoms-left-further (Some p) place all further e is h = absurd cc

  -- a group more, whose places lie behind those of the others
  held-more : (low less high start place : ℕ) (starts further more : List ℕ) → Rise low place starts → Rise less place further → Rise (suc place) high more
      → groups_held kind body ((start ∷ starts) ++ place ∷ []) (further ++ more) ≡ groups_held kind body (start ∷ starts) further ++ atoms_held kind body (place ∷ more) ∷ []
  held-more low less high start place [] further more h f m =
      let count : count_below place (further ++ more) ≡ length further = below-append place high further more (rise-low (suc place) place high more (omega arith) m) ∙ below-all less place further f in
      let front : take (count_below place (further ++ more)) (further ++ more) ≡ take (length further) further = ap (λ n. take n (further ++ more)) count ∙ take-append-le (length further) further more (omega arith) in
      let behind : drop (count_below place (further ++ more)) (further ++ more) ≡ more = ap (λ n. drop n (further ++ more)) count ∙ drop-append_seam further more in
      ap₂ (λ a b. atoms_held kind body (start ∷ a) ∷ atoms_held kind body (place ∷ take (length b) b) ∷ []) front behind
      ∙ ap (λ b. atoms_held kind body (start ∷ take (length further) further) ∷ atoms_held kind body (place ∷ b) ∷ []) (take_all (length more) more (omega arith))
  held-more low less high start place (next ∷ starts) further more h f m =
      let n : ℕ = count_below next further in
      let count : count_below next (further ++ more) ≡ n = below-append next high further more (rise-low (suc place) next high more (omega (arith, rise-bounds (suc next) place starts h.1)) m) in
      let front : take (count_below next (further ++ more)) (further ++ more) ≡ take n further = ap (λ k. take k (further ++ more)) count ∙ take-append-le n further more (below-le next further) in
      let behind : drop (count_below next (further ++ more)) (further ++ more) ≡ drop n further ++ more = ap (λ k. drop k (further ++ more)) count ∙ drop-append-le n further more (below-le next further) in
      ap₂ (λ a b. atoms_held kind body (start ∷ a) ∷ groups_held kind body ((next ∷ starts) ++ place ∷ []) b) front behind
      ∙ ap (λ g. atoms_held kind body (start ∷ take n further) ∷ g) (held-more (suc next) less high next place starts (drop n further) more h.1 (rise-drop n less place further f) m)

  pub held-push : (high place : ℕ) (starts further more : List ℕ) → Rise 0 place starts → Rise 0 place further → (length starts ≡ 0 → length further ≡ 0) → Rise (suc place) high more
      → groups_held kind body (starts ++ place ∷ []) (further ++ more) ≡ groups_held kind body starts further ++ atoms_held kind body (place ∷ more) ∷ []
  held-push high place [] [] more h f none m = ap (λ b. atoms_held kind body (place ∷ b) ∷ []) (take_all (length more) more (omega arith))
  held-push high place [] (x ∷ further) more h f none m = absurd (omega (arith, none refl))
  held-push high place (start ∷ starts) further more h f none m = held-more (suc start) 0 high start place starts further more h.1 f m
