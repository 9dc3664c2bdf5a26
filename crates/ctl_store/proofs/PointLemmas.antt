-- Where the items that pass a test end, in pieces.
use Rattle.std.proofs.Common.{◌≡◌, ℕ, zero, suc, ◌+◌, ◌-◌, ◌<◌, ◌≤◌, Bool, true, false, List, [], ◌∷◌, ◌++◌, length, take, get_or, set, Vec, refl, ap, sym, subst, ◌∙◌, arith, nat_eq, nat_lt, None}
use Rattle.std.specs.List.Sorted.{IsPartitionedBy, IsPartitionPoint}
use Rattle.std.proofs.lemmas.Option.{slice_get-get_or}
use Rattle.std.proofs.lemmas.List.{length-append, get_or-append-add, get_or_append_left, get_or_default}
use Rattle.std.proofs.lemmas.Bool.Decides.{nat_tests}
use Rattle.ctl_store.specs.Step.{place}
use Rattle.ctl_store.specs.Slots.{has_serial, Rises, replace_at, Id, HasOrder, ids_of, sorted_ids, lower, placed_at}
use Rattle.ctl_store.specs.Orders.{ComesAfter}
use Rattle.ctl_store.specs.Inside.HeldPieces.{joined, length_at, stands_at, last_passes, ArePieces, place_of_spot, IsSpot, IsSpotOrEnd, IsEnd}
use Rattle.ctl_store.proofs.PlaceLemmas.{Rises-up, place_none}
use Rattle.ctl_store.proofs.PiecesLemmas.{stands_next, length_read, piece_read, spot_within}
use Rattle.std.specs.Bool.{OnTrue}
use Rattle.std.specs.Ordering.{is_lt}
use Rattle.ctl_stanza.specs.Content.{Content}
use Rattle.ctl_store.specs.declared.fronts.Placed.{Placed}
use Rattle.ctl_store.specs.declared.pieces.Spot.{Spot}
use Rattle.ctl_store.proofs.OrderLemmas.{parted_placed, lower_is}

module _ {X : Type 0} (p : X → Bool) where
  cons_end : (x : X) (ys : List X) (r : ℕ) → p x ≡ true → IsEnd p ys r → IsEnd p (x ∷ ys) (suc r)
  cons_end x ys r e h = grind arith

  tail_end : (x : X) (ys : List X) (r : ℕ) → IsEnd p (x ∷ ys) (suc r) → IsEnd p ys r
  tail_end x ys r h = (λ k d a l. h.0 (suc k) d (omega arith) (omega arith), λ k d a l. h.1 (suc k) d (omega arith) (omega arith))

  first_all : (q ys : List X) (r : ℕ) → ((k : ℕ) (d : X) → k < length q → p (get_or q k d) ≡ true) → IsEnd p ys r → IsEnd p (q ++ ys) (length q + r)
  first_all [] ys r all h = subst (λ n. IsEnd p ys n) (omega arith) h
  first_all (x ∷ q) ys r all h = subst (λ n. IsEnd p (x ∷ (q ++ ys)) n) (omega arith) (cons_end x (q ++ ys) (length q + r) (all 0 x (omega arith)) (first_all q ys r (λ k d l. all (suc k) d (omega arith)) h))

  none_end : (xs : List X) → ((k : ℕ) (d : X) → k < length xs → p (get_or xs k d) ≡ false) → IsEnd p xs 0
  none_end xs none = (λ k d a l. absurd (omega arith), λ k d a l. none k d l)

  last_none : (q ys : List X) (r : ℕ) → r ≤ length q → IsEnd p q r → ((k : ℕ) (d : X) → k < length ys → p (get_or ys k d) ≡ false) → IsEnd p (q ++ ys) r
  last_none [] ys zero b h none = none_end ys none
  last_none [] ys (suc r) b h none = absurd (omega arith)
  last_none (x ∷ q) ys (suc r) b h none = cons_end x (q ++ ys) r (h.0 0 x (omega arith) (omega arith)) (last_none q ys r (omega arith) (tail_end x q r h) none)
  last_none (x ∷ q) ys zero b h none = none_end (x ∷ (q ++ ys)) (each (last_none q ys 0 (omega arith) (none_end q (λ k d l. h.1 (suc k) d (omega arith) (omega arith))) none))
    where
      each : IsEnd p (q ++ ys) 0 → (k : ℕ) (d : X) → k < suc (length (q ++ ys)) → p (get_or (x ∷ (q ++ ys)) k d) ≡ false
      each rest k d l = grind arith

  -- the item at a place, which is read as `x ≡ get_or xs i x`
  pub read_passes : (xs : List X) (i : ℕ) (x d : X) (b : Bool) → i < length xs → x ≡ get_or xs i x → p x ≡ b → p (get_or xs i d) ≡ b
  read_passes xs i x d b l e is = ap p (get_or_default xs i d x l ∙ sym e) ∙ is

  -- where one passes and the next doesn't, in a list in which those that pass come first
  pub end_between : (xs : List X) (r : ℕ) → IsPartitionedBy p xs → r < length xs → ((d : X) → 0 < r → p (get_or xs (r - 1) d) ≡ true) → ((d : X) → p (get_or xs r d) ≡ false) → IsEnd p xs r
  end_between xs r parted within before here = (λ k d a l. parted k (r - 1) d (omega arith) (omega arith) (before d (omega arith)), λ k d a l. high k d a l)
    where
      high : (k : ℕ) (d : X) → r ≤ k → k < length xs → p (get_or xs k d) ≡ false
      high k d a l = grind (arith, parted r k d a l, here d)

  -- ---- parts of a list in which those that pass come first

  parted_tail : (q ys : List X) → IsPartitionedBy p (q ++ ys) → IsPartitionedBy p ys
  parted_tail [] ys h = h
  parted_tail (x ∷ q) ys h = parted_tail q ys (λ i j d le l e. h (suc i) (suc j) d (omega arith) (omega arith) e)

  parted_head : (q ys : List X) → IsPartitionedBy p (q ++ ys) → IsPartitionedBy p q
  parted_head q ys h i j d le l e = grind (arith, get_or_append_left, length-append)

  pub last_is : (q : List X) (m : ℕ) (d : X) → length q ≡ m + 1 → last_passes p q ≡ p (get_or q m d)
  last_is q m d e = grind (arith, slice_get-get_or)

  all_pass : (q : List X) → 0 < length q → IsPartitionedBy p q → last_passes p q ≡ true → (k : ℕ) (d : X) → k < length q → p (get_or q k d) ≡ true
  all_pass q some h e k d l = h k (length q - 1) d (omega arith) (omega arith) (sym (last_is q (length q - 1) d (omega arith)) ∙ e)

  none_after : (q ys : List X) → 0 < length q → IsPartitionedBy p (q ++ ys) → last_passes p q ≡ false → (k : ℕ) (d : X) → k < length ys → p (get_or ys k d) ≡ false
  none_after q ys some h e k d l =
      let last = last_is q (length q - 1) d (omega arith) ∙ sym (ap p (get_or_append_left q ys d (length q - 1) (omega arith))) in
      let is = ap p (get_or-append-add q ys k d) in
      grind (arith, last, is, h (length q - 1) (length q + k) d (omega arith) (omega (arith, length-append q ys)))

  inside : (q : List X) (r : ℕ) → 0 < length q → r ≤ length q → IsEnd p q r → last_passes p q ≡ false → r < length q
  inside [] r some b h e = absurd (omega arith)
  inside (x ∷ q) r some b h e = omega (arith, not_all)
    where
      not_all : r ≡ suc (length q) → ⊥
      not_all all = let z : last_passes p (x ∷ q) ≡ true = last_is (x ∷ q) (length q) x (omega arith) ∙ h.0 (length q) x (omega arith) (omega arith) in cc

module _ {X A : Type 0} (p : X → Bool) where
  pub parted_piece : (ps : List (Vec X A)) (k : ℕ) (d : Vec X A) → IsPartitionedBy p (joined ps) → k < length ps → IsPartitionedBy p (get_or ps k d).items
  parted_piece [] k d h l = absurd (omega arith)
  parted_piece (q ∷ ps) zero d h l = parted_head p q.items (joined ps) h
  parted_piece (q ∷ ps) (suc k) d h l = parted_piece ps k d (parted_tail p q.items (joined ps) h) (omega arith)

  none_last : (ps : List (Vec X A)) → ArePieces ps → ((k : ℕ) (d : X) → k < length (joined ps) → p (get_or (joined ps) k d) ≡ false) → (j : ℕ) (d : Vec X A) → j < length ps → last_passes p (get_or ps j d).items ≡ false
  none_last [] h none j d l = absurd (omega arith)
  none_last (q ∷ ps) h none zero d l = by q.items h.0.some none
    where
      by : (xs : List X) → 0 < length xs → ((k : ℕ) (d : X) → k < length (xs ++ joined ps) → p (get_or (xs ++ joined ps) k d) ≡ false) → last_passes p xs ≡ false
      by [] some none = absurd (omega arith)
      by (x ∷ xs) some none = last_is p (x ∷ xs) (length xs) x (omega arith) ∙ sym (ap p (get_or_append_left (x ∷ xs) (joined ps) x (length xs) (omega arith))) ∙ none (length xs) x (omega (arith, length-append xs (joined ps)))
  none_last (q ∷ ps) h none (suc j) d l =
      none_last ps h.1 (λ k d l. sym (ap p (get_or-append-add q.items (joined ps) k d)) ∙ none (length q.items + k) d (omega (arith, length-append q.items (joined ps)))) j d (omega arith)

  -- the pieces whose last item passes come first
  pub parted_last : (ps : List (Vec X A)) → ArePieces ps → IsPartitionedBy p (joined ps) → IsPartitionedBy (λ (v : Vec X A). last_passes p v.items) ps
  parted_last [] h parted i j d le l e = absurd (omega arith)
  parted_last (q ∷ ps) h parted zero zero d le l e = e
  parted_last (q ∷ ps) h parted (suc i) zero d le l e = absurd (omega arith)
  parted_last (q ∷ ps) h parted (suc i) (suc j) d le l e = parted_last ps h.1 (parted_tail p q.items (joined ps) parted) i j d (omega arith) (omega arith) e
  parted_last (q ∷ ps) h parted zero (suc j) d le l e = grind (arith, none_last, none_after)

  abbrev pub IsLastEnd : List (Vec X A) → ℕ → Type 0
  IsLastEnd ps k = IsPartitionPoint (λ (v : Vec X A). last_passes p v.items ≡ true) (λ (v : Vec X A). last_passes p v.items ≡ false) ps k

  rest_end : (q : Vec X A) (ps : List (Vec X A)) (k : ℕ) → IsLastEnd (q ∷ ps) (suc k) → IsLastEnd ps k
  rest_end q ps k h = (λ i d a l. h.0 (suc i) d (omega arith) (omega arith), λ i d a l. h.1 (suc i) d (omega arith) (omega arith))

  -- in the first piece whose last item doesn't pass, where those that pass end there
  pub end_in : (ps : List (Vec X A)) (k r : ℕ) → ArePieces ps → IsPartitionedBy p (joined ps) → IsLastEnd ps k → k < length ps
      → ((d : Vec X A) → IsEnd p (get_or ps k d).items r) → ((d : Vec X A) → r ≤ length (get_or ps k d).items) → IsEnd p (joined ps) (stands_at ps k r) × (r < length_at ps k)
  end_in [] k r h parted outer l inner bound = absurd (omega arith)
  end_in (q ∷ ps) zero r h parted outer l inner bound = (
    subst (λ n. IsEnd p (joined (q ∷ ps)) n) (omega arith) (last_none p q.items (joined ps) r (bound q) (inner q) (none_after p q.items (joined ps) h.0.some parted (outer.1 0 q (omega arith) (omega arith)))),
    inside p q.items r h.0.some (bound q) (inner q) (outer.1 0 q (omega arith) (omega arith)),
  )
  end_in (q ∷ ps) (suc k) r h parted outer l inner bound =
      let rest = end_in ps k r h.1 (parted_tail p q.items (joined ps) parted) (rest_end q ps k outer) (omega arith) inner bound in
      let passes = all_pass p q.items h.0.some (parted_head p q.items (joined ps) parted) (outer.0 0 q (omega arith) (omega arith)) in
      (subst (λ n. IsEnd p (joined (q ∷ ps)) n) (sym (stands_next q ps k r)) (first_all p q.items (joined ps) (stands_at ps k r) passes rest.0), rest.1)

  -- the same of a copy of the piece, and of what halving gives of it
  pub end_found : (ps : List (Vec X A)) (k r : ℕ) (xs : List X) → ArePieces ps → IsPartitionedBy p (joined ps) → IsLastEnd ps k → k < length ps
      → ((d : Vec X A) → xs ≡ (get_or ps k d).items) → r ≤ length xs → (IsPartitionedBy p xs → IsEnd p xs r) → IsEnd p (joined ps) (stands_at ps k r) × (r < length_at ps k)
  end_found ps k r xs h parted outer l is bound inner =
      end_in ps k r h parted outer l
      (λ d. subst (λ ys. IsEnd p ys r) (is d) (inner (subst (IsPartitionedBy p) (sym (is d)) (parted_piece ps k d parted l))))
      (λ d. omega (arith, bound, ap length (is d)))

  -- behind all pieces, where each last item passes
  pub end_past : (ps : List (Vec X A)) (k : ℕ) → ArePieces ps → IsPartitionedBy p (joined ps) → IsLastEnd ps k → k ≡ length ps → IsEnd p (joined ps) (stands_at ps k 0)
  end_past [] zero h parted outer e = none_end p [] (λ k d l. absurd (omega arith))
  end_past [] (suc k) h parted outer e = absurd (omega arith)
  end_past (q ∷ ps) zero h parted outer e = absurd (omega arith)
  end_past (q ∷ ps) (suc k) h parted outer e =
      let rest = end_past ps k h.1 (parted_tail p q.items (joined ps) parted) (rest_end q ps k outer) (omega arith) in
      let passes = all_pass p q.items h.0.some (parted_head p q.items (joined ps) parted) (outer.0 0 q (omega arith) (omega arith)) in
      subst (λ n. IsEnd p (joined (q ∷ ps)) n) (sym (stands_next q ps k 0)) (first_all p q.items (joined ps) (stands_at ps k 0) passes rest)

-- ---- what stands at a spot

module _ {X A : Type 0} where
  pub stands_end : (ps : List (Vec X A)) (j : ℕ) → stands_at ps (length ps) j ≡ length (joined ps) + j
  stands_end [] j = refl
  stands_end (q ∷ ps) j = omega (arith, length-append q.items (joined ps), length-append q.items (joined (take (length ps) ps)), stands_end ps j)

  pub get_joined : (ps : List (Vec X A)) (i j : ℕ) (p : Vec X A) (x d : X) → j < length_at ps i → p ≡ get_or ps i p → x ≡ get_or p.items j x → get_or (joined ps) (stands_at ps i j) d ≡ x
  get_joined [] i j p x d l e f = absurd (omega arith)
  get_joined (q ∷ ps) zero j p x d l e f = grind (arith, get_or_append_left, get_or_default)
  get_joined (q ∷ ps) (suc i) j p x d l e f =
      ap (λ n. get_or (q.items ++ joined ps) n d) (stands_next q ps i j)
      ∙ get_or-append-add q.items (joined ps) (stands_at ps i j) d
      ∙ get_joined ps i j p x d l e f

  pub stands_within : (ps : List (Vec X A)) (i j : ℕ) → j < length_at ps i → stands_at ps i j < length (joined ps)
  stands_within [] i j l = absurd (omega arith)
  stands_within (q ∷ ps) zero j l = omega (arith, length-append q.items (joined ps))
  stands_within (q ∷ ps) (suc i) j l = omega (arith, length-append q.items (joined ps), length-append q.items (joined (take i ps)), stands_within ps i j l)

-- ---- a slot that takes another value

module _ {V : Type 0} where
  replace_in : (xs ys : List (ℕ × V)) (j : ℕ) (r : ℕ × V) (x : V) → j < length xs → r ≡ get_or xs j r → set xs j (r.0, x) ++ ys ≡ replace_at (xs ++ ys) j x
  replace_in [] ys j r x l e = absurd (omega arith)
  replace_in (y ∷ xs) ys zero r x l e = ap (λ (t : ℕ × V). (t.0, x) ∷ (xs ++ ys)) e
  replace_in (y ∷ xs) ys (suc j) r x l e = ap (λ l. y ∷ l) (replace_in xs ys j r x (omega arith) e)

  replace_behind : (xs ys : List (ℕ × V)) (j : ℕ) (x : V) → replace_at (xs ++ ys) (length xs + j) x ≡ xs ++ replace_at ys j x
  replace_behind [] ys j x = ap (λ n. replace_at ys n x) (omega arith)
  replace_behind (y ∷ xs) ys j x = grind (arith, replace_behind xs ys j x)

module _ {V A : Type 0} where
  pub replace_joined : (ps : List (Vec (ℕ × V) A)) (i j : ℕ) (p : Vec (ℕ × V) A) (r : ℕ × V) (p' : Vec (ℕ × V) A) (x : V) → j < length_at ps i → p ≡ get_or ps i p → r ≡ get_or p.items j r
      → p'.items ≡ set p.items j (r.0, x) → joined (set ps i p') ≡ replace_at (joined ps) (stands_at ps i j) x
  replace_joined [] i j p r p' x l e f g = absurd (omega arith)
  replace_joined (q ∷ ps) zero j p r p' x l e f g = grind (arith, replace_in)
  replace_joined (q ∷ ps) (suc i) j p r p' x l e f g =
      ap (λ (xs : List (ℕ × V)). q.items ++ xs) (replace_joined ps i j p r p' x l e f g)
      ∙ sym (replace_behind q.items (joined ps) (stands_at ps i j) x)
      ∙ ap (λ n. replace_at (q.items ++ joined ps) n x) (sym (stands_next q ps i j))

-- ---- slots whose serials rise

module _ {V : Type 0} where
  abbrev pub is_below : ℕ → ℕ × V → Bool
  is_below s slot = nat_lt slot.0 s

  pub parted_serials : (s n : ℕ) (rs : List (ℕ × V)) (m : ℕ) → Rises n rs m → IsPartitionedBy (is_below s) rs
  parted_serials s n rs m h i j d le l e =
      let up : i < j → (get_or rs i d).0 < (get_or rs j d).0 = λ lt. Rises-up n rs m i j d h lt l in
      let same : i ≡ j → (get_or rs i d).0 ≡ (get_or rs j d).0 = λ e. ap (λ k. (get_or rs k d).0) e in
      below _ _ s (grind (arith, up, same)) e
    where
      below : (a b s : ℕ) → a ≤ b → nat_lt b s ≡ true → nat_lt a s ≡ true
      below a b s le e = grind (arith, nat_tests, e)

  pub place_nowhere : (s n : ℕ) (rs : List (ℕ × V)) (m r : ℕ) → Rises n rs m → IsEnd (is_below s) rs r → (r < length rs → (d : ℕ × V) → (get_or rs r d).0 ≡ s → ⊥) → place (has_serial s) rs ≡ None
  place_nowhere s n rs m r h point other =
      place_none (has_serial s) rs
      (λ k d l. differs (get_or rs k d).0 (get_or rs r d).0 s k r
      (λ lt. point.0 k d (omega arith) lt)
      (λ le. point.1 r d (omega arith) (omega arith))
      (λ lt. Rises-up n rs m r k d h lt l)
      (λ e. ap (λ i. (get_or rs i d).0) e)
      (λ le e. other (omega arith) d e))
    where
      differs : (a b s k r : ℕ) → (k < r → nat_lt a s ≡ true) → (r ≤ k → nat_lt b s ≡ false) → (r < k → b < a) → (k ≡ r → a ≡ b) → (r ≤ k → b ≡ s → ⊥) → nat_eq a s ≡ false
      differs a b s k r low high up same other = grind (arith, nat_tests, low, high, up, same, other)

-- ---- the place of a name and a version, told by the slot there and the one before it

pub on_true : {P : Type 0} → (b : Bool) → P → OnTrue b P
on_true true h = h
on_true false h = tt

module _ {P Q : Type 0} where
  pub on_true_map : (b : Bool) → (P → Q) → OnTrue b P → OnTrue b Q
  on_true_map b f h = grind arith

-- a test of what is read at a place
pub told : {X : Type 0} (P : Type 0) (p : X → Bool) (b : Bool) (t : X → X) → ((d : X) → b ≡ p (t d)) → OnTrue b ((d : X) → P → p (t d) ≡ true)
told P p true t e = λ d l. sym (e d)
told P p false t e = tt

module _ {X A : Type 0} where
  -- a piece begins where the one before it ends
  stands_past : (ps : List (Vec X A)) (i : ℕ) → i < length ps → stands_at ps (suc i) 0 ≡ stands_at ps i (length_at ps i)
  stands_past [] i l = absurd (omega arith)
  stands_past (q ∷ ps) zero l = omega (arith, length-append q.items [])
  stands_past (q ∷ ps) (suc i) l = omega (arith, stands_next q ps (suc i) 0, stands_next q ps i (length_at ps i), stands_past ps i (omega arith))

  pub spot_or_end : (ps : List (Vec X A)) (spot : Spot) → IsSpot ps spot → IsSpotOrEnd ps spot
  spot_or_end ps spot there =
      let l = spot_within ps spot.piece spot.at there in
      record { piece = omega (arith, l); item = λ w. there; end = λ e. absurd (omega (arith, e, l)) }

  -- before the first item of a piece stands the last of the one before
  pub last_before : (ps : List (Vec X A)) → ArePieces ps → (spot : Spot) → spot.piece < length ps → 0 < spot.piece → spot.at ≡ 0 → (v : Vec X A) → v ≡ get_or ps (spot.piece - 1) v
      → (d : X) → get_or (joined ps) (place_of_spot ps spot - 1) d ≡ get_or v.items (length v.items - 1) d
  last_before ps h spot l some first v e d =
      let k = spot.piece - 1 in
      let within : k < length ps = omega (arith, l, some) in
      let next : spot.piece ≡ suc k = omega (arith, some) in
      let at : place_of_spot ps spot ≡ stands_at ps (suc k) 0 = λ j. stands_at ps (next j) (first j) in
      let past : stands_at ps (suc k) 0 ≡ stands_at ps k (length_at ps k) = stands_past ps k within in
      let len : length_at ps k ≡ length v.items = length_read ps k v within e in
      let one = (piece_read ps k v h within e).some in
      let behind : place_of_spot ps spot - 1 ≡ stands_at ps k (length v.items - 1) = omega (arith, at, past, len, one) in
      ap (λ n. get_or (joined ps) n d) behind
      ∙ get_joined ps k (length v.items - 1) v (get_or v.items (length v.items - 1) d) d (omega (arith, len, one)) e (get_or_default v.items (length v.items - 1) d _ (omega (arith, one)))

module _ {A : Type 0} where
  pub lower_between : (slots : List (ℕ × Content)) (next : ℕ) (ps : List (Vec Placed A)) → HasOrder slots next (joined ps) → (q : Id) (spot : Spot) → IsSpot ps spot → (s : Placed) → ((d : Placed) → get_or (joined ps) (place_of_spot ps spot) d ≡ s)
      → is_lt (placed_at slots q s) ≡ false → ComesAfter slots (joined ps) (place_of_spot ps spot) q → place_of_spot ps spot ≡ lower q (sorted_ids (ids_of slots))
  lower_between slots next ps kept q spot there s at here before =
      let w = stands_within ps spot.piece spot.at there in
      lower_is slots next (joined ps) kept q (place_of_spot ps spot) (omega (arith, w))
      (end_between (λ one. is_lt (placed_at slots q one)) (joined ps) (place_of_spot ps spot) (parted_placed slots next (joined ps) kept q) w before (λ d. ap (λ one. is_lt (placed_at slots q one)) (at d) ∙ here))
