-- Sequences in pieces.
use Rattle.std.proofs.Common.{◌≡◌, ◌⊎◌, inl, inr, ℕ, zero, suc, ◌+◌, ◌-◌, ◌<◌, ◌≤◌, List, [], ◌∷◌, ◌++◌, length, get_or, set, take, drop, Vec, Some, refl, ap, sym, subst, ◌∙◌, arith, append_assoc, length-append}
use Rattle.std.specs.List.{insert, remove, slice_get}
use Rattle.std.proofs.lemmas.List.{nil_from_length, append-nil, take-append-drop}
use Rattle.std.proofs.lemmas.List.Edits.{length-remove, insert-append_left, insert-append_right, remove-append_left, remove-append_right}
use Rattle.std.proofs.lemmas.Bool.{cases_lt}
use Rattle.ctl_store.proofs.PlaceLemmas.{some_is}
use Rattle.ctl_store.specs.declared.pieces.Spot.{Spot}
use Rattle.ctl_store.specs.Inside.HeldPieces.{joined, length_at, room_in, room_at, room_of_all, room_of_last, stands_at, place_of_spot, IsPiece, ArePieces, free_at_end}

pub plus_one : (n : ℕ) → n + 1 ≡ suc n
plus_one n = omega arith

at_first : (j : ℕ) → 0 + j ≡ j
at_first j = omega arith

-- the two parts of a piece that is split
pub halves : {X : Type 0} (n : ℕ) (xs low up : List X) → low ≡ take n xs → up ≡ drop n xs → low ++ up ≡ xs
halves n xs low up e f = ap (λ l. l ++ up) e ∙ ap (λ l. take n xs ++ l) f ∙ take-append-drop n xs

module _ {X A : Type 0} where
  pub stands_next : (q : Vec X A) (ps : List (Vec X A)) (i j : ℕ) → stands_at (q ∷ ps) (suc i) j ≡ length q.items + stands_at ps i j
  stands_next q ps i j = omega (arith, length-append q.items (joined (take i ps)))

  -- ---- the piece at a place, which is read as `p ≡ get_or ps i p`

  pub length_read : (ps : List (Vec X A)) (i : ℕ) (p : Vec X A) → i < length ps → p ≡ get_or ps i p → length_at ps i ≡ length p.items
  length_read [] i p l e = absurd (omega arith)
  length_read (q ∷ ps) zero p l e = sym (ap (λ (v : Vec X A). length v.items) e)
  length_read (q ∷ ps) (suc i) p l e = length_read ps i p (omega arith) e

  pub spot_within : (ps : List (Vec X A)) (i j : ℕ) → j < length_at ps i → i < length ps
  spot_within [] i j l = absurd (omega arith)
  spot_within (q ∷ ps) zero j l = omega arith
  spot_within (q ∷ ps) (suc i) j l = omega (arith, spot_within ps i j l)

  pub piece_read : (ps : List (Vec X A)) (i : ℕ) (p : Vec X A) → ArePieces ps → i < length ps → p ≡ get_or ps i p → IsPiece p
  piece_read [] i p h l e = absurd (omega arith)
  piece_read (q ∷ ps) zero p h l e = subst IsPiece (sym e) h.0
  piece_read (q ∷ ps) (suc i) p h l e = piece_read ps i p h.1 (omega arith) e

  pub room_read : (ps : List (Vec X A)) (i : ℕ) (p : Vec X A) → i < length ps → p ≡ get_or ps i p → room_at ps i ≡ room_in p
  room_read [] i p l e = absurd (omega arith)
  room_read (q ∷ ps) zero p l e = sym (ap room_in e)
  room_read (q ∷ ps) (suc i) p l e = room_read ps i p (omega arith) e

  -- a piece that was put at a place
  pub piece_set : (ps : List (Vec X A)) (i : ℕ) (p : Vec X A) → i < length ps → (length_at (set ps i p) i ≡ length p.items) × (room_at (set ps i p) i ≡ room_in p)
  piece_set [] i p l = absurd (omega arith)
  piece_set (q ∷ ps) zero p l = (refl, refl)
  piece_set (q ∷ ps) (suc i) p l = piece_set ps i p (omega arith)

  -- a piece has no more items than all have
  pub length_of_all : (ps : List (Vec X A)) (i : ℕ) → length_at ps i ≤ length (joined ps)
  length_of_all [] i = omega arith
  length_of_all (q ∷ ps) zero = omega (arith, length-append q.items (joined ps))
  length_of_all (q ∷ ps) (suc i) = omega (arith, length-append q.items (joined ps), length_of_all ps i)

  -- ---- the room in pieces that are ready

  pub room_of_all_push : (ps : List (Vec X A)) (p : Vec X A) → room_of_all (ps ++ p ∷ []) ≡ room_of_all ps + room_in p
  room_of_all_push [] p = omega arith
  room_of_all_push (q ∷ ps) p = omega (arith, room_of_all_push ps p)

  pub room_of_last_push : (ps : List (Vec X A)) (p : Vec X A) → room_of_last (ps ++ p ∷ []) ≡ room_in p
  room_of_last_push [] p = refl
  room_of_last_push (q ∷ []) p = refl
  room_of_last_push (q ∷ r ∷ ps) p = room_of_last_push (r ∷ ps) p

  pub last_of_all : (ps : List (Vec X A)) → room_of_last ps ≤ room_of_all ps
  last_of_all [] = omega arith
  last_of_all (q ∷ []) = omega arith
  last_of_all (q ∷ r ∷ ps) = omega (arith, last_of_all (r ∷ ps))

  -- ---- what is kept

  pub pieces_insert : (ps : List (Vec X A)) (i : ℕ) (p : Vec X A) → ArePieces ps → IsPiece p → ArePieces (insert ps i p)
  pieces_insert ps zero p h y = (y, h)
  pieces_insert [] (suc i) p h y = (y, h)
  pieces_insert (q ∷ ps) (suc i) p h y = (h.0, pieces_insert ps i p h.1 y)

  -- ---- an edit of one piece

  pub joined_insert : (ps : List (Vec X A)) (i : ℕ) (p p' : Vec X A) (j : ℕ) (x : X) → i < length ps → p ≡ get_or ps i p → j ≤ length p.items → p'.items ≡ insert p.items j x → joined (set ps i p') ≡ insert (joined ps) (stands_at ps i j) x
  joined_insert [] i p p' j x l e le w = absurd (omega arith)
  joined_insert (q ∷ ps) zero p p' j x l e le w = grind (arith, insert-append_left, at_first)
  joined_insert (q ∷ ps) (suc i) p p' j x l e le w =
      let at = stands_next q ps i j in
      ap (λ l. q.items ++ l) (joined_insert ps i p p' j x (omega arith) e le w ∙ ap (λ n. insert (joined ps) n x) (omega (arith, at)))
      ∙ sym (insert-append_right q.items (joined ps) (length q.items) (stands_at (q ∷ ps) (suc i) j) x refl (omega (arith, at)))

  pub joined_remove : (ps : List (Vec X A)) (i : ℕ) (p p' : Vec X A) (j : ℕ) → i < length ps → p ≡ get_or ps i p → j < length p.items → p'.items ≡ remove p.items j → joined (set ps i p') ≡ remove (joined ps) (stands_at ps i j)
  joined_remove [] i p p' j l e le w = absurd (omega arith)
  joined_remove (q ∷ ps) zero p p' j l e le w = grind (arith, remove-append_left, at_first)
  joined_remove (q ∷ ps) (suc i) p p' j l e le w =
      let at = stands_next q ps i j in
      ap (λ l. q.items ++ l) (joined_remove ps i p p' j (omega arith) e le w ∙ ap (remove (joined ps)) (omega (arith, at)))
      ∙ sym (remove-append_right q.items (joined ps) (length q.items) (stands_at (q ∷ ps) (suc i) j) refl (omega (arith, at)))

  -- a piece of one item goes with it
  pub joined_remove_piece : (ps : List (Vec X A)) (i j : ℕ) → j < length_at ps i → length_at ps i ≤ 1 → joined (remove ps i) ≡ remove (joined ps) (stands_at ps i j)
  joined_remove_piece [] i j l one = absurd (omega arith)
  joined_remove_piece (q ∷ ps) zero j l one = grind (arith, nil_from_length, length-remove, at_first, remove-append_left)
  joined_remove_piece (q ∷ ps) (suc i) j l one =
      let at = stands_next q ps i j in
      ap (λ l. q.items ++ l) (joined_remove_piece ps i j l one ∙ ap (remove (joined ps)) (omega (arith, at)))
      ∙ sym (remove-append_right q.items (joined ps) (length q.items) (stands_at (q ∷ ps) (suc i) j) refl (omega (arith, at)))

  -- ---- a piece with its items in other memory, and two in one

  pub joined_join : (ps : List (Vec X A)) (i : ℕ) (p up p' : Vec X A) → suc i < length ps → p ≡ get_or (remove ps (suc i)) i p → up ≡ get_or ps (suc i) up → p'.items ≡ p.items ++ up.items → joined (set (remove ps (suc i)) i p') ≡ joined ps
  joined_join [] i p up p' l e f w = absurd (omega arith)
  joined_join (q ∷ []) i p up p' l e f w = absurd (omega arith)
  joined_join (q ∷ r ∷ ps) zero p up p' l e f w = ap (λ l. l ++ joined ps) (w ∙ (λ j. (e j).items ++ (f j).items)) ∙ append_assoc q.items r.items (joined ps)
  joined_join (q ∷ r ∷ ps) (suc i) p up p' l e f w = ap (λ l. q.items ++ l) (joined_join (r ∷ ps) i p up p' (omega arith) e f w)

  -- the piece before one that goes
  pub read_before : (ps : List (Vec X A)) (i : ℕ) (p : Vec X A) → suc i < length ps → p ≡ get_or (remove ps (suc i)) i p → p ≡ get_or ps i p
  read_before [] i p l e = absurd (omega arith)
  read_before (q ∷ []) i p l e = absurd (omega arith)
  read_before (q ∷ r ∷ ps) zero p l e = e
  read_before (q ∷ r ∷ ps) (suc i) p l e = read_before (r ∷ ps) i p (omega arith) e

  -- ---- a piece in two

  pub joined_split : (ps : List (Vec X A)) (i : ℕ) (p low up : Vec X A) → i < length ps → p ≡ get_or ps i p → low.items ++ up.items ≡ p.items → joined (insert (set ps i low) (suc i) up) ≡ joined ps
  joined_split [] i p low up l e w = absurd (omega arith)
  joined_split (q ∷ ps) zero p low up l e w = sym (append_assoc low.items up.items (joined ps)) ∙ ap (λ l. l ++ joined ps) (w ∙ ap (λ (v : Vec X A). v.items) e)
  joined_split (q ∷ ps) (suc i) p low up l e w = ap (λ l. q.items ++ l) (joined_split ps i p low up (omega arith) e w)

  -- how many items the two parts have, and how many they have room for
  pub parts_at : (ps : List (Vec X A)) (i : ℕ) (low up : Vec X A) → i < length ps → let qs = insert (set ps i low) (suc i) up in
      (length_at qs i ≡ length low.items) × (length_at qs (suc i) ≡ length up.items) × (room_at qs i ≡ room_in low) × (room_at qs (suc i) ≡ room_in up)
  parts_at [] i low up l = absurd (omega arith)
  parts_at (q ∷ ps) zero low up l = (refl, refl, refl, refl)
  parts_at (q ∷ ps) (suc i) low up l = parts_at ps i low up (omega arith)

  pub stands_upper : (ps : List (Vec X A)) (i : ℕ) (low up : Vec X A) (j : ℕ) → i < length ps → stands_at (insert (set ps i low) (suc i) up) (suc i) j ≡ stands_at ps i (length low.items + j)
  stands_upper [] i low up j l = absurd (omega arith)
  stands_upper (q ∷ ps) zero low up j l = omega (arith, ap length (append-nil low.items))
  stands_upper (q ∷ ps) (suc i) low up j l =
      omega (arith, length-append q.items (joined (take i ps)), length-append q.items (joined (take (suc i) (insert (set ps i low) (suc i) up))), stands_upper ps i low up j (omega arith))

  -- ---- the end

  pub some_free : (ps : List (Vec X A)) → 0 < free_at_end ps → 0 < length ps
  some_free [] l = l
  some_free (q ∷ ps) l = omega arith

  pub free_last : (ps : List (Vec X A)) (n : ℕ) → n + 1 ≡ length ps → free_at_end ps ≡ room_at ps n - length_at ps n
  free_last [] n e = absurd (omega arith)
  free_last (q ∷ []) zero e = refl
  free_last (q ∷ r ∷ ps) zero e = absurd (omega arith)
  free_last (q ∷ []) (suc n) e = absurd (omega arith)
  free_last (q ∷ r ∷ ps) (suc n) e = free_last (r ∷ ps) n (omega arith)

  -- the piece that `slice_get` finds
  pub got_last : (ps : List (Vec X A)) (n : ℕ) (p : Vec X A) → n + 1 ≡ length ps → Some p ≡ slice_get ps n → room_of_last ps ≡ room_in p
  got_last [] n p l e = cc
  got_last (q ∷ []) zero p l e = sym (ap room_in (some_is e))
  got_last (q ∷ []) (suc n) p l e = absurd (omega arith)
  got_last (q ∷ r ∷ ps) zero p l e = absurd (omega arith)
  got_last (q ∷ r ∷ ps) (suc n) p l e = got_last (r ∷ ps) n p (omega arith) e

  pub last_at : (ps : List (Vec X A)) (p : Vec X A) → (length_at (insert ps (length ps) p) (length ps) ≡ length p.items) × (room_at (insert ps (length ps) p) (length ps) ≡ room_in p)
  last_at [] p = (refl, refl)
  last_at (q ∷ ps) p = last_at ps p

  -- ---- a spot whose piece was split

  module _ (ps qs : List (Vec X A)) (s t : Spot) (half : ℕ) (low : s.at ≤ half → t ≡ s) (up : half < s.at → t ≡ record { piece = s.piece + 1; at = s.at - half }) where
    pub split_stands : ((j : ℕ) → stands_at qs s.piece j ≡ stands_at ps s.piece j) → ((j : ℕ) → stands_at qs (s.piece + 1) j ≡ stands_at ps s.piece (half + j)) → place_of_spot qs t ≡ place_of_spot ps s
    split_stands lower upper = by (cases_lt half s.at)
      where
        by : (half < s.at) ⊎ (s.at ≤ half) → place_of_spot qs t ≡ place_of_spot ps s
        by (inl l) =
            let back : half + (s.at - half) ≡ s.at = omega (arith, l) in
            ap (place_of_spot qs) (up l) ∙ upper (s.at - half) ∙ ap (λ n. stands_at ps s.piece n) back
        by (inr l) = ap (place_of_spot qs) (low l) ∙ lower s.at

    -- in both parts there is room for what comes
    pub split_fits : (n : ℕ) → s.at ≤ n → half < n → 0 < half → length_at qs s.piece ≡ half → length_at qs (s.piece + 1) + half ≡ n → n ≤ room_at qs s.piece → n ≤ room_at qs (s.piece + 1)
        → (t.at ≤ length_at qs t.piece) × (length_at qs t.piece < room_at qs t.piece)
    split_fits n few more some lower upper lower_room upper_room = grind arith
