-- Sequences in pieces.
use Rattle.std.specs.Prelude.{◌≡◌, ℕ, zero, suc, ◌+◌, ◌-◌, ◌<◌, ◌≤◌, min, List, [], ◌∷◌, length, take, slice_get, Bool, true, false, Vec, vec_len}
use Rattle.std.proofs.Common.{Global}
use Rattle.std.specs.List.{AllByRecursion, flat_map, insert}
use Rattle.std.specs.List.Sorted.{IsPartitionPoint}
use Rattle.std.specs.Option.{option_map_or}
use Rattle.std.specs.Vec.{vec_capacity}
use Rattle.ctl_store.specs.declared.pieces.Spot.{Spot}

-- how many items a piece holds at most
abbrev pub most_in_piece : ℕ
most_in_piece = 64

-- how many each piece has room for at least
abbrev pub least_room : ℕ
least_room = 2

-- all items, piece by piece
abbrev pub joined : {X A : Type 0} → List (Vec X A) → List X
joined ps = flat_map (λ p. p.items) ps

-- how many items the piece at a place holds
abbrev pub length_at : {X A : Type 0} → List (Vec X A) → ℕ → ℕ
length_at [] i = 0
length_at (p ∷ ps) zero = length p.items
length_at (p ∷ ps) (suc i) = length_at ps i

-- how many items a piece has room for
abbrev pub room_in : {X A : Type 0} → Vec X A → ℕ
room_in p = min most_in_piece (vec_capacity p)

-- how many the piece at a place has room for
abbrev pub room_at : {X A : Type 0} → List (Vec X A) → ℕ → ℕ
room_at [] i = 0
room_at (p ∷ ps) zero = room_in p
room_at (p ∷ ps) (suc i) = room_at ps i

-- where the item at a place of a piece stands among all items
abbrev pub stands_at : {X A : Type 0} → List (Vec X A) → ℕ → ℕ → ℕ
stands_at ps i j = length (joined (take i ps)) + j

abbrev pub place_of_spot : {X A : Type 0} → List (Vec X A) → Spot → ℕ
place_of_spot ps spot = stands_at ps spot.piece spot.at

-- an item stands there
abbrev pub IsSpot : {X A : Type 0} → List (Vec X A) → Spot → Type 0
IsSpot ps spot = spot.at < length_at ps spot.piece

-- an item stands there, or it is the end
pub record IsSpotOrEnd {X A : Type 0} (ps : List (Vec X A)) (spot : Spot) : Type 0 where
  pub piece : spot.piece ≤ length ps
  pub item : spot.piece < length ps → IsSpot ps spot
  pub end : spot.piece ≡ length ps → spot.at ≡ 0

-- whether the last item passes a test
abbrev pub last_passes : {X : Type 0} → (X → Bool) → List X → Bool
last_passes p xs = option_map_or p (slice_get xs (length xs - 1)) false

-- a sequence in pieces, with empty ones for what comes
pub record InPieces (X : Type 0) : Type 0 where
  pub pieces : List (Vec X Global)
  pub ready : List (Vec X Global)

-- ---- what pieces keep

-- No piece is empty, and none has more items than it may.
pub record IsPiece {X A : Type 0} (p : Vec X A) : Type 0 where
  pub some : 0 < length p.items
  pub few : length p.items ≤ most_in_piece
  pub room : least_room ≤ vec_capacity p

-- an empty piece
pub record IsReadyPiece {X A : Type 0} (p : Vec X A) : Type 0 where
  pub none : p.items ≡ []
  pub room : least_room ≤ vec_capacity p

abbrev pub ArePieces : {X A : Type 0} → List (Vec X A) → Type 0
ArePieces ps = AllByRecursion IsPiece ps

abbrev pub AreReady : {X A : Type 0} → List (Vec X A) → Type 0
AreReady ps = AllByRecursion IsReadyPiece ps

-- pieces, and empty ones for which there is room among them
pub record IsFit {X A B : Type 0} (ps ready_ones : Vec (Vec X A) B) : Type 0 where
  pub pieces : ArePieces ps.items
  pub ready : AreReady ready_ones.items
  pub room : vec_len ps + vec_len ready_ones ≤ vec_capacity ps

-- pieces in place of others, of which there are no more, in the same memory
pub record AreNoMore {X A B : Type 0} (ps qs : Vec (Vec X A) B) : Type 0 where
  pub pieces : ArePieces qs.items
  pub len : vec_len qs ≤ vec_len ps
  pub capacity : vec_capacity qs ≡ vec_capacity ps

-- how many items more the last piece takes
abbrev pub free_at_end : {X A : Type 0} → List (Vec X A) → ℕ
free_at_end [] = 0
free_at_end (p ∷ []) = room_in p - length p.items
free_at_end (p ∷ q ∷ ps) = free_at_end (q ∷ ps)

-- how many items pieces have room for together
abbrev pub room_of_all : {X A : Type 0} → List (Vec X A) → ℕ
room_of_all [] = 0
room_of_all (p ∷ ps) = room_in p + room_of_all ps

-- how many the last of them has room for, which is taken first
abbrev pub room_of_last : {X A : Type 0} → List (Vec X A) → ℕ
room_of_last [] = 0
room_of_last (p ∷ []) = room_in p
room_of_last (p ∷ q ∷ ps) = room_of_last (q ∷ ps)

-- how many items more come last with no memory
abbrev pub room_at_end : {X : Type 0} → InPieces X → ℕ
room_at_end p = free_at_end p.pieces + room_of_all p.ready

-- Wherever an item comes, an empty piece has room for half of the piece that it comes into, and for the item.
abbrev pub HasRoomForOne : {X : Type 0} → InPieces X → Type 0
HasRoomForOne p = min most_in_piece (length (joined p.pieces) + 1) ≤ room_of_last p.ready

-- the first items pass a test, so many, and none after them
abbrev pub IsEnd : {X : Type 0} → (X → Bool) → List X → ℕ → Type 0
IsEnd p xs at = IsPartitionPoint (λ x. p x ≡ true) (λ x. p x ≡ false) xs at

-- all items, with one more in the place of that of a spot
abbrev pub inserted_at : {X A : Type 0} → List (Vec X A) → Spot → X → List X
inserted_at ps spot x = insert (joined ps) (place_of_spot ps spot) x
