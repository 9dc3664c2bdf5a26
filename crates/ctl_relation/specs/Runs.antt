-- The longest run of bytes at the front of a text that pass a test.
use Rattle.std.specs.Prelude.{◌≡◌, ℕ, Bool, false, List, [], ◌∷◌, take, drop}
use Rattle.std.specs.List.{prefix_len}

-- the bytes that pass at the front
abbrev pub run : (ℕ → Bool) → List ℕ → List ℕ
run passes text = take (prefix_len passes text) text

-- what follows them
abbrev pub rest : (ℕ → Bool) → List ℕ → List ℕ
rest passes text = drop (prefix_len passes text) text

-- no byte that passes comes first
abbrev pub Stops : (ℕ → Bool) → List ℕ → Type 0
Stops passes [] = Unit {0}
Stops passes (b ∷ text) = passes b ≡ false
