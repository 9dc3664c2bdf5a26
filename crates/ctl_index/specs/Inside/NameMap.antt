-- The two trees of the table of names.
use Rattle.std.specs.Prelude.{◌≡◌, ◌<◌, ◌≤◌, ℕ, List, [], ◌∷◌, true, Option, None, Some, is_some, unwrap_or, length, map, if◌then◌else◌}
use Rattle.std.proofs.Common.{Vec, Global, Bor}
use Rattle.std.specs.BTreeMap.{BTreeMap, get}
use Rattle.std.specs.Cmp.Lexicographic.{slice_cmp}
use Rattle.std.specs.Map.{lookup}
use Rattle.std.specs.Ordering.{nat_cmp, is_lt}
use Rattle.std.specs.Str.{bytes_eq}
use Rattle.ctl_policy.specs.Chosen.{at_bytes}
use Rattle.ctl_index.specs.Inside.ShortName.{most_short}
use Rattle.ctl_index.specs.declared.named.Named.{Named}

-- short names stand in the first, and longer ones in the second
pub record AreApart (short : BTreeMap (List ℕ) Named) (long : BTreeMap (Vec ℕ Global) Named) : Type 0 where
  pub shorter : (q : List ℕ) → is_some (get (slice_cmp nat_cmp) short q) ≡ true → length q ≤ most_short
  pub longer : (q : List ℕ) → is_some (at_bytes long q) ≡ true → most_short < length q

-- a name with what stands under it
abbrev pub NamedEntry : Type 0
NamedEntry = List ℕ × Named

abbrev pub entry_names : List NamedEntry → List (List ℕ)
entry_names entries = map (λ (e : NamedEntry). e.0) entries

-- what stands under a name in a list of entries, if anything does
abbrev pub found_in : List NamedEntry → List ℕ → Option Named
found_in entries name = lookup (bytes_eq name) entries

-- an entry of the second tree
abbrev pub long_entry : Vec ℕ Global × Named → NamedEntry
long_entry e = (e.0.items, e.1)

-- two lists of entries, each in the order of its names, in one
unfoldable pub merged : List NamedEntry → List NamedEntry → List NamedEntry
merged [] ys = ys
merged (x ∷ xs) [] = x ∷ xs
merged (x ∷ xs) (y ∷ ys) = if is_lt (slice_cmp nat_cmp x.0 y.0) then x ∷ merged xs (y ∷ ys) else y ∷ merged (x ∷ xs) ys

-- The entry that was taken, and those behind it. Where none was taken there are none behind.
abbrev pub left_short : Option (Bor (List ℕ) × Bor Named) → Option (List NamedEntry) → List NamedEntry
left_short None rest = []
left_short (Some e) rest = (e.0.now, e.1.now) ∷ unwrap_or rest []

abbrev pub left_long : Option (Bor (Vec ℕ Global) × Bor Named) → List (Vec ℕ Global × Named) → List NamedEntry
left_long None rest = []
left_long (Some e) rest = (e.0.now.items, e.1.now) ∷ map long_entry rest
