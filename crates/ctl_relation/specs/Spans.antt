-- Parts of a text, by their places.
use Rattle.std.specs.Prelude.{ℕ, ◌≤◌, List, length, slice_range}
use Rattle.ctl_relation.specs.declared.span.Span.{Span}

-- a span lies in a text
abbrev pub IsWithin : List ℕ → Span → Type 0
IsWithin text span = (span.start ≤ span.end) × (span.end ≤ length text)

-- the part of a text that a span shows
abbrev pub shown : List ℕ → Span → List ℕ
shown text span = slice_range text span.start span.end
