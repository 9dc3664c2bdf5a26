-- What a line is by itself.
use Rattle.std.specs.Prelude.{◌<◌, ℕ, not, ◌||◌, ◌==◌, List, Option, None, Some, position, slice_index, length, ⊤, if◌then◌else◌}
use Rattle.ctl_relation.specs.Bytes.{colon, hash, hyphen}
pub use Rattle.ctl_relation.specs.FieldBytes.{is_field_name_byte}
use Rattle.ctl_stanza.specs.declared.line_kind.LineKind.{LineKind}
use Rattle.ctl_stanza.specs.declared.line_kind.LineKind.TheVariants.{Blank, Field, Continuation, Faulty}
use Rattle.ctl_stanza.specs.Lines.{is_blank_byte, is_blank}

-- a name of n bytes, at least one, that doesn't begin with # or -, and a colon
abbrev pub kind_after_name : List ℕ → Option ℕ → LineKind
kind_after_name line None = Faulty
kind_after_name line (Some n) =
    if n == 0 || not (slice_index line n == colon) then Faulty
    else if slice_index line 0 == hash || slice_index line 0 == hyphen then Faulty
    else Field n

-- A field line is a name, a colon, a value (FieldLines says so, and that no other line is one); a continuation line
-- begins with a blank, and isn't blank.
abbrev pub kind_of : List ℕ → LineKind
kind_of line =
    if is_blank line then Blank
    else if is_blank_byte (slice_index line 0) then Continuation
    else kind_after_name line (position (λ b. not (is_field_name_byte b)) line)

-- a field's name lies within its line
abbrev pub IfName : LineKind → List ℕ → Type 0
IfName (Field n) line = n < length line
IfName Blank line = ⊤
IfName Continuation line = ⊤
IfName Faulty line = ⊤
