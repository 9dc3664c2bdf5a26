-- What a field line is (deb822(5)): a name, a colon, blanks, a value, blanks.
use Rattle.std.specs.Prelude.{◌≡◌, ◌≢◌, ◌<◌, ℕ, true, false, List, [], ◌∷◌, ◌++◌, length, take}
use Rattle.std.specs.List.{list_all}
use Rattle.ctl_relation.specs.Bytes.{colon, hash, hyphen}
use Rattle.ctl_stanza.specs.declared.line_kind.LineKind.TheVariants.{Field}
use Rattle.ctl_stanza.specs.Lines.{is_blank_byte}
use Rattle.ctl_stanza.specs.LineKind.{is_field_name_byte, kind_of}
use Rattle.ctl_stanza.specs.Fields.{value_of}

-- A name has one or more of the bytes of names, and begins neither with # nor with -.
pub record IsFieldName (name : List ℕ) : Type 0 where
  pub some : 0 < length name
  pub bytes : list_all is_field_name_byte name ≡ true
  pub begins : (b : ℕ) (rest : List ℕ) → name ≡ b ∷ rest → (b ≢ hash) × (b ≢ hyphen)

-- A value neither begins nor ends with a blank; it can be empty.
pub record IsValue (value : List ℕ) : Type 0 where
  pub begins : (b : ℕ) (rest : List ℕ) → value ≡ b ∷ rest → is_blank_byte b ≡ false
  pub ends : (rest : List ℕ) (b : ℕ) → value ≡ rest ++ b ∷ [] → is_blank_byte b ≡ false

-- spaces and tabs, or nothing
abbrev pub AreBlanks : List ℕ → Type 0
AreBlanks text = list_all is_blank_byte text ≡ true

-- a line is a name, a colon, blanks, a value, blanks
pub record IsFieldLine (line name value : List ℕ) : Type 0 where
  pub before : List ℕ
  pub behind : List ℕ
  pub is_name : IsFieldName name
  pub blanks_before : AreBlanks before
  pub is_value : IsValue value
  pub blanks_behind : AreBlanks behind
  pub joined : line ≡ name ++ colon ∷ (before ++ (value ++ behind))

-- A line that is taken for a field line is one, with the name and the value that are taken from it.
abbrev pub FieldLinesAreTaken : Type 0
FieldLinesAreTaken = (line : List ℕ) (n : ℕ) → kind_of line ≡ Field n → IsFieldLine line (take n line) (value_of n line)

-- a line is taken for a field line of this name and this value
pub record IsTakenAs (line name value : List ℕ) : Type 0 where
  pub kind : kind_of line ≡ Field (length name)
  pub name_is : take (length name) line ≡ name
  pub value_is : value_of (length name) line ≡ value

-- Each field line is taken for one, with its name and its value: it has no other.
abbrev pub FieldLinesAreKnown : Type 0
FieldLinesAreKnown = (line name value : List ℕ) → IsFieldLine line name value → IsTakenAs line name value
