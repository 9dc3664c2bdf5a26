-- FIELDS: names of fields, parted by commas.
use Rattle.std.specs.Prelude.{ℕ, ◌==◌, ◌||◌, ◌&&◌, Bool, false, not, List, [], ◌∷◌, codes}
use Rattle.std.specs.List.{list_all, slice_split}
use Rattle.ctl_relation.specs.Bytes.{comma, hash, hyphen}
use Rattle.ctl_stanza.specs.Fields.{is_same_name}
use Rattle.ctl_stanza.specs.LineKind.{is_field_name_byte}

-- a name of a field: printable bytes of ASCII but space and colon, the first neither # nor - (Debian Policy 5.1)
abbrev pub is_field_name : List ℕ → Bool
is_field_name [] = false
is_field_name (b ∷ bs) = not (b == hash || b == hyphen) && list_all is_field_name_byte (b ∷ bs)

abbrev pub names_in : List ℕ → List (List ℕ)
names_in text = slice_split (λ b. b == comma) text

abbrev pub are_field_names : List (List ℕ) → Bool
are_field_names names = list_all is_field_name names

unfoldable pub description : List ℕ
description = codes "Description"

-- whether a field is Description
unfoldable pub is_description : List ℕ → Bool
is_description name = is_same_name name description
