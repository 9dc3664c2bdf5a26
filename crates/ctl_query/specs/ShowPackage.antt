-- The answer to `showpkg`.
use Rattle.std.specs.Prelude.{ℕ, Bool, false, List, [], ◌∷◌, ◌++◌, flat_map, codes, if◌then◌else◌}
use Rattle.std.specs.Str.{bytes_eq}
use Rattle.ctl_relation.specs.declared.field_kind.FieldKind.{FieldKind}
use Rattle.ctl_relation.specs.Parts.{AtomParts}
use Rattle.ctl_relation.specs.Printed.{atom_text, group_text}
use Rattle.ctl_stanza.specs.Content.{Content, package_of, groups_of, provides_of}
use Rattle.ctl_store.specs.declared.stanza_key.StanzaKey.{StanzaKey}
use Rattle.ctl_index.specs.Names.{naming_fields}
use Rattle.ctl_policy.specs.Rows.{sources_of}
use Rattle.ctl_policy.specs.Priority.{World}
use Rattle.ctl_query.specs.Packages.{rows_of, of_rows, of_all_rows, version_text}
use Rattle.ctl_query.specs.Policy.{row_version}
use Rattle.ctl_filter.specs.Texts.{joined, line}
use Rattle.ctl_query.specs.Texts.{if_known, field_label}

-- ---- its versions

abbrev pub source_mark : List ℕ → List ℕ
source_mark list = joined (codes " (" ∷ list ∷ codes ")" ∷ [])

-- a row with the lists that hold it
abbrev pub version_line : World → List StanzaKey → List ℕ
version_line world row = line (row_version world row ∷ flat_map source_mark (sources_of row world.lists) ∷ [])

-- ---- who names it

-- what stands before a relation or an entry of another package: the package and its version
abbrev pub asker : Content → List ℕ
asker lead = joined (codes "  " ∷ package_of lead ∷ codes " " ∷ version_text lead ∷ [])

-- what stands between a version and a relation: the field
abbrev pub label : FieldKind → List ℕ
label field = joined (codes " " ∷ field_label field ∷ codes ": " ∷ [])

abbrev pub naming_line : Content → FieldKind → AtomParts → List ℕ
naming_line lead field atom = line (asker lead ∷ label field ∷ atom_text atom ∷ [])

abbrev pub line_if_naming : List ℕ → Content → FieldKind → AtomParts → List ℕ
line_if_naming name lead field atom = if bytes_eq atom.name name then naming_line lead field atom else []

abbrev pub naming_in : List ℕ → Content → FieldKind → List ℕ
naming_in name lead field = flat_map (flat_map (line_if_naming name lead field)) (groups_of field lead)

-- the atoms of the eight fields of a lead that name it
unfoldable pub naming_lines : List ℕ → Content → List ℕ
naming_lines name lead = flat_map (naming_in name lead) naming_fields

-- ---- what it names

abbrev pub relation_line : Content → FieldKind → List AtomParts → List ℕ
relation_line lead field group = line (version_text lead ∷ label field ∷ group_text group ∷ [])

abbrev pub relations_in : Content → FieldKind → List ℕ
relations_in lead field = flat_map (relation_line lead field) (groups_of field lead)

-- the groups of the eight fields of a lead
unfoldable pub relation_lines : Content → List ℕ
relation_lines lead = flat_map (relations_in lead) naming_fields

-- ---- what is provided; an entry of Provides is a group of one atom

abbrev pub entry_line : Content → List AtomParts → List ℕ
entry_line lead entry = line (version_text lead ∷ codes " " ∷ group_text entry ∷ [])

unfoldable pub entry_lines : Content → List ℕ
entry_lines lead = flat_map (entry_line lead) (provides_of lead)

-- whether an entry has the name
abbrev pub has_name : List ℕ → List AtomParts → Bool
has_name name [] = false
has_name name (atom ∷ others) = bytes_eq atom.name name

abbrev pub providing_line : Content → List AtomParts → List ℕ
providing_line lead entry = line (asker lead ∷ codes " " ∷ group_text entry ∷ [])

abbrev pub line_if_providing : List ℕ → Content → List AtomParts → List ℕ
line_if_providing name lead entry = if has_name name entry then providing_line lead entry else []

-- the entries of a lead with the name
unfoldable pub providing_lines : List ℕ → Content → List ℕ
providing_lines name lead = flat_map (line_if_providing name lead) (provides_of lead)

-- ---- all of it

unfoldable pub show_package_one : World → List ℕ → List ℕ
show_package_one world name =
    line (codes "Package: " ∷ name ∷ [])
    ++ (line (codes "Versions:" ∷ []) ++ (flat_map (version_line world) (rows_of world name) ++ (line []
    ++ (line (codes "Reverse Depends:" ∷ []) ++ (of_all_rows world (naming_lines name)
    ++ (line (codes "Dependencies:" ∷ []) ++ (of_rows world relation_lines name
    ++ (line (codes "Provides:" ∷ []) ++ (of_rows world entry_lines name
    ++ (line (codes "Reverse Provides:" ∷ []) ++ of_all_rows world (providing_lines name)))))))))))

abbrev pub show_package_text : World → List (List ℕ) → List ℕ
show_package_text world names = flat_map (if_known world (show_package_one world)) names
