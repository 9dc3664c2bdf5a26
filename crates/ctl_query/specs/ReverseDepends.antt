-- The answer to `rdepends`.
use Rattle.std.specs.Prelude.{ℕ, Bool, not, ◌&&◌, List, [], ◌∷◌, ◌++◌, flat_map, codes, if◌then◌else◌}
use Rattle.std.specs.List.{list_all}
use Rattle.std.specs.Str.{bytes_eq}
use Rattle.ctl_relation.specs.declared.field_kind.FieldKind.{FieldKind}
use Rattle.ctl_relation.specs.Parts.{AtomParts}
use Rattle.ctl_stanza.specs.Content.{Content, groups_of}
use Rattle.ctl_index.specs.Names.{naming_fields}
use Rattle.ctl_policy.specs.Priority.{World}
use Rattle.ctl_query.specs.Packages.{is_none_of, packages_of, is_installed, of_rows}
use Rattle.ctl_filter.specs.Texts.{line}
use Rattle.ctl_query.specs.Texts.{if_known}
use Rattle.ctl_query.specs.Depends.{mark}

-- for each atom of a group with the name: whether a further alternative follows it
unfoldable pub naming_in_group : List ℕ → List AtomParts → List Bool
naming_in_group name [] = []
naming_in_group name (atom ∷ others) =
    if bytes_eq atom.name name then not (is_none_of others) ∷ naming_in_group name others else naming_in_group name others

abbrev pub naming_in_field : List ℕ → Content → FieldKind → List Bool
naming_in_field name lead field = flat_map (naming_in_group name) (groups_of field lead)

-- the same of the atoms of the eight fields of a lead
unfoldable pub naming_in_lead : List ℕ → Content → List Bool
naming_in_lead name lead = flat_map (naming_in_field name lead) naming_fields

-- and of those of all leads of a package
unfoldable pub naming : World → List ℕ → List ℕ → List Bool
naming world name asker = of_rows world (naming_in_lead name) asker

-- nothing where no atom names it; a bar where each such atom has a further alternative
abbrev pub asker_line : List ℕ → List Bool → List ℕ
asker_line asker [] = []
asker_line asker (further ∷ others) = line (mark (list_all (λ b. b) (further ∷ others)) ∷ asker ∷ [])

-- with `--installed` only packages of which a row is installed
unfoldable pub asking_line : World → Bool → List ℕ → List ℕ → List ℕ
asking_line world installed name asker =
    if installed && not (is_installed world asker) then [] else asker_line asker (naming world name asker)

unfoldable pub reverse_depends_one : World → Bool → List ℕ → List ℕ
reverse_depends_one world installed name =
    line (name ∷ [])
    ++ (line (codes "Reverse Depends:" ∷ [])
    ++ flat_map (asking_line world installed name) (packages_of world))

abbrev pub reverse_depends_text : World → Bool → List (List ℕ) → List ℕ
reverse_depends_text world installed names = flat_map (if_known world (reverse_depends_one world installed)) names
