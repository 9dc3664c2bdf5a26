-- The answer to `unmet`.
use Rattle.std.specs.Prelude.{ℕ, Bool, List, [], ◌∷◌, ◌++◌, flat_map, nat_eq, codes, if◌then◌else◌}
use Rattle.ctl_relation.specs.declared.field_kind.FieldKind.{FieldKind}
use Rattle.ctl_relation.specs.declared.field_kind.FieldKind.TheVariants.{PreDepends, Depends}
use Rattle.ctl_relation.specs.Met.{met_pairs}
use Rattle.ctl_relation.specs.Parts.{AtomParts}
use Rattle.ctl_relation.specs.Printed.{group_text}
use Rattle.ctl_stanza.specs.Content.{Content, package_of, groups_of}
use Rattle.ctl_index.specs.Offers.{offers_among}
use Rattle.ctl_index.specs.Clauses.{clause_fields}
use Rattle.ctl_policy.specs.Priority.{World}
use Rattle.ctl_query.specs.Packages.{stanzas_of, of_all_rows, version_text}
use Rattle.ctl_filter.specs.Texts.{line}
use Rattle.ctl_query.specs.Texts.{field_label}

-- the four fields whose groups are clauses, or with `-i` the first two
abbrev pub fields_considered : Bool → List FieldKind
fields_considered important = if important then PreDepends ∷ Depends ∷ [] else clause_fields

-- whether no offer meets an atom of the clause
unfoldable pub is_unmet : World → List AtomParts → Bool
is_unmet world clause = nat_eq (met_pairs clause (offers_among (stanzas_of world))) 0

abbrev pub clause_line : FieldKind → List AtomParts → List ℕ
clause_line field clause = line (codes " " ∷ field_label field ∷ codes ": " ∷ group_text clause ∷ [])

abbrev pub line_if_unmet : World → FieldKind → List AtomParts → List ℕ
line_if_unmet world field clause = if is_unmet world clause then clause_line field clause else []

abbrev pub unmet_in_field : World → Content → FieldKind → List ℕ
unmet_in_field world lead field = flat_map (line_if_unmet world field) (groups_of field lead)

-- the clauses of a lead that are not met
unfoldable pub clause_lines : World → Bool → Content → List ℕ
clause_lines world important lead = flat_map (unmet_in_field world lead) (fields_considered important)

abbrev pub unmet_heading : Content → List ℕ
unmet_heading lead = line (codes "Package " ∷ package_of lead ∷ codes " version " ∷ version_text lead ∷ codes " has an unmet dep:" ∷ [])

-- a heading above lines, if there is one
abbrev pub under : List ℕ → List ℕ → List ℕ
under heading [] = []
under heading (b ∷ text) = heading ++ b ∷ text

unfoldable pub unmet_lead : World → Bool → Content → List ℕ
unmet_lead world important lead = under (unmet_heading lead) (clause_lines world important lead)

abbrev pub unmet_text : World → Bool → List ℕ
unmet_text world important = of_all_rows world (unmet_lead world important)
