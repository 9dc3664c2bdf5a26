-- The answer to `depends`.
use Rattle.std.specs.Prelude.{ℕ, Bool, not, ◌||◌, List, [], ◌∷◌, ◌++◌, map, filter, flat_map, codes, Option, None, if◌then◌else◌}
use Rattle.std.specs.List.{list_any, count_by, sum_by}
use Rattle.std.specs.Option.{option_or, option_map_or}
use Rattle.std.specs.Str.{bytes_eq}
use Rattle.ctl_relation.specs.declared.field_kind.FieldKind.{FieldKind}
use Rattle.ctl_relation.specs.declared.field_kind.FieldKind.TheVariants.{PreDepends, Depends}
use Rattle.ctl_relation.specs.Met.{met}
use Rattle.ctl_relation.specs.Parts.{AtomParts, OfferParts}
use Rattle.ctl_relation.specs.Printed.{qualifier_text}
use Rattle.ctl_stanza.specs.Content.{Content, package_of, groups_of, offers_of}
use Rattle.ctl_store.specs.declared.stanza_key.StanzaKey.{StanzaKey}
use Rattle.ctl_index.specs.Names.{in_order, naming_fields}
use Rattle.ctl_index.specs.Offers.{offers_among}
use Rattle.ctl_policy.specs.Rows.{lead_of}
use Rattle.ctl_policy.specs.Priority.{World}
use Rattle.ctl_policy.specs.Candidate.{candidate_of}
use Rattle.ctl_query.specs.declared.query.DependsOptions.{DependsOptions}
use Rattle.ctl_query.specs.Packages.{is_none_of, stanzas_of, rows_of, has_row, is_installed, stanza_under, told}
use Rattle.ctl_filter.specs.Texts.{line}
use Rattle.ctl_query.specs.Texts.{if_known, field_label}

-- the lead of the first of some rows
abbrev pub first_lead : List (List StanzaKey) → Option StanzaKey
first_lead [] = None
first_lead (row ∷ rows) = lead_of row

-- the candidate's lead, or where there is no candidate that of the newest row
abbrev pub lead_shown : World → List ℕ → Option Content
lead_shown world name = stanza_under world (option_or (candidate_of name world) (first_lead (rows_of world name)))

-- ---- the lines of an atom

-- whether a live stanza has an offer that meets the atom; another has no offers
abbrev pub is_met_by : AtomParts → Content → Bool
is_met_by atom stanza = list_any (met atom) (offers_of stanza)

-- The packages, other than the one of the atom's name, with an offer that meets the atom: in the order of their bytes, each once.
unfoldable pub providers : World → AtomParts → List (List ℕ)
providers world atom =
    in_order (filter (λ name. not (bytes_eq name atom.name)) (map package_of (filter (is_met_by atom) (stanzas_of world))))

-- with `--installed` those of which a row is installed
abbrev pub is_kept : World → Bool → List ℕ → Bool
is_kept world installed name = not installed || is_installed world name

abbrev pub names_kept : World → Bool → List (List ℕ) → List (List ℕ)
names_kept world installed names = filter (is_kept world installed) names

abbrev pub providers_kept : World → Bool → AtomParts → List (List ℕ)
providers_kept world installed atom = names_kept world installed (providers world atom)

-- Whether an atom has lines: with `--installed` it has where a row of its name is installed or a provider is kept.
abbrev pub has_lines : World → Bool → AtomParts → Bool
has_lines world installed atom =
    not installed || (is_installed world atom.name || not (is_none_of (providers_kept world installed atom)))

-- the name with its qualifier
abbrev pub named : AtomParts → List ℕ
named atom = atom.name ++ qualifier_text atom.qualifier

-- in angle brackets where the name has no row
abbrev pub named_shown : Bool → AtomParts → List ℕ
named_shown with_row atom = if with_row then named atom else codes "<" ++ (named atom ++ codes ">")

-- a bar where a further alternative follows
abbrev pub mark : Bool → List ℕ
mark further = if further then codes " |" else codes "  "

abbrev pub atom_line : Bool → FieldKind → Bool → AtomParts → List ℕ
atom_line with_row field further atom = line (mark further ∷ field_label field ∷ codes ": " ∷ named_shown with_row atom ∷ [])

abbrev pub provider_line : List ℕ → List ℕ
provider_line name = line (codes "    " ∷ name ∷ [])

-- the line of an atom, and under it one for each provider
unfoldable pub atom_lines : World → Bool → FieldKind → Bool → AtomParts → List ℕ
atom_lines world installed field further atom =
    if has_lines world installed atom
    then atom_line (has_row world atom.name) field further atom ++ flat_map provider_line (providers_kept world installed atom)
    else []

-- ---- the lines of a name

-- the atoms of a group; a further alternative follows all but the last
unfoldable pub group_lines : World → Bool → FieldKind → List AtomParts → List ℕ
group_lines world installed field [] = []
group_lines world installed field (atom ∷ others) =
    atom_lines world installed field (not (is_none_of others)) atom ++ group_lines world installed field others

unfoldable pub field_lines : World → Bool → Content → FieldKind → List ℕ
field_lines world installed lead field = flat_map (group_lines world installed field) (groups_of field lead)

-- the eight fields, or with `-i` the first two
abbrev pub depends_fields : Bool → List FieldKind
depends_fields important = if important then PreDepends ∷ Depends ∷ [] else naming_fields

unfoldable pub lead_lines : World → DependsOptions → Content → List ℕ
lead_lines world options lead = flat_map (field_lines world options.installed lead) (depends_fields options.important)

unfoldable pub depends_one : World → DependsOptions → List ℕ → List ℕ
depends_one world options name =
    if has_row world name
    then line (name ∷ []) ++ told (lead_lines world options) (lead_shown world name)
    else line (codes "<" ∷ name ∷ codes ">" ∷ [])

abbrev pub depends_text : World → DependsOptions → List (List ℕ) → List ℕ
depends_text world options names = flat_map (if_known world (depends_one world options)) names

-- ---- the tests that it may make

-- how many offers there are of the name of an atom
unfoldable pub atom_pairs : World → AtomParts → ℕ
atom_pairs world atom = count_by (λ (offer : OfferParts). bytes_eq offer.name atom.name) (offers_among (stanzas_of world))

unfoldable pub group_pairs : World → List AtomParts → ℕ
group_pairs world group = sum_by (atom_pairs world) group

unfoldable pub field_pairs : World → Content → FieldKind → ℕ
field_pairs world lead field = sum_by (group_pairs world) (groups_of field lead)

unfoldable pub lead_pairs : World → DependsOptions → Content → ℕ
lead_pairs world options lead = sum_by (field_pairs world lead) (depends_fields options.important)

unfoldable pub one_pairs : World → DependsOptions → List ℕ → ℕ
one_pairs world options name = option_map_or (lead_pairs world options) (lead_shown world name) 0

-- the pairs of an atom of a shown lead and an offer of its name, summed over the words
abbrev pub depends_pairs : World → DependsOptions → List (List ℕ) → ℕ
depends_pairs world options names = sum_by (one_pairs world options) names
