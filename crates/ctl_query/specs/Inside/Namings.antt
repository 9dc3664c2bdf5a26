-- Who names a name, told atom by atom of the leads.
use Rattle.std.specs.Prelude.{ℕ, Bool, not, ◌&&◌, ◌+◌, nat_lt, List, [], ◌∷◌, ◌++◌}
use Rattle.std.specs.Prelude.{length, Option, None, Some, option_map, slice_get, if◌then◌else◌}
use Rattle.std.specs.Borrow.{Bor}
use Rattle.std.specs.Option.{option_map_or, option_and_then, option_to_list}
use Rattle.std.specs.Str.{bytes_eq}
use Rattle.ctl_relation.specs.Parts.{AtomParts}
use Rattle.ctl_stanza.specs.Content.{Content, package_of, groups_of}
use Rattle.ctl_store.specs.Entries.{Entry}
use Rattle.ctl_policy.specs.Priority.{World}
use Rattle.ctl_query.specs.declared.lead_atoms.LeadAtom.{LeadAtom}
use Rattle.ctl_query.specs.Packages.{is_installed}
use Rattle.ctl_filter.specs.Texts.{line}
use Rattle.ctl_query.specs.Depends.{mark}

-- a package that names a name, and whether a further alternative follows each of its atoms that do
abbrev pub Naming : Type 0
Naming = List ℕ × Bool

abbrev pub lent_naming : Bor (List ℕ) × Bool → Naming
lent_naming naming = (naming.0.now, naming.1)

-- ---- by an atom of a lead

-- whether a further alternative follows it in its group
abbrev pub further_at : LeadAtom → Content → Option Bool
further_at a lead = option_map (λ (group : List AtomParts). nat_lt (a.atom + 1) (length group)) (slice_get (groups_of a.field lead) a.group)

-- the package of the lead with that
abbrev pub naming_in : LeadAtom → Content → Option Naming
naming_in a lead = option_map (λ further. (package_of lead, further)) (further_at a lead)

abbrev pub naming_at : List Entry → LeadAtom → Option Naming
naming_at leads a = option_and_then (λ (e : Entry). naming_in a e.1) (slice_get leads a.place)

abbrev pub namings_at : List Entry → LeadAtom → List Naming
namings_at leads a = option_to_list (naming_at leads a)

-- ---- one behind another, those of a package together

-- the line of a package, with `--installed` of one of which a row is installed
abbrev pub line_of : World → Bool → Naming → List ℕ
line_of world installed naming = if installed && not (is_installed world naming.0) then [] else line (mark naming.1 ∷ naming.0 ∷ [])

-- one more: of the same package as what was found before, or of another one
abbrev pub joined_naming : Option Naming → Naming → Naming
joined_naming None naming = naming
joined_naming (Some found) naming = if bytes_eq found.0 naming.0 then (found.0, found.1 && naming.1) else naming

-- the line of what was found before, where one of another package follows
abbrev pub closed_line : World → Bool → Option Naming → Naming → List ℕ
closed_line world installed None naming = []
closed_line world installed (Some found) naming = if bytes_eq found.0 naming.0 then [] else line_of world installed found

-- the lines of what was found before and of those that follow
unfoldable pub lines_behind : World → Bool → Option Naming → List Naming → List ℕ
lines_behind world installed found [] = option_map_or (line_of world installed) found []
lines_behind world installed found (naming ∷ namings) =
    closed_line world installed found naming ++ lines_behind world installed (Some (joined_naming found naming)) namings
