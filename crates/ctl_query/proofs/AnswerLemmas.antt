-- Each answer is the same where the keys of the stanzas alone differ.
use Rattle.std.proofs.Common.{◌≡◌, ◌∙◌, ℕ, Bool, true, false, cond, not, ◌&&◌, ◌||◌, List, [], ◌∷◌, ◌++◌, map, filter, flat_map, codes, nat_eq, pos, Option, None, Some, option_map, unwrap_or, refl, ap}
use Rattle.std.specs.List.{list_any}
use Rattle.std.specs.Option.{option_or, option_map_or}
use Rattle.std.specs.Str.{bytes_eq}
use Rattle.std.specs.Fmt.{signed_decimal}
use Rattle.ctl_relation.specs.declared.field_kind.FieldKind.{FieldKind}
use Rattle.ctl_relation.specs.Met.{met_pairs}
use Rattle.ctl_relation.specs.Parts.{AtomParts}
use Rattle.ctl_stanza.specs.Content.{Content, package_of, groups_of}
use Rattle.ctl_store.specs.declared.stanza_key.StanzaKey.{StanzaKey}
use Rattle.ctl_store.specs.Entries.{stanzas_in_order}
use Rattle.ctl_index.specs.Names.{in_order, known_names}
use Rattle.ctl_index.specs.Offers.{offers_among}
use Rattle.ctl_policy.specs.Rows.{Lists, keys_of_row, newest_first, rows_named, lead_of, lead_at, version_under}
use Rattle.ctl_policy.specs.Priority.{World}
use Rattle.ctl_policy.specs.Candidate.{installed_of, candidate_of}
use Rattle.ctl_filter.specs.Grep.{filter_text}
use Rattle.ctl_query.specs.declared.query.DependsOptions.{DependsOptions}
use Rattle.ctl_query.specs.Packages.{is_none_of, stanzas_of, names_known, is_known, rows_of, has_row, packages_of, is_installed, stanza_under, lead_in, told, told_of_row, of_rows, of_all_rows}
use Rattle.ctl_filter.specs.Texts.{line}
use Rattle.ctl_query.specs.Texts.{if_known, unknown_line, right_four}
use Rattle.ctl_query.specs.PackageNames.{package_names_text, name_line, begins_with}
use Rattle.ctl_query.specs.Show.{AskedRow, lead_text, not_found_line, version_shown, rows_shown, show_text}
use Rattle.ctl_query.specs.Policy.{priority_of, row_version, version_or_none, are_equal, are_of_one_row, row_mark, row_lines, policy_one, line_if_pinned, pinned_lines, policy_of_all}
use Rattle.ctl_query.specs.Depends.{first_lead, lead_shown, providers, is_met_by, providers_kept, atom_line, provider_line, atom_lines, group_lines, field_lines, depends_fields, lead_lines, depends_one}
use Rattle.ctl_query.specs.ReverseDepends.{naming_in_lead, naming, asker_line, asking_line, reverse_depends_one}
use Rattle.ctl_query.specs.Unmet.{is_unmet, clause_line, clause_lines, fields_considered, under, unmet_heading, unmet_lead, unmet_text}
use Rattle.ctl_query.specs.ShowPackage.{source_mark, version_line, naming_lines, relation_lines, entry_lines, providing_lines, show_package_one}
use Rattle.ctl_query.specs.Query.{Query, PackageNames, Show, Depends, ReverseDepends, Unmet, Policy, ShowPackage, Filter}
use Rattle.ctl_query.specs.Answer.{policy_answer, answer_text}
use Rattle.ctl_query.proofs.ClassLemmas.{AreClasses}
use Rattle.ctl_query.proofs.TwinLemmas as twin
use Rattle.ctl_query.proofs.TwinLemmas.{IsMoved, AreShown}

-- what is told of each under its other key is what is told of each
each_moved : {A B : Type 0} (g : A → A) (p q : A → List B) → ((x : A) → q (g x) ≡ p x) → (xs : List A) → flat_map q (map g xs) ≡ flat_map p xs
each_moved g p q h [] = refl
each_moved g p q h (x ∷ xs) = λ i. h x i ++ each_moved g p q h xs i

module _ (classes : AreClasses) (shown : AreShown) (f : StanzaKey → StanzaKey) (w : World) (ls : Lists) (m : IsMoved f w.lists ls) where
  abbrev u : World
  u = record w { lists = ls }

  -- ---- names and rows

  same_stanzas : stanzas_of u ≡ stanzas_of w
  same_stanzas = ap stanzas_in_order m.lists

  same_known_names : names_known u ≡ names_known w
  same_known_names = ap known_names same_stanzas

  same_is_known : (name : List ℕ) → is_known u name ≡ is_known w name
  unfolding is_known
  same_is_known name = ap (λ names. list_any (bytes_eq name) names) same_known_names

  same_has_row : (name : List ℕ) → has_row u name ≡ has_row w name
  same_has_row = twin.same_any_row classes shown f w ls m

  same_packages : packages_of u ≡ packages_of w
  unfolding packages_of
  same_packages = λ i. filter (λ name. same_has_row name i) (same_known_names i)

  rows_moved : (name : List ℕ) → rows_of u name ≡ map (map f) (rows_of w name)
  unfolding rows_of
  rows_moved name = ap (map keys_of_row) (twin.newest_moved classes shown f w ls m name) ∙ twin.keys_moved f (newest_first (rows_named name w.lists))

  same_is_installed : (name : List ℕ) → is_installed u name ≡ is_installed w name
  same_is_installed = twin.same_is_installed classes shown f w ls m

  same_under : (key : Option StanzaKey) → stanza_under u (option_map f key) ≡ stanza_under w key
  same_under None = refl
  same_under (Some key) = m.stanza key

  same_lead : (row : List StanzaKey) → lead_in u (map f row) ≡ lead_in w row
  same_lead row = ap (stanza_under u) (twin.lead_moved f row) ∙ same_under (lead_of row)

  same_of_rows : {A : Type 0} (text : Content → List A) (name : List ℕ) → of_rows u text name ≡ of_rows w text name
  same_of_rows text name =
      ap (flat_map (told_of_row u text)) (rows_moved name) ∙ each_moved (map f) (told_of_row w text) (told_of_row u text) (λ row. ap (told text) (same_lead row)) (rows_of w name)

  same_of_all_rows : (text : Content → List ℕ) → of_all_rows u text ≡ of_all_rows w text
  same_of_all_rows text = λ i. flat_map (λ name. same_of_rows text name i) (same_packages i)

  -- an answer on names that is the same on each known one
  same_of_names : (p q : List ℕ → List ℕ) → ((name : List ℕ) → q name ≡ p name) → (names : List (List ℕ)) → flat_map (if_known u q) names ≡ flat_map (if_known w p) names
  same_of_names p q h names = λ i. flat_map (λ name. cond (same_is_known name i) (h name i) (unknown_line name)) names

  -- ---- pkgnames

  same_package_names : (all : Bool) (prefix : List ℕ) → package_names_text u all prefix ≡ package_names_text w all prefix
  same_package_names all prefix = λ i. flat_map name_line (filter (begins_with prefix) (cond all (same_known_names i) (same_packages i)))

  -- ---- show

  same_version_shown : (name version : List ℕ) → version_shown u name version ≡ version_shown w name version
  same_version_shown name version =
      ap (λ (lead : Option Content). option_map_or lead_text lead (not_found_line name version))
      (ap (stanza_under u) (twin.lead_moved_at classes shown f w ls m name version) ∙ same_under (lead_at (rows_named name w.lists) version))

  same_rows_shown : (all : Bool) (name : List ℕ) (version : Option (List ℕ)) → rows_shown u all name version ≡ rows_shown w all name version
  same_rows_shown all name (Some version) = same_version_shown name version
  same_rows_shown true name None = same_of_rows lead_text name
  same_rows_shown false name None = ap (told lead_text) (ap (stanza_under u) (twin.candidate_moved classes shown f w ls m name) ∙ same_under (candidate_of name w))

  same_show : (all : Bool) (asked : List AskedRow) → show_text u all asked ≡ show_text w all asked
  same_show all asked = λ i. flat_map (λ (row : AskedRow). cond (same_has_row row.name i) (same_rows_shown all row.name row.version i) (unknown_line row.name)) asked

  -- ---- policy

  same_row_version : (row : List StanzaKey) → row_version u (map f row) ≡ row_version w row
  same_row_version row = ap (λ (v : Option (List ℕ)). unwrap_or v []) (ap (version_under ls) (twin.lead_moved f row) ∙ twin.same_version_under classes shown f w ls m (lead_of row))

  same_version_or_none : (key : Option StanzaKey) → version_or_none u (option_map f key) ≡ version_or_none w key
  same_version_or_none key = ap (λ (v : Option (List ℕ)). unwrap_or v (codes "(none)")) (twin.same_version_under classes shown f w ls m key)

  same_one_row : (key : Option StanzaKey) (row : List StanzaKey) → are_of_one_row u (option_map f key) (lead_of (map f row)) ≡ are_of_one_row w key (lead_of row)
  same_one_row key row = λ i. are_equal (twin.same_version_under classes shown f w ls m key i) ((ap (version_under ls) (twin.lead_moved f row) ∙ twin.same_version_under classes shown f w ls m (lead_of row)) i)

  same_priority_of : (list : List ℕ) → priority_of u list ≡ priority_of w list
  same_priority_of list = ap (λ p. unwrap_or p (pos 0)) (twin.same_list_priority classes shown f w ls m list)

  same_row_lines : (installed : Option StanzaKey) (name : List ℕ) (row : List StanzaKey) → row_lines u (option_map f installed) name (map f row) ≡ row_lines w installed name row
  unfolding row_lines
  same_row_lines installed name row = λ i.
      line (row_mark (same_one_row installed row i) ∷ same_row_version row i ∷ codes " " ∷ signed_decimal (twin.same_row_priority classes shown f w ls m name row i) ∷ [])
      ++ flat_map (λ list. line (codes "       " ∷ right_four (same_priority_of list i) ∷ codes " " ∷ list ∷ [])) (twin.same_sources classes shown f w ls m row i)

  same_table : (installed : Option StanzaKey) (name : List ℕ) → flat_map (row_lines u (option_map f installed) name) (rows_of u name) ≡ flat_map (row_lines w installed name) (rows_of w name)
  same_table installed name =
      ap (flat_map (row_lines u (option_map f installed) name)) (rows_moved name)
      ∙ each_moved (map f) (row_lines w installed name) (row_lines u (option_map f installed) name) (same_row_lines installed name) (rows_of w name)

  same_policy_one : (name : List ℕ) → policy_one u name ≡ policy_one w name
  unfolding policy_one
  same_policy_one name = λ i.
      line (name ∷ codes ":" ∷ [])
      ++ (line (codes "  Installed: " ∷ (ap (version_or_none u) (twin.installed_moved classes shown f w ls m name) ∙ same_version_or_none (installed_of name w)) i ∷ [])
      ++ (line (codes "  Candidate: " ∷ (ap (version_or_none u) (twin.candidate_moved classes shown f w ls m name) ∙ same_version_or_none (candidate_of name w)) i ∷ [])
      ++ (line (codes "  Version table:" ∷ [])
      ++ (ap (λ installed. flat_map (row_lines u installed name) (rows_of u name)) (twin.installed_moved classes shown f w ls m name) ∙ same_table (installed_of name w) name) i)))

  same_pin_line : (name : List ℕ) (row : List StanzaKey) → line_if_pinned u name (map f row) ≡ line_if_pinned w name row
  same_pin_line name row = λ i.
      option_map_or (λ priority. line (codes "     " ∷ name ∷ codes " -> " ∷ same_row_version row i ∷ codes " with priority " ∷ signed_decimal priority ∷ []))
      (twin.same_specific_pin classes shown f w ls m name row w.pins i) []

  same_pinned_lines : (name : List ℕ) → pinned_lines u name ≡ pinned_lines w name
  unfolding pinned_lines
  same_pinned_lines name = ap (flat_map (line_if_pinned u name)) (rows_moved name) ∙ each_moved (map f) (line_if_pinned w name) (line_if_pinned u name) (same_pin_line name) (rows_of w name)

  same_policy_of_all : policy_of_all u ≡ policy_of_all w
  unfolding policy_of_all
  same_policy_of_all = λ i.
      line (codes "Package files:" ∷ [])
      ++ (flat_map (λ list. line (right_four (same_priority_of list i) ∷ codes " " ∷ list ∷ [])) (twin.same_names classes shown f w ls m i)
      ++ (line (codes "Pinned packages:" ∷ [])
      ++ flat_map (λ name. same_pinned_lines name i) (same_packages i)))

  same_policy : (names : List (List ℕ)) → policy_answer u names ≡ policy_answer w names
  same_policy [] = same_policy_of_all
  same_policy (name ∷ names) = same_of_names (policy_one w) (policy_one u) same_policy_one (name ∷ names)

  -- ---- depends

  first_lead_moved : (rows : List (List StanzaKey)) → first_lead (map (map f) rows) ≡ option_map f (first_lead rows)
  first_lead_moved [] = refl
  first_lead_moved (row ∷ rows) = twin.lead_moved f row

  either_moved : (first second : Option StanzaKey) → option_or (option_map f first) (option_map f second) ≡ option_map f (option_or first second)
  either_moved None second = refl
  either_moved (Some key) second = refl

  same_lead_shown : (name : List ℕ) → lead_shown u name ≡ lead_shown w name
  same_lead_shown name =
      (λ i. stanza_under u (option_or (twin.candidate_moved classes shown f w ls m name i) ((ap first_lead (rows_moved name) ∙ first_lead_moved (rows_of w name)) i)))
      ∙ ap (stanza_under u) (either_moved (candidate_of name w) (first_lead (rows_of w name))) ∙ same_under (option_or (candidate_of name w) (first_lead (rows_of w name)))

  same_providers : (atom : AtomParts) → providers u atom ≡ providers w atom
  unfolding providers
  same_providers atom = ap (λ stanzas. in_order (filter (λ name. not (bytes_eq name atom.name)) (map package_of (filter (is_met_by atom) stanzas)))) same_stanzas

  same_kept : (installed : Bool) (atom : AtomParts) → providers_kept u installed atom ≡ providers_kept w installed atom
  same_kept installed atom = λ i. filter (λ name. not installed || same_is_installed name i) (same_providers atom i)

  same_atom_lines : (installed : Bool) (field : FieldKind) (further : Bool) (atom : AtomParts) → atom_lines u installed field further atom ≡ atom_lines w installed field further atom
  unfolding atom_lines
  same_atom_lines installed field further atom = λ i.
      cond (not installed || (same_is_installed atom.name i || not (is_none_of (same_kept installed atom i))))
      (atom_line (same_has_row atom.name i) field further atom ++ flat_map provider_line (same_kept installed atom i)) []

  same_group_lines : (installed : Bool) (field : FieldKind) (group : List AtomParts) → group_lines u installed field group ≡ group_lines w installed field group
  unfolding group_lines
  same_group_lines installed field [] = refl
  same_group_lines installed field (atom ∷ others) = λ i. same_atom_lines installed field (not (is_none_of others)) atom i ++ same_group_lines installed field others i

  same_field_lines : (installed : Bool) (lead : Content) (field : FieldKind) → field_lines u installed lead field ≡ field_lines w installed lead field
  unfolding field_lines
  same_field_lines installed lead field = λ i. flat_map (λ group. same_group_lines installed field group i) (groups_of field lead)

  same_lead_lines : (options : DependsOptions) (lead : Content) → lead_lines u options lead ≡ lead_lines w options lead
  unfolding lead_lines
  same_lead_lines options lead = λ i. flat_map (λ field. same_field_lines options.installed lead field i) (depends_fields options.important)

  same_depends_one : (options : DependsOptions) (name : List ℕ) → depends_one u options name ≡ depends_one w options name
  unfolding depends_one
  same_depends_one options name = λ i.
      cond (same_has_row name i) (line (name ∷ []) ++ told (λ lead. same_lead_lines options lead i) (same_lead_shown name i)) (line (codes "<" ∷ name ∷ codes ">" ∷ []))

  -- ---- rdepends

  same_asking : (installed : Bool) (name asker : List ℕ) → asking_line u installed name asker ≡ asking_line w installed name asker
  unfolding asking_line naming
  same_asking installed name asker = λ i. cond (installed && not (same_is_installed asker i)) [] (asker_line asker (same_of_rows (naming_in_lead name) asker i))

  same_reverse_depends_one : (installed : Bool) (name : List ℕ) → reverse_depends_one u installed name ≡ reverse_depends_one w installed name
  unfolding reverse_depends_one
  same_reverse_depends_one installed name = λ i.
      line (name ∷ []) ++ (line (codes "Reverse Depends:" ∷ []) ++ flat_map (λ asker. same_asking installed name asker i) (same_packages i))

  -- ---- unmet

  same_is_unmet : (clause : List AtomParts) → is_unmet u clause ≡ is_unmet w clause
  unfolding is_unmet
  same_is_unmet clause = ap (λ stanzas. nat_eq (met_pairs clause (offers_among stanzas)) 0) same_stanzas

  same_clause_lines : (important : Bool) (lead : Content) → clause_lines u important lead ≡ clause_lines w important lead
  unfolding clause_lines
  same_clause_lines important lead = λ i. flat_map (λ field. flat_map (λ clause. cond (same_is_unmet clause i) (clause_line field clause) []) (groups_of field lead)) (fields_considered important)

  same_unmet_lead : (important : Bool) (lead : Content) → unmet_lead u important lead ≡ unmet_lead w important lead
  unfolding unmet_lead
  same_unmet_lead important lead = ap (under (unmet_heading lead)) (same_clause_lines important lead)

  same_unmet : (important : Bool) → unmet_text u important ≡ unmet_text w important
  same_unmet important = (λ i. of_all_rows u (λ lead. same_unmet_lead important lead i)) ∙ same_of_all_rows (unmet_lead w important)

  -- ---- showpkg

  same_version_lines : (name : List ℕ) → flat_map (version_line u) (rows_of u name) ≡ flat_map (version_line w) (rows_of w name)
  same_version_lines name =
      ap (flat_map (version_line u)) (rows_moved name)
      ∙ each_moved (map f) (version_line w) (version_line u)
      (λ row i. line (same_row_version row i ∷ flat_map source_mark (twin.same_sources classes shown f w ls m row i) ∷ [])) (rows_of w name)

  same_show_package_one : (name : List ℕ) → show_package_one u name ≡ show_package_one w name
  unfolding show_package_one
  same_show_package_one name = λ i.
      line (codes "Package: " ∷ name ∷ [])
      ++ (line (codes "Versions:" ∷ []) ++ (same_version_lines name i ++ (line []
      ++ (line (codes "Reverse Depends:" ∷ []) ++ (same_of_all_rows (naming_lines name) i
      ++ (line (codes "Dependencies:" ∷ []) ++ (same_of_rows relation_lines name i
      ++ (line (codes "Provides:" ∷ []) ++ (same_of_rows entry_lines name i
      ++ (line (codes "Reverse Provides:" ∷ []) ++ same_of_all_rows (providing_lines name) i))))))))))

  -- ---- all

  pub same_answer : (query : Query) → answer_text u query ≡ answer_text w query
  same_answer (PackageNames all prefix) = same_package_names all prefix
  same_answer (Show all asked) = same_show all asked
  same_answer (Depends options names) = same_of_names (depends_one w options) (depends_one u options) (same_depends_one options) names
  same_answer (ReverseDepends installed names) = same_of_names (reverse_depends_one w installed) (reverse_depends_one u installed) (same_reverse_depends_one installed) names
  same_answer (Unmet important) = same_unmet important
  same_answer (Policy names) = same_policy names
  same_answer (ShowPackage names) = same_of_names (show_package_one w) (show_package_one u) same_show_package_one names
  same_answer (Filter asked) = ap (λ stanzas. filter_text stanzas asked) same_stanzas
