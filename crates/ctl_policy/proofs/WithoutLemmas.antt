-- Names without rows.
use Rattle.std.proofs.Common.{◌≡◌, ℕ, List, [], map, reverse, length, Option, None, Some, refl, ap, sym, ◌∙◌, arith}
use Rattle.std.specs.Option.{option_map_or}
use Rattle.std.specs.FinMap as fin
use Rattle.std.proofs.lemmas.List.{length-reverse, length-map, nil_from_length}
use Rattle.ctl_relation.specs.Version.{triple_of, version_cmp}
use Rattle.ctl_store.specs.declared.stanza_key.StanzaKey.{StanzaKey}
use Rattle.ctl_policy.specs.declared.chosen.Chosen.{Chosen}
use Rattle.ctl_policy.specs.declared.form.Form.TheVariants.{Empty}
use Rattle.ctl_policy.specs.Keys.{or_none}
use Rattle.ctl_policy.specs.Rows.{Rows, Row, rows_named, newest_first, lead_of, lead_at}
use Rattle.ctl_policy.specs.Priority.{World, row_priority}
use Rattle.ctl_policy.specs.Candidate.{best_of, lead_of_choice, version_if_row, wanted_version}
use Rattle.ctl_policy.specs.Chosen.{choice_in, no_choice, if_rows, kept_of}
use Rattle.ctl_policy.proofs.ShownLemmas.{rows_shown}
use Rattle.ctl_policy.proofs.ChoiceLemmas.{some_rows}

pub none_shown : newest_first fin.empty ≡ []
none_shown = sym (rows_shown Empty tt)

abbrev shown : List ℕ × List StanzaKey → Row
shown row = (triple_of row.0, row.1)

no_entries : (es : List (List ℕ × List StanzaKey)) → reverse (map shown es) ≡ [] → es ≡ []
no_entries es e =
    let none : length (reverse (map shown es)) ≡ 0 = ap length e in
    nil_from_length es (omega (arith, none, length-reverse (map shown es), length-map es shown))

abbrev chosen_by : Option StanzaKey → Option StanzaKey → Chosen
chosen_by installed candidate = record { installed = installed; candidate = candidate }

module _ (name : List ℕ) (w : World) where
  abbrev rows : Rows
  rows = rows_named name w.lists

  module _ (e : newest_first rows ≡ []) where
    pub not_kept : kept_of name w ≡ None
    not_kept = ap (λ rs. if_rows rs (choice_in name w)) e

    none_at : (v : List ℕ) → fin.get rows v ≡ None
    none_at v = fin.get-entries rows v ∙ ap (fin.find version_cmp v) (no_entries (fin.entries rows) e)

    not_installed : (wanted : Option (List ℕ)) → option_map_or (lead_at rows) wanted None ≡ None
    not_installed None = refl
    not_installed (Some v) = ap (λ o. lead_of (or_none o)) (none_at v)

    pub not_chosen : choice_in name w ≡ no_choice
    not_chosen =
        let installed = not_installed (wanted_version name w) in
        let candidate = ap (λ rs. lead_of_choice (best_of (row_priority name w) (version_if_row rows (wanted_version name w)) rs)) e in
        λ i. chosen_by (installed i) (candidate i)

  pub is_kept : (newest_first rows ≡ [] → ⊥) → kept_of name w ≡ Some (choice_in name w)
  is_kept h = sym (some_rows (newest_first rows) (choice_in name w) h)
