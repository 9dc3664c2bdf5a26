-- The choice among the rows that are held is that among the rows of the definition.
use Rattle.std.proofs.Common.{◌≡◌, ℕ, List, [], ◌∷◌, Option, None, Some, option_map, refl, ap, sym, ◌∙◌}
use Rattle.std.specs.Option.{option_map_or}
use Rattle.std.specs.FinMap as fin
use Rattle.ctl_relation.specs.Version.{Triple, triple_of}
use Rattle.ctl_store.specs.declared.stanza_key.StanzaKey.{StanzaKey}
use Rattle.ctl_policy.specs.Keys.{or_none}
use Rattle.ctl_policy.specs.declared.chosen.Chosen.{Chosen}
use Rattle.ctl_policy.specs.Rows.{Rows, Row, rows_named, newest_first, lead_of, lead_at}
use Rattle.ctl_policy.specs.Chosen.{if_rows}
use Rattle.ctl_policy.specs.Priority.{World, row_priority}
use Rattle.ctl_policy.specs.Candidate.{best_of, version_if_row, wanted_version, choice_of}
use Rattle.ctl_policy.specs.declared.form.Form.{Form}
use Rattle.ctl_policy.specs.Inside.HeldRows.{rows_of_form, IsFormOf, lead_in, version_in_form}
use Rattle.ctl_policy.proofs.ShownLemmas.{shown_as, shown_get, sorted, find_is}

pub installed_is : (form : Form) (rows : Rows) (wanted : Option (List ℕ)) → IsFormOf form rows → lead_in form wanted ≡ option_map_or (lead_at rows) wanted None
installed_is form rows None h = refl
installed_is form rows (Some v) h = ap (λ o. lead_of (or_none o)) (h v)

there_is : (form : Form) (rows : Rows) (wanted : Option (List ℕ)) → IsFormOf form rows → version_in_form form wanted ≡ version_if_row rows wanted
there_is form rows None h = refl
there_is form rows (Some v) h = ap (option_map (λ (keys : List StanzaKey). triple_of v)) (h v)

-- rows that answer alike are shown alike
pub shown_alike : (rows others : Rows) → ((v : List ℕ) → fin.get rows v ≡ fin.get others v) → newest_first rows ≡ newest_first others
shown_alike rows others h = shown_as (fin.entries rows) others (sorted (fin.entries rows) (fin.entries_sorted rows)) (λ q. find_is q (fin.entries rows) ∙ sym (fin.get-entries rows q) ∙ h q)

pub choice_is : (name : List ℕ) (w : World) (form : Form) (wanted : Option (List ℕ)) (installed : Option Triple)
    → IsFormOf form (rows_named name w.lists) → wanted ≡ wanted_version name w → installed ≡ version_in_form form wanted
    → best_of (row_priority name w) installed (newest_first (rows_of_form form)) ≡ choice_of name w
choice_is name w form wanted installed rows want there =
    let shown = shown_alike (rows_of_form form) (rows_named name w.lists) (λ v. shown_get form v ∙ rows v) in
    let version = there ∙ there_is form (rows_named name w.lists) wanted rows ∙ ap (version_if_row (rows_named name w.lists)) want in
    λ i. best_of (row_priority name w) (version i) (shown i)

pub form_of : (form : Form) (rows others : Rows) → rows_of_form form ≡ rows → ((v : List ℕ) → fin.get rows v ≡ fin.get others v) → IsFormOf form others
form_of form rows others is h v = sym (shown_get form v) ∙ ap (λ (r : Rows). fin.get r v) is ∙ h v

-- ---- names with rows and without

pub no_rows : (rows : List Row) (c : Chosen) → rows ≡ [] → None ≡ if_rows rows c
no_rows rows c e = ap (λ r. if_rows r c) (sym e)

pub some_rows : (rows : List Row) (c : Chosen) → (rows ≡ [] → ⊥) → Some c ≡ if_rows rows c
some_rows [] c h = absurd (h refl)
some_rows (row ∷ rows) c h = refl
