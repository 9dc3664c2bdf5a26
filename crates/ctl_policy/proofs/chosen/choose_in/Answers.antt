use Rattle.std.proofs.Common.{Option, None, option_copied, option_map, ap, ◌∙◌}
use Rattle.std.specs.Option.{option_map_or}
use Rattle.ctl_relation.specs.Version.{triple_of}
use Rattle.ctl_store.specs.declared.stanza_key.StanzaKey.{StanzaKey}
use Rattle.ctl_policy.specs.declared.chosen.Chosen.{Chosen}
use Rattle.ctl_policy.specs.Rows.{rows_named, lead_at}
use Rattle.ctl_policy.specs.Priority.{world_of}
use Rattle.ctl_policy.specs.Candidate.{lead_of_choice}
use Rattle.ctl_policy.proofs.ChoiceLemmas.{choice_is, installed_is}
use Rattle.ctl_policy.proofs.chosen.choose_in.Goals as goal

abbrev chosen_by : Option StanzaKey → Option StanzaKey → Chosen
chosen_by installed candidate = record { installed = installed; candidate = candidate }

pub returns : goal.returns
returns c =
    let name = c.args.name.now in
    let w = world_of c.args.store.now in
    let lead =
    c.lead_of.ensures ∙ installed_is c.args.rows.now (rows_named name w.lists) (option_copied c.wanted_version-wanted.result) c.requires.rows
    ∙ ap (λ o. option_map_or (lead_at (rows_named name w.lists)) o None) c.wanted_version-wanted.ensures in
    let best =
    c.best-best.ensures
    ∙ choice_is name w c.args.rows.now (option_copied c.wanted_version-wanted.result) (option_map triple_of (option_copied c.version_there-installed.result)) c.requires.rows c.wanted_version-wanted.ensures c.version_there-installed.ensures in
    let choice = c.lead_of_choice.ensures ∙ ap lead_of_choice best in
    λ i. chosen_by (lead i) (choice i)
