-- Leads with what is written of them before their relations.
use Rattle.std.specs.Prelude.{ℕ, List}
use Rattle.ctl_stanza.specs.Content.{Content}
use Rattle.ctl_query.specs.declared.askers.Asker.{Asker}
use Rattle.ctl_query.specs.declared.askers.Told.{Told}
use Rattle.ctl_query.specs.Inside.TextParts.{StandsAt}
use Rattle.ctl_query.specs.ShowPackage.{asker}

-- between its two places the texts have that of the lead
abbrev pub IsTold : List ℕ → Told → Type 0
IsTold text told = StandsAt text told.start told.end (asker told.lead.now)

-- a lead that is lent with its text
abbrev pub lent_asker : Asker → Content × List ℕ
lent_asker asker = (asker.lead.now, asker.text.now)
