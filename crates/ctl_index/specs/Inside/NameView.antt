-- What stands under one name, as a caller is told of it.
use Rattle.std.specs.Prelude.{Bool, List, [], map, Option, is_some}
use Rattle.std.specs.Option.{option_map_or}
use Rattle.ctl_store.specs.declared.stanza_key.StanzaKey.{StanzaKey}
use Rattle.ctl_policy.specs.declared.chosen.Chosen.{Chosen}
use Rattle.ctl_index.specs.declared.keys.AtomKey.{AtomKey}
use Rattle.ctl_index.specs.declared.named.Named.{Named}
use Rattle.ctl_index.specs.Inside.TablesByName.{named_offers, named_namers, named_own, no_rows}
use Rattle.ctl_index.specs.Inside.TablesOrder.{namer_key, kept_namer}
use Rattle.ctl_index.specs.Names.{KeptNamer}
use Rattle.ctl_index.specs.Inside.TablesViews.{shown_rows, offering}

-- whether a name is known, its rows, newest first, each by the keys of its stanzas, the stanzas that offer it, the atoms that name
-- it, by their keys and with what is kept of each, and what is chosen of it
pub record NameStanding : Type 0 where
  pub is_known : Bool
  pub rows : List (List StanzaKey)
  pub offering : List StanzaKey
  pub namers : List AtomKey
  pub kept_namers : List KeptNamer
  pub chosen : Chosen

-- what is told of the entry of a name, or of a name that has none
abbrev pub name_standing : Option Named → NameStanding
name_standing entry = record {
  is_known = is_some entry;
  rows = option_map_or shown_rows entry [];
  offering = offering (option_map_or named_offers entry []);
  namers = map namer_key (option_map_or named_namers entry []);
  kept_namers = map kept_namer (option_map_or named_namers entry []);
  chosen = (option_map_or named_own entry no_rows).chosen;
}
