-- Of the tables alone: numbers of clauses, of which those of one stanza may wait to be entered.
use Rattle.std.specs.Prelude.{ℕ, Option, None, Some, if◌then◌else◌}
use Rattle.ctl_store.specs.declared.stanza_key.StanzaKey.{StanzaKey}
use Rattle.ctl_store.specs.Keys.{key_is}
use Rattle.ctl_index.specs.declared.keys.ClauseKey.{ClauseKey}
use Rattle.ctl_index.specs.declared.waiting.Waiting.{Waiting}
use Rattle.ctl_index.specs.Clauses.{number_among}
use Rattle.ctl_index.specs.Inside.ClauseNumbers.{Placed, come_in, place_of}
use Rattle.ctl_index.specs.Inside.TablesCounters.{Numbers}

-- the number of a clause, once these of a stanza came in turn
abbrev pub come_of : Option StanzaKey → Placed → ClauseKey → Option ℕ → Option ℕ
come_of None clauses k old = old
come_of (Some stanza) clauses k old = if key_is k.stanza stanza then come_in clauses (place_of k) old else old

-- once those are entered that wait
abbrev pub told : Waiting → Numbers → ClauseKey → Option ℕ
told waiting numbers k = come_of waiting.stanza waiting.clauses.items k (number_among numbers k)
