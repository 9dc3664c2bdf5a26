-- Keys that are kept in few bytes, and whether they are there.
use Rattle.std.specs.Prelude.{Bool, Option, None, Some, unwrap_or, if◌then◌else◌}
use Rattle.ctl_store.specs.declared.stanza_key.StanzaKey.{StanzaKey}

-- a key, if it is there
abbrev pub some_if : Bool → StanzaKey → Option StanzaKey
some_if there key = if there then Some key else None

-- the key, or the first of all where there is none
abbrev pub key_or_first : Option StanzaKey → StanzaKey
key_or_first key = unwrap_or key (record { list = 0; stanza = 0 })
