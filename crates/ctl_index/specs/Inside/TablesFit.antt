-- Of the tables alone: why each number of a clause is below 2^96. Stanzas without a fault have few atoms and few offers.
use Rattle.std.specs.Prelude.{◌<◌, ◌^◌, List, length, Option, IfSome}
use Rattle.ctl_stanza.specs.Content.{Content}
use Rattle.ctl_stanza.specs.Sound.{IsWhole}
use Rattle.ctl_store.specs.declared.stanza_key.StanzaKey.{StanzaKey}
use Rattle.ctl_store.specs.Entries.{Entry}
use Rattle.ctl_store.specs.Followed.{under, AreApart}
use Rattle.ctl_index.specs.declared.keys.ClauseKey.{ClauseKey}
use Rattle.ctl_index.specs.Clauses.{number_at}

-- the stanza that is found under a key, if there is one, has no fault
abbrev pub IsWholeAt : (StanzaKey → Option Content) → StanzaKey → Type 0
IsWholeAt find k = IfSome (find k) IsWhole

-- the stanza under each key has no fault
abbrev pub AreWhole : List Entry → Type 0
AreWhole es = (k : StanzaKey) → IsWholeAt (λ q. under q es) k

-- The numbers of the clauses of less than 2^32 stanzas fit in 96 bits.
abbrev pub NumbersFit : Type 0
NumbersFit = (es : List Entry) → length es < 2 ^ 32 → AreApart es → AreWhole es
    → (k : ClauseKey) → IfSome (number_at k es) (λ n. n < 2 ^ 96)
