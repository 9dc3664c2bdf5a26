-- What is known of a list by the serial that its keys have.
use Rattle.std.specs.Prelude.{◌≡◌, IsSome}
use Rattle.ctl_store.specs.declared.stanza_key.StanzaKey.{StanzaKey}
use Rattle.ctl_store.specs.Keys.{holder_of, stanza_at}
use Rattle.ctl_policy.specs.Rows.{Lists}
use Rattle.ctl_policy.specs.Priority.{World, priority_found}
use Rattle.ctl_policy.specs.Inside.HeldWalk.{is_status_key}
use Rattle.ctl_policy.specs.declared.known_priority.KnownPriority.{KnownPriority}
use Rattle.ctl_policy.specs.declared.status.KnownStatus.{KnownStatus}

-- the list that holds a stanza of the serial has the priority
abbrev pub IsKnownPriority : KnownPriority → World → Type 0
IsKnownPriority known w =
    (k : StanzaKey) → k.list ≡ known.list → IsSome (stanza_at k w.lists) → known.priority ≡ priority_found w (holder_of k w.lists)

-- a stanza of the serial stands in the status list, or doesn't, as is told
abbrev pub IsKnownStatus : KnownStatus → Lists → Type 0
IsKnownStatus known lists = (k : StanzaKey) → k.list ≡ known.list → IsSome (stanza_at k lists) → known.is_status ≡ is_status_key lists k
