-- Of the tables alone: stanzas under their keys, in parts.
use Rattle.std.specs.Prelude.{◌≡◌, ℕ, ◌+◌, List, None, Some}
use Rattle.std.specs.List.{sum_by}
use Rattle.std.specs.Option.{option_or}
use Rattle.ctl_stanza.specs.Content.{Content}
use Rattle.ctl_store.specs.declared.stanza_key.StanzaKey.{StanzaKey}
use Rattle.ctl_store.specs.Entries.{Entry}
use Rattle.ctl_store.specs.Followed.{under}
use Rattle.ctl_policy.specs.Kept.{Stanzas}

-- what stands under a key stands in one of two parts, and not in both
pub record AreParted (all rest : Stanzas) (some : List Entry) : Type 0 where
  pub unders : (k : StanzaKey) → all k ≡ option_or (under k some) (rest k)
  pub either : (k : StanzaKey) (x : Content) → under k some ≡ Some x → rest k ≡ None

-- Stanzas are those of two parts, in any order: each sum over them is that over both parts.
pub record IsJoined (all rest some : List Entry) : Type 0 where
  pub sums : (f : Entry → ℕ) → sum_by f all ≡ sum_by f rest + sum_by f some
  pub parted : AreParted (λ k. under k all) (λ k. under k rest) some
