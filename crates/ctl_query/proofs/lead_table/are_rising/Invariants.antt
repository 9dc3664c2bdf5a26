use Rattle.std.proofs.Common.{◌≡◌, ◌+◌, ◌<◌, ℕ, true, get_or}
use Rattle.std.specs.Ordering.{is_lt}
use Rattle.ctl_store.specs.Keys.{key_cmp}
use Rattle.ctl_store.specs.declared.stanza_key.StanzaKey.{StanzaKey}
use Rattle.ctl_query.proofs.lead_table.are_rising.Given as goal

-- the keys so far rise
abbrev pub invariant-loop-place : goal.invariant-loop-place
invariant-loop-place l = (k : ℕ) (d : StanzaKey × ℕ) → k + 1 < l.place → is_lt (key_cmp (get_or l.places k d).0 (get_or l.places (k + 1) d).0) ≡ true
