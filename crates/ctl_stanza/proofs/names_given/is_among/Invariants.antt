use Rattle.std.proofs.Common.{◌≡◌, drop, List, ℕ, Bor}
use Rattle.std.specs.List.{list_any}
use Rattle.ctl_stanza.specs.Fields.{is_same_name}
use Rattle.ctl_stanza.proofs.names_given.is_among.Given as goal

-- the name is sought among those that are left
abbrev pub invariant-loop-other : goal.invariant-loop-other
invariant-loop-other l = list_any (λ (other : Bor (List ℕ)). is_same_name l.name other.now) (drop l.other-index l.names) ≡ list_any (λ (other : Bor (List ℕ)). is_same_name l.name other.now) l.names
