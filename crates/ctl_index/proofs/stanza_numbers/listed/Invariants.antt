use Rattle.std.proofs.Common.{◌≡◌, ◌++◌}
use Rattle.ctl_index.proofs.stanza_numbers.listed.Given as goal

-- those so far, and those that are left
abbrev pub invariant-loop-place : goal.invariant-loop-place
invariant-loop-place l = l.clauses.items ++ l.place-iterator ≡ l.fn.all.entries
