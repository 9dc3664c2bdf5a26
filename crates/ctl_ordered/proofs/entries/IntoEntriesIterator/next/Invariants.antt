use Rattle.std.proofs.Common.{◌≡◌, length}
use Rattle.ctl_ordered.specs.Slots.{entries_of}
use Rattle.ctl_ordered.proofs.entries.IntoEntriesIterator.next.Given as goal

-- the entries that are left are those of the slots that are left
abbrev pub invariant-skip : goal.invariant-skip
invariant-skip g l = entries_of l.self-inside.slots ≡ l.fn.self

abbrev pub decreases-skip : goal.decreases-skip
decreases-skip g l = length l.self-inside.slots
