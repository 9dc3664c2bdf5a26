use Rattle.std.proofs.Common.{◌≡◌, ◌++◌}
use Rattle.ctl_store.specs.State.{shown_lists}
use Rattle.ctl_store.specs.Store.{state_of}
use Rattle.ctl_policy.specs.Priority.{world_of}
use Rattle.ctl_policy.specs.Inside.TouchedNames.{repinned_packages}
use Rattle.ctl_policy.proofs.touching.push_repinned.Given as goal

abbrev pub invariant-lists : goal.invariant-lists
invariant-lists l = l.names.items ++ repinned_packages l.fn.settings.pins (world_of l.fn.store) l.left ≡ l.fn.names.items ++ repinned_packages l.fn.settings.pins (world_of l.fn.store) (shown_lists (state_of l.fn.store).lists)
