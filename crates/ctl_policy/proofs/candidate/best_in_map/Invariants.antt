use Rattle.std.proofs.Common.{◌≡◌, option_copied, option_map, None, IfSome, length, map, reverse}
use Rattle.ctl_relation.specs.Version.{triple_of}
use Rattle.ctl_store.specs.Store.{keyed_of}
use Rattle.ctl_policy.specs.Priority.{world_of, row_priority}
use Rattle.ctl_policy.specs.Inside.HeldRows.{shown_row}
use Rattle.ctl_policy.specs.Inside.HeldWalk.{AreHeldIn, carried}
use Rattle.ctl_policy.specs.Inside.KnownLists.{IsKnownPriority}
use Rattle.ctl_policy.proofs.candidate.best_in_map.Given as goal

-- what is chosen, once the rows that are left were considered, is what is chosen of all
abbrev pub invariant-rows : goal.invariant-rows
invariant-rows l = record {
  held : AreHeldIn (keyed_of l.store).lists l.left;
  known : IfSome l.known (λ one. IsKnownPriority one (world_of l.store));
  same : carried (row_priority l.name (world_of l.store)) (option_map triple_of (option_copied l.installed)) l.choice (reverse (map shown_row l.left))
      ≡ carried (row_priority l.fn.name (world_of l.fn.store)) (option_map triple_of (option_copied l.fn.installed)) None (reverse (map shown_row l.fn.rows.entries));
}

abbrev pub decreases-rows : goal.decreases-rows
decreases-rows l = length l.left
