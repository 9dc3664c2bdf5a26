use Rattle.std.proofs.Common.{◌≡◌, length}
use Rattle.std.specs.Option.{option_copied}
use Rattle.ctl_store.specs.Keys.{AreHeld}
use Rattle.ctl_store.specs.Store.{keyed_of}
use Rattle.ctl_query.specs.Inside.RowSources.{holders_behind}
use Rattle.ctl_query.proofs.row_sources.next_list.Given as goal

-- the lists of the keys that are left are those of all
abbrev pub invariant-keys : goal.invariant-keys
invariant-keys l = record {
  held : AreHeld l.left (keyed_of l.store).lists;
  same : holders_behind (keyed_of l.store).lists (option_copied l.last) l.left ≡ holders_behind (keyed_of l.store).lists (option_copied l.last) l.fn.keys;
}

abbrev pub decreases-keys : goal.decreases-keys
decreases-keys l = length l.left
