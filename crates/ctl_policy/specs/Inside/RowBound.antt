-- A priority that no row of a name passes, where no specific pin of the name matches one.
use Rattle.std.specs.Prelude.{ℕ, ℤ, pos, List, map, Option, unwrap_or, if◌then◌else◌}
use Rattle.ctl_stanza.specs.declared.list_kind.ListKind.{ListKind}
use Rattle.ctl_store.specs.declared.list_class.ListClass.{ListClass}
use Rattle.ctl_store.specs.Pins.{general_pin}
use Rattle.ctl_store.specs.State.{shown_lists}
use Rattle.ctl_store.specs.Store.{Held, state_of}
use Rattle.ctl_policy.specs.Priority.{World, greatest_with, is_target, own_priority, world_of}

-- the priority of a list of a kind and a class, by the target release and by the general pin of the list
abbrev pub priority_of_kind : Option (List ℕ) → List ℕ → ListKind → ListClass → Option ℤ → ℤ
priority_of_kind target list kind class pin = if is_target target list kind then pos 990 else unwrap_or pin (own_priority kind class)

-- that of a list as lists are shown, by its name, its kind and its class
abbrev pub shown_priority : World → List ℕ × ListKind × ListClass → ℤ
shown_priority w l = priority_of_kind w.target l.0 l.1 l.2 (general_pin l.0 w.pins)

-- the greatest priority of the lists of a store, or 0 where that is greater
abbrev pub greatest_of_lists : Held → ℤ
greatest_of_lists h = greatest_with (pos 0) (map (shown_priority (world_of h)) (shown_lists (state_of h).lists))
