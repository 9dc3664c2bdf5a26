use Rattle.std.proofs.Common.{◌≡◌, ◌++◌, take, flat_map}
use Rattle.ctl_filter.specs.Grep.{field_line}
use Rattle.ctl_filter.specs.Inside.Values.{shown_of}
use Rattle.ctl_filter.proofs.printing.append_fields.Given as goal

abbrev pub invariant-loop-name : goal.invariant-loop-name
invariant-loop-name l = l.out.items ≡ l.initial.out.items ++ flat_map (field_line (shown_of l.shown) l.finder) (take l.name-index l.names)
