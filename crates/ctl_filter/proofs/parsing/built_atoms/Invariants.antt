use Rattle.std.proofs.Common.{◌≡◌, ◌++◌, map, true}
use Rattle.std.specs.List.{list_all}
use Rattle.ctl_filter.specs.Filter.{is_readable}
use Rattle.ctl_filter.specs.Inside.Values.{asked_atom, atom_of}
use Rattle.ctl_filter.proofs.parsing.built_atoms.Given as goal

abbrev pub invariant-atoms : goal.invariant-atoms
invariant-atoms l = record {
  atoms : map atom_of l.atoms.items ++ map asked_atom l.one-iterator.rest.items ≡ map asked_atom l.fn.asked.items;
  texts : list_all is_readable (map atom_of l.atoms.items) ≡ true;
}
