use Rattle.std.proofs.Common.{◌≡◌, ◌++◌, ◌+◌, ◌<◌, ◌^◌, drop, flat_map, length}
use Rattle.ctl_stanza.specs.Content.{groups_of}
use Rattle.ctl_policy.specs.Priority.{world_of}
use Rattle.ctl_query.specs.Unmet.{line_if_unmet}
use Rattle.ctl_query.proofs.unmet.append_field.Given as goal

-- so many clauses were passed; what was written, and the lines of those that are left, are what there was and the lines of all
abbrev pub invariant-clauses : goal.invariant-clauses
invariant-clauses l = record {
  left : l.clause-iterator ≡ drop l.group (groups_of l.field l.lead.stanza.now);
  within : l.group + length l.clause-iterator < 2 ^ 32;
  text : l.out.items ++ flat_map (line_if_unmet (world_of l.asking) l.field) l.clause-iterator ≡ l.initial.out.items ++ flat_map (line_if_unmet (world_of l.asking) l.field) l.initial.clause-iterator;
}
