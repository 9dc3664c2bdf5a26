use Rattle.std.proofs.Common.{length, ap, arith}
use Rattle.ctl_stanza.specs.Content.{groups_of}
use Rattle.ctl_index.specs.HeldCache.{standing}
use Rattle.ctl_policy.specs.Priority.{world_of}
use Rattle.ctl_query.specs.Unmet.{line_if_unmet}
use Rattle.ctl_query.proofs.UnmetLemmas.{clause_found, at_place, behind_place, one_passed}
use Rattle.ctl_query.proofs.unmet.append_field.Goals as goal

-- the clause under the key is the one that was taken
pub append_if_unmet-requires : goal.append_if_unmet-requires
append_if_unmet-requires c = record {
  clause = clause_found (standing c.args.asking.now) c.args.lead.now.key c.args.lead.now.stanza.now c.args.field c.clauses.group c.in-Some.clause c.requires.lead c.requires.field
      (at_place (groups_of c.args.field c.args.lead.now.stanza.now) c.clauses.clause-iterator c.next.new.self c.clauses.group c.in-Some.clause c.clauses.invariant.left c.in-Some.ensures.steps);
}

pub clauses-preserved : goal.clauses-preserved
clauses-preserved c = record {
  left = behind_place (groups_of c.args.field c.args.lead.now.stanza.now) c.clauses.clause-iterator c.next.new.self c.clauses.group c.in-Some.clause c.clauses.invariant.left c.in-Some.ensures.steps;
  within = omega (arith, ap length c.in-Some.ensures.steps, c.clauses.invariant.within);
  text = one_passed (line_if_unmet (world_of c.args.asking.now) c.args.field) c.clauses.clause-iterator c.next.new.self c.in-Some.clause c.clauses.out.items c.append_if_unmet.new.out.items _
      c.in-Some.ensures.steps c.in_ok-append_if_unmet.ensures c.clauses.invariant.text;
}
