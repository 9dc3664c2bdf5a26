use Rattle.std.proofs.Common.{◌∙◌, false, cond, ap, arith}
use Rattle.std.specs.BTreeSet.{contains}
use Rattle.std.specs.Ordering.{is_eq}
use Rattle.ctl_index.specs.declared.keys.ClauseKey.{ClauseKey}
use Rattle.ctl_index.specs.Clauses.{clause_cmp, number_among}
use Rattle.ctl_index.specs.Inside.TablesCounters.{counted_up}
use Rattle.ctl_index.proofs.ClauseNumberLemmas.{raised, unmet_changed}
use Rattle.ctl_index.proofs.counters.Counters.raise.Goals as goal

pub invariant_of-self : goal.invariant_of-self
invariant_of-self c =
    let m = c.args.self.now.numbers in
    let x = c.args.self.now.unmet in
    record {
      at_zero = unmet_changed m c.raise-before.new.self x c.unmark.new.unmet c.args.clause (λ v n. counted_up n v) false (λ v. omega arith) c.raise-before.ensures.after
          (λ k. c.unmark.ensures k ∙ ap (λ (z : ClauseKey). cond (is_eq (clause_cmp z k)) false (contains clause_cmp x k)) c.new.ensures) (raised (number_among m c.args.clause)) c.args.self.now.at_zero;
    }
