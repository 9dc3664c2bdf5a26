use Rattle.std.proofs.Common.{◌∙◌, ◌-◌, false, cond, ap, arith}
use Rattle.std.specs.BTreeSet.{contains}
use Rattle.std.specs.Option.{option_map_or}
use Rattle.std.specs.Prelude.{nat_lt}
use Rattle.std.specs.Ordering.{is_eq}
use Rattle.ctl_index.specs.declared.keys.ClauseKey.{ClauseKey}
use Rattle.ctl_index.specs.Clauses.{clause_cmp, number_among}
use Rattle.ctl_index.proofs.ClauseNumberLemmas.{lowered, unmet_changed}
use Rattle.ctl_index.proofs.counters.Counters.lower.Goals as goal

pub invariant_of-self : goal.invariant_of-self
invariant_of-self c =
    let m = c.args.self.now.numbers in
    let x = c.args.self.now.unmet in
    let b = c.is_below-is_unmet.result in
    record {
      at_zero = unmet_changed m c.lower-before.new.self x c.note.new.unmet c.args.clause (λ v n. v - n) b (λ v. omega arith) c.lower-before.ensures.after
          (λ k. c.in-Ok.ensures k ∙ ap (λ (z : ClauseKey). cond (is_eq (clause_cmp z k)) b (contains clause_cmp x k)) c.new.ensures)
          (c.is_below-is_unmet.ensures ∙ ap (λ o. option_map_or (λ n. nat_lt n 2) o false) c.lower-before.ensures.before ∙ lowered (number_among m c.args.clause)) c.args.self.now.at_zero;
    }
