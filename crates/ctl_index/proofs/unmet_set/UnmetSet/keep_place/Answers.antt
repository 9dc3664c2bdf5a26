use Rattle.std.proofs.Common.{◌≡◌, ◌∙◌, ap, cond, false, Bool, Some, rules}
use Rattle.std.specs.BTreeMap.{BTreeMap}
use Rattle.std.specs.BTreeSet.{BTreeSet, contains}
use Rattle.std.specs.Ordering.{is_eq}
use Rattle.ctl_index.specs.declared.keys.ClauseKey.{ClauseKey}
use Rattle.ctl_index.specs.declared.unmet_set.UnmetSet.TheInside.{Inside}
use Rattle.ctl_index.specs.Clauses.{clause_cmp}
use Rattle.ctl_index.specs.Inside.UnmetSet.{unmet_of}
use Rattle.ctl_index.proofs.UnmetSetLemmas.{place_written, no_place}
use Rattle.ctl_index.proofs.unmet_set.UnmetSet.keep_place.Goals as goal
use Rattle.ctl_index.proofs.unmet_set.UnmetSet.keep_place.Goals.{in-Some, in-None}

pub returns : goal.returns
returns c = λ k.
    let m : BTreeMap ClauseKey Bool = c.self.inside.places in
    let told : BTreeMap ClauseKey Bool → Type 0 = λ n. contains clause_cmp (unmet_of n) k ≡ cond (is_eq (clause_cmp c.args.key k)) false (contains clause_cmp (unmet_of m) k) in
    let at_end : told c.match-get_mut.self-inside.places =
    elim c.match-get_mut.branch [
      | in-Some w ↦
          ap (λ (i : Inside). contains clause_cmp (unmet_of i.places) k) w.self-inside-is
          ∙ place_written m (c.get_mut.follows.lender false) c.args.key (Some false) c.self.invariant (c.get_mut.follows.holds false).4 ((c.get_mut.follows.holds false).3 (search rules)).0 k
      | in-None w ↦
          ap (λ (i : Inside). contains clause_cmp (unmet_of i.places) k) w.self-inside-is
          ∙ ap (λ (n : BTreeMap ClauseKey Bool). contains clause_cmp (unmet_of n) k) c.get_mut.follows.holds-at-none
          ∙ no_place m c.args.key c.self.invariant (search rules) k
    ] in
    at_end ∙ ap (λ (s : BTreeSet ClauseKey). cond (is_eq (clause_cmp c.args.key k)) false (contains clause_cmp s k)) c.self.view_is
