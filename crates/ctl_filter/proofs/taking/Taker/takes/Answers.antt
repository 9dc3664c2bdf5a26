use Rattle.std.proofs.Common.{rules, ◌≡◌, ◌∙◌, map}
use Rattle.ctl_filter.specs.Filter.{atom_passes, is_true}
use Rattle.ctl_filter.specs.Inside.Steps.{made_by, value_of}
use Rattle.ctl_filter.proofs.StepLemmas.{value-made}
use Rattle.ctl_filter.proofs.taking.Taker.takes.Goals as goal

pub returns-clause-takes : goal.returns-clause-takes
returns-clause-takes c =
    let values : c.deref.result.now ≡ map (atom_passes c.args.stanza.now) c.args.self.now.atoms = search (rules, c.deref.ensures.value, c.in_ok-take_values.ensures.values, c.self.invariant, c.self.view_is, c.deref_mut.ensures.value) in
    let steps : c.deref-2.result.now ≡ c.args.self.now.steps = search (rules, c.deref-2.ensures.value, c.self.view_is, c.query.view_is) in
    let passes : c.in_ok-passes.passes ≡ is_true (map (atom_passes c.args.stanza.now) c.args.self.now.atoms) (made_by c.args.self.now.steps) =
    c.in_ok-passes.ensures ∙ (λ i. value_of (steps i) (values i)) ∙ value-made _ c.args.self.now.steps (search (rules, c.query.invariant, c.self.view_is, c.query.view_is)) in
    c.is_kept.ensures ∙ search (rules, passes, c.self.view_is, c.query.view_is)
