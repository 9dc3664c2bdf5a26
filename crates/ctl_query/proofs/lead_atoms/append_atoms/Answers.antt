use Rattle.std.proofs.Common.{◌∙◌, ◌++◌, ℕ, List, take, flat_map, ap, append_assoc, sym}
use Rattle.ctl_query.specs.declared.lead_atoms.ListedAtom.{ListedAtom}
use Rattle.ctl_query.specs.Leads.{line_at}
use Rattle.ctl_query.proofs.AskedLemmas.{written_more}
use Rattle.ctl_query.proofs.lead_atoms.append_atoms.Goals as goal

pub loop-at-preserved : goal.loop-at-preserved
loop-at-preserved c =
    let line : ListedAtom → List ℕ = λ listed. line_at c.args.table.now c.args.name.now listed.at in
    let listed = c.index-atoms-at.result in
    c.in_ok-append_atom.ensures
    ∙ ap (λ text. text ++ line listed) (c.in_ok-reserve.ensures.items ∙ c.loop-at.invariant)
    ∙ append_assoc c.args.out.now.items (flat_map line (take c.loop-at.at c.args.atoms.now)) (line listed)
    ∙ ap (λ text. c.args.out.now.items ++ text) (sym (written_more line c.args.atoms.now c.loop-at.at listed c.loop-at-test.true c.index-atoms-at.is))
