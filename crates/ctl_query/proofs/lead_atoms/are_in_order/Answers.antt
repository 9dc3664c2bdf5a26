use Rattle.std.proofs.Common.{rules, ◌≡◌, ◌∙◌, ◌-◌, true, sym, arith}
use Rattle.std.proofs.lemmas.List.Sorted.{all_adjacent_more}
use Rattle.std.specs.Ordering.{is_lt}
use Rattle.ctl_query.specs.Leads.{lead_atom_cmp}
use Rattle.ctl_query.specs.declared.lead_atoms.ListedAtom.{ListedAtom}
use Rattle.ctl_query.proofs.ListedAtomLemmas.{in_order_from, atom_read}
use Rattle.ctl_query.proofs.lead_atoms.are_in_order.Goals as goal

pub loop-i-preserved : goal.loop-i-preserved
loop-i-preserved c =
    let below : is_lt (lead_atom_cmp c.index-atoms-i.result.at c.index-atoms-i-in-loop-i.result.at) ≡ true = search rules in
    all_adjacent_more c.args.atoms.now (λ (a b : ListedAtom). is_lt (lead_atom_cmp a.at b.at) ≡ true) c.loop-i.i (search rules) c.loop-i.invariant (λ d.
    let first = atom_read c.args.atoms.now (c.loop-i.i - 1) c.index-atoms-i.result d (search rules) c.index-atoms-i.is in
    let second = atom_read c.args.atoms.now c.loop-i.i c.index-atoms-i-in-loop-i.result d (search rules) c.index-atoms-i-in-loop-i.is in
    (λ n. is_lt (lead_atom_cmp (sym first n).at (sym second n).at)) ∙ below)

pub returns : goal.returns
returns c = in_order_from c.args.atoms.now (λ k d l. c.loop-i.invariant k d (omega (arith, l, c.loop-i-test.false)))
