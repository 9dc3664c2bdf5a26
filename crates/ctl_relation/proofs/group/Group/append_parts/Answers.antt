use Rattle.std.proofs.Common.{◌∙◌, ◌++◌, ℕ, List, ap, append_assoc}
use Rattle.std.proofs.lemmas.List.Elements.{All-tail}
use Rattle.std.specs.List.{flat_map}
use Rattle.ctl_relation.specs.Inside.HeldPlaces.{HasAtom, atom_held}
use Rattle.ctl_relation.specs.Parts.{AtomParts}
use Rattle.ctl_relation.specs.Printed.{alternative_text, atom_text, group_text}
use Rattle.ctl_relation.proofs.PlaceLemmas.{others-text}
use Rattle.ctl_relation.proofs.group.Group.append_parts.Goals as goal

pub append_others-requires : goal.append_others-requires
append_others-requires c =
    let g = c.self.inside in
    All-tail (HasAtom g.kind g.body.now) g.first g.further.now c.self.invariant.0

pub returns-clause-ok : goal.returns-clause-ok
returns-clause-ok c =
    let g = c.self.inside in
    let old : List ℕ = c.args.out.now.items in
    let first : List ℕ = atom_text (atom_held g.kind g.body.now g.first) in
    let others : List ℕ = flat_map (λ (place : ℕ). alternative_text (atom_held g.kind g.body.now place)) g.further.now in
    c.in_ok-append_others.ensures.ok
    ∙ ap (λ (t : List ℕ). t ++ others) c.in_ok-append_atom.ensures.ok
    ∙ append_assoc old first others
    ∙ ap (λ (t : List ℕ). old ++ (first ++ t)) (others-text g.kind g.body.now g.further.now)
    ∙ ap (λ (a : List AtomParts). old ++ group_text a) c.self.view_is
