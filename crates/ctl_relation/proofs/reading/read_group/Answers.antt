use Rattle.std.proofs.Common.{◌∙◌, ◌++◌, ◌∷◌, [], ap, sym, arith}
use Rattle.std.proofs.lemmas.Result.{err_from_is_err_and}
use Rattle.ctl_relation.specs.Bytes.{bar}
use Rattle.ctl_relation.specs.Reading.{behind_byte}
use Rattle.ctl_relation.specs.Inside.HeldPlaces.{atoms_held}
use Rattle.ctl_relation.proofs.TurnsOfReading.{group_fails}
use Rattle.ctl_relation.proofs.GroupLemmas.{first_atom, last_atom, next_atom, next_ends, one-less}
use Rattle.ctl_relation.proofs.reading.read_group.Goals as goal

pub atoms-init : goal.atoms-init
atoms-init c = first_atom c.args.kind c.args.body.now c.args.text.now c.args.further.now.items c.requires.ends

pub returns-in_err-after-clause-bad : goal.returns-in_err-after-clause-bad
returns-in_err-after-clause-bad c =
    let p = err_from_is_err_and c.from_residual.result c.from_residual.ensures.1 in
    let l = c.atoms in
    let at = l.invariant in
    rw (p.1, p.2) (λ _. group_fails (atoms_held c.args.kind c.args.body.now at.before) at.fuel _ c.args.kind l.left.now _ _ (one-less c.args.kind c.args.body.now at.fuel _ at.enough) c.in_err-after.ensures.gives at.told)

pub returns-in_default-clause-read : goal.returns-in_default-clause-read
returns-in_default-clause-read c =
    let l = c.atoms in
    last_atom c.args.kind c.args.body.now c.args.text.now l.left.now _ _ _ l.invariant c.in_ok-after.ensures.gives c.in_ok-after.ensures.shorter
    (c.in_default.ensures.behind ∙ ap (behind_byte bar) c.without_whitespace.ensures.rest)

pub place_of-requires-clause-ends : goal.place_of-requires-clause-ends
place_of-requires-clause-ends c =
    let l = c.atoms in
    next_ends c.args.kind c.args.body.now l.left.now _ _ _ l.invariant.ends c.in_ok-after.ensures.gives
    (c.in-Some.ensures.behind ∙ ap (behind_byte bar) c.without_whitespace.ensures.rest) c.without_whitespace-left.ensures.rest

pub atoms-preserved : goal.atoms-preserved
atoms-preserved c =
    let l = c.atoms in
    next_atom c.args.kind c.args.body.now c.args.text.now l.left.now _ _ _ _ _ _ l.invariant c.in_ok-after.ensures.gives c.in_ok-after.ensures.shorter
    (c.in-Some.ensures.behind ∙ ap (behind_byte bar) c.without_whitespace.ensures.rest)
    (sym c.has_alternatives.ensures ∙ c.if-not-has_alternatives.false)
    c.without_whitespace-left.ensures.rest
    (omega (arith, c.in-Some.ensures.shorter, c.without_whitespace.ensures.within, c.without_whitespace-left.ensures.within, c.in_ok-after.ensures.shorter))
    (c.in_ok-push.ensures.items ∙ ap (λ p. l.further.items ++ p ∷ []) c.place_of.ensures)
