use Rattle.std.proofs.Common.{◌∙◌, ◌++◌, ◌∷◌, [], ap, sym}
use Rattle.std.proofs.lemmas.Result.{err_from_is_err_and}
use Rattle.ctl_relation.proofs.GroupLemmas.{at_start, end-blanks, group_fault, group_last, last_read, next_group, no_more, skip_comma}
use Rattle.ctl_relation.proofs.reading.read_groups.Goals as goal

pub groups-init : goal.groups-init
groups-init c = at_start c.args.kind c.args.body.now _ _ c.requires.none c.requires.none_further

pub groups-preserved-in-Some : goal.groups-preserved-in-Some
groups-preserved-in-Some c =
    let l = c.groups in
    skip_comma c.args.kind c.args.body.now l.left.now c.without_whitespace-text.result.now _ _ _ l.invariant c.without_whitespace-text.ensures.rest c.in-Some.ensures.behind c.in-Some.ensures.shorter

pub returns-then-is_empty-clause-read : goal.returns-then-is_empty-clause-read
returns-then-is_empty-clause-read c =
    let l = c.groups in
    no_more c.args.kind c.args.body.now l.left.now c.without_whitespace-text.result.now _ _ c.requires.short l.invariant c.without_whitespace-text.ensures.rest c.in_default.ensures.behind (sym c.is_empty.ensures ∙ c.if-is_empty.true)

pub read_group-requires-clause-ends : goal.read_group-requires-clause-ends
read_group-requires-clause-ends c = end-blanks c.args.body.now c.groups.left.now c.without_whitespace-text.result.now c.without_whitespace-text.ensures.rest c.groups.invariant.ends

pub returns-in_err-after-clause-bad : goal.returns-in_err-after-clause-bad
returns-in_err-after-clause-bad c =
    let p = err_from_is_err_and c.from_residual.result c.from_residual.ensures.1 in
    let l = c.groups in
    rw (p.1, p.2) (λ other. group_fault c.args.kind c.args.body.now l.left.now c.without_whitespace-text.result.now _ _ _ l.invariant
    (record { blanks = c.without_whitespace-text.ensures.rest; no_comma = c.in_default.ensures.behind; some = sym c.is_empty.ensures ∙ c.if-is_empty.false })
    (c.in_err-after.ensures.bad other))

pub place_of-requires-clause-ends : goal.place_of-requires-clause-ends
place_of-requires-clause-ends c = end-blanks c.args.body.now c.groups.left.now c.without_whitespace-text.result.now c.without_whitespace-text.ensures.rest c.groups.invariant.ends

pub returns-then-is_empty-2-clause-read : goal.returns-then-is_empty-2-clause-read
returns-then-is_empty-2-clause-read c =
    let l = c.groups in
    last_read c.args.kind c.args.body.now l.left.now c.without_whitespace-text.result.now _ _ _ _ _ _ c.requires.short l.invariant
    (record { blanks = c.without_whitespace-text.ensures.rest; no_comma = c.in_default.ensures.behind; some = sym c.is_empty.ensures ∙ c.if-is_empty.false })
    c.in_ok-after.ensures.read (c.in_ok-push.ensures.items ∙ ap (λ p. l.starts.items ++ p ∷ []) c.place_of.ensures)
    c.without_whitespace-after.ensures.rest c.in_default-behind_byte.ensures.behind (sym c.is_empty-in_default-behind_byte.ensures ∙ c.if-is_empty-2.true)

pub returns-in_default-behind_byte-clause-bad : goal.returns-in_default-behind_byte-clause-bad
returns-in_default-behind_byte-clause-bad c =
    let l = c.groups in
    λ _. group_last c.args.kind c.args.body.now l.left.now c.without_whitespace-text.result.now _ _ _ _ _ _ _ l.invariant
    (record { blanks = c.without_whitespace-text.ensures.rest; no_comma = c.in_default.ensures.behind; some = sym c.is_empty.ensures ∙ c.if-is_empty.false })
    c.in_ok-after.ensures.read (c.in_ok-push.ensures.items ∙ ap (λ p. l.starts.items ++ p ∷ []) c.place_of.ensures)
    c.without_whitespace-after.ensures.rest c.in_default-behind_byte.ensures.behind (sym c.is_empty-in_default-behind_byte.ensures ∙ c.if-is_empty-2.false)

pub groups-preserved : goal.groups-preserved
groups-preserved c =
    let l = c.groups in
    next_group c.args.kind c.args.body.now l.left.now c.without_whitespace-text.result.now _ _ _ _ _ _ _ l.invariant
    (record { blanks = c.without_whitespace-text.ensures.rest; no_comma = c.in_default.ensures.behind; some = sym c.is_empty.ensures ∙ c.if-is_empty.false })
    c.in_ok-after.ensures.read (c.in_ok-push.ensures.items ∙ ap (λ p. l.starts.items ++ p ∷ []) c.place_of.ensures)
    c.without_whitespace-after.ensures.rest c.in-Some-behind_byte.ensures.behind c.in-Some-behind_byte.ensures.shorter
