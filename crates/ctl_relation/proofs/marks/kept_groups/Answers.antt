use Rattle.std.proofs.Common.{◌∙◌, refl, sym}
use Rattle.ctl_relation.proofs.MarkLemmas.{has-first, cut, is-shorter, left-next, ends-within, held-here, groups-here, none-left}
use Rattle.ctl_relation.proofs.marks.kept_groups.Goals as goal

pub first_field-first-requires : goal.first_field-first-requires
first_field-first-requires c =
    let mine = c.fields.invariant c.requires.fields c.requires.are in
    let some = sym c.is_empty.ensures ∙ c.fields-test.true in
    has-first c.args.bytes.now c.fields.left.now mine.fields mine.are some

pub slice_bounds-body-end : goal.slice_bounds-body-end
slice_bounds-body-end c =
    let mine = c.fields.invariant c.requires.fields c.requires.are in
    let some = sym c.is_empty.ensures ∙ c.fields-test.true in
    let first = cut c.args.bytes.now c.fields.left.now c.first_field-first.result mine.fields mine.are some c.first_field-first.ensures in
    ends-within c.args.bytes.now c.first_field-first.result mine.fields first

pub new-requires : goal.new-requires
new-requires c =
    let mine = c.fields.invariant c.requires.fields c.requires.are in
    let some = sym c.is_empty.ensures ∙ c.fields-test.true in
    let first = cut c.args.bytes.now c.fields.left.now c.first_field-first.result mine.fields mine.are some c.first_field-first.ensures in
    held-here c.args.bytes.now _ c.first_field-first.result c.args.kind mine.fields first (c.if-first-place.true ∙ c.place.ensures) refl

pub returns-then-first-place : goal.returns-then-first-place
returns-then-first-place c = λ all are.
    let mine = c.fields.invariant all are in
    let some = sym c.is_empty.ensures ∙ c.fields-test.true in
    let first = cut c.args.bytes.now c.fields.left.now c.first_field-first.result mine.fields mine.are some c.first_field-first.ensures in
    c.new.ensures ∙ groups-here c.args.bytes.now c.fields.left.now _ c.first_field-first.result c.args.kind all mine first (c.if-first-place.true ∙ c.place.ensures) refl

pub fields-smaller : goal.fields-smaller
fields-smaller c =
    let mine = c.fields.invariant c.requires.fields c.requires.are in
    let some = sym c.is_empty.ensures ∙ c.fields-test.true in
    let first = cut c.args.bytes.now c.fields.left.now c.first_field-first.result mine.fields mine.are some c.first_field-first.ensures in
    is-shorter c.fields.left.now c.first_field-first.result c.args.bytes.now mine.fields first mine.are.words

pub fields-preserved : goal.fields-preserved
fields-preserved c = λ all are.
    let mine = c.fields.invariant all are in
    let some = sym c.is_empty.ensures ∙ c.fields-test.true in
    let first = cut c.args.bytes.now c.fields.left.now c.first_field-first.result mine.fields mine.are some c.first_field-first.ensures in
    left-next c.args.bytes.now c.fields.left.now c.first_field-first.result c.args.kind all mine first (λ same. c.if-first-place.false (same ∙ sym c.place.ensures))

pub returns : goal.returns
returns c = λ all are. c.new-2.ensures ∙ none-left c.args.bytes.now c.fields.left.now c.args.kind all (c.fields.invariant all are) (sym c.is_empty.ensures ∙ c.fields-test.false)
