use Rattle.std.proofs.Common.{◌≡◌, ◌∙◌, ◌+◌, ◌-◌, ◌++◌, ◌≤◌, inl, inr, sym, ap, refl, subst, arith, length}
use Rattle.ctl_stanza.specs.Lines.{lent_lines}
use Rattle.ctl_stanza.specs.Fields.{value_of, continued}
use Rattle.ctl_stanza.specs.Inside.HeldFields.{Shows}
use Rattle.ctl_stanza.proofs.FieldLemmas.{continued-le, stands-room, shown-len, body-within, end-shown}
use Rattle.ctl_stanza.proofs.fields.body_span.Goals as goal

pub continued_len-more-requires : goal.continued_len-more-requires
continued_len-more-requires c =
    omega (arith, c.requires.short, continued-le (lent_lines c.args.behind.now), stands-room c.args.bytes.now.items c.args.line.now c.args.at (lent_lines c.args.behind.now) c.requires.stands)

pub returns-then-more-eq0-clause-body : goal.returns-then-more-eq0-clause-body
returns-then-more-eq0-clause-body c =
    let value = c.value_span-value in
    let behind = lent_lines c.args.behind.now in
    let here : c.args.at + value.result.end + 0 ≡ c.args.at + value.result.end = omega arith in
    subst (λ end. Shows c.args.bytes.now.items (record { start = c.args.at + value.result.start; end = end }) (value_of c.args.n c.args.line.now ++ continued behind)) here
    (body-within c.args.bytes.now.items c.args.line.now _ c.args.at value.result.start value.result.end 0 behind c.requires.stands value.ensures.within.0 value.ensures.within.1 value.ensures.value
    (omega (arith, c.continued_len-more.ensures, c.if-more-eq0.true)) (inl refl))

pub overflow_add-result-then-ends_with-2 : goal.overflow_add-result-then-ends_with-2
overflow_add-result-then-ends_with-2 c = omega (arith, c.requires.short, c.continued_len-more.ensures, continued-le (lent_lines c.args.behind.now), stands-room c.args.bytes.now.items c.args.line.now c.args.at (lent_lines c.args.behind.now) c.requires.stands)

pub overflow_cast-result-then-ends_with : goal.overflow_cast-result-then-ends_with
overflow_cast-result-then-ends_with c = omega (arith, c.requires.short, c.continued_len-more.ensures, continued-le (lent_lines c.args.behind.now), stands-room c.args.bytes.now.items c.args.line.now c.args.at (lent_lines c.args.behind.now) c.requires.stands)

pub overflow_add-result-then-ends_with-3 : goal.overflow_add-result-then-ends_with-3
overflow_add-result-then-ends_with-3 c = omega (arith, c.requires.short, c.continued_len-more.ensures, continued-le (lent_lines c.args.behind.now), stands-room c.args.bytes.now.items c.args.line.now c.args.at (lent_lines c.args.behind.now) c.requires.stands)

pub returns-then-ends_with-clause-body : goal.returns-then-ends_with-clause-body
returns-then-ends_with-clause-body c =
    let line = c.args.line.now in
    let behind = lent_lines c.args.behind.now in
    let value = c.of-text.result.now in
    let m = c.continued_len-more.result in
    let is : value ≡ value_of c.args.n line = c.of-text.ensures ∙ c.value_span-value.ensures.value in
    let le : length value ≤ length line = omega (arith, ap length c.of-text.ensures, shown-len line c.value_span-value.result c.value_span-value.ensures.within, c.value_span-value.ensures.within.1) in
    let here : c.args.at + length line + m ≡ c.args.at + (length line + m) = omega arith in
    subst (λ end. Shows c.args.bytes.now.items (record { start = c.args.at + (length line - length value); end = end }) (value_of c.args.n line ++ continued behind)) here
    (body-within c.args.bytes.now.items line _ c.args.at (length line - length value) (length line) m behind c.requires.stands (omega arith) (omega arith)
    (end-shown line value le (sym c.ends_with.ensures ∙ c.if-ends_with.true) ∙ is) c.continued_len-more.ensures (inr refl))
