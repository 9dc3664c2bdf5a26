use Rattle.std.proofs.Common.{◌≡◌, ◌≤◌, ◌∙◌, ◌∷◌, ◌++◌, List, ℕ, sym, ap, arith, length, drop, ◌-◌, length-append}
use Rattle.std.proofs.lemmas.List.{length-drop}
use Rattle.std.proofs.lemmas.Slice.Eq.{bytes_eq-Decides}
use Rattle.ctl_stanza.specs.Fields.{value_of, continued}
use Rattle.ctl_stanza.specs.Lines.{lines_of}
use Rattle.ctl_stanza.proofs.WalkLemmas.{body-piece, continued-room}
use Rattle.ctl_stanza.proofs.walk.body_at.Goals as goal

pub overflow_add-result : goal.overflow_add-result
overflow_add-result c = omega (arith, c.requires.short, c.continued_behind-more.ensures, continued-room c.args.behind.now c.requires.behind, ap length c.requires.text, length-append c.args.line.now (10 ∷ c.args.behind.now))

pub returns-then-ends_with : goal.returns-then-ends_with
returns-then-ends_with c =
    let line = c.args.line.now in
    let value : c.of-value.result.now ≡ value_of c.args.n line = c.of-value.ensures ∙ c.value_span.ensures.value in
    let ends : drop (length line - length c.of-value.result.now) line ≡ c.of-value.result.now =
    (bytes_eq-Decides (drop (length line - length c.of-value.result.now) line) c.of-value.result.now).0 (sym c.ends_with.ensures ∙ c.if-ends_with.true) in
    let short : length c.of-value.result.now ≤ length line = omega (arith, ap length ends, length-drop (length line - length c.of-value.result.now) line) in
    body-piece c.args.text.now line c.args.behind.now c.of-value.result.now c.continued_behind-more.result c.requires.text c.requires.behind c.continued_behind-more.ensures short ends
    ∙ ap (λ (t : List ℕ). t ++ continued (lines_of c.args.behind.now)) value

pub slice_bounds-result-end : goal.slice_bounds-result-end
slice_bounds-result-end c =
    grind (arith, c.continued_behind-more.ensures, continued-room c.args.behind.now c.requires.behind, ap length c.requires.text, length-append c.args.line.now (10 ∷ c.args.behind.now))
