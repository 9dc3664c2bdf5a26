use Rattle.std.proofs.Common.{◌≡◌, ◌⊎◌, inl, inr, arith, length}
use Rattle.ctl_stanza.proofs.WalkLemmas.{continued-room}
use Rattle.ctl_stanza.proofs.QuickLemmas.{plain-is}
use Rattle.ctl_stanza.proofs.quick.plain_field.Goals as goal
use Rattle.ctl_stanza.proofs.quick.plain_field.Goals.{else-more-gt0-via-then-more-gt0+else-value-here, else-more-gt0-via-else-more-gt0}

pub overflow_add-here-2 : goal.overflow_add-here-2
overflow_add-here-2 c = omega (arith, c.requires.room, c.in-Some.ensures.len, continued-room c.args.here.now.behind.now c.requires.text)

pub returns : goal.returns
returns c =
    let value = c.value_span-value in
    let ends : (c.in-Some.more ≡ 0) ⊎ (value.result.end ≡ length c.args.here.now.line.now) = elim c.else-more-gt0.branch [
      | else-more-gt0-via-then-more-gt0+else-value-here w ↦ inr (omega (arith, w.if-value-here.false, value.ensures.within.1))
      | else-more-gt0-via-else-more-gt0 w ↦ inl (omega (arith, w.if-more-gt0.false))
    ] in
    λ bytes stands.
    plain-is bytes c.args.here.now c.args.n value.result.start value.result.end c.in-Some.more stands c.requires.text c.requires.name value.ensures.within.0 value.ensures.within.1 value.ensures.value
    c.in-Some.ensures.len ends
