use Rattle.std.proofs.Common.{ap, arith, length}
use Rattle.ctl_stanza.proofs.FieldLemmas.{shown-len}
use Rattle.ctl_stanza.proofs.WalkLemmas.{continued-room}
use Rattle.ctl_stanza.proofs.walk.loose_len.Goals as goal

pub overflow_add-result : goal.overflow_add-result
overflow_add-result c =
    omega (
      arith,
      c.requires.short,
      c.requires.few,
      c.continued_behind-more.ensures,
      continued-room c.args.behind.now c.requires.behind,
      ap length c.of-value.ensures,
      shown-len c.args.line.now c.value_span.result c.value_span.ensures.within,
      c.value_span.ensures.within.1,
    )
