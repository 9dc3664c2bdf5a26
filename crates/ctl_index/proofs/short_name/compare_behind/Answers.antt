-- The first numbers that differ tell which comes first.
use Rattle.std.proofs.Common.{◌∙◌}
use Rattle.std.specs.Ordering.{nat_cmp}
use Rattle.ctl_index.proofs.ShortNameLemmas.{told_apart, told_equal}
use Rattle.ctl_index.proofs.short_name.compare_behind.Goals as goal

pub returns-then-a-b : goal.returns-then-a-b
returns-then-a-b c = told_apart _ _ _ _ _ _ c.word_at-a.ensures.number c.word_at-b.ensures.number c.if-a-b.true c.cmp.ensures

pub returns-then-a-b-2 : goal.returns-then-a-b-2
returns-then-a-b-2 c =
    told_equal _ _ _ _ _ _ c.word_at-a.ensures.number c.word_at-b.ensures.number c.if-a-b.false
    (told_apart _ _ _ _ _ _ c.word_at-a-2.ensures.number c.word_at-b-2.ensures.number c.if-a-b-2.true c.cmp-then-a-b-2.ensures)

pub returns : goal.returns
returns c =
    told_equal _ _ _ _ _ _ c.word_at-a.ensures.number c.word_at-b.ensures.number c.if-a-b.false
    (told_equal _ _ _ _ _ _ c.word_at-a-2.ensures.number c.word_at-b-2.ensures.number c.if-a-b-2.false
    (c.cmp-2.ensures ∙ (λ i. nat_cmp (c.word_at.ensures.number i) (c.word_at-2.ensures.number i))))
