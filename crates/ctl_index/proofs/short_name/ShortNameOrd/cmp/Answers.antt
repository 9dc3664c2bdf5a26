-- The first numbers that differ tell which name comes first, and the last ones where none did before.
use Rattle.std.proofs.Common.{◌∙◌}
use Rattle.ctl_index.proofs.ShortNameLemmas.{numbers_differ, numbers_tie, numbers_behind, names_tell}
use Rattle.ctl_index.proofs.short_name.ShortNameOrd.cmp.Goals as goal

pub returns-then-a-b : goal.returns-then-a-b
returns-then-a-b c =
    let m = c.self.invariant in
    let n = c.other.invariant in
    let g = c.word_at-a.ensures.bytes in
    let h = c.word_at-b.ensures.bytes in
    numbers_differ _ _ _ _ m n g h 0 _ _ _ c.word_at-a.ensures.number c.word_at-b.ensures.number c.if-a-b.true c.cmp.ensures
    ∙ names_tell _ _ _ _ m n g h _ _ c.self.view_is c.other.view_is

pub returns : goal.returns
returns c =
    let m = c.self.invariant in
    let n = c.other.invariant in
    let g = c.word_at-a.ensures.bytes in
    let h = c.word_at-b.ensures.bytes in
    c.compare_behind.ensures
    ∙ numbers_behind _ _ _ _ m n g h
    ∙ numbers_tie _ _ _ _ m n g h 0 _ _ c.word_at-a.ensures.number c.word_at-b.ensures.number c.if-a-b.false
    ∙ names_tell _ _ _ _ m n g h _ _ c.self.view_is c.other.view_is
