use Rattle.std.proofs.Common.{◌<◌, ◌^◌, List, length, ◌∙◌, ap, sym, subst}
use Rattle.ctl_relation.specs.declared.field_kind.FieldKind.TheVariants.{Provides}
use Rattle.ctl_relation.specs.Parts.{AtomParts}
use Rattle.ctl_relation.specs.Marks.{kept_groups, AreMarks}
use Rattle.ctl_stanza.proofs.stanza.Stanza.provides.Goals as goal

pub returns-clause-count : goal.returns-clause-count
returns-clause-count c =
    let kept = c.self.invariant.relations_are in
    let marked : AreMarks c.deref-2.result.now c.deref.result.now kept.relations = rw (c.deref-2.ensures.value, c.deref.ensures.value) kept.are in
    let are = c.kept_groups.ensures kept.relations marked ∙ ap (λ bytes. kept_groups Provides bytes kept.relations) c.deref-2.ensures.value ∙ kept.groups Provides in
    subst (λ (groups : List (List AtomParts)). length groups < 2 ^ 32) (sym are) (c.self.invariant.sound.groups Provides)
