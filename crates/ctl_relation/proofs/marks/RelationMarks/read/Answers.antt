use Rattle.std.proofs.Common.{◌∙◌, ◌++◌, ℕ, List, sym, ap, ap₂}
use Rattle.ctl_relation.specs.Reading.{groups_or_none}
use Rattle.ctl_relation.specs.Marks.{words_of}
use Rattle.ctl_relation.proofs.MarkLemmas.{marks-field}
use Rattle.ctl_relation.proofs.marks.RelationMarks.read.Goals as goal

pub returns-clause-marks : goal.returns-clause-marks
returns-clause-marks c = λ fields is.
    let read = c.in_ok-read_groups.ensures.read in
    let old = c.self.inside.marks.items in
    let adds = c.in_ok-push_field.ensures
    ∙ ap₂ (λ (s f : List ℕ). old ++ words_of (record { kind = c.args.kind; body = c.args.body; starts = s; further = f })) c.deref.ensures.value c.deref-2.ensures.value in
    marks-field c.args.bytes.now old c.push_field.new.marks.items c.of.result.now c.args.body c.args.kind c.read_groups.new.starts.items c.read_groups.new.further.items
    adds c.requires c.of.ensures read.held (sym (ap groups_or_none read.read)) fields (c.self.view_is ∙ is)
