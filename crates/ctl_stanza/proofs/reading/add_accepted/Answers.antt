use Rattle.std.proofs.Common.{◌≡◌, ◌∙◌, ◌++◌, None, IfErr, OnOk, ap, sym, subst}
use Rattle.ctl_stanza.specs.Faults.{Tells, whole_fault}
use Rattle.ctl_stanza.specs.Inside.HeldFields.{shown_fields}
use Rattle.ctl_stanza.proofs.QuickLemmas.{accepted-fault}
use Rattle.ctl_stanza.proofs.reading.add_accepted.Goals as goal

pub returns-clause-whole : goal.returns-clause-whole
returns-clause-whole c =
    let text = c.args.accepted.now.text.now in
    let is = accepted-fault c.args.from.kind c.args.from.line text c.args.room.now.fields.items c.requires.read c.requires.stanza
    ∙ ap (λ t. whole_fault c.args.from.kind c.args.from.line (shown_fields t c.args.room.now.fields.items)) (sym (c.in_ok-extend_from_slice.ensures.items ∙ ap (λ t. t ++ text) c.clear.ensures.items)) in
    subst (λ f. OnOk c.add_stanza.result (f ≡ None)) (sym is) c.add_stanza.ensures.whole

pub returns-clause-fault : goal.returns-clause-fault
returns-clause-fault c =
    let text = c.args.accepted.now.text.now in
    let is = accepted-fault c.args.from.kind c.args.from.line text c.args.room.now.fields.items c.requires.read c.requires.stanza
    ∙ ap (λ t. whole_fault c.args.from.kind c.args.from.line (shown_fields t c.args.room.now.fields.items)) (sym (c.in_ok-extend_from_slice.ensures.items ∙ ap (λ t. t ++ text) c.clear.ensures.items)) in
    subst (λ f. IfErr c.add_stanza.result (Tells f)) (sym is) c.add_stanza.ensures.fault
