use Rattle.std.proofs.Common.{◌++◌, ap, ◌∙◌}
use Rattle.ctl_policy.specs.Inside.TouchedNames.{pinned_packages}
use Rattle.ctl_policy.proofs.TouchedNamesLemmas.{preferred_pushed}
use Rattle.ctl_policy.proofs.touching.preferred_names.Goals as goal

pub returns : goal.returns
returns c = λ q.
    preferred_pushed q c.args.store.now c.lists-lists.ensures.distinct c.new-names.result.items c.new-names.ensures.items c.args.settings.now.pins c.push_pinned.new.names.items c.push_pinned-2.new.names.items c.push_repinned.new.names.items
    (c.in_ok-push_pinned.ensures ∙ ap (λ ps. c.new-names.result.items ++ pinned_packages ps) c.pins.ensures.pins)
    (c.in_ok-push_pinned-2.ensures ∙ ap (λ ps. c.push_pinned.new.names.items ++ pinned_packages ps) c.iter.ensures.settings)
    c.in_ok-push_repinned.ensures
