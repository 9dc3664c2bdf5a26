use Rattle.std.proofs.Common.{option_copied, ◌++◌, ap, ◌∙◌}
use Rattle.ctl_store.specs.Store.{keyed_of}
use Rattle.ctl_policy.specs.Inside.TouchedNames.{target_packages}
use Rattle.ctl_policy.proofs.TouchedNamesLemmas.{targets_pushed}
use Rattle.ctl_policy.proofs.touching.target_names.Goals as goal

pub returns-clause-old : goal.returns-clause-old
returns-clause-old c = λ q e. (
    targets_pushed q c.args.store.now c.lists-lists.ensures.distinct c.new-names.result.items c.new-names.ensures.items c.push_target.new.names.items c.push_target-2.new.names.items c.args.store.now.target (option_copied c.args.target)
    (c.in_ok-push_target.ensures ∙ ap (λ t. c.new-names.result.items ++ target_packages t (keyed_of c.args.store.now).lists) c.target.ensures) c.in_ok-push_target-2.ensures e).0

pub returns-clause-new : goal.returns-clause-new
returns-clause-new c = λ q e. (
    targets_pushed q c.args.store.now c.lists-lists.ensures.distinct c.new-names.result.items c.new-names.ensures.items c.push_target.new.names.items c.push_target-2.new.names.items c.args.store.now.target (option_copied c.args.target)
    (c.in_ok-push_target.ensures ∙ ap (λ t. c.new-names.result.items ++ target_packages t (keyed_of c.args.store.now).lists) c.target.ensures) c.in_ok-push_target-2.ensures e).1
