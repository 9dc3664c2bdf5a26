use Rattle.std.proofs.Common.{◌∙◌, ◌++◌, take, ap, append_assoc, sym}
use Rattle.ctl_policy.specs.Priority.{world_of}
use Rattle.ctl_query.specs.Inside.AskedNames.{names_asked}
use Rattle.ctl_query.specs.ShowPackage.{show_package_one, show_package_text}
use Rattle.ctl_query.specs.Texts.{if_known}
use Rattle.ctl_query.proofs.AskedLemmas.{answers_more}
use Rattle.ctl_query.proofs.show_package.append_each.Goals as goal

pub loop-at-preserved : goal.loop-at-preserved
loop-at-preserved c =
    let world = world_of c.args.asking.now in
    let one = c.index-asked-at.result in
    let before = show_package_text world (names_asked (take c.loop-at.at c.args.asked.now)) in
    c.in_ok-append_one.ensures
    ∙ ap (λ text. text ++ if_known world (show_package_one world) one.name.now) (c.in_ok-look_ahead_at_names.ensures ∙ c.loop-at.invariant)
    ∙ append_assoc c.args.out.now.items before (if_known world (show_package_one world) one.name.now)
    ∙ ap (λ text. c.args.out.now.items ++ text) (sym (answers_more world c.args.asked.now c.loop-at.at one c.loop-at-test.true c.index-asked-at.is))
