use Rattle.std.proofs.Common.{subst, sym}
use Rattle.ctl_store.specs.Keys.{Keyed, AreCome}
use Rattle.ctl_policy.specs.Chosen.{AreChosen}
use Rattle.ctl_policy.specs.Priority.{World}
use Rattle.ctl_index.specs.Inside.TablesChosen.{AreRenewed}
use Rattle.ctl_index.proofs.choosing.choices_follow_edits.Goals as goal

pub returns : goal.returns
returns c = λ h plan new touches old chosen made only was renewed.
    let moved = c.worlds_move.ensures h new plan.edit made.keyed made.state in
    let accepted = c.plans_are_accepted.ensures h plan made.ready made.rising made.distinct made.change (subst (λ (k : Keyed). AreCome plan.added plan.edit k.lists) made.keyed made.come) in
    subst (AreChosen chosen) (sym moved)
    (c.touched_names_are_enough.ensures old chosen touches h plan.edit accepted only was (subst (λ (w : World). AreRenewed touches w old chosen) moved renewed))
