use Rattle.ctl_query.proofs.policy.append_one.Goals as goal

pub append_known-requires-clause-held : goal.append_known-requires-clause-held
append_known-requires-clause-held c = rw c.requires c.view-view.ensures.held
