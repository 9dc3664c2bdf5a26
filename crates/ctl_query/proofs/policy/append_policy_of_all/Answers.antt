use Rattle.std.proofs.Common.{append_assoc}
use Rattle.ctl_query.specs.Policy.{policy_of_all}
use Rattle.ctl_query.proofs.policy.append_policy_of_all.Goals as goal

pub returns : goal.returns
unfolding policy_of_all
returns c = rw (c.in_ok-append_all_pinned.ensures, c.in_ok-append_line-2.ensures, c.in_ok-append_lists.ensures, c.in_ok-append_line.ensures, c.store.ensures) (simp append_assoc)
