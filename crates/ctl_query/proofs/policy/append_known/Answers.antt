use Rattle.std.proofs.Common.{append_assoc}
use Rattle.ctl_query.specs.Policy.{policy_one}
use Rattle.ctl_query.proofs.policy.append_known.Goals as goal

pub returns : goal.returns
unfolding policy_one
returns c =
    rw (c.in_ok-append_table.ensures, c.in_ok-append_line-4.ensures, c.in_ok-append_line-3.ensures, c.version_or_none-2.ensures, c.in_ok-append_line-2.ensures, c.version_or_none.ensures, c.in_ok-append_line.ensures, c.store-store.ensures, c.chosen-chosen.ensures, c.requires.rows, c.requires.chosen)
    (simp append_assoc)
