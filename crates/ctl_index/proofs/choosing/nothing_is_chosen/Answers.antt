use Rattle.std.proofs.Common.{ap, sym, ◌∙◌}
use Rattle.ctl_policy.specs.Priority.{world_of}
use Rattle.ctl_policy.specs.Rows.{rows_of, versions_of, newest_first}
use Rattle.ctl_index.proofs.choosing.nothing_is_chosen.Goals as goal

pub returns : goal.returns
returns c = λ h chosen empty bare q.
    bare q ∙ sym (c.names_with_rows_are_kept.ensures.choice q (world_of h) (ap (λ es. newest_first (rows_of (versions_of q es))) empty ∙ c.rows_are_shown.ensures.none))
