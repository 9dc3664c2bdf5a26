use Rattle.std.proofs.Common.{inr}
use Rattle.ctl_policy.proofs.ComingLemmas.{added_leaves}
use Rattle.ctl_policy.proofs.edit_laws.rows_tell_touched_names.Goals as goal

pub returns : goal.returns
returns c = λ h list kind class stanzas rows name a are none. inr (added_leaves h list kind class stanzas rows name a are none)
