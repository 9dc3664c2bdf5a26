use Rattle.std.proofs.Common.{◌≡◌, true}
use Rattle.std.specs.List.{list_all}
use Rattle.std.specs.Char.{is_ascii_digit}
use Rattle.ctl_relation.proofs.EpochLemmas.{list_all-AllDigits}
use Rattle.ctl_relation.proofs.cut.is_epoch.Goals as goal
use Rattle.ctl_relation.proofs.cut.is_epoch.Goals.{then-not-is_empty, else-not-is_empty}

pub compare_numbers-requires-clause-a : goal.compare_numbers-requires-clause-a
compare_numbers-requires-clause-a c =
    let digits : list_all is_ascii_digit c.in-Some.digits.now ≡ true =
    elim c.if-not-is_empty.branch [ then-not-is_empty w ↦ cc | else-not-is_empty w ↦ cc ] in
    list_all-AllDigits c.in-Some.digits.now digits
