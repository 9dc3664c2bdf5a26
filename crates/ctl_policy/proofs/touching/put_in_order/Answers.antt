use Rattle.std.proofs.Common.{sym}
use Rattle.std.specs.Str.{bytes_eq}
use Rattle.std.proofs.lemmas.List.Sorted.{list_any-IsPermutation}
use Rattle.ctl_policy.proofs.touching.put_in_order.Goals as goal

pub returns : goal.returns
returns c = λ name. sym (list_any-IsPermutation (λ other. bytes_eq other name) _ _ c.sort_unstable.ensures.permutation)
