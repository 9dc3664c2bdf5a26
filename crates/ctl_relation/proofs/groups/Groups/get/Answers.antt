use Rattle.ctl_relation.proofs.PlaceLemmas.{first-from}
use Rattle.ctl_relation.proofs.groups.Groups.get.Goals as goal

pub returns : goal.returns
returns c = first-from c.args.index c.args.self.now c.next.new.self c.next.result (rw (← c.from_index-groups.ensures) c.next.ensures.steps)
