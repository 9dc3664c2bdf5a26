use Rattle.std.proofs.Common.{◌∙◌, ap}
use Rattle.ctl_ordered.specs.Ordered.{filled_serial}
use Rattle.ctl_ordered.proofs.ordered.Ordered.serial_of.Goals as goal

pub returns : goal.returns
returns g c = c.look_up-serial.ensures.serial ∙ ap (λ v. filled_serial (g.K.PartialEq.eq (g.Q.Wanted.wanted c.args.wanted)) v.filled) c.self.view_is
