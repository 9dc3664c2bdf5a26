use Rattle.std.proofs.Common.{◌∙◌, ap}
use Rattle.ctl_store.specs.Pins.{own_settings}
use Rattle.ctl_store.proofs.OwnLemmas.{own_found}
use Rattle.ctl_store.proofs.pin_table.PinTable.of.Goals as goal

pub returns : goal.returns
returns c =
    let s = c.self.inside in
    own_found c.args.name.now s.settings.filled s.settings.next s.packages.items c.place_of.result c.self.invariant c.place_of.ensures.place
    ∙ ap (λ v. own_settings c.args.name.now v.pins) c.self.view_is
