use Rattle.std.proofs.Common.{◌∙◌, sym, ap, is_some, option_copied, w16}
use Rattle.std.proofs.lemmas.Int.{to_z-of_z}
use Rattle.indexmap.specs.IndexMap.{insert_entry}
use Rattle.ctl_store.specs.Pins.{selector_eq}
use Rattle.ctl_store.specs.Prefs.{selector_of}
use Rattle.ctl_store.proofs.PrefsLemmas.{kept_new}
use Rattle.ctl_store.proofs.prefs.keep_first.Goals as goal

pub returns-in_ok-set : goal.returns-in_ok-set
returns-in_ok-set c =
    let pins = c.args.kept.now.pins in
    let pin = c.args.pin.now in
    c.in_ok-set.ensures.ok
    ∙ ap (insert_entry selector_eq pins c.in-Some.selector) (to_z-of_z w16 c.args.priority c.ranges.priority)
    ∙ kept_new (selector_of (option_copied c.args.name) (option_copied pin.version) (option_copied pin.list)) c.in-Some.selector c.args.priority pins
    (sym c.in_ok-selector.ensures ∙ c.in-Some.is) (ap is_some (sym c.get.ensures) ∙ sym c.is_some.ensures ∙ c.if-is_some.false)
