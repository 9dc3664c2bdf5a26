use Rattle.std.proofs.Common.{◌≡◌, []}
use Rattle.indexmap.specs.IndexMap.{insert_all}
use Rattle.ctl_store.specs.Pins.{selector_eq, settings_of}
use Rattle.ctl_store.proofs.pin_settings.PinSettings.made_of.Given as goal

abbrev pub invariant-loop-setting : goal.invariant-loop-setting
invariant-loop-setting l = l.made.pins ≡ insert_all selector_eq [] (settings_of l.yielded)
