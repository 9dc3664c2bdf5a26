use Rattle.std.proofs.Common.{◌≡◌, ◌≤◌, ◌+◌, ◌++◌, length, vec_capacity}
use Rattle.ctl_store.specs.Pins.{settings_of}
use Rattle.ctl_store.proofs.pin_settings.PinSettings.into_settings.Given as goal

-- what was taken and what is left are the settings, and there is room for what is left
abbrev pub invariant-settings : goal.invariant-settings
invariant-settings l = (settings_of l.room.items ++ l.left ≡ l.fn.self.pins) × (length l.room.items + length l.left ≤ vec_capacity l.room)

abbrev pub decreases-settings : goal.decreases-settings
decreases-settings l = length l.left
