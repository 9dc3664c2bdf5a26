-- How a pin's version is held: a version, or a text with a star at its end.
use Rattle.std.specs.Prelude.{◌≡◌, ℕ, List, false, true}
use Rattle.ctl_store.specs.declared.pin_version.Form.{Form}
use Rattle.ctl_store.specs.declared.pin_version.Form.TheVariants.{Exact, Prefix}
use Rattle.ctl_store.specs.PinVersions.{is_version}

abbrev pub text_of_form : Form → List ℕ
text_of_form (Exact version) = version
text_of_form (Prefix text) = text

abbrev pub IsWellFormed : Form → Type 0
IsWellFormed (Exact version) = is_version version ≡ true
IsWellFormed (Prefix text) = is_version text ≡ false
