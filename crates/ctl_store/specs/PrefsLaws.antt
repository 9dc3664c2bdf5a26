-- What preferences set, told apart from how they are read.
use Rattle.std.specs.Prelude.{◌≡◌, ℕ, ℤ, List, Ok}
use Rattle.std.specs.Map.{lookup}
use Rattle.ctl_stanza.specs.Records.{RecordText, records_before_fault}
use Rattle.ctl_store.specs.declared.selector.Selector.{Selector}
use Rattle.ctl_store.specs.Pins.{selector_eq, AreDistinct}
use Rattle.ctl_store.specs.Prefs.{all_settings, read_prefs_text}

-- Each selector has the priority of its first setting in the records, and no other is set. None stands twice.
pub record SetsFirst (records : List RecordText) (settings : List (Selector × ℤ)) : Type 0 where
  pub first : (s : Selector) → lookup (selector_eq s) settings ≡ lookup (selector_eq s) (all_settings records)
  pub distinct : AreDistinct settings

-- a text that is read sets the first settings of its records
abbrev pub CountsFirst : ℕ → List ℕ → List (Selector × ℤ) → Type 0
CountsFirst n text settings = read_prefs_text n text ≡ Ok settings → SetsFirst (records_before_fault n text).0 settings
