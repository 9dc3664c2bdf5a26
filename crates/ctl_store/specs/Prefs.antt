-- Preferences, and the pin settings that they make (apt_preferences(5)), as a function. PrefsFaults and PrefsLaws say in plain
-- words what it gives; `told_prefs_fault_is_least` and `first_setting_counts` that it gives them.
use Rattle.std.specs.Prelude.{ℕ, ℤ, ◌==◌, ◌&&◌, ◌||◌, not, nat_eq, Bool, false, if◌then◌else◌, List, [], ◌∷◌, ◌++◌, map, drop, length, codes, Option, Some, None, is_none, is_some, option_map, Result, Ok}
use Rattle.std.specs.Str.{bytes_eq}
use Rattle.std.specs.List.{list_all, starts_with, flat_map}
use Rattle.std.specs.Option.{option_to_list}
use Rattle.std.specs.Map.{lookup}
use Rattle.ctl_relation.specs.FieldBytes.{is_whitespace}
use Rattle.ctl_relation.specs.Names.{is_name}
use Rattle.ctl_stanza.specs.declared.fault.TextFault.{TextFault}
use Rattle.ctl_stanza.specs.declared.fault.Cause.{Cause}
use Rattle.ctl_stanza.specs.declared.fault.Cause.TheVariants as causes
use Rattle.ctl_stanza.specs.Lines.{onto_first}
use Rattle.ctl_stanza.specs.Fields.{is_same_name, package_name}
use Rattle.ctl_stanza.specs.Faults.{fault_or, or_else}
use Rattle.ctl_stanza.specs.Text.{or_fault}
use Rattle.ctl_stanza.specs.Records.{RecordText, parts_of_fields, records_before_fault}
use Rattle.ctl_store.specs.declared.selector.Selector.{Selector}
use Rattle.ctl_store.specs.declared.selector.Selector.TheVariants.{Version, Release}
use Rattle.ctl_store.specs.Pins.{selector_eq}
use Rattle.ctl_store.specs.PinVersions.{is_pin_version}
use Rattle.ctl_store.specs.Priority.{priority_of}

-- ---- words

abbrev pub is_word_byte : ℕ → Bool
is_word_byte b = not (is_whitespace b)

-- A byte that is no whitespace, before the words of the text behind it. It belongs to the first of them where that
-- follows at once.
abbrev pub onto_word : ℕ → List ℕ → List (List ℕ) → List (List ℕ)
onto_word b [] words = (b ∷ []) ∷ words
onto_word b (c ∷ text) words = if is_whitespace c then (b ∷ []) ∷ words else onto_first b words

-- the words of a body, which spaces, tabs and newlines part
abbrev pub words_of : List ℕ → List (List ℕ)
words_of [] = []
words_of (b ∷ text) = if is_whitespace b then words_of text else onto_word b text (words_of text)

-- ---- fields

abbrev pub pin_name : List ℕ
pin_name = codes "Pin"

abbrev pub priority_name : List ℕ
priority_name = codes "Pin-Priority"

-- The body of the first field of a name, empty where there is no such field. A field has a name, a body and the number of its line.
abbrev pub body_in : List ℕ → List (List ℕ × List ℕ × ℕ) → List ℕ
body_in name [] = []
body_in name (field ∷ fields) = if is_same_name field.0 name then field.1 else body_in name fields

-- ---- what a record is for

-- a record is for any package where its packages are one `*` alone
abbrev pub is_general : List (List ℕ) → Bool
is_general (word ∷ []) = bytes_eq word (codes "*")
is_general words = false

abbrev pub are_names : List (List ℕ) → Bool
are_names words = not (length words == 0) && list_all is_name words

-- what stands behind the front of the second word, where a pin is two words and this form is the first
abbrev pub asked : List ℕ → List ℕ → List (List ℕ) → Option (List ℕ)
asked form front (first ∷ second ∷ []) =
    if bytes_eq first form && starts_with nat_eq second front then Some (drop (length front) second) else None
asked form front words = None

-- a pin asks for a version by `version` and the version
abbrev pub version_asked : List (List ℕ) → Option (List ℕ)
version_asked words = asked (codes "version") [] words

-- a pin asks for a list by `release` and `a=` with the list behind it
abbrev pub list_asked : List (List ℕ) → Option (List ℕ)
list_asked words = asked (codes "release") (codes "a=") words

-- ---- faults of a record without a faulty line

-- What is wrong with a pin, by whether its record is for any package, and the version or the list that it asks for. A version is asked
-- of packages by their names alone.
abbrev pub asked_cause : Bool → Option (List ℕ) → Option (List ℕ) → Option Cause
asked_cause general (Some version) list =
    if is_pin_version version then (if general then Some causes.Form else None) else Some causes.Version
asked_cause general None (Some list) = if is_name list then None else Some causes.Name
asked_cause general None None = Some causes.Form

abbrev pub pin_cause : Bool → List (List ℕ) → Option Cause
pin_cause general words = asked_cause general (version_asked words) (list_asked words)

-- what is wrong with a field of this name and body
abbrev pub field_cause : Bool → List ℕ → List ℕ → Option Cause
field_cause general name body =
    if is_same_name name pin_name then pin_cause general (words_of body)
    else (if is_same_name name package_name && not (is_general (words_of body) || are_names (words_of body)) then Some causes.Name
    else (if is_same_name name priority_name && is_none (priority_of body) then Some causes.Priority else None))

-- the first field that is wrong
abbrev pub first_wrong : Bool → List (List ℕ × List ℕ × ℕ) → Option TextFault
first_wrong general [] = None
first_wrong general (field ∷ fields) = fault_or field.2 (field_cause general field.0 field.1) (first_wrong general fields)

-- whether a field that a record has to have is absent or empty
abbrev pub is_missing : List (List ℕ × List ℕ × ℕ) → Bool
is_missing fields =
    length (body_in package_name fields) == 0
    || (length (body_in pin_name fields) == 0 || length (body_in priority_name fields) == 0)

-- What is missing is told at the first line, before all else that is wrong.
abbrev pub own_fault : RecordText → Option TextFault
own_fault text =
    let fields = parts_of_fields text in
    if is_missing fields then Some (record { line = text.first_line; cause = causes.Missing })
    else first_wrong (is_general (words_of (body_in package_name fields))) fields

-- the fault of the first record that has one
abbrev pub first_own_fault : List RecordText → Option TextFault
first_own_fault [] = None
first_own_fault (text ∷ texts) = or_else (own_fault text) (first_own_fault texts)

-- ---- settings

-- the selector of a package, or of any, by the version or the list that its pin asks for; none where the pin is wrong for it
abbrev pub selector_of : Option (List ℕ) → Option (List ℕ) → Option (List ℕ) → Option Selector
selector_of (Some name) (Some version) list = if is_pin_version version then Some (Version name version) else None
selector_of None (Some version) list = None
selector_of name None (Some list) = Some (Release name list)
selector_of name None None = None

-- the setting of a package, or of any, by the version or the list that its pin asks for
abbrev pub setting_of : ℤ → Option (List ℕ) → Option (List ℕ) → Option (List ℕ) → List (Selector × ℤ)
setting_of priority version list name =
    option_to_list (option_map (λ (selector : Selector). (selector, priority)) (selector_of name version list))

-- the packages that a record is for, by the words of its field: any, or each by its name
abbrev pub packages_of : List (List ℕ) → List (Option (List ℕ))
packages_of words = if is_general words then None ∷ [] else map (λ (name : List ℕ). Some name) words

abbrev pub settings_of : Option ℤ → Option (List ℕ) → Option (List ℕ) → List (Option (List ℕ)) → List (Selector × ℤ)
settings_of None version list packages = []
settings_of (Some priority) version list packages = flat_map (setting_of priority version list) packages

-- the settings of a record: one for each of its packages in order, or one for any package
abbrev pub record_settings : RecordText → List (Selector × ℤ)
record_settings text =
    let fields = parts_of_fields text in
    let pin = words_of (body_in pin_name fields) in
    settings_of (priority_of (body_in priority_name fields)) (version_asked pin) (list_asked pin)
    (packages_of (words_of (body_in package_name fields)))

abbrev pub all_settings : List RecordText → List (Selector × ℤ)
all_settings [] = []
all_settings (text ∷ texts) = record_settings text ++ all_settings texts

-- one setting more, unless its selector stands before
abbrev pub keep_first : List (Selector × ℤ) → Selector × ℤ → List (Selector × ℤ)
keep_first kept one = if is_some (lookup (selector_eq one.0) kept) then kept else kept ++ one ∷ []

-- these settings and those that follow, without those whose selector stands before
abbrev pub first_settings : List (Selector × ℤ) → List (Selector × ℤ) → List (Selector × ℤ)
first_settings kept [] = kept
first_settings kept (one ∷ others) = first_settings (keep_first kept one) others

-- ---- the text

-- the settings of records, or the first fault: of one of them, or else the one behind them
abbrev pub settings_or_fault : List RecordText × Option TextFault → Result (List (Selector × ℤ)) TextFault
settings_or_fault read = or_fault (or_else (first_own_fault read.0) read.1) (Ok (first_settings [] (all_settings read.0)))

-- What a text of preferences is read to, where its lines count from n. Of two settings of one selector the first counts.
abbrev pub read_prefs_text : ℕ → List ℕ → Result (List (Selector × ℤ)) TextFault
read_prefs_text n text = settings_or_fault (records_before_fault n text)
