-- The priority of a list and of a row (apt_preferences(5), "APT's Default Priority Assignments" and "The Effect of APT Preferences").
use Rattle.std.specs.Prelude.{◌≡◌, ℕ, ℤ, pos, Bool, false, ◌&&◌, List, [], ◌∷◌, map, if◌then◌else◌}
use Rattle.std.specs.Prelude.{Option, None, Some, option_map, unwrap_or}
use Rattle.std.specs.Str.{bytes_eq}
use Rattle.std.specs.Int.{int_max}
use Rattle.ctl_stanza.specs.declared.list_kind.ListKind.{ListKind}
use Rattle.ctl_stanza.specs.declared.list_kind.ListKind.TheVariants.{Packages, Status}
use Rattle.ctl_store.specs.declared.list_class.ListClass.{ListClass}
use Rattle.ctl_store.specs.declared.list_class.ListClass.TheVariants.{Plain, NotAutomatic, ButAutomatic}
use Rattle.ctl_store.specs.declared.selector.Selector.{Selector}
use Rattle.ctl_store.specs.declared.selector.Selector.TheVariants.{Version, Release}
use Rattle.ctl_store.specs.declared.stanza_key.StanzaKey.{StanzaKey}
use Rattle.ctl_store.specs.PinVersions.{pin_matches}
use Rattle.ctl_store.specs.Pins.{general_pin}
use Rattle.ctl_store.specs.Named.{at_name}
use Rattle.ctl_store.specs.State.{State, StanzaList, Marks}
use Rattle.ctl_store.specs.Keys.{Keyed, stanza_lists, holder_of}
use Rattle.ctl_store.specs.Store.{Held, keyed_of, state_of}
use Rattle.ctl_policy.specs.Rows.{Lists, lead_of, version_under, is_source}

-- pin settings, in order
abbrev pub Settings : Type 0
Settings = List (Selector × ℤ)

-- what the policy of a store rests on
pub record World : Type 0 where
  pub lists : Lists
  pub marks : Marks
  pub pins : Settings
  pub target : Option (List ℕ)

abbrev pub world_in : Keyed → State → World
world_in k s = record { lists = k.lists; marks = s.marks; pins = s.pins; target = s.target }

abbrev pub world_of : Held → World
world_of h = world_in (keyed_of h) (state_of h)

-- ---- lists

-- What a list has by itself: 500; 100 for the status list and for a list of `NotAutomatic: yes` with `ButAutomaticUpgrades: yes`;
-- 1 for one of `NotAutomatic: yes` alone.
abbrev pub own_priority : ListKind → ListClass → ℤ
own_priority Status class = pos 100
own_priority Packages Plain = pos 500
own_priority Packages NotAutomatic = pos 1
own_priority Packages ButAutomatic = pos 100

-- whether a list is the target release; the status list is never taken for it
abbrev pub is_target : Option (List ℕ) → List ℕ → ListKind → Bool
is_target None name kind = false
is_target (Some target) name Packages = bytes_eq target name
is_target (Some target) name Status = false

-- The target release has 990, before any general pin. Another list has the priority of its general pin, else its own.
abbrev pub priority_of_list : List ℕ → World → StanzaList → ℤ
priority_of_list name w l =
    if is_target w.target name l.kind then pos 990
    else unwrap_or (general_pin name w.pins) (own_priority l.kind l.class)

-- the priority of the list of a name, if there is one
abbrev pub list_priority : List ℕ → World → Option ℤ
list_priority name w = option_map (priority_of_list name w) (at_name name (stanza_lists w.lists))

-- ---- rows

-- whether a pin's version matches the text of a row
abbrev pub matches_text : List ℕ → Option (List ℕ) → Bool
matches_text wanted None = false
matches_text wanted (Some text) = pin_matches wanted text

-- whether it matches that of a row, which is the version of its lead
abbrev pub matches_lead : List ℕ → Lists → List StanzaKey → Bool
matches_lead wanted lists keys = matches_text wanted (version_under lists (lead_of keys))

-- Whether a pin setting is one of a package and matches a row of it: by its text, or by one of its sources.
abbrev pub matches_row : List ℕ → Lists → List StanzaKey → Selector → Bool
matches_row name lists keys (Version «package» version) = bytes_eq «package» name && matches_lead version lists keys
matches_row name lists keys (Release None list) = false
matches_row name lists keys (Release (Some «package») list) = bytes_eq «package» name && is_source list lists keys

-- the priority of the first specific pin that matches a row
abbrev pub specific_pin : List ℕ → Lists → List StanzaKey → Settings → Option ℤ
specific_pin name lists keys [] = None
specific_pin name lists keys (s ∷ settings) = if matches_row name lists keys s.0 then Some s.1 else specific_pin name lists keys settings

-- no row matches a setting; no setting of a name matches a row
abbrev pub MatchesNoRow : Lists → Selector → Type 0
MatchesNoRow lists selector = (name : List ℕ) → (keys : List StanzaKey) → matches_row name lists keys selector ≡ false

abbrev pub PinsNoRow : List ℕ → Lists → Settings → Type 0
PinsNoRow name lists settings = (keys : List StanzaKey) → specific_pin name lists keys settings ≡ None

-- the priority of the list of a name, if one was found
abbrev pub priority_found : World → Option (List ℕ) → ℤ
priority_found w None = pos 0
priority_found w (Some list) = unwrap_or (list_priority list w) (pos 0)

-- the priorities of the lists that hold the stanzas of a row
abbrev pub source_priorities : World → List StanzaKey → List ℤ
source_priorities w keys = map (λ (k : StanzaKey). priority_found w (holder_of k w.lists)) keys

-- the greatest of some numbers, of which p is one
abbrev pub greatest_with : ℤ → List ℤ → ℤ
greatest_with p [] = p
greatest_with p (q ∷ ps) = greatest_with (int_max p q) ps

-- the greatest; a row has a source, so there is one
abbrev pub greatest : List ℤ → ℤ
greatest [] = pos 0
greatest (p ∷ ps) = greatest_with p ps

-- A row has the priority of the first specific pin of its package that matches it, else the greatest of its sources.
abbrev pub row_priority : List ℕ → World → List StanzaKey → ℤ
row_priority name w keys = unwrap_or (specific_pin name w.lists keys w.pins) (greatest (source_priorities w keys))
