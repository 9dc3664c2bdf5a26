-- Which names an accepted edit touches.
use Rattle.std.specs.Prelude.{◌≡◌, ◌⊎◌, ℕ, Bool, true, false, List, [], ◌∷◌, Option, None, Some}
use Rattle.std.specs.Str.{bytes_eq}
use Rattle.std.specs.List.{IsDistinct, list_any}
use Rattle.std.specs.Option.{option_map_or, option_eq}
use Rattle.std.specs.Ordering.{int_eq}
use Rattle.std.specs.FinMap as fin
use Rattle.std.specs.Map.{lookup, keys_of as names_of}
use Rattle.ctl_stanza.specs.Content.{Content, package_of}
use Rattle.ctl_store.specs.declared.stanza_key.StanzaKey.{StanzaKey}
use Rattle.ctl_store.specs.declared.selector.Selector.{Selector}
use Rattle.ctl_store.specs.declared.selector.Selector.TheVariants.{Version, Release}
use Rattle.ctl_store.specs.Pins.{selector_eq, own_settings}
use Rattle.ctl_store.specs.Edits.{Edit, Mark, Unmark, Pin, Unpin, Target, Prefs}
use Rattle.ctl_store.specs.Keys.{stanza_at, coming, all_keys, AreRising, AreCome, AreNew, removed_of, added_of, keyed_after}
use Rattle.ctl_store.specs.Entries.{IsChange}
use Rattle.ctl_store.specs.Store.{Held, keyed_of, state_of}
use Rattle.ctl_policy.specs.Keys.{has_key}
use Rattle.ctl_policy.specs.Rows.{Lists}
use Rattle.ctl_policy.specs.Priority.{World, Settings, world_of, list_priority}
use Rattle.ctl_policy.specs.Laws.{HoldsNone, version_found, with_pins}

-- ---- settings

-- no list of this name, if one is named, holds a live stanza of a name
abbrev pub TargetHoldsNone : Option (List ℕ) → List ℕ → Lists → Type 0
TargetHoldsNone None name lists = Unit {0}
TargetHoldsNone (Some list) name lists = HoldsNone list name lists

-- a selector is of another package, or of any package on a list that holds no live stanza of a name
abbrev pub SelectsNone : Selector → List ℕ → Lists → Type 0
SelectsNone (Version «package» version) name lists = bytes_eq «package» name ≡ false
SelectsNone (Release None list) name lists = HoldsNone list name lists
SelectsNone (Release (Some «package») list) name lists = bytes_eq «package» name ≡ false

-- Settings that take the place of all leave a name its specific pins, and the priority of each list that holds one of its
-- live stanzas.
pub record LeavePins (pins : Settings) (name : List ℕ) (w : World) : Type 0 where
  pub own : own_settings name pins ≡ own_settings name w.pins
  pub lists : (list : List ℕ) → (list_priority list (with_pins pins w) ≡ list_priority list w) ⊎ HoldsNone list name w.lists

-- ---- stanzas

-- none of the stanzas that are found under these keys is a live one of a name
abbrev pub HasNoneOf : List ℕ → List StanzaKey → (StanzaKey → Option Content) → Type 0
HasNoneOf name keys find = (k : StanzaKey) → has_key k keys ≡ true → version_found name (find k) ≡ None

-- none of the stanzas that go or come by an edit is a live one of a name
pub record LeavesStanzas (name : List ℕ) (h : Held) (edit : Edit) : Type 0 where
  pub gone : HasNoneOf name (removed_of (keyed_of h) edit) (λ k. stanza_at k (keyed_of h).lists)
  pub come : HasNoneOf name (added_of (keyed_of h) edit) (coming edit)

-- ---- edits

-- Whether an edit sets again what stands: the mark of a package with its text, a pin with its priority, the target.
abbrev pub sets_again : Held → Edit → Bool
sets_again h (Mark «package» version) = option_eq (option_eq bytes_eq) (fin.get (state_of h).marks «package») (Some version)
sets_again h (Pin s priority) = option_eq int_eq (lookup (selector_eq s) (state_of h).pins) (Some priority)
sets_again h (Target list) = option_eq bytes_eq (state_of h).target list
sets_again h edit = false

-- An edit is of other names than this: it is no mark or specific pin of it, doesn't change the priority of a list that holds one
-- of its live stanzas, and none of these goes or comes.
abbrev pub IsOfOthers : List ℕ → Held → Edit → Type 0
IsOfOthers name h (Mark «package» version) = bytes_eq «package» name ≡ false
IsOfOthers name h (Unmark «package») = bytes_eq «package» name ≡ false
IsOfOthers name h (Pin s priority) = SelectsNone s name (keyed_of h).lists
IsOfOthers name h (Unpin s) = SelectsNone s name (keyed_of h).lists
IsOfOthers name h (Target list) = TargetHoldsNone h.target name (keyed_of h).lists × TargetHoldsNone list name (keyed_of h).lists
IsOfOthers name h (Prefs pins) = LeavePins pins name (world_of h)
IsOfOthers name h edit = LeavesStanzas name h edit

-- An edit doesn't touch a name where it sets again what stands, or is of other names.
abbrev pub IsNotTouched : List ℕ → Held → Edit → Type 0
IsNotTouched name h edit = (sets_again h edit ≡ true) ⊎ IsOfOthers name h edit

-- whether a name is one of some
abbrev pub is_one_of : List ℕ → List (List ℕ) → Bool
is_one_of name names = list_any (λ other. bytes_eq other name) names

-- the packages of the stanzas that are found under keys
abbrev pub packages_at : List StanzaKey → (StanzaKey → Option Content) → List (List ℕ)
packages_at [] find = []
packages_at (k ∷ ks) find = option_map_or (λ x. package_of x ∷ packages_at ks find) (find k) (packages_at ks find)

-- an edit touches no name but those that pass a test
abbrev pub TouchesOnly : (List ℕ → Bool) → Held → Edit → Type 0
TouchesOnly touches h edit = (name : List ℕ) → touches name ≡ false → IsNotTouched name h edit

-- an edit touches no name but these
abbrev pub TouchesAlone : List (List ℕ) → Held → Edit → Type 0
TouchesAlone names h edit = TouchesOnly (λ name. is_one_of name names) h edit

-- an edit takes out and puts in what it tells, and leaves the rest
abbrev pub ChangesAlone : Held → Edit → Type 0
ChangesAlone h edit =
    let before = keyed_of h in
    IsChange before.lists (keyed_after before edit).lists (removed_of before edit) (added_of before edit) edit

-- what a store says of itself and of an edit that it accepts
pub record IsAccepted (h : Held) (edit : Edit) : Type 0 where
  pub rising : AreRising (all_keys (keyed_of h).lists)
  pub distinct : IsDistinct bytes_eq (names_of (state_of h).lists)
  pub comes : AreNew (added_of (keyed_of h) edit) (removed_of (keyed_of h) edit) (keyed_of h).lists
  pub change : ChangesAlone h edit
  pub come : AreCome (added_of (keyed_of h) edit) edit (keyed_after (keyed_of h) edit).lists
