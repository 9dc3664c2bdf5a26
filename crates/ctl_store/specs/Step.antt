-- What an edit makes of a state, and why it is refused.
use Rattle.std.specs.Prelude.{◌≡◌, ℕ, ◌+◌, ◌||◌, ◌&&◌, not, nat_lt, Bool, true, false, if◌then◌else◌, List, [], ◌∷◌, ◌++◌, Option, None, Some, IfSome, is_some, length, slice_set}
use Rattle.std.specs.Option.{option_or, option_map_or}
use Rattle.std.specs.List.{list_any, remove}
use Rattle.std.specs.Map.{lookup, remove_entry}
use Rattle.std.specs.Ordering.{is_eq}
use Rattle.std.specs.Str.{bytes_eq}
use Rattle.std.specs.FinMap as fin
use Rattle.indexmap.specs.IndexMap.{insert_entry}
use Rattle.ctl_relation.specs.Version.{version_cmp}
use Rattle.ctl_stanza.specs.declared.list_kind.ListKind.{ListKind}
use Rattle.ctl_stanza.specs.declared.list_kind.ListKind.TheVariants.{Packages, Status}
use Rattle.ctl_stanza.specs.Content.{Content, package_of, version_of}
use Rattle.ctl_store.specs.declared.limits.Limits.{Limits}
use Rattle.ctl_store.specs.declared.list_class.ListClass.{ListClass}
use Rattle.ctl_store.specs.declared.refusal.Refusal.{Refusal}
use Rattle.ctl_store.specs.declared.refusal.Refusal.TheVariants.{ListExists, NoList, StatusExists, NoStanza, NoMark, NoPin, Full}
use Rattle.ctl_store.specs.Pins.{selector_eq}
pub use Rattle.ctl_store.specs.Places.{place}
use Rattle.ctl_store.specs.Named.{at_name, has_name, without_name, change_named}
use Rattle.ctl_store.specs.State.{StanzaList, State, stanza_count}
use Rattle.ctl_store.specs.Kinds.{AreOfKind}
use Rattle.ctl_store.specs.Edits.{Edit, AddList, DropList, Put, Remove, Mark, Unmark, Pin, Unpin, Target, Prefs}

-- ---- stanzas of a list

-- equal versions, or no version at both
abbrev pub is_same_version : Option (List ℕ) → Option (List ℕ) → Bool
is_same_version None None = true
is_same_version None (Some w) = false
is_same_version (Some v) None = false
is_same_version (Some v) (Some w) = is_eq (version_cmp v w)

-- a stanza of this name and an equal version
abbrev pub is_same : List ℕ → Option (List ℕ) → Content → Bool
is_same name version content = bytes_eq (package_of content) name && is_same_version (version_of content) version

abbrev pub put_at : Option ℕ → Content → List Content → List Content
put_at None content stanzas = stanzas ++ content ∷ []
put_at (Some i) content stanzas = slice_set stanzas i content

-- in the place of the first stanza of its name and an equal version, else last
abbrev pub put_stanza : Content → List Content → List Content
put_stanza content stanzas = put_at (place (is_same (package_of content) (version_of content)) stanzas) content stanzas

abbrev pub remove_at : Option ℕ → List Content → List Content
remove_at None stanzas = stanzas
remove_at (Some i) stanzas = remove stanzas i

-- without the first stanza of this name and an equal version
abbrev pub remove_stanza : List ℕ → Option (List ℕ) → List Content → List Content
remove_stanza name version stanzas = remove_at (place (is_same name version) stanzas) stanzas

abbrev pub with_stanzas : (List Content → List Content) → StanzaList → StanzaList
with_stanzas f list = record list { stanzas = f list.stanzas }

abbrev pub new_list : ListKind → ListClass → List Content → StanzaList
new_list kind class stanzas = record { kind = kind; class = class; stanzas = stanzas }

-- ---- what an accepted edit makes

-- the change of an edit; that it was accepted is counted in `after`
abbrev pub changed : State → Edit → State
changed s (AddList name kind class stanzas) = record s { lists = s.lists ++ (name, new_list kind class stanzas) ∷ [] }
changed s (DropList name) = record s { lists = without_name name s.lists }
changed s (Put list content) = record s { lists = change_named list (with_stanzas (put_stanza content)) s.lists }
changed s (Remove list name version) = record s { lists = change_named list (with_stanzas (remove_stanza name (Some version))) s.lists }
changed s (Mark name version) = record s { marks = fin.insert s.marks name version }
changed s (Unmark name) = record s { marks = fin.remove s.marks name }
changed s (Pin selector priority) = record s { pins = insert_entry selector_eq s.pins selector priority }
changed s (Unpin selector) = record s { pins = remove_entry (selector_eq selector) s.pins }
changed s (Target name) = record s { target = name }
changed s (Prefs pins) = record s { pins = pins }

-- what an accepted edit makes of a state
abbrev pub after : State → Edit → State
after s edit = let t = changed s edit in record t { edits = s.edits + 1 }

-- ---- why an edit is refused

-- a refusal where the test holds
abbrev pub when : Bool → Refusal → Option Refusal
when b why = if b then Some why else None

abbrev pub is_status : ListKind → Bool
is_status Packages = false
is_status Status = true

abbrev pub has_status : List (List ℕ × StanzaList) → Bool
has_status lists = list_any (λ (l : List ℕ × StanzaList). is_status l.1.kind) lists

-- whether one of the stanzas is of this name and an equal version
abbrev pub has_same : List ℕ → Option (List ℕ) → List Content → Bool
has_same name version stanzas = is_some (place (is_same name version) stanzas)

-- whether the list has a stanza of this name and an equal version
abbrev pub has_stanza : List ℕ → List ℕ → Option (List ℕ) → List (List ℕ × StanzaList) → Bool
has_stanza list name version lists = option_map_or (λ (l : StanzaList). has_same name version l.stanzas) (at_name list lists) false

-- whether the stanza that an edit takes out or replaces is there
abbrev pub is_there : State → Edit → Bool
is_there s (Put list content) = has_stanza list (package_of content) (version_of content) s.lists
is_there s (Remove list name version) = has_stanza list name (Some version) s.lists
is_there s edit = false

abbrev pub no_list : List ℕ → List (List ℕ × StanzaList) → Option Refusal
no_list name lists = when (not (has_name name lists)) NoList

abbrev pub no_stanza : List ℕ → List ℕ → List ℕ → List (List ℕ × StanzaList) → Option Refusal
no_stanza list name version lists = when (not (has_stanza list name (Some version) lists)) NoStanza

-- a status list that comes where there is one
abbrev pub second_status : ListKind → List (List ℕ × StanzaList) → Option Refusal
second_status kind lists = when (is_status kind && has_status lists) StatusExists

abbrev pub is_same_kind : ListKind → ListKind → Bool
is_same_kind Packages kind = not (is_status kind)
is_same_kind Status kind = is_status kind

-- whether there is a list of this name that holds stanzas of a kind
abbrev pub takes_kind : ListKind → List ℕ → List (List ℕ × StanzaList) → Bool
takes_kind kind name lists = option_map_or (λ (l : StanzaList). is_same_kind kind l.kind) (at_name name lists) false

-- Why an edit does not fit the state, the limits aside. For a stanza that is put, a list of the other kind is none.
abbrev pub misfit_of : State → Edit → Option Refusal
misfit_of s (AddList name kind class stanzas) = option_or (when (has_name name s.lists) ListExists) (second_status kind s.lists)
misfit_of s (DropList name) = no_list name s.lists
misfit_of s (Put list content) = when (not (takes_kind content.kind list s.lists)) NoList
misfit_of s (Remove list name version) = option_or (no_list list s.lists) (no_stanza list name version s.lists)
misfit_of s (Unmark name) = when (not (is_some (fin.get s.marks name))) NoMark
misfit_of s (Unpin selector) = when (not (is_some (lookup (selector_eq selector) s.pins))) NoPin
misfit_of s edit = None

-- how many stanzas an edit brings beside those that it replaces
abbrev pub count_coming : State → Edit → ℕ
count_coming s (AddList name kind class stanzas) = length stanzas
count_coming s (Put list content) = if has_stanza list (package_of content) (version_of content) s.lists then 0 else 1
count_coming s edit = 0

-- more stanzas or more accepted edits than the limits allow
abbrev pub is_past : Limits → State → Bool
is_past limits s = nat_lt limits.stanzas (stanza_count s.lists) || nat_lt limits.edits s.edits

-- Why an edit is refused. The limits come last: the new state may not pass them.
abbrev pub refusal_of : Limits → State → Edit → Option Refusal
refusal_of limits s edit = option_or (misfit_of s edit) (when (is_past limits (after s edit)) Full)

-- ---- kinds

-- the stanzas that an edit brings are of the kind of their list
abbrev pub BringsItsKind : State → Edit → Type 0
BringsItsKind s (AddList name kind class stanzas) = AreOfKind kind stanzas
BringsItsKind s (Put list x) = IfSome (at_name list s.lists) (λ (l : StanzaList). x.kind ≡ l.kind)
BringsItsKind s edit = Unit {0}
