-- What a store holds.
use Rattle.std.specs.Prelude.{ℕ, ℤ, ◌+◌, List, [], ◌∷◌, Option, None, length, map}
use Rattle.std.specs.Ordering.{nat_cmp}
use Rattle.std.specs.Cmp.Lexicographic.{slice_cmp}
use Rattle.std.specs.FinMap as fin
use Rattle.std.specs.Option.{option_map_or}
use Rattle.ctl_stanza.specs.declared.list_kind.ListKind.{ListKind}
use Rattle.ctl_stanza.specs.declared.list_kind.ListKind.TheVariants.{Packages, Status}
use Rattle.ctl_stanza.specs.Content.{Content}
use Rattle.ctl_store.specs.declared.list_class.ListClass.{ListClass}
use Rattle.ctl_store.specs.declared.selector.Selector.{Selector}
use Rattle.ctl_store.specs.Named.{at_name}

-- a list without its name: its stanzas stand in order
pub record StanzaList : Type 0 where
  pub kind : ListKind
  pub class : ListClass
  pub stanzas : List Content

-- for each package that is marked the version that is marked, or that none is
abbrev pub Marks : Type 0
Marks = fin.FinMap (slice_cmp nat_cmp) (Option (List ℕ))

-- The lists by their names and the pin settings by their selectors, each in order.
pub record State : Type 0 where
  pub lists : List (List ℕ × StanzaList)
  pub marks : Marks
  pub pins : List (Selector × ℤ)
  pub target : Option (List ℕ)
  pub edits : ℕ

-- 1 for a status list, else 0
abbrev pub count_of_kind : ListKind → ℕ
count_of_kind Packages = 0
count_of_kind Status = 1

abbrev pub empty_state : State
empty_state = record { lists = []; marks = fin.empty; pins = []; target = None; edits = 0 }

-- how many stanzas lists hold
abbrev pub stanza_count : List (List ℕ × StanzaList) → ℕ
stanza_count [] = 0
stanza_count (l ∷ ls) = length l.1.stanzas + stanza_count ls

-- how many status lists there are
abbrev pub status_count : List (List ℕ × StanzaList) → ℕ
status_count [] = 0
status_count (l ∷ ls) = count_of_kind l.1.kind + status_count ls

-- the lists as they are shown: their names, kinds and classes
abbrev pub shown_lists : List (List ℕ × StanzaList) → List (List ℕ × ListKind × ListClass)
shown_lists lists = map (λ (l : List ℕ × StanzaList). (l.0, l.1.kind, l.1.class)) lists

-- the stanzas of the list of a name; where there is none, none
abbrev pub stanzas_named : List ℕ → List (List ℕ × StanzaList) → List Content
stanzas_named name lists = option_map_or (λ (list : StanzaList). list.stanzas) (at_name name lists) []
