-- Edits, as plain data.
use Rattle.std.specs.Prelude.{ℕ, ℤ, List, Option}
use Rattle.ctl_stanza.specs.declared.list_kind.ListKind.{ListKind}
use Rattle.ctl_stanza.specs.Content.{Content}
use Rattle.ctl_store.specs.declared.list_class.ListClass.{ListClass}
use Rattle.ctl_store.specs.declared.selector.Selector.{Selector}
use Rattle.ctl_store.specs.declared.edit.Edit.{Edit as HeldEdit}
use Rattle.ctl_store.specs.declared.edit.Edit.TheVariants as held

pub data Edit : Type 0 where
  -- a new last list of this name, kind and class
  AddList : List ℕ → ListKind → ListClass → List Content → Edit
  DropList : List ℕ → Edit
  -- the list, and the stanza that is put into it
  Put : List ℕ → Content → Edit
  -- the list, the package and the version
  Remove : List ℕ → List ℕ → List ℕ → Edit
  -- the package, and its version or none
  Mark : List ℕ → Option (List ℕ) → Edit
  Unmark : List ℕ → Edit
  Pin : Selector → ℤ → Edit
  Unpin : Selector → Edit
  -- the name of the list that is the target release, or none
  Target : Option (List ℕ) → Edit
  -- the pin settings that take the place of all
  Prefs : List (Selector × ℤ) → Edit

-- an edit of the code, as plain data
abbrev pub edit_of : HeldEdit → Edit
edit_of (held.AddList name class new) = AddList name new.kind class new.stanzas
edit_of (held.DropList name) = DropList name
edit_of (held.Put list stanza) = Put list stanza.value
edit_of (held.Remove list name version) = Remove list name version
edit_of (held.Mark name version) = Mark name version
edit_of (held.Unmark name) = Unmark name
edit_of (held.Pin setting) = Pin setting.selector setting.priority
edit_of (held.Unpin selector) = Unpin selector
edit_of (held.Target name) = Target name
edit_of (held.Prefs settings) = Prefs settings.pins
