-- The names that an edit touches, once the tables follow it: those with a stanza of the list that comes in a row, or a list of names.
use Rattle.std.specs.Prelude.{◌≡◌, ℕ, Bool, List}
use Rattle.ctl_store.specs.Edits.{Edit, AddList}
use Rattle.ctl_store.specs.Store.{Held}
use Rattle.ctl_policy.specs.Rows.{has_list}
use Rattle.ctl_policy.specs.Touched.{TouchesAlone, is_one_of}
use Rattle.ctl_index.specs.declared.touched.Touched.{Touched}
use Rattle.ctl_index.specs.declared.touched.Touched.TheVariants.{OfList, Names}
use Rattle.ctl_index.specs.Inside.TablesByName.{NameMap, rows_under}

-- whether a name is touched, by its rows in the tables or by the list of names
abbrev pub is_touched : NameMap → Touched → List ℕ → Bool
is_touched m (OfList list) q = has_list list (rows_under m q)
is_touched m (Names names) q = is_one_of q names.items

-- It is enough for an edit: its list comes under this serial, or it touches no name but these.
abbrev pub Covers : Touched → Held → Edit → Type 0
Covers (OfList list) h (AddList name kind class stanzas) = list ≡ h.next_list
Covers (OfList list) h edit = ⊥
Covers (Names names) h edit = TouchesAlone names.items h edit
