-- Lines of atoms that stand in a text.
use Rattle.std.specs.Prelude.{◌≡◌, ℕ, Bool, List, Vec}
use Rattle.std.specs.BTreeMap.{BTreeMap, insert_entry}
use Rattle.std.specs.Cmp.Lexicographic.{slice_cmp}
use Rattle.std.specs.Global.{Global}
use Rattle.std.specs.Ordering.{nat_cmp}
use Rattle.ctl_relation.specs.declared.field_kind.FieldKind.{FieldKind}
use Rattle.ctl_policy.specs.Priority.{World}
use Rattle.ctl_query.specs.declared.repeats.Written.{Written}
use Rattle.ctl_query.specs.Depends.{atom_lines}
use Rattle.ctl_query.specs.Inside.TextParts.{StandsAt}

-- between the two places the text has the lines of the atom
abbrev pub IsWritten : World → Bool → FieldKind → List ℕ → Written → Type 0
IsWritten world installed field text w = StandsAt text w.start w.end (atom_lines world installed field w.further w.atom)

abbrev pub Kept : Type 0
Kept = BTreeMap (Vec ℕ Global) Written

-- one more is kept, under some key
abbrev pub KeepsOneMore : Kept → Kept → Written → Type 0
KeepsOneMore old new w = (key : Vec ℕ Global) × (new.entries ≡ insert_entry (λ x y. slice_cmp nat_cmp x.items y.items) old.entries key w)
