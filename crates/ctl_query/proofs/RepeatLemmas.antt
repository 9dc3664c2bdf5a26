-- Atoms that stand there again, and their lines.
use Rattle.std.proofs.Common.{◌≡◌, ℕ, Bool, List, ◌++◌, length, sym, subst}
use Rattle.std.specs.BTreeMap.{values}
use Rattle.std.specs.Cmp.Lexicographic.{slice_cmp}
use Rattle.std.specs.List.{All}
use Rattle.std.specs.Ordering.{nat_cmp}
use Rattle.std.proofs.lemmas.List.Elements.{All-weaker}
use Rattle.std.proofs.lemmas.Map.Views.{All-values-insert_entry}
use Rattle.std.specs.Map.{values_of}
use Rattle.ctl_relation.specs.declared.field_kind.FieldKind.{FieldKind}
use Rattle.ctl_relation.specs.Parts.{AtomParts}
use Rattle.ctl_policy.specs.Priority.{World}
use Rattle.ctl_query.specs.declared.repeats.Written.{Written}
use Rattle.ctl_query.specs.Depends.{atom_lines}
use Rattle.ctl_query.specs.Inside.Repeats.{IsWritten, Kept, KeepsOneMore}
use Rattle.ctl_query.proofs.TextPartLemmas.{stays_when_more, just_written}

module _ (world : World) (installed : Bool) (field : FieldKind) where
  -- the lines of atoms stand there when more follows
  pub all_stay : (text more : List ℕ) (ws : List Written) → All (IsWritten world installed field text) ws → All (IsWritten world installed field (text ++ more)) ws
  all_stay text more ws all =
      All-weaker (IsWritten world installed field text) (IsWritten world installed field (text ++ more)) (λ w. stays_when_more text more (atom_lines world installed field w.further w.atom) w.start w.end) ws all

  -- lines that were just written
  pub is_written : (old new : List ℕ) (further : Bool) (atom : AtomParts) (start end : ℕ) → start ≡ length old → end ≡ length new → new ≡ old ++ atom_lines world installed field further atom
      → IsWritten world installed field new (record { further = further; atom = atom; start = start; end = end })
  is_written old new further atom = just_written old new (atom_lines world installed field further atom)

-- what holds of those that were kept, and of one more
pub one_more : (P : Written → Type 0) (old new : Kept) (w : Written) → KeepsOneMore old new w → All P (values old) → P w → All P (values new)
one_more P old new w h all this =
    subst (λ es. All P (values_of es)) (sym h.1) (All-values-insert_entry (λ x y. slice_cmp nat_cmp x.items y.items) h.0 w P old.entries all this)
