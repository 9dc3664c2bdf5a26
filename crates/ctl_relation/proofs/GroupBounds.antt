-- How many atoms a field can have.
use Rattle.std.proofs.Common.{ℕ, ◌<◌, ◌≤◌, Option, Some, None, List, [], ◌∷◌, ◌++◌, length, sym, subst, ap, arith}
use Rattle.std.proofs.lemmas.List.{length-append}
use Rattle.std.proofs.lemmas.List.Sums.{sum_by-cons}
use Rattle.ctl_relation.proofs.Runs.{name_some}
use Rattle.ctl_relation.specs.declared.field_kind.FieldKind.{FieldKind}
use Rattle.ctl_relation.specs.Bytes.{comma, bar}
use Rattle.ctl_relation.specs.Grammar.{AtomText, PaddedAtom, GroupText, PieceText, PiecesText, given_groups}
use Rattle.ctl_relation.specs.Parts.{AtomParts}
use Rattle.ctl_relation.specs.Bounds.{atom_count, GroupsHaveAtoms, AtomsTakeBytes}
use Rattle.ctl_relation.proofs.PrintedAgain.{fields_have}

atom_some : (kind : FieldKind) (text : List ℕ) (atom : AtomParts) → AtomText kind text atom → 0 < length text
atom_some kind text atom h = omega (arith, name_some atom.name h.name, ap length h.whole, length-append atom.name (h.qualifier_text ++ h.bound_text))

padded_some : (kind : FieldKind) (text : List ℕ) (atom : AtomParts) → PaddedAtom kind text atom → 0 < length text
padded_some kind text atom h = omega (arith, atom_some kind h.middle atom h.spelled, ap length h.whole, length-append h.before (h.middle ++ h.after), length-append h.middle h.after)

group_some : (kind : FieldKind) (text : List ℕ) (group : List AtomParts) → GroupText kind text group → 0 < length group
group_some kind text [] h = absurd h
group_some kind text (atom ∷ more) h = omega arith

group_size : (kind : FieldKind) (text : List ℕ) (group : List AtomParts) → GroupText kind text group → length group ≤ length text
group_size kind text [] h = absurd h
group_size kind text (atom ∷ []) h = omega (arith, padded_some kind text atom h)
group_size kind text (atom ∷ other ∷ more) h =
    omega (arith, padded_some kind h.0 atom h.2, group_size kind h.1 (other ∷ more) h.4, ap length h.5, length-append h.0 (bar ∷ h.1))

piece_size : (kind : FieldKind) (text : List ℕ) (piece : Option (List AtomParts)) → PieceText kind text piece → atom_count (given_groups (piece ∷ [])) ≤ length text
piece_size kind text None h = omega arith
piece_size kind text (Some group) h = omega (arith, group_size kind text group h, sum_by-cons (λ (g : List AtomParts). length g) group [])

pieces_size : (kind : FieldKind) (text : List ℕ) (pieces : List (Option (List AtomParts))) → PiecesText kind text pieces → atom_count (given_groups pieces) ≤ length text
pieces_size kind text [] h = absurd h
pieces_size kind text (piece ∷ []) h = piece_size kind text piece h
pieces_size kind text (None ∷ other ∷ more) h = omega (arith, pieces_size kind h.1 (other ∷ more) h.3, ap length h.4, length-append h.0 (comma ∷ h.1))
pieces_size kind text (Some group ∷ other ∷ more) h =
    omega (arith, group_size kind h.0 group h.2, pieces_size kind h.1 (other ∷ more) h.3, ap length h.4, length-append h.0 (comma ∷ h.1), sum_by-cons (λ (g : List AtomParts). length g) group (given_groups (other ∷ more)))

pub groups_have_atoms : GroupsHaveAtoms
groups_have_atoms kind body groups h = fields_have kind (λ group. 0 < length group) (group_some kind) body groups h

pub atoms_take_bytes : AtomsTakeBytes
atoms_take_bytes kind body groups h = let P : List (List AtomParts) → Type 0 = λ gs. atom_count gs ≤ length body in subst P (sym h.2) (pieces_size kind body h.0 h.1)
