-- The fault of a field stands behind the last whole token that can be read.
use Rattle.std.proofs.Common.{◌≡◌, ℕ, ◌≤◌, Option, Some, List, ◌++◌, length, sym, ap, subst, ◌∙◌, length-append, arith}
use Rattle.ctl_relation.specs.declared.relation_fault.RelationFault.{RelationFault}
use Rattle.ctl_relation.specs.declared.field_kind.FieldKind.{FieldKind}
use Rattle.ctl_relation.specs.Fault.{Place, GroupDue, StandsAt, IsWhole, IsFault, StandsLast}
use Rattle.ctl_relation.proofs.Runs.{Next, Ends, Moves, next}
use Rattle.ctl_relation.proofs.Faults.{Outcome, due_is, whole_due, outcome}
use Rattle.ctl_relation.proofs.Continues.{stands_lead, ended_so}

-- from place to place to the end, where so many bytes are left
data Leaves (kind : FieldKind) : Place → List ℕ → ℕ → Type 0 where
  ends_with : (p : Place) (left : List ℕ) (r : Option RelationFault) → next kind p left ≡ Ends r → Leaves kind p left (length left)
  goes_on : (p : Place) (left : List ℕ) (q : Place) (t : List ℕ) (n : ℕ) → next kind p left ≡ Moves q t → Leaves kind q t n → Leaves kind p left n

-- what is left from a place on is left from the next
behind_turn : (kind : FieldKind) (p q : Place) (left t : List ℕ) (n : ℕ) → next kind p left ≡ Moves q t → Leaves kind p left n → Leaves kind q t n
behind_turn kind p q left t n e (ends_with _ _ r f) = let h : Ends r ≡ Moves q t = sym f ∙ e in absurd cc
behind_turn kind p q left t n e (goes_on _ _ x y _ f more) =
    let h : Moves x y ≡ Moves q t = sym f ∙ e in
    let hp : x ≡ q = cc in
    let ht : y ≡ t = cc in
    let P : Place → Type 0 = λ z. Leaves kind z y n in
    let Q : List ℕ → Type 0 = λ z. Leaves kind q z n in
    subst Q ht (subst P hp more)

-- no more is left than there was
leaves_within : (kind : FieldKind) (p : Place) (left : List ℕ) (n : ℕ) → Leaves kind p left n → n ≤ length left
leaves_within kind p left n (ends_with _ _ r e) = omega arith
leaves_within kind p left n (goes_on _ _ q t _ e more) = shorter (leaves_within kind q t n more)
  where
    moved : Outcome kind p left (Moves q t)
    moved = let P : Next → Type 0 = Outcome kind p left in subst P e (outcome kind p left)

    shorter : n ≤ length t → n ≤ length left
    shorter h = omega (arith, h, ap length moved.1, length-append moved.0 t)

-- a body from its start to its fault
fault_leaves : (kind : FieldKind) (body : List ℕ) (f : RelationFault) (found : IsFault kind body f) → Leaves kind GroupDue body (length found.left)
fault_leaves kind body f found =
    let w = whole_due kind found.place found.left f found.due in
    let e : next kind found.place found.left ≡ Ends (Some f) = ended_so (next kind found.place found.left) f (sym (due_is kind found.place found.left w) ∙ found.due) in
    let holds : Place → List ℕ → Type 0 = λ q t. Leaves kind q t (length found.left) in
    let P : List ℕ → Type 0 = holds GroupDue in
    subst P (sym found.whole) (stands_lead kind holds (λ p q l t h more. goes_on p l q t (length found.left) h more) found.read found.place found.stands found.left w (ends_with found.place found.left (Some f) e))

-- what is left of a body is left from each place that it reaches
from_place : (kind : FieldKind) (read left : List ℕ) (place : Place) (n : ℕ) → StandsAt kind read place → IsWhole place left → Leaves kind GroupDue (read ++ left) n → Leaves kind place left n
from_place kind read left place n s w =
    stands_lead kind (λ q t. Leaves kind q t n → Leaves kind place left n) (λ p q l t e onward leaves. onward (behind_turn kind p q l t n e leaves)) read place s left w (λ leaves. leaves)

pub stands_last : StandsLast
stands_last kind body f found read left place e s w =
    let P : List ℕ → Type 0 = λ z. Leaves kind GroupDue z (length found.left) in
    let n = from_place kind read left place (length found.left) s w (subst P e (fault_leaves kind body f found)) in
    omega (arith, leaves_within kind place left (length found.left) n, ap length e, ap length found.whole, length-append read left, length-append found.read found.left)
