-- The atoms of leads, and the keys that name them.
use Rattle.std.proofs.Common.{◌≡◌, ◌∙◌, ℕ, Bool, true, ◌&&◌, nat_eq, refl, arith, nat_cmp}
use Rattle.std.specs.Ordering.{is_eq, ordering_then}
use Rattle.std.specs.declared.cmp.Ordering.{Ordering}
use Rattle.std.specs.declared.cmp.Ordering.TheVariants.{Less, Equal, Greater}
use Rattle.std.proofs.lemmas.Bool.Decides.{nat_tests}
use Rattle.ctl_relation.specs.FieldKind.{field_place}
use Rattle.ctl_store.specs.declared.stanza_key.StanzaKey.{StanzaKey}
use Rattle.ctl_store.specs.Keys.{key_cmp, key_is}
use Rattle.ctl_query.specs.declared.lead_atoms.LeadAtom.{LeadAtom}
use Rattle.ctl_query.specs.Leads.{lead_atom_cmp}

pub nat_itself : (a : ℕ) → nat_eq a a ≡ true
nat_itself a = grind (arith, nat_tests)

-- ---- two atoms

eq_then : (a b : Ordering) → is_eq (ordering_then a b) ≡ is_eq a && is_eq b
eq_then Less b = refl
eq_then Equal b = refl
eq_then Greater b = refl

eq_nat : (a b : ℕ) → is_eq (nat_cmp a b) ≡ nat_eq b a
eq_nat a b = grind (arith, nat_tests)

-- an order by two parts
tied : (a b : ℕ) (o : Ordering) (q : Bool) → is_eq o ≡ q → is_eq (ordering_then (nat_cmp a b) o) ≡ nat_eq b a && q
tied a b o q e = eq_then (nat_cmp a b) o ∙ (λ i. eq_nat a b i && e i)

-- keys are the same where neither stands before the other
pub key_tie : (k q : StanzaKey) → is_eq (key_cmp k q) ≡ key_is k q
key_tie k q = tied k.list q.list _ _ (eq_nat k.stanza q.stanza)

pub tie_is : (a b : LeadAtom) → is_eq (lead_atom_cmp a b) ≡ nat_eq b.place a.place && (nat_eq (field_place b.field) (field_place a.field) && (nat_eq b.group a.group && nat_eq b.atom a.atom))
tie_is a b = tied a.place b.place _ _ (tied (field_place a.field) (field_place b.field) _ _ (tied a.group b.group _ _ (eq_nat a.atom b.atom)))
