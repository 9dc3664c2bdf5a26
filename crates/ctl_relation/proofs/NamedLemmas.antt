-- The name of an atom where it is read alone, and the atoms of all groups of a field.
use Rattle.std.proofs.Common.{◌≡◌, ◌∙◌, ◌||◌, ◌&&◌, ◌<◌, ℕ, zero, suc, Bool, true, false, List, [], ◌∷◌, ◌++◌, length, take, drop, get_or, Option, Result, Ok, Err, nat_eq, refl, sym, ap, arith}
use Rattle.std.specs.List.{starts_with}
use Rattle.std.specs.Cmp.{nat_eq_equiv}
use Rattle.std.proofs.Math.Bool.{and-false}
use Rattle.std.specs.Str.{bytes_eq}
use Rattle.std.proofs.lemmas.Bool.Decides.{nat_tests}
use Rattle.std.proofs.lemmas.List.{take-append-drop, take_all}
use Rattle.ctl_relation.specs.declared.field_kind.FieldKind.{FieldKind}
use Rattle.ctl_relation.specs.declared.operator.Operator.{Operator}
use Rattle.ctl_relation.specs.declared.relation_fault.RelationFault.{RelationFault}
use Rattle.ctl_relation.specs.declared.relation_fault.RelationFault.TheVariants.{Name}
use Rattle.ctl_relation.specs.Names.{is_name, is_name_byte}
use Rattle.ctl_relation.specs.Runs.{run, rest}
use Rattle.ctl_relation.specs.Parts.{AtomParts}
use Rattle.ctl_relation.specs.Named.{atom_names, group_names, groups_name}
use Rattle.ctl_relation.specs.Reading.{◌>>=◌, name_at, qualifier_at, bound_at, atom_at}
use Rattle.ctl_relation.specs.Inside.HeldPlaces.{HasAtom, atom_held, atom_read, atoms_held, count_before, groups_held}

-- ---- the name of an atom

-- what is read behind the name
abbrev with_bound : List ℕ → Option (List ℕ) → Option (Operator × List ℕ) × List ℕ → Result (AtomParts × List ℕ) RelationFault
with_bound own qualifier bound = Ok (record { name = own; qualifier = qualifier; bound = bound.0 }, bound.1)

abbrev with_qualifier : FieldKind → List ℕ → Option (List ℕ) × List ℕ → Result (AtomParts × List ℕ) RelationFault
with_qualifier kind own qualifier = bound_at kind qualifier.1 >>= with_bound own qualifier.0

abbrev with_name : FieldKind → List ℕ × List ℕ → Result (AtomParts × List ℕ) RelationFault
with_name kind name = qualifier_at name.1 >>= with_qualifier kind name.0

module _ (kind : FieldKind) (own : List ℕ) (atom : AtomParts) (left : List ℕ) where
  behind_bound : (qualifier : Option (List ℕ)) (r : Result (Option (Operator × List ℕ) × List ℕ) RelationFault) →
      (r >>= with_bound own qualifier) ≡ Ok (atom, left) → own ≡ atom.name
  behind_bound qualifier (Ok x) e = ap (λ r. (atom_read r).name) e
  behind_bound qualifier (Err fault) e = absurd (let z : ⊥ = cc in z)

  behind_qualifier : (r : Result (Option (List ℕ) × List ℕ) RelationFault) → (r >>= with_qualifier kind own) ≡ Ok (atom, left) → own ≡ atom.name
  behind_qualifier (Ok x) e = behind_bound x.0 (bound_at kind x.1) e
  behind_qualifier (Err fault) e = absurd (let z : ⊥ = cc in z)

  -- an atom that is read has the name that is read first
  name_read : (text after : List ℕ) → name_at text ≡ Ok (own, after) → atom_at kind text ≡ Ok (atom, left) → own ≡ atom.name
  unfolding atom_at
  name_read text after e read = behind_qualifier (qualifier_at after) (ap (λ (r : Result (List ℕ × List ℕ) RelationFault). r >>= with_name kind) (sym e) ∙ read)

pub held_name : (kind : FieldKind) (body : List ℕ) (place : ℕ) (own after : List ℕ) → HasAtom kind body place → name_at (drop place body) ≡ Ok (own, after) → own ≡ (atom_held kind body place).name
held_name kind body place own after h e =
    name_read kind own h.atom h.left (drop place body) after e h.read ∙ sym (ap (λ r. (atom_read r).name) h.read)

not_both : (fault : RelationFault) (x : AtomParts × List ℕ) → Err fault ≡ Ok x → ⊥
not_both fault x e = cc

-- where an atom is, no fault is found in its name
pub no_atom : (kind : FieldKind) (body : List ℕ) (place : ℕ) (fault : RelationFault) → HasAtom kind body place → name_at (drop place body) ≡ Err fault → ⊥
unfolding atom_at
no_atom kind body place fault h e =
    not_both fault (h.atom, h.left) (ap (λ (r : Result (List ℕ × List ℕ) RelationFault). r >>= with_name kind) (sym e) ∙ h.read)

-- the name of an atom is the run of bytes of names at its place
pub held_run : (kind : FieldKind) (body : List ℕ) (place : ℕ) → HasAtom kind body place → (atom_held kind body place).name ≡ run is_name_byte (drop place body)
held_run kind body place h = by (is_name (run is_name_byte (drop place body))) refl
  where
    by : (b : Bool) → is_name (run is_name_byte (drop place body)) ≡ b → (atom_held kind body place).name ≡ run is_name_byte (drop place body)
    by true e = sym (held_name kind body place (run is_name_byte (drop place body)) (rest is_name_byte (drop place body)) h (rw e refl))
    by false e = absurd (no_atom kind body place Name h (rw e refl))

turned : (a b : ℕ) → nat_eq a b ≡ true → nat_eq b a ≡ true
turned a b h = grind (arith, nat_tests)

-- a text that doesn't begin with a name has no part at its front that is the name
front_step : (c b : ℕ) (cs bs : List ℕ) (n : ℕ) → starts_with nat_eq (c ∷ cs) (b ∷ bs) ≡ false →
    (starts_with nat_eq cs bs ≡ false → bytes_eq (take n cs) bs ≡ false) → (s : Bool) → nat_eq c b ≡ s → bytes_eq (c ∷ take n cs) (b ∷ bs) ≡ false
front_step c b cs bs n h rest false e = rw e refl
front_step c b cs bs n h rest true e = rw e (rest (rw (turned c b e) at h))

pub not_in_front : (text name : List ℕ) (n : ℕ) → starts_with nat_eq text name ≡ false → bytes_eq (take n text) name ≡ false
not_in_front text [] n h = absurd (let z : ⊥ = cc in z)
not_in_front [] (b ∷ bs) zero h = refl
not_in_front [] (b ∷ bs) (suc n) h = refl
not_in_front (c ∷ cs) (b ∷ bs) zero h = refl
not_in_front (c ∷ cs) (b ∷ bs) (suc n) h = front_step c b cs bs n h (not_in_front cs bs n) (nat_eq c b) refl

-- a text that differs from a name at one place of it doesn't begin with it
pub differs_at : (text name : List ℕ) (i : ℕ) → i < length text → i < length name → nat_eq (get_or text i 0) (get_or name i 0) ≡ false → starts_with nat_eq text name ≡ false
differs_at [] name i l m n = absurd (omega arith)
differs_at (c ∷ cs) [] i l m n = absurd (omega arith)
differs_at (c ∷ cs) (d ∷ ds) zero l m n = ap (λ e. e && starts_with nat_eq cs ds) (nat_eq_equiv.symm d c ∙ n)
differs_at (c ∷ cs) (d ∷ ds) (suc i) l m n = ap (λ e. nat_eq d c && e) (differs_at cs ds i (omega arith) (omega arith) n) ∙ and-false (nat_eq d c)

-- ---- the atoms of all groups

or_moved : (a b c : Bool) → (a || (b || c)) ≡ ((a || b) || c)
or_moved true b c = refl
or_moved false b c = refl

between : (s t r d : Bool) → ((s || t) || (r || d)) ≡ ((s || r) || (t || d))
between true t r d = refl
between false true true d = refl
between false true false d = refl
between false false r d = refl

or_true : (b : Bool) → (b || true) ≡ true
or_true true = refl
or_true false = refl

or_false : (s t : Bool) → ((s || t) || false) ≡ ((s || false) || t)
or_false true t = refl
or_false false true = refl
or_false false false = refl

module _ (kind : FieldKind) (body name : List ℕ) where
  abbrev pub any_at : List ℕ → Bool
  any_at places = group_names name (atoms_held kind body places)

  any_append : (xs ys : List ℕ) → any_at (xs ++ ys) ≡ (any_at xs || any_at ys)
  any_append [] ys = refl
  any_append (x ∷ xs) ys =
      ap (λ b. atom_names name (atom_held kind body x) || b) (any_append xs ys)
      ∙ or_moved (atom_names name (atom_held kind body x)) (any_at xs) (any_at ys)

  -- one of them settles it
  pub any_there : (places : List ℕ) (i d : ℕ) → i < length places → atom_names name (atom_held kind body (get_or places i d)) ≡ true → any_at places ≡ true
  any_there [] i d lt h = absurd (omega (arith, lt))
  any_there (x ∷ xs) zero d lt h = rw h refl
  any_there (x ∷ xs) (suc i) d lt h =
      ap (λ b. atom_names name (atom_held kind body x) || b) (any_there xs i d (omega (arith, lt)) h) ∙ or_true (atom_names name (atom_held kind body x))

  -- An atom of a group has the name, where one of the first atoms has it or one of the further ones.
  any_of_groups : (start : ℕ) (starts further : List ℕ) →
      groups_name name (groups_held kind body (start ∷ starts) further) ≡ (any_at (start ∷ starts) || any_at further)
  any_of_groups start [] further =
      ap (λ places. (atom_names name (atom_held kind body start) || any_at places) || false) (take_all (length further) further (omega arith))
      ∙ or_false (atom_names name (atom_held kind body start)) (any_at further)
  any_of_groups start (next ∷ starts) further =
      let n : ℕ = count_before (next ∷ starts) further in
      let s : Bool = atom_names name (atom_held kind body start) in
      ap (λ b. (s || any_at (take n further)) || b) (any_of_groups next starts (drop n further))
      ∙ between s (any_at (take n further)) (any_at (next ∷ starts)) (any_at (drop n further))
      ∙ ap (λ b. (s || any_at (next ∷ starts)) || b) (sym (any_append (take n further) (drop n further)) ∙ ap any_at (take-append-drop n further))

  pub any_of_some : (starts further : List ℕ) → nat_eq (length starts) 0 ≡ false →
      groups_name name (groups_held kind body starts further) ≡ (any_at starts || any_at further)
  any_of_some [] further some = absurd (let z : ⊥ = cc in z)
  any_of_some (start ∷ starts) further some = any_of_groups start starts further
