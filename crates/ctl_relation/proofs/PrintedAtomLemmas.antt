-- Atoms that stand in a text just as they are printed.
use Rattle.std.proofs.Common.{◌≡◌, ℕ, ◌-◌, Bool, true, false, cond, Option, Some, None, List, [], ◌∷◌, ◌++◌, length, take, Result, Ok, Err, refl, sym, ap, ◌∙◌, append-nil, append_assoc, eqb-true, nat_eq, length-append, arith}
use Rattle.std.specs.Prelude.{◌&&◌, not, is_none}
use Rattle.std.proofs.Math.Seq.{take-append_seam}
use Rattle.ctl_relation.specs.declared.relation_fault.RelationFault.{RelationFault}
use Rattle.ctl_relation.specs.declared.relation_fault.RelationFault.TheVariants as fault
use Rattle.ctl_relation.specs.declared.operator.Operator.{Operator}
use Rattle.ctl_relation.specs.declared.operator.Operator.TheVariants.{Earlier, EarlierOrEqual, Equal, LaterOrEqual, Later}
use Rattle.ctl_relation.specs.declared.field_kind.FieldKind.{FieldKind}
use Rattle.ctl_relation.specs.Bytes.{space, left_parenthesis, right_parenthesis, comma}
use Rattle.ctl_relation.specs.FieldBytes.{is_whitespace, is_version_word_byte}
use Rattle.ctl_relation.specs.Runs.{run, rest}
use Rattle.ctl_relation.specs.Parts.{AtomParts}
use Rattle.ctl_relation.specs.Version.{fault_of}
use Rattle.ctl_relation.specs.Names.{is_name_byte, is_name}
use Rattle.ctl_relation.specs.FieldKind.{is_provides, is_exact}
use Rattle.ctl_relation.specs.Printed.{operator_text, qualifier_text, bound_text, atom_text}
use Rattle.ctl_relation.specs.Reading.{◌>>=◌, name_at, qualifier_at, operator_at, version_at, close_at, parenthesized_at, bound_at, atom_at, behind_byte}
use Rattle.ctl_relation.specs.Inside.HeldPlaces.{atom_read}
use Rattle.ctl_relation.specs.Inside.PrintedAtoms.{IsPrintedAtom, IsPrintedBound, ends_name}
use Rattle.ctl_relation.proofs.AtomAgain.{blank_ends_version}
use Rattle.ctl_relation.proofs.Found.{taken, bind_ok}
use Rattle.ctl_relation.proofs.LongestRuns.{run-rest, rest-more, rest-all}

-- ---- what was read step by step

-- what is read in two ways is the same
same_ok : {A : Type 0} (x y : A) → taken x ≡ taken y → x ≡ y
same_ok x y e = cc

-- what is taken behind a test
taken_if : {A : Type 0} (b : Bool) (fault : RelationFault) (y x : A) → cond b (Ok y) (Err fault) ≡ Ok x → x ≡ y
taken_if true fault y x e = cc
taken_if false fault y x e = absurd (let z : ⊥ = cc in z)

taken_unless : {A : Type 0} (b : Bool) (fault : RelationFault) (y x : A) → cond b (Err fault) (Ok y) ≡ Ok x → x ≡ y
taken_unless true fault y x e = absurd (let z : ⊥ = cc in z)
taken_unless false fault y x e = cc

-- ---- a bound

-- what stands behind a byte stands behind it in the text
pub byte_first : (byte : ℕ) (text left : List ℕ) → Some left ≡ behind_byte byte text → text ≡ byte ∷ left
byte_first byte [] left e = absurd (let z : ⊥ = cc in z)
byte_first byte (b ∷ text) left e = by (nat_eq b byte) refl
  where
    by : (t : Bool) → nat_eq b byte ≡ t → b ∷ text ≡ byte ∷ left
    by true h =
        let behind : Some left ≡ Some text = e ∙ ap (λ t. cond t (Some text) None) h in
        let first : b ≡ byte = eqb-true b byte h in
        let same : left ≡ text = cc in
        cc
    by false h =
        let behind : Some left ≡ None = e ∙ ap (λ t. cond t (Some text) None) h in
        absurd (let z : ⊥ = cc in z)

-- an operator as it is printed is the one that is read
operator_taken : (kind : FieldKind) (op : Operator) (word : List ℕ) (x : Operator × List ℕ) → operator_at kind (rest is_whitespace (operator_text op ++ space ∷ word)) ≡ Ok x → x ≡ (op, space ∷ word)
operator_taken kind Earlier word x e = taken_unless (is_provides kind && not (is_exact Earlier)) fault.ProvidesOperator (Earlier, space ∷ word) x e
operator_taken kind EarlierOrEqual word x e = taken_unless (is_provides kind && not (is_exact EarlierOrEqual)) fault.ProvidesOperator (EarlierOrEqual, space ∷ word) x e
operator_taken kind Equal word x e = taken_unless (is_provides kind && not (is_exact Equal)) fault.ProvidesOperator (Equal, space ∷ word) x e
operator_taken kind LaterOrEqual word x e = taken_unless (is_provides kind && not (is_exact LaterOrEqual)) fault.ProvidesOperator (LaterOrEqual, space ∷ word) x e
operator_taken kind Later word x e = taken_unless (is_provides kind && not (is_exact Later)) fault.ProvidesOperator (Later, space ∷ word) x e

-- a version that ends at a parenthesis has no whitespace in front
no_blank_first : (word left : List ℕ) → rest is_version_word_byte word ≡ right_parenthesis ∷ left → rest is_whitespace word ≡ word
no_blank_first [] left e = refl
no_blank_first (b ∷ word) left e = by (is_whitespace b) refl
  where
    by : (t : Bool) → is_whitespace b ≡ t → rest is_whitespace (b ∷ word) ≡ b ∷ word
    by false h = rest-all is_whitespace b word h
    by true h =
        let same : b ∷ word ≡ right_parenthesis ∷ left = sym (rest-all is_version_word_byte b word (blank_ends_version b h)) ∙ e in
        let first : b ≡ right_parenthesis = cc in
        let not_blank : true ≡ false = sym h ∙ ap is_whitespace first in
        absurd (let z : ⊥ = cc in z)

-- the version that is read is the whole word
version_taken : (word left : List ℕ) (x : List ℕ × List ℕ) → rest is_version_word_byte word ≡ right_parenthesis ∷ left → version_at (rest is_whitespace (space ∷ word)) ≡ Ok x → x.0 ≡ run is_version_word_byte word
version_taken word left x h e =
    let front : rest is_whitespace (space ∷ word) ≡ word = rest-more is_whitespace space word refl ∙ no_blank_first word left h in
    ap (λ (p : List ℕ × List ℕ). p.0) (taken_if (is_none (fault_of (run is_version_word_byte word))) fault.Version (run is_version_word_byte word, rest is_version_word_byte word) x (sym (ap version_at front) ∙ e))

-- An operator as it is printed, a space, and a word that ends at a parenthesis are a bound as it is printed.
pub bound_printed : (text : List ℕ) (op : Operator) (word left : List ℕ) → text ≡ operator_text op ++ space ∷ word → rest is_version_word_byte word ≡ right_parenthesis ∷ left → IsPrintedBound text left
unfolding parenthesized_at
bound_printed text op word left e h kind bound after read =
    let o = bind_ok (operator_at kind (rest is_whitespace text)) (λ op. version_at (rest is_whitespace op.1) >>= λ version. close_at (rest is_whitespace version.1) >>= λ after. Ok ((op.0, version.0), after)) (bound, after) read in
    let v = bind_ok (version_at (rest is_whitespace o.0.1)) (λ version. close_at (rest is_whitespace version.1) >>= λ after. Ok ((o.0.0, version.0), after)) (bound, after) o.2 in
    let c = bind_ok (close_at (rest is_whitespace v.0.1)) (λ after. Ok ((o.0.0, v.0.0), after)) (bound, after) v.2 in
    let first : o.0 ≡ (op, space ∷ word) = operator_taken kind op word o.0 (sym (ap (λ (t : List ℕ). operator_at kind (rest is_whitespace t)) e) ∙ o.1) in
    let second : v.0.0 ≡ run is_version_word_byte word = version_taken word left v.0 h (sym (ap (λ (p : Operator × List ℕ). version_at (rest is_whitespace p.1)) first) ∙ v.1) in
    let its_parts : ((o.0.0, v.0.0), c.0) ≡ (bound, after) = same_ok {A = (Operator × List ℕ) × List ℕ} ((o.0.0, v.0.0), c.0) (bound, after) c.2 in
    let its_operator : op ≡ bound.0 = sym (ap (λ (p : Operator × List ℕ). p.0) first) ∙ ap (λ (p : (Operator × List ℕ) × List ℕ). p.0.0) its_parts in
    let its_version : run is_version_word_byte word ≡ bound.1 = sym second ∙ ap (λ (p : (Operator × List ℕ) × List ℕ). p.0.1) its_parts in
    e ∙ ap (λ (t : List ℕ). operator_text op ++ space ∷ t) (run-rest is_version_word_byte word)
    ∙ ap (λ (t : List ℕ). operator_text op ++ space ∷ (run is_version_word_byte word ++ t)) h
    ∙ ap (λ (t : List ℕ). operator_text op ++ space ∷ (t ++ right_parenthesis ∷ left)) its_version
    ∙ ap (λ o. operator_text o ++ space ∷ (bound.1 ++ right_parenthesis ∷ left)) its_operator

-- ---- an atom

-- An atom with no qualifier is its name and the bound that is read behind it.
atom_parts : (kind : FieldKind) (text : List ℕ) (atom : AtomParts) (left : List ℕ) → qualifier_at (rest is_name_byte text) ≡ Ok (None, rest is_name_byte text) → atom_at kind text ≡ Ok (atom, left)
    → (b : Option (Operator × List ℕ) × List ℕ) × (bound_at kind (rest is_name_byte text) ≡ Ok b) × (run is_name_byte text ++ bound_text b.0 ≡ atom_text atom)
unfolding atom_at
atom_parts kind text atom left unqualified read =
    let n = bind_ok (name_at text) (λ name. qualifier_at name.1 >>= λ qualifier. bound_at kind qualifier.1 >>= λ bound. Ok (record { name = name.0; qualifier = qualifier.0; bound = bound.0 }, bound.1)) (atom, left) read in
    let own : n.0 ≡ (run is_name_byte text, rest is_name_byte text) = taken_if (is_name (run is_name_byte text)) fault.Name (run is_name_byte text, rest is_name_byte text) n.0 n.1 in
    let q = bind_ok (qualifier_at n.0.1) (λ qualifier. bound_at kind qualifier.1 >>= λ bound. Ok (record { name = n.0.0; qualifier = qualifier.0; bound = bound.0 }, bound.1)) (atom, left) n.2 in
    let none : q.0 ≡ (None, rest is_name_byte text) = same_ok q.0 (None, rest is_name_byte text) (sym q.1 ∙ ap (λ (p : List ℕ × List ℕ). qualifier_at p.1) own ∙ unqualified) in
    let b = bind_ok (bound_at kind q.0.1) (λ bound. Ok (record { name = n.0.0; qualifier = q.0.0; bound = bound.0 }, bound.1)) (atom, left) q.2 in (
      b.0,
      sym (ap (λ (p : Option (List ℕ) × List ℕ). bound_at kind p.1) none) ∙ b.1,
      ap (λ (name : List ℕ). name ++ bound_text b.0.0) (sym (ap (λ (p : List ℕ × List ℕ). p.0) own))
          ∙ ap (λ (name : List ℕ). name ++ bound_text b.0.0) (sym (append-nil n.0.0))
          ∙ ap (λ (qualifier : Option (List ℕ)). n.0.0 ++ qualifier_text qualifier ++ bound_text b.0.0) (sym (ap (λ (p : Option (List ℕ) × List ℕ). p.0) none))
          ∙ ap (λ r. atom_text (atom_read r)) b.2,
    )

-- Nothing or a comma behind a name: the name is all of the atom.
name_printed : (text : List ℕ) (after : List ℕ) → rest is_name_byte text ≡ after → qualifier_at after ≡ taken (None, after) → ((kind : FieldKind) → bound_at kind after ≡ taken (None, after)) → IsPrintedAtom text (run is_name_byte text)
name_printed text after e unqualified unbound kind atom left read =
    let p = atom_parts kind text atom left (ap qualifier_at e ∙ unqualified ∙ ap (λ (l : List ℕ). taken (None, l)) (sym e)) read in
    let none : p.0 ≡ (None, after) = same_ok p.0 (None, after) (sym p.1 ∙ ap (bound_at kind) e ∙ unbound kind) in
    sym (append-nil (run is_name_byte text)) ∙ ap (λ (b : Option (Operator × List ℕ) × List ℕ). run is_name_byte text ++ bound_text b.0) (sym none) ∙ p.2

pub name_alone : (text : List ℕ) → ends_name (rest is_name_byte text) ≡ true → IsPrintedAtom text (run is_name_byte text)
name_alone text h = by (rest is_name_byte text) refl h
  where
    by : (after : List ℕ) → rest is_name_byte text ≡ after → ends_name after ≡ true → IsPrintedAtom text (run is_name_byte text)
    by [] e h = name_printed text [] e refl (λ kind. refl)
    by (b ∷ more) e h = name_printed text (comma ∷ more) (e ∙ ap (λ (c : ℕ). c ∷ more) (eqb-true b comma h)) refl (λ kind. refl)

-- A space, an open parenthesis and a bound as it is printed behind a name: the atom goes up to what is left behind them.
pub bound_behind_name : (text behind after : List ℕ) → rest is_name_byte text ≡ space ∷ left_parenthesis ∷ behind → IsPrintedBound behind after → IsPrintedAtom text (take (length text - length after) text)
bound_behind_name text behind after e bound_so kind atom left read =
    let p = atom_parts kind text atom left (ap qualifier_at e ∙ ap (λ (l : List ℕ). taken (None, l)) (sym e)) read in
    let b = bind_ok (parenthesized_at kind behind) (λ x. Ok (Some x.0, x.1)) p.0 (sym (ap (bound_at kind) e) ∙ p.1) in
    let some : Some b.0.0 ≡ p.0.0 = ap (λ (x : Option (Operator × List ℕ) × List ℕ). x.0) (same_ok {A = Option (Operator × List ℕ) × List ℕ} (Some b.0.0, b.0.1) p.0 b.2) in
    let printed : run is_name_byte text ++ bound_text (Some b.0.0) ≡ atom_text atom = ap (λ (x : Option (Operator × List ℕ)). run is_name_byte text ++ bound_text x) some ∙ p.2 in
    let inside : rest is_name_byte text ≡ bound_text (Some b.0.0) ++ after = e ∙ ap (λ (l : List ℕ). space ∷ left_parenthesis ∷ l) (bound_so kind b.0.0 b.0.1 b.1) ∙ grouped b.0.0.0 b.0.0.1 in
    let regrouped : text ≡ (run is_name_byte text ++ bound_text (Some b.0.0)) ++ after = run-rest is_name_byte text ∙ ap (λ (l : List ℕ). run is_name_byte text ++ l) inside ∙ sym (append_assoc (run is_name_byte text) (bound_text (Some b.0.0)) after) in
    let whole : text ≡ atom_text atom ++ after = regrouped ∙ ap (λ (l : List ℕ). l ++ after) printed in
    front text (atom_text atom) whole
  where
    grouped : (op : Operator) (version : List ℕ) → space ∷ left_parenthesis ∷ (operator_text op ++ space ∷ (version ++ right_parenthesis ∷ after)) ≡ bound_text (Some (op, version)) ++ after
    grouped op version = simp append_assoc

    front : (t printed : List ℕ) → t ≡ printed ++ after → take (length t - length after) t ≡ printed
    front t printed h =
        let size : length t - length after ≡ length printed = omega (arith, ap length h, length-append printed after) in
        ap (λ n. take n t) size ∙ ap (take (length printed)) h ∙ take-append_seam printed after
