-- The reader goes from place to place.
use Rattle.std.proofs.Common.{◌≡◌, ◌⊎◌, ℕ, zero, suc, ◌+◌, ◌<◌, ◌≤◌, Bool, true, false, cond, Option, Some, None, List, [], ◌∷◌, ◌++◌, length, Result, Ok, Err, refl, sym, ap, subst, ◌∙◌, eqb-true, length-append, length-drop, arith, inl, inr}
use Rattle.std.specs.Prelude.{◌==◌, not, ◌&&◌, ◌||◌}
use Rattle.std.specs.List.{prefix_len}
use Rattle.std.proofs.lemmas.Bool.Decides.{nat_tests}
use Rattle.ctl_relation.specs.declared.relation_fault.RelationFault.{RelationFault}
use Rattle.ctl_relation.specs.declared.relation_fault.RelationFault.TheVariants as fault
use Rattle.ctl_relation.specs.declared.operator.Operator.{Operator}
use Rattle.ctl_relation.specs.declared.operator.Operator.TheVariants.{Earlier, EarlierOrEqual, Equal, LaterOrEqual, Later}
use Rattle.ctl_relation.specs.declared.field_kind.FieldKind.{FieldKind}
use Rattle.ctl_relation.specs.Bytes.{left_parenthesis, comma, colon, less_than, equals, greater_than, bar}
use Rattle.ctl_relation.specs.FieldBytes.{is_whitespace, is_qualifier_byte}
use Rattle.ctl_relation.specs.Runs.{run, rest}
use Rattle.ctl_relation.specs.Parts.{AtomParts}
use Rattle.ctl_relation.specs.Names.{is_name}
use Rattle.ctl_relation.specs.FieldKind.{is_provides, has_alternatives, is_exact}
use Rattle.ctl_relation.specs.Reading.{◌>>=◌, name_at, qualifier_at, operator_token, allowed, operator_at, version_at, close_at, parenthesized_at, bound_behind, bound_at, atom_at, behind_byte, alternatives, group_at, groups_behind, groups_from, groups_at, relations_of}
use Rattle.ctl_relation.specs.Fault.{Place, GroupDue, AtomDue, AfterName, QualifierDue, AfterQualifier, OperatorDue, AfterSign, VersionDue, CloseDue, AfterAtom, is_sign, lengthens}
use Rattle.ctl_relation.proofs.AtomAgain.{step}
use Rattle.ctl_relation.proofs.Found.{taken, atom_found, behind_found}

-- what comes of one token: the field ends with a fault or none, or its next place and what is left
pub data Next : Type 0 where
  Ends : Option RelationFault → Next
  Moves : Place → List ℕ → Next

abbrev pub next_of : Place → Result (List ℕ) RelationFault → Next
next_of q (Ok t) = Moves q t
next_of q (Err e) = Ends (Some e)

abbrev pub next_behind : {A : Type 0} → Place → Result (A × List ℕ) RelationFault → Next
next_behind q (Ok x) = Moves q x.1
next_behind q (Err e) = Ends (Some e)

abbrev pub group_next : List ℕ → Next
group_next [] = Ends None
group_next (b ∷ text) = cond (b == comma) (Moves GroupDue text) (next_behind AfterName (name_at (b ∷ text)))

abbrev pub end_next : FieldKind → List ℕ → Next
end_next kind [] = Ends None
end_next kind (b ∷ text) = cond (b == comma) (Moves GroupDue text) (cond (b == bar) (cond (has_alternatives kind) (Moves AtomDue text) (Ends (Some fault.Alternative))) (Ends (Some fault.Name)))

abbrev pub bracket_next : FieldKind → List ℕ → Next
bracket_next kind [] = Ends None
bracket_next kind (b ∷ text) = cond (b == left_parenthesis) (Moves OperatorDue text) (end_next kind (b ∷ text))

abbrev pub name_next : FieldKind → List ℕ → Next
name_next kind [] = Ends None
name_next kind (b ∷ text) = cond (b == colon) (Moves QualifierDue text) (bracket_next kind (rest is_whitespace (b ∷ text)))

abbrev pub operator_next : FieldKind → List ℕ → Next
operator_next kind [] = Ends (Some fault.Operator)
operator_next kind (b ∷ text) = cond (b == equals) (Moves VersionDue text) (cond (is_sign b) (cond (is_provides kind) (Ends (Some fault.ProvidesOperator)) (Moves (AfterSign b) text)) (Ends (Some fault.Operator)))

abbrev pub version_next : List ℕ → Next
version_next left = next_behind CloseDue (version_at (rest is_whitespace left))

abbrev pub sign_next : ℕ → List ℕ → Next
sign_next b [] = version_next []
sign_next b (c ∷ text) = cond (lengthens b c) (Moves VersionDue text) (version_next (c ∷ text))

abbrev pub next : FieldKind → Place → List ℕ → Next
next kind GroupDue left = group_next (rest is_whitespace left)
next kind AtomDue left = next_behind AfterName (name_at (rest is_whitespace left))
next kind AfterName left = name_next kind left
next kind QualifierDue left = cond (length (run is_qualifier_byte left) == 0) (Ends (Some fault.Name)) (Moves AfterQualifier (rest is_qualifier_byte left))
next kind AfterQualifier left = bracket_next kind (rest is_whitespace left)
next kind OperatorDue left = operator_next kind (rest is_whitespace left)
next kind (AfterSign b) left = sign_next b left
next kind VersionDue left = version_next left
next kind CloseDue left = next_of AfterAtom (close_at (rest is_whitespace left))
next kind AfterAtom left = end_next kind (rest is_whitespace left)

-- from place to place to the end: the fault, if there is one
pub data Runs (kind : FieldKind) : Place → List ℕ → Option RelationFault → Type 0 where
  ends : (p : Place) (left : List ℕ) (r : Option RelationFault) → next kind p left ≡ Ends r → Runs kind p left r
  moves : (p : Place) (left : List ℕ) (q : Place) (t : List ℕ) (r : Option RelationFault) → next kind p left ≡ Moves q t → Runs kind q t r → Runs kind p left r

same : (kind : FieldKind) (p q : Place) (s t : List ℕ) (r : Option RelationFault) → next kind q t ≡ next kind p s → Runs kind p s r → Runs kind q t r
same kind p q s t r h (ends _ _ _ e) = ends q t r (h ∙ e)
same kind p q s t r h (moves _ _ x y _ e more) = moves q t x y r (h ∙ e) more

-- two runs from one place end alike
pub one_end : (kind : FieldKind) (p : Place) (left : List ℕ) (r s : Option RelationFault) → Runs kind p left r → Runs kind p left s → r ≡ s
one_end kind p left r s (ends _ _ _ e) (ends _ _ _ f) = let h : Ends r ≡ Ends s = sym e ∙ f in cc
one_end kind p left r s (ends _ _ _ e) (moves _ _ q t _ f more) = let h : Ends r ≡ Moves q t = sym e ∙ f in absurd cc
one_end kind p left r s (moves _ _ q t _ e more) (ends _ _ _ f) = let h : Ends s ≡ Moves q t = sym f ∙ e in absurd cc
one_end kind p left r s (moves _ _ q t _ e more) (moves _ _ x y _ f others) =
    let h : Moves x y ≡ Moves q t = sym f ∙ e in
    let hp : x ≡ q = cc in
    let ht : y ≡ t = cc in
    let P : Place → Type 0 = λ z. Runs kind z y s in
    let Q : List ℕ → Type 0 = λ z. Runs kind q z s in
    one_end kind q t r s more (subst Q ht (subst P hp others))

-- the fault of a result, or of what follows it
abbrev pub then_in : {A : Type 0} → Result A RelationFault → (A → Option RelationFault) → Option RelationFault
then_in (Ok x) k = k x
then_in (Err e) k = Some e

in_bind : {A B : Type 0} (r : Result A RelationFault) (f : A → Result B RelationFault) (k : B → Option RelationFault) → then_in (r >>= f) k ≡ then_in r (λ x. then_in (f x) k)
in_bind (Ok x) f k = refl
in_bind (Err e) f k = refl

-- a step that fails here, or goes on
bind_runs : {A B : Type 0} (kind : FieldKind) (p : Place) (left : List ℕ) (r : Result A RelationFault) (f : A → Result B RelationFault) (k : B → Option RelationFault)
    → ((e : RelationFault) → r ≡ Err e → Runs kind p left (Some e)) → ((x : A) → r ≡ Ok x → Runs kind p left (then_in (f x) k)) → Runs kind p left (then_in (r >>= f) k)
bind_runs kind p left (Ok x) f k bad good = good x refl
bind_runs kind p left (Err e) f k bad good = bad e refl

pub by_bool : (P : Bool → Type 0) → P true → P false → (b : Bool) → P b
by_bool P t f true = t
by_bool P t f false = f

pub on_test : {A : Type 0} (P : A → Type 0) (b : Bool) (x y : A) → (b ≡ true → P x) → (b ≡ false → P y) → P (cond b x y)
on_test P true x y f g = f refl
on_test P false x y f g = g refl

-- ---- the operator

-- how the places follow the longest operator
abbrev Operated : FieldKind → Next → Result (Operator × List ℕ) RelationFault → Type 0
Operated kind n (Err e) = n ≡ Ends (Some e)
Operated kind n (Ok x) = (n ≡ Moves VersionDue x.1) ⊎ ((b : ℕ) × (t : List ℕ) × (n ≡ Moves (AfterSign b) t) × ((next kind (AfterSign b) t ≡ Moves VersionDue x.1) ⊎ (next kind (AfterSign b) t ≡ next kind VersionDue x.1)))

signed : (kind : FieldKind) (b : ℕ) (t : List ℕ) (x : Operator × List ℕ) → is_exact x.0 ≡ false → (next kind (AfterSign b) t ≡ Moves VersionDue x.1) ⊎ (next kind (AfterSign b) t ≡ next kind VersionDue x.1)
    → Operated kind (cond (is_provides kind) (Ends (Some fault.ProvidesOperator)) (Moves (AfterSign b) t)) (allowed kind (Some x))
signed kind b t x h last = go (is_provides kind)
  where
    go : (u : Bool) → Operated kind (cond u (Ends (Some fault.ProvidesOperator)) (Moves (AfterSign b) t)) (cond (u && not (is_exact x.0)) (Err fault.ProvidesOperator) (taken x))
    go true = let P : Bool → Type 0 = λ v. Operated kind (Ends (Some fault.ProvidesOperator)) (cond (not v) (Err fault.ProvidesOperator) (taken x)) in subst P (sym h) refl
    go false = inr (b, t, refl, last)

-- the second byte of an operator
lengthened : (kind : FieldKind) (b c : ℕ) (text : List ℕ) → (c == b) ≡ true → next kind (AfterSign b) (c ∷ text) ≡ Moves VersionDue text
lengthened kind b c text e = ap (λ t. cond (t || c == equals) (Moves VersionDue text) (version_next (c ∷ text))) e

with_equal : (kind : FieldKind) (b c : ℕ) (text : List ℕ) → (c == b) ≡ false → (c == equals) ≡ true → next kind (AfterSign b) (c ∷ text) ≡ Moves VersionDue text
with_equal kind b c text n e = ap (λ t. cond (t || c == equals) (Moves VersionDue text) (version_next (c ∷ text))) n ∙ ap (λ t. cond t (Moves VersionDue text) (version_next (c ∷ text))) e

alone : (kind : FieldKind) (b c : ℕ) (text : List ℕ) → (c == b) ≡ false → (c == equals) ≡ false → next kind (AfterSign b) (c ∷ text) ≡ next kind VersionDue (c ∷ text)
alone kind b c text n e = ap (λ t. cond (t || c == equals) (Moves VersionDue text) (version_next (c ∷ text))) n ∙ ap (λ t. cond t (Moves VersionDue text) (version_next (c ∷ text))) e

less : (kind : FieldKind) (text : List ℕ) → Operated kind (operator_next kind (less_than ∷ text)) (operator_at kind (less_than ∷ text))
less kind [] = signed kind less_than [] (EarlierOrEqual, []) refl (inr refl)
less kind (d ∷ text) =
    let P : Option (Operator × List ℕ) → Type 0 = λ o. Operated kind (operator_next kind (less_than ∷ d ∷ text)) (allowed kind o) in
    on_test P (d == less_than) _ _ (λ e. signed kind less_than (d ∷ text) (Earlier, text) refl (inl (lengthened kind less_than d text e)))
    (λ n. on_test P (d == equals) _ _ (λ e. signed kind less_than (d ∷ text) (EarlierOrEqual, text) refl (inl (with_equal kind less_than d text n e)))
    (λ m. signed kind less_than (d ∷ text) (EarlierOrEqual, d ∷ text) refl (inr (alone kind less_than d text n m))))

greater : (kind : FieldKind) (text : List ℕ) → Operated kind (operator_next kind (greater_than ∷ text)) (operator_at kind (greater_than ∷ text))
greater kind [] = signed kind greater_than [] (LaterOrEqual, []) refl (inr refl)
greater kind (d ∷ text) =
    let P : Option (Operator × List ℕ) → Type 0 = λ o. Operated kind (operator_next kind (greater_than ∷ d ∷ text)) (allowed kind o) in
    on_test P (d == greater_than) _ _ (λ e. signed kind greater_than (d ∷ text) (Later, text) refl (inl (lengthened kind greater_than d text e)))
    (λ n. on_test P (d == equals) _ _ (λ e. signed kind greater_than (d ∷ text) (LaterOrEqual, text) refl (inl (with_equal kind greater_than d text n e)))
    (λ m. signed kind greater_than (d ∷ text) (LaterOrEqual, d ∷ text) refl (inr (alone kind greater_than d text n m))))

equals_alone : (kind : FieldKind) (text : List ℕ) → Operated kind (operator_next kind (equals ∷ text)) (operator_at kind (equals ∷ text))
equals_alone kind [] = let P : Bool → Type 0 = λ u. Operated kind (Moves VersionDue []) (cond (u && false) (Err fault.ProvidesOperator) (taken (Equal, []))) in by_bool P (inl refl) (inl refl) (is_provides kind)
equals_alone kind (d ∷ text) = let P : Bool → Type 0 = λ u. Operated kind (Moves VersionDue (d ∷ text)) (cond (u && false) (Err fault.ProvidesOperator) (taken (Equal, d ∷ text))) in by_bool P (inl refl) (inl refl) (is_provides kind)

-- no operator
no_token : (b : ℕ) (text : List ℕ) → (b == less_than) ≡ false → (b == equals) ≡ false → (b == greater_than) ≡ false → operator_token (b ∷ text) ≡ None
no_token b [] x y z = rw (x, z, y) refl
no_token b (d ∷ text) x y z = rw (y, x, z) refl

no_next : (kind : FieldKind) (b : ℕ) (text : List ℕ) → (b == less_than) ≡ false → (b == equals) ≡ false → (b == greater_than) ≡ false → operator_next kind (b ∷ text) ≡ Ends (Some fault.Operator)
no_next kind b text x y z = rw (y, x, z) refl

operated : (kind : FieldKind) (text : List ℕ) → Operated kind (operator_next kind text) (operator_at kind text)
operated kind [] = refl
operated kind (b ∷ text) = one (b == less_than) (b == equals) (b == greater_than) refl refl refl
  where
    one : (x y z : Bool) → (b == less_than) ≡ x → (b == equals) ≡ y → (b == greater_than) ≡ z → Operated kind (operator_next kind (b ∷ text)) (operator_at kind (b ∷ text))
    one true y z e f g = let P : ℕ → Type 0 = λ c. Operated kind (operator_next kind (c ∷ text)) (operator_at kind (c ∷ text)) in subst P (sym (eqb-true b less_than e)) (less kind text)
    one false true z e f g = let P : ℕ → Type 0 = λ c. Operated kind (operator_next kind (c ∷ text)) (operator_at kind (c ∷ text)) in subst P (sym (eqb-true b equals f)) (equals_alone kind text)
    one false false true e f g = let P : ℕ → Type 0 = λ c. Operated kind (operator_next kind (c ∷ text)) (operator_at kind (c ∷ text)) in subst P (sym (eqb-true b greater_than g)) (greater kind text)
    one false false false e f g =
        let P : Option (Operator × List ℕ) → Type 0 = λ o. Operated kind (operator_next kind (b ∷ text)) (allowed kind o) in
        subst P (sym (no_token b text e f g)) (no_next kind b text e f g)

-- an operator that fails, or one that is read
operator_fails : (kind : FieldKind) (text : List ℕ) (e : RelationFault) → operator_at kind (rest is_whitespace text) ≡ Err e → Runs kind OperatorDue text (Some e)
operator_fails kind text e h =
    let P : Result (Operator × List ℕ) RelationFault → Type 0 = Operated kind (operator_next kind (rest is_whitespace text)) in
    ends OperatorDue text (Some e) (subst P h (operated kind (rest is_whitespace text)))

operator_runs : (kind : FieldKind) (text : List ℕ) (x : Operator × List ℕ) (r : Option RelationFault) → operator_at kind (rest is_whitespace text) ≡ Ok x → Runs kind VersionDue x.1 r → Runs kind OperatorDue text r
operator_runs kind text x r h more =
    let P : Result (Operator × List ℕ) RelationFault → Type 0 = Operated kind (operator_next kind (rest is_whitespace text)) in
    let o : Operated kind (operator_next kind (rest is_whitespace text)) (Ok x) = subst P h (operated kind (rest is_whitespace text)) in
    go o
  where
    last : (b : ℕ) (t : List ℕ) → (next kind (AfterSign b) t ≡ Moves VersionDue x.1) ⊎ (next kind (AfterSign b) t ≡ next kind VersionDue x.1) → Runs kind (AfterSign b) t r
    last b t (inl e) = moves (AfterSign b) t VersionDue x.1 r e more
    last b t (inr e) = same kind VersionDue (AfterSign b) x.1 t r e more

    go : Operated kind (operator_next kind (rest is_whitespace text)) (Ok x) → Runs kind OperatorDue text r
    go (inl e) = moves OperatorDue text VersionDue x.1 r e more
    go (inr s) = moves OperatorDue text (AfterSign s.0) s.1 r s.2 (last s.0 s.1 s.3)

-- ---- atoms

parenthesized_runs : (kind : FieldKind) (text : List ℕ) (k : (Operator × List ℕ) × List ℕ → Option RelationFault) → ((x : (Operator × List ℕ) × List ℕ) → parenthesized_at kind text ≡ Ok x → Runs kind AfterAtom x.1 (k x)) → Runs kind OperatorDue text (then_in (parenthesized_at kind text) k)
unfolding parenthesized_at
parenthesized_runs kind text k h =
    let f : Operator × List ℕ → Result ((Operator × List ℕ) × List ℕ) RelationFault = λ op. version_at (rest is_whitespace op.1) >>= λ version. close_at (rest is_whitespace version.1) >>= λ after. Ok ((op.0, version.0), after) in
    bind_runs kind OperatorDue text (operator_at kind (rest is_whitespace text)) f k (operator_fails kind text) (λ op e.
    let g : List ℕ × List ℕ → Result ((Operator × List ℕ) × List ℕ) RelationFault = λ version. close_at (rest is_whitespace version.1) >>= λ after. Ok ((op.0, version.0), after) in
    operator_runs kind text op (then_in (f op) k) e (bind_runs kind VersionDue op.1 (version_at (rest is_whitespace op.1)) g k (λ d w. ends VersionDue op.1 (Some d) (ap (next_behind CloseDue) w)) (λ v w.
    let c : List ℕ → Result ((Operator × List ℕ) × List ℕ) RelationFault = λ after. Ok ((op.0, v.0), after) in
    moves VersionDue op.1 CloseDue v.1 (then_in (g v) k) (ap (next_behind CloseDue) w) (bind_runs kind CloseDue v.1 (close_at (rest is_whitespace v.1)) c k (λ d u. ends CloseDue v.1 (Some d) (ap (next_of AfterAtom) u)) (λ after u.
    moves CloseDue v.1 AfterAtom after (k ((op.0, v.0), after)) (ap (next_of AfterAtom) u)
    (h ((op.0, v.0), after) (step (operator_at kind (rest is_whitespace text)) f op e ∙ step (version_at (rest is_whitespace op.1)) g v w ∙ step (close_at (rest is_whitespace v.1)) c after u)))))))

bound_runs : (kind : FieldKind) (p : Place) (left : List ℕ) (k : Option (Operator × List ℕ) × List ℕ → Option RelationFault) → next kind p left ≡ bracket_next kind (rest is_whitespace left)
    → ((x : Option (Operator × List ℕ) × List ℕ) → bound_at kind left ≡ Ok x → Runs kind AfterAtom x.1 (k x)) → Runs kind p left (then_in (bound_at kind left) k)
bound_runs kind p left k n h = go (rest is_whitespace left) refl
  where
    none : next kind p left ≡ end_next kind (rest is_whitespace left) → bound_at kind left ≡ Ok (None, left) → Runs kind p left (k (None, left))
    none e b = same kind AfterAtom p left left (k (None, left)) e (h (None, left) b)

    go : (y : List ℕ) → rest is_whitespace left ≡ y → Runs kind p left (then_in (bound_behind kind left y) k)
    go [] e = none (n ∙ ap (bracket_next kind) e ∙ sym (ap (end_next kind) e)) (ap (bound_behind kind left) e)
    go (b ∷ behind) e = test (b == left_parenthesis) refl
      where
        test : (u : Bool) → (b == left_parenthesis) ≡ u → Runs kind p left (then_in (cond u (parenthesized_at kind behind >>= λ x. Ok (Some x.0, x.1)) (Ok (None, left))) k)
        test true t =
            let f : (Operator × List ℕ) × List ℕ → Result (Option (Operator × List ℕ) × List ℕ) RelationFault = λ x. Ok (Some x.0, x.1) in
            let s : next kind p left ≡ Moves OperatorDue behind = n ∙ ap (bracket_next kind) e ∙ ap (λ z. cond z (Moves OperatorDue behind) (end_next kind (b ∷ behind))) t in
            let a : bound_at kind left ≡ (parenthesized_at kind behind >>= f) = ap (bound_behind kind left) e ∙ ap (λ z. cond z (parenthesized_at kind behind >>= f) (Ok (None, left))) t in
            let P : Option RelationFault → Type 0 = Runs kind p left in
            subst P (sym (in_bind (parenthesized_at kind behind) f k)) (moves p left OperatorDue behind _ s (parenthesized_runs kind behind (λ x. k (Some x.0, x.1)) (λ x w. h (Some x.0, x.1) (a ∙ step (parenthesized_at kind behind) f x w))))
        test false t = none (n ∙ ap (bracket_next kind) e ∙ ap (λ z. cond z (Moves OperatorDue behind) (end_next kind (b ∷ behind))) t ∙ sym (ap (end_next kind) e)) (ap (bound_behind kind left) e ∙ ap (λ z. cond z (parenthesized_at kind behind >>= λ x. Ok (Some x.0, x.1)) (Ok (None, left))) t)

qualifier_runs : {B : Type 0} (kind : FieldKind) (left : List ℕ) (f : Option (List ℕ) × List ℕ → Result B RelationFault) (k : B → Option RelationFault)
    → ((p : Place) (q : Option (List ℕ) × List ℕ) → qualifier_at left ≡ Ok q → next kind p q.1 ≡ bracket_next kind (rest is_whitespace q.1) → Runs kind p q.1 (then_in (f q) k)) → Runs kind AfterName left (then_in (qualifier_at left >>= f) k)
qualifier_runs kind [] f k h = h AfterName (None, []) refl refl
qualifier_runs kind (b ∷ text) f k h = test (b == colon) refl
  where
    test : (u : Bool) → (b == colon) ≡ u → Runs kind AfterName (b ∷ text) (then_in (cond u (cond (length (run is_qualifier_byte text) == 0) (Err fault.Name) (Ok (Some (run is_qualifier_byte text), rest is_qualifier_byte text))) (Ok (None, b ∷ text)) >>= f) k)
    test true t = moves AfterName (b ∷ text) QualifierDue text _ (ap (λ z. cond z (Moves QualifierDue text) (bracket_next kind (rest is_whitespace (b ∷ text)))) t) (inner (length (run is_qualifier_byte text) == 0) refl)
      where
        inner : (v : Bool) → (length (run is_qualifier_byte text) == 0) ≡ v → Runs kind QualifierDue text (then_in (cond v (Err fault.Name) (Ok (Some (run is_qualifier_byte text), rest is_qualifier_byte text)) >>= f) k)
        inner true v = ends QualifierDue text (Some fault.Name) (ap (λ z. cond z (Ends (Some fault.Name)) (Moves AfterQualifier (rest is_qualifier_byte text))) v)
        inner false v =
            let q : Option (List ℕ) × List ℕ = (Some (run is_qualifier_byte text), rest is_qualifier_byte text) in
            let e : qualifier_at (b ∷ text) ≡ taken q = ap (λ z. cond z (cond (length (run is_qualifier_byte text) == 0) (Err fault.Name) (taken q)) (taken (None, b ∷ text))) t ∙ ap (λ z. cond z (Err fault.Name) (taken q)) v in
            moves QualifierDue text AfterQualifier (rest is_qualifier_byte text) _ (ap (λ z. cond z (Ends (Some fault.Name)) (Moves AfterQualifier (rest is_qualifier_byte text))) v) (h AfterQualifier q e refl)
    test false t =
        h AfterName (None, b ∷ text) (ap (λ z. cond z (cond (length (run is_qualifier_byte text) == 0) (Err fault.Name) (taken (Some (run is_qualifier_byte text), rest is_qualifier_byte text))) (taken (None, b ∷ text))) t)
        (ap (λ z. cond z (Moves QualifierDue text) (bracket_next kind (rest is_whitespace (b ∷ text)))) t)

atom_runs : (kind : FieldKind) (p : Place) (left text : List ℕ) (k : AtomParts × List ℕ → Option RelationFault) → next kind p left ≡ next_behind AfterName (name_at text)
    → ((x : AtomParts × List ℕ) → atom_at kind text ≡ Ok x → Runs kind AfterAtom x.1 (k x)) → Runs kind p left (then_in (atom_at kind text) k)
unfolding atom_at
atom_runs kind p left text k n h =
    let f : List ℕ × List ℕ → Result (AtomParts × List ℕ) RelationFault = λ name. qualifier_at name.1 >>= λ qualifier. bound_at kind qualifier.1 >>= λ bound. Ok (record { name = name.0; qualifier = qualifier.0; bound = bound.0 }, bound.1) in
    bind_runs kind p left (name_at text) f k (λ e w. ends p left (Some e) (n ∙ ap (next_behind AfterName) w)) (λ name w.
    let g : Option (List ℕ) × List ℕ → Result (AtomParts × List ℕ) RelationFault = λ qualifier. bound_at kind qualifier.1 >>= λ bound. Ok (record { name = name.0; qualifier = qualifier.0; bound = bound.0 }, bound.1) in
    moves p left AfterName name.1 (then_in (f name) k) (n ∙ ap (next_behind AfterName) w) (qualifier_runs kind name.1 g k (λ q qualifier v s.
    let c : Option (Operator × List ℕ) × List ℕ → Result (AtomParts × List ℕ) RelationFault = λ bound. Ok (record { name = name.0; qualifier = qualifier.0; bound = bound.0 }, bound.1) in
    let P : Option RelationFault → Type 0 = Runs kind q qualifier.1 in
    subst P (sym (in_bind (bound_at kind qualifier.1) c k)) (bound_runs kind q qualifier.1 (λ bound. k (record { name = name.0; qualifier = qualifier.0; bound = bound.0 }, bound.1)) s (λ bound u.
    h (record { name = name.0; qualifier = qualifier.0; bound = bound.0 }, bound.1) (step (name_at text) f name w ∙ step (qualifier_at name.1) g qualifier v ∙ step (bound_at kind qualifier.1) c bound u))))))

-- ---- groups

pub name_some : (name : List ℕ) → is_name name ≡ true → 0 < length name
name_some [] h = absurd cc
name_some (b ∷ name) h = omega arith

atom_shorter : (kind : FieldKind) (text : List ℕ) (x : AtomParts × List ℕ) → atom_at kind text ≡ Ok x → length x.1 < length text
atom_shorter kind text x e =
    let a = atom_found kind text x e in
    let n : 0 < length x.0.name = name_some x.0.name a.1.name in
    let w : length a.0 ≡ length (x.0.name ++ (a.1.qualifier_text ++ a.1.bound_text)) = ap length a.1.whole in
    let v : length text ≡ length (a.0 ++ x.1) = ap length a.2 in
    omega (arith, length-append a.0 x.1, length-append x.0.name (a.1.qualifier_text ++ a.1.bound_text))

rest_within : (text y : List ℕ) → rest is_whitespace text ≡ y → length y ≤ length text
rest_within text y e = let h : length (rest is_whitespace text) ≡ length y = ap length e in omega (arith, length-drop (prefix_len is_whitespace text) text)

group_runs : (m : ℕ) (kind : FieldKind) (p : Place) (left text : List ℕ) (k : List AtomParts × List ℕ → Option RelationFault) → next kind p left ≡ next_behind AfterName (name_at text) → length text < m
    → ((x : List AtomParts × List ℕ) → behind_byte bar (rest is_whitespace x.1) ≡ None → length x.1 < length text → Runs kind AfterAtom x.1 (k x)) → Runs kind p left (then_in (group_at m kind text) k)
group_runs zero kind p left text k n l h = absurd (omega arith)
group_runs (suc m) kind p left text k n l h =
    let f : AtomParts × List ℕ → Result (List AtomParts × List ℕ) RelationFault = λ atom. alternatives kind (group_at m kind) atom (behind_byte bar (rest is_whitespace atom.1)) in
    let P : Option RelationFault → Type 0 = Runs kind p left in
    subst P (sym (in_bind (atom_at kind text) f k)) (atom_runs kind p left text (λ x. then_in (f x) k) n (λ x e. go (group_runs m kind) x (atom_shorter kind text x e) (behind_byte bar (rest is_whitespace x.1)) refl))
  where
    go : ((p : Place) (left text : List ℕ) (k : List AtomParts × List ℕ → Option RelationFault) → next kind p left ≡ next_behind AfterName (name_at text) → length text < m
        → ((x : List AtomParts × List ℕ) → behind_byte bar (rest is_whitespace x.1) ≡ None → length x.1 < length text → Runs kind AfterAtom x.1 (k x)) → Runs kind p left (then_in (group_at m kind text) k))
        → (x : AtomParts × List ℕ) → length x.1 < length text → (b : Option (List ℕ)) → behind_byte bar (rest is_whitespace x.1) ≡ b → Runs kind AfterAtom x.1 (then_in (alternatives kind (group_at m kind) x b) k)
    go again x s None e = h (x.0 ∷ [], x.1) e s
    go again x s (Some t) e = test (has_alternatives kind) refl
      where
        test : (u : Bool) → has_alternatives kind ≡ u → Runs kind AfterAtom x.1 (then_in (cond u (group_at m kind (rest is_whitespace t) >>= λ y. Ok (x.0 ∷ y.0, y.1)) (Err fault.Alternative)) k)
        test true u =
            let f : List AtomParts × List ℕ → Result (List AtomParts × List ℕ) RelationFault = λ y. Ok (x.0 ∷ y.0, y.1) in
            let P : Option RelationFault → Type 0 = Runs kind AfterAtom x.1 in
            let s1 : length (bar ∷ t) ≤ length x.1 = rest_within x.1 (bar ∷ t) (behind_found bar (rest is_whitespace x.1) t e) in
            let s2 : length (rest is_whitespace t) ≤ length t = rest_within t (rest is_whitespace t) refl in
            subst P (sym (in_bind (group_at m kind (rest is_whitespace t)) f k)) (moves AfterAtom x.1 AtomDue t _ (ap (end_next kind) (behind_found bar (rest is_whitespace x.1) t e) ∙ ap (λ z. cond z (Moves AtomDue t) (Ends (Some fault.Alternative))) u)
            (again AtomDue t (rest is_whitespace t) (λ y. k (x.0 ∷ y.0, y.1)) refl (omega arith) (λ y n l. h (x.0 ∷ y.0, y.1) n (omega arith))))
        test false u = ends AfterAtom x.1 (Some fault.Alternative) (ap (end_next kind) (behind_found bar (rest is_whitespace x.1) t e) ∙ ap (λ z. cond z (Moves AtomDue t) (Ends (Some fault.Alternative))) u)

-- ---- fields

no_byte : (c b : ℕ) (text : List ℕ) → behind_byte c (b ∷ text) ≡ None → (b == c) ≡ false
no_byte c b text h = go (b == c) h
  where
    go : (u : Bool) → cond u (Some text) None ≡ None → u ≡ false
    go true h = absurd cc
    go false h = refl

pub more_than : (b : ℕ) (text : List ℕ) → (length (b ∷ text) == 0) ≡ false
more_than b text = grind (arith, nat_tests)

abbrev pub fault_in : {A : Type 0} → Result A RelationFault → Option RelationFault
fault_in r = then_in r (λ x. None)

-- behind a group: a comma and further groups, or the end
behind_runs : (n : ℕ) (kind : FieldKind) (g : List AtomParts) (after : List ℕ) → ((text : List ℕ) → length text < n → Runs kind GroupDue text (fault_in (groups_at n kind text))) → behind_byte bar (rest is_whitespace after) ≡ None → length after < suc n
    → Runs kind AfterAtom after (fault_in (groups_behind (groups_at n kind) g (rest is_whitespace after) (behind_byte comma (rest is_whitespace after))))
behind_runs n kind g after again h l = go (rest is_whitespace after) refl h
  where
    go : (y : List ℕ) → rest is_whitespace after ≡ y → behind_byte bar y ≡ None → Runs kind AfterAtom after (fault_in (groups_behind (groups_at n kind) g y (behind_byte comma y)))
    go [] e h = ends AfterAtom after None (ap (end_next kind) e)
    go (b ∷ text) e h = test (b == comma) refl
      where
        test : (u : Bool) → (b == comma) ≡ u → Runs kind AfterAtom after (fault_in (groups_behind (groups_at n kind) g (b ∷ text) (cond u (Some text) None)))
        test true u =
            let P : Option RelationFault → Type 0 = Runs kind AfterAtom after in
            let f : List (List AtomParts) → Result (List (List AtomParts)) RelationFault = λ x. Ok (g ∷ x) in
            let s : length (b ∷ text) ≤ length after = rest_within after (b ∷ text) e in
            subst P (sym (in_bind (groups_at n kind text) f (λ x. None))) (moves AfterAtom after GroupDue text _ (ap (end_next kind) e ∙ ap (λ z. cond z (Moves GroupDue text) (cond (b == bar) (cond (has_alternatives kind) (Moves AtomDue text) (Ends (Some fault.Alternative))) (Ends (Some fault.Name)))) u) (again text (omega arith)))
        test false u =
            let P : Bool → Type 0 = λ z. Runs kind AfterAtom after (fault_in (cond z (taken (g ∷ [])) (Err fault.Name))) in
            subst P (sym (more_than b text)) (ends AfterAtom after (Some fault.Name) (ap (end_next kind) e ∙ ap (λ z. cond z (Moves GroupDue text) (cond (b == bar) (cond (has_alternatives kind) (Moves AtomDue text) (Ends (Some fault.Alternative))) (Ends (Some fault.Name)))) u
            ∙ ap (λ z. cond z (cond (has_alternatives kind) (Moves AtomDue text) (Ends (Some fault.Alternative))) (Ends (Some fault.Name))) (no_byte bar b text h)))

groups_runs : (n : ℕ) (kind : FieldKind) (text : List ℕ) → length text < n → Runs kind GroupDue text (fault_in (groups_at n kind text))
groups_runs zero kind text l = absurd (omega arith)
groups_runs (suc n) kind text l = go (groups_runs n kind) (rest is_whitespace text) refl
  where
    go : ((text : List ℕ) → length text < n → Runs kind GroupDue text (fault_in (groups_at n kind text))) → (y : List ℕ) → rest is_whitespace text ≡ y → Runs kind GroupDue text (fault_in (groups_from (groups_at n kind) kind y (behind_byte comma y)))
    go again [] e = ends GroupDue text None (ap group_next e)
    go again (b ∷ after) e = test (b == comma) refl
      where
        test : (u : Bool) → (b == comma) ≡ u → Runs kind GroupDue text (fault_in (groups_from (groups_at n kind) kind (b ∷ after) (cond u (Some after) None)))
        test true u =
            let s : length (b ∷ after) ≤ length text = rest_within text (b ∷ after) e in
            moves GroupDue text GroupDue after _ (ap group_next e ∙ ap (λ z. cond z (Moves GroupDue after) (next_behind AfterName (name_at (b ∷ after)))) u) (again after (omega arith))
        test false u =
            let x : List ℕ = b ∷ after in
            let s : length (b ∷ after) ≤ length text = rest_within text (b ∷ after) e in
            let f : List AtomParts × List ℕ → Result (List (List AtomParts)) RelationFault = λ g. groups_behind (groups_at n kind) g.0 (rest is_whitespace g.1) (behind_byte comma (rest is_whitespace g.1)) in
            let P : Option RelationFault → Type 0 = Runs kind GroupDue text in
            let Q : Bool → Type 0 = λ z. Runs kind GroupDue text (fault_in (cond z (taken []) (group_at (length x + 1) kind x >>= f))) in
            subst Q (sym (more_than b after)) (subst P (sym (in_bind (group_at (length x + 1) kind x) f (λ y. None)))
            (group_runs (length x + 1) kind GroupDue text x (λ g. fault_in (f g)) (ap group_next e ∙ ap (λ z. cond z (Moves GroupDue after) (next_behind AfterName (name_at (b ∷ after)))) u) (omega arith)
            (λ g nothing short. behind_runs n kind g.0 g.1 again nothing (omega arith))))

-- the reader goes from place to place, and has the fault where they end
pub reader_runs : (kind : FieldKind) (body : List ℕ) → Runs kind GroupDue body (fault_in (relations_of kind body))
reader_runs kind body = groups_runs (length body + 1) kind body (omega arith)
