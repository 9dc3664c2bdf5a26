-- What is read is in the grammar.
use Rattle.std.proofs.Common.{◌≡◌, ℕ, zero, suc, ◌+◌, ◌<◌, Bool, true, false, cond, Option, Some, None, List, [], ◌∷◌, ◌++◌, length, Result, Ok, Err, refl, sym, ap, subst, ◌∙◌, append_assoc, append-nil, eqb-true, arith, inl, inr}
use Rattle.std.specs.Prelude.{◌==◌, not, ◌&&◌, is_none, IfOk}
use Rattle.std.specs.List.{list_all}
use Rattle.std.proofs.lemmas.Bool.Decides.{nat_tests}
use Rattle.std.proofs.lemmas.List.Folds.{list_all-append}
use Rattle.ctl_relation.specs.declared.relation_fault.RelationFault.{RelationFault}
use Rattle.ctl_relation.specs.declared.relation_fault.RelationFault.TheVariants as fault
use Rattle.ctl_relation.specs.declared.operator.Operator.{Operator}
use Rattle.ctl_relation.specs.declared.field_kind.FieldKind.{FieldKind}
use Rattle.ctl_relation.specs.Bytes.{left_parenthesis, right_parenthesis, comma, colon, less_than, equals, greater_than, bar}
use Rattle.ctl_relation.specs.FieldBytes.{is_whitespace, is_qualifier_byte, is_version_word_byte}
use Rattle.ctl_relation.specs.Runs.{run, rest}
use Rattle.ctl_relation.specs.Parts.{AtomParts}
use Rattle.ctl_relation.specs.Version.{fault_of}
use Rattle.ctl_relation.specs.Names.{is_name_byte, is_name}
use Rattle.ctl_relation.specs.FieldKind.{is_provides, has_alternatives, is_exact}
use Rattle.ctl_relation.proofs.LongestRuns.{run-rest, run-passes}
use Rattle.ctl_relation.specs.Reading.{◌>>=◌, name_at, qualifier_at, operator_token, allowed, operator_at, version_at, close_at, parenthesized_at, bound_behind, bound_at, atom_at, behind_byte, alternatives, group_at, groups_behind, groups_from, groups_at, relations_of, Gives}
use Rattle.ctl_relation.specs.Grammar.{IsWhitespace, IsSpelled, QualifierText, BoundText, AtomText, PaddedAtom, GroupText, PieceText, PiecesText, given_groups, RelationsText}

pub bind_ok : {A B : Type 0} (r : Result A RelationFault) (f : A → Result B RelationFault) (y : B) → (r >>= f) ≡ Ok y → (x : A) × (r ≡ Ok x) × (f x ≡ Ok y)
bind_ok (Ok x) f y e = (x, refl, e)
bind_ok (Err d) f y e = absurd cc

-- a test that has passed
guard_ok : {A : Type 0} (b : Bool) (d : RelationFault) (x y : A) → cond b (Ok x) (Err d) ≡ Ok y → (b ≡ true) × (x ≡ y)
guard_ok true d x y e = (refl, cc)
guard_ok false d x y e = absurd cc

pub none_is : {A : Type 0} (o : Option A) → is_none o ≡ true → o ≡ None
none_is None e = refl
none_is (Some x) e = absurd cc

abbrev pub taken : {A : Type 0} → A → Result A RelationFault
taken x = Ok x

ok_is : {A : Type 0} (x y : A) → taken x ≡ taken y → x ≡ y
ok_is x y e = cc

pub regroup : (a b c d v f after : List ℕ) → (a ++ left_parenthesis ∷ (b ++ (c ++ (d ++ (v ++ (f ++ right_parenthesis ∷ [])))))) ++ after ≡ a ++ left_parenthesis ∷ (b ++ (c ++ (d ++ (v ++ (f ++ right_parenthesis ∷ after)))))
regroup a b c d v f after = simp append_assoc

guard_err : {A : Type 0} (b : Bool) (d : RelationFault) (x y : A) → cond b (Err d) (Ok x) ≡ Ok y → (b ≡ false) × (x ≡ y)
guard_err true d x y e = absurd cc
guard_err false d x y e = (refl, cc)

name_found : (text : List ℕ) (x : List ℕ × List ℕ) → name_at text ≡ Ok x → (is_name x.0 ≡ true) × (text ≡ x.0 ++ x.1)
name_found text x e =
    let g = guard_ok (is_name (run is_name_byte text)) fault.Name (run is_name_byte text, rest is_name_byte text) x e in
    let P : List ℕ × List ℕ → Type 0 = λ y. (is_name y.0 ≡ true) × (text ≡ y.0 ++ y.1) in
    subst P g.1 (g.0, run-rest is_name_byte text)

version_found : (text : List ℕ) (x : List ℕ × List ℕ) → version_at text ≡ Ok x → (fault_of x.0 ≡ None) × (text ≡ x.0 ++ x.1)
version_found text x e =
    let g = guard_ok (is_none (fault_of (run is_version_word_byte text))) fault.Version (run is_version_word_byte text, rest is_version_word_byte text) x e in
    let P : List ℕ × List ℕ → Type 0 = λ y. (fault_of y.0 ≡ None) × (text ≡ y.0 ++ y.1) in
    subst P g.1 (none_is (fault_of (run is_version_word_byte text)) g.0, run-rest is_version_word_byte text)

close_found : (text after : List ℕ) → close_at text ≡ Ok after → text ≡ right_parenthesis ∷ after
close_found [] after e = absurd cc
close_found (b ∷ text) after e =
    let g = guard_ok (b == right_parenthesis) fault.Close text after e in
    ap (λ n. n ∷ text) (eqb-true b right_parenthesis g.0) ∙ ap (λ (l : List ℕ). right_parenthesis ∷ l) g.1

qualifier_found : (text : List ℕ) (x : Option (List ℕ) × List ℕ) → qualifier_at text ≡ Ok x → (q : List ℕ) × QualifierText q x.0 × (text ≡ q ++ x.1)
qualifier_found [] x e = let h : (None, []) ≡ x = cc in let P : Option (List ℕ) × List ℕ → Type 0 = λ y. (q : List ℕ) × QualifierText q y.0 × ([] ≡ q ++ y.1) in subst P h ([], refl, refl)
qualifier_found (b ∷ text) x e = go (b == colon) refl e
  where
    go : (t : Bool) → (b == colon) ≡ t → cond t (cond (length (run is_qualifier_byte text) == 0) (Err fault.Name) (Ok (Some (run is_qualifier_byte text), rest is_qualifier_byte text))) (Ok (None, b ∷ text)) ≡ Ok x
        → (q : List ℕ) × QualifierText q x.0 × (b ∷ text ≡ q ++ x.1)
    go true h e =
        let g = guard_err (length (run is_qualifier_byte text) == 0) fault.Name (Some (run is_qualifier_byte text), rest is_qualifier_byte text) x e in
        let P : Option (List ℕ) × List ℕ → Type 0 = λ y. (q : List ℕ) × QualifierText q y.0 × (b ∷ text ≡ q ++ y.1) in
        let some : 0 < length (run is_qualifier_byte text) = grind (arith, nat_tests) in
        subst P g.1 (colon ∷ run is_qualifier_byte text, (refl, some, run-passes is_qualifier_byte text), ap (λ n. n ∷ text) (eqb-true b colon h) ∙ ap (λ (l : List ℕ). colon ∷ l) (run-rest is_qualifier_byte text))
    go false h e = let k : (None, b ∷ text) ≡ x = cc in let P : Option (List ℕ) × List ℕ → Type 0 = λ y. (q : List ℕ) × QualifierText q y.0 × (b ∷ text ≡ q ++ y.1) in subst P k ([], refl, refl)

-- an operator and what follows it
abbrev Spells : List ℕ → Option (Operator × List ℕ) → Type 0
Spells text None = Unit {0}
Spells text (Some x) = (s : List ℕ) × IsSpelled x.0 s × (text ≡ s ++ x.1)

pick : {A : Type 0} (P : A → Type 0) (b n : ℕ) (x y : A) → (b ≡ n → P x) → P y → P (cond (b == n) x y)
pick P b n x y f g = go (b == n) refl
  where
    go : (t : Bool) → (b == n) ≡ t → P (cond t x y)
    go true h = f (eqb-true b n h)
    go false h = g

two : (b d m n : ℕ) (text : List ℕ) → b ≡ m → d ≡ n → b ∷ d ∷ text ≡ m ∷ n ∷ text
two b d m n text p q = ap (λ k. k ∷ d ∷ text) p ∙ ap (λ k. m ∷ k ∷ text) q

operator_found : (text : List ℕ) → Spells text (operator_token text)
operator_found [] = tt
operator_found (b ∷ []) =
    pick (Spells (b ∷ [])) b less_than _ _ (λ e. (less_than ∷ [], inr refl, ap (λ n. n ∷ []) e))
    (pick (Spells (b ∷ [])) b greater_than _ _ (λ e. (greater_than ∷ [], inr refl, ap (λ n. n ∷ []) e))
    (pick (Spells (b ∷ [])) b equals _ _ (λ e. (equals ∷ [], refl, ap (λ n. n ∷ []) e)) tt))
operator_found (b ∷ d ∷ text) =
    let P : Option (Operator × List ℕ) → Type 0 = Spells (b ∷ d ∷ text) in
    pick P b equals _ _ (λ e. (equals ∷ [], refl, ap (λ n. n ∷ d ∷ text) e))
    (pick P b less_than _ _ (λ e. pick P d less_than _ _ (λ f. (less_than ∷ less_than ∷ [], refl, two b d less_than less_than text e f))
    (pick P d equals _ _ (λ f. (less_than ∷ equals ∷ [], inl refl, two b d less_than equals text e f)) (less_than ∷ [], inr refl, ap (λ n. n ∷ d ∷ text) e)))
    (pick P b greater_than _ _ (λ e. pick P d greater_than _ _ (λ f. (greater_than ∷ greater_than ∷ [], refl, two b d greater_than greater_than text e f))
    (pick P d equals _ _ (λ f. (greater_than ∷ equals ∷ [], inl refl, two b d greater_than equals text e f)) (greater_than ∷ [], inr refl, ap (λ n. n ∷ d ∷ text) e)))
    tt))

allowed_found : (kind : FieldKind) (o : Option (Operator × List ℕ)) (x : Operator × List ℕ) → allowed kind o ≡ Ok x → (o ≡ Some x) × (is_provides kind ≡ true → is_exact x.0 ≡ true)
allowed_found kind None x e = absurd cc
allowed_found kind (Some y) x e =
    let g = guard_err (is_provides kind && not (is_exact y.0)) fault.ProvidesOperator y x e in
    let P : Operator × List ℕ → Type 0 = λ z. (Some y ≡ Some z) × (is_provides kind ≡ true → is_exact z.0 ≡ true) in
    subst P g.1 (refl, λ p. exact (is_provides kind) (is_exact y.0) g.0 p)
  where
    exact : (s t : Bool) → (s && not t) ≡ false → s ≡ true → t ≡ true
    exact true true g p = refl
    exact true false g p = absurd cc
    exact false t g p = absurd cc

-- the text of what stands behind an open parenthesis
record Inner (kind : FieldKind) (text : List ℕ) (op : Operator) (version after : List ℕ) : Type 0 where
  inside : List ℕ
  spelled : List ℕ
  between : List ℕ
  behind : List ℕ
  blanks : IsWhitespace inside × IsWhitespace between × IsWhitespace behind
  operator : IsSpelled op spelled
  in_provides : is_provides kind ≡ true → is_exact op ≡ true
  is_version : fault_of version ≡ None
  whole : text ≡ inside ++ (spelled ++ (between ++ (version ++ (behind ++ right_parenthesis ∷ after))))

parenthesized_found : (kind : FieldKind) (text : List ℕ) (x : (Operator × List ℕ) × List ℕ) → parenthesized_at kind text ≡ Ok x → Inner kind text x.0.0 x.0.1 x.1
unfolding parenthesized_at
parenthesized_found kind text x e =
    let a = bind_ok (operator_at kind (rest is_whitespace text)) (λ op. version_at (rest is_whitespace op.1) >>= λ version. close_at (rest is_whitespace version.1) >>= λ after. Ok ((op.0, version.0), after)) x e in
    let b = bind_ok (version_at (rest is_whitespace a.0.1)) (λ version. close_at (rest is_whitespace version.1) >>= λ after. Ok ((a.0.0, version.0), after)) x a.2 in
    let c = bind_ok (close_at (rest is_whitespace b.0.1)) (λ after. Ok ((a.0.0, b.0.0), after)) x b.2 in
    let op = allowed_found kind (operator_token (rest is_whitespace text)) a.0 a.1 in
    let P : Option (Operator × List ℕ) → Type 0 = Spells (rest is_whitespace text) in
    let spelled : Spells (rest is_whitespace text) (Some a.0) = subst P op.0 (operator_found (rest is_whitespace text)) in
    let version = version_found (rest is_whitespace a.0.1) b.0 b.1 in
    let close = close_found (rest is_whitespace b.0.1) c.0 c.1 in
    let made : (Operator × List ℕ) × List ℕ = ((a.0.0, b.0.0), c.0) in
    let Q : (Operator × List ℕ) × List ℕ → Type 0 = λ y. Inner kind text y.0.0 y.0.1 y.1 in
    let e5 : b.0.1 ≡ run is_whitespace b.0.1 ++ right_parenthesis ∷ c.0 = run-rest is_whitespace b.0.1 ∙ ap (λ l. run is_whitespace b.0.1 ++ l) close in
    let e4 : rest is_whitespace a.0.1 ≡ b.0.0 ++ (run is_whitespace b.0.1 ++ right_parenthesis ∷ c.0) = version.1 ∙ ap (λ l. b.0.0 ++ l) e5 in
    let e3 : a.0.1 ≡ run is_whitespace a.0.1 ++ (b.0.0 ++ (run is_whitespace b.0.1 ++ right_parenthesis ∷ c.0)) = run-rest is_whitespace a.0.1 ∙ ap (λ l. run is_whitespace a.0.1 ++ l) e4 in
    let e2 : rest is_whitespace text ≡ spelled.0 ++ (run is_whitespace a.0.1 ++ (b.0.0 ++ (run is_whitespace b.0.1 ++ right_parenthesis ∷ c.0))) = spelled.2 ∙ ap (λ l. spelled.0 ++ l) e3 in
    subst Q (ok_is made x c.2) (record {
      inside = run is_whitespace text;
      spelled = spelled.0;
      between = run is_whitespace a.0.1;
      behind = run is_whitespace b.0.1;
      blanks = (run-passes is_whitespace text, run-passes is_whitespace a.0.1, run-passes is_whitespace b.0.1);
      operator = spelled.1;
      in_provides = op.1;
      is_version = version.0;
      whole = run-rest is_whitespace text ∙ ap (λ l. run is_whitespace text ++ l) e2;
    })

abbrev Bounded : FieldKind → List ℕ → Option (Operator × List ℕ) × List ℕ → Type 0
Bounded kind text x = (t : List ℕ) × BoundText kind t x.0 × (text ≡ t ++ x.1)

bound_found : (kind : FieldKind) (text : List ℕ) (x : Option (Operator × List ℕ) × List ℕ) → bound_at kind text ≡ Ok x → Bounded kind text x
bound_found kind text x e = go (rest is_whitespace text) refl e
  where
    none : taken (None, text) ≡ taken x → Bounded kind text x
    none e = let P : Option (Operator × List ℕ) × List ℕ → Type 0 = Bounded kind text in subst P (ok_is (None, text) x e) ([], refl, refl)

    some : (behind : List ℕ) → rest is_whitespace text ≡ left_parenthesis ∷ behind → (parenthesized_at kind behind >>= λ y. Ok (Some y.0, y.1)) ≡ Ok x → Bounded kind text x
    some behind t e =
        let a = bind_ok (parenthesized_at kind behind) (λ y. Ok (Some y.0, y.1)) x e in
        let made : Option (Operator × List ℕ) × List ℕ = (Some a.0.0, a.0.1) in
        let P : Option (Operator × List ℕ) × List ℕ → Type 0 = Bounded kind text in
        let i = parenthesized_found kind behind a.0 a.1 in
        let e0 : text ≡ run is_whitespace text ++ left_parenthesis ∷ (i.inside ++ (i.spelled ++ (i.between ++ (a.0.0.1 ++ (i.behind ++ right_parenthesis ∷ a.0.1))))) = run-rest is_whitespace text ∙ ap (λ l. run is_whitespace text ++ l) (t ∙ ap (λ (l : List ℕ). left_parenthesis ∷ l) i.whole) in
        subst P (ok_is made x a.2) (
          run is_whitespace text ++ left_parenthesis ∷ (i.inside ++ (i.spelled ++ (i.between ++ (a.0.0.1 ++ (i.behind ++ right_parenthesis ∷ []))))),
          record {
            before = run is_whitespace text;
            inside = i.inside;
            spelled = i.spelled;
            between = i.between;
            behind = i.behind;
            blanks = (run-passes is_whitespace text, i.blanks.0, i.blanks.1, i.blanks.2);
            operator = i.operator;
            in_provides = i.in_provides;
            is_version = i.is_version;
            whole = refl;
          },
          e0 ∙ sym (regroup (run is_whitespace text) i.inside i.spelled i.between a.0.0.1 i.behind a.0.1),
        )

    go : (after : List ℕ) → rest is_whitespace text ≡ after → bound_behind kind text after ≡ Ok x → Bounded kind text x
    go [] t e = none e
    go (b ∷ behind) t e = step (b == left_parenthesis) refl e
      where
        step : (u : Bool) → (b == left_parenthesis) ≡ u → cond u (parenthesized_at kind behind >>= λ y. Ok (Some y.0, y.1)) (Ok (None, text)) ≡ Ok x → Bounded kind text x
        step true h e = some behind (t ∙ ap (λ n. n ∷ behind) (eqb-true b left_parenthesis h)) e
        step false h e = none e

-- an atom that is read is spelled so, and stands in front of what is left
pub atom_found : (kind : FieldKind) (text : List ℕ) (x : AtomParts × List ℕ) → atom_at kind text ≡ Ok x → (t : List ℕ) × AtomText kind t x.0 × (text ≡ t ++ x.1)
unfolding atom_at
atom_found kind text x e =
    let a = bind_ok (name_at text) (λ name. qualifier_at name.1 >>= λ qualifier. bound_at kind qualifier.1 >>= λ bound. Ok (record { name = name.0; qualifier = qualifier.0; bound = bound.0 }, bound.1)) x e in
    let b = bind_ok (qualifier_at a.0.1) (λ qualifier. bound_at kind qualifier.1 >>= λ bound. Ok (record { name = a.0.0; qualifier = qualifier.0; bound = bound.0 }, bound.1)) x a.2 in
    let c = bind_ok (bound_at kind b.0.1) (λ bound. Ok (record { name = a.0.0; qualifier = b.0.0; bound = bound.0 }, bound.1)) x b.2 in
    let name = name_found text a.0 a.1 in
    let qualifier = qualifier_found a.0.1 b.0 b.1 in
    let bound = bound_found kind b.0.1 c.0 c.1 in
    let made : AtomParts × List ℕ = (record { name = a.0.0; qualifier = b.0.0; bound = c.0.0 }, c.0.1) in
    let P : AtomParts × List ℕ → Type 0 = λ y. (t : List ℕ) × AtomText kind t y.0 × (text ≡ t ++ y.1) in
    let e1 : a.0.1 ≡ qualifier.0 ++ (bound.0 ++ c.0.1) = qualifier.2 ∙ ap (λ l. qualifier.0 ++ l) bound.2 in
    let e0 : text ≡ a.0.0 ++ (qualifier.0 ++ (bound.0 ++ c.0.1)) = name.1 ∙ ap (λ l. a.0.0 ++ l) e1 in
    subst P (ok_is made x c.2) (
      a.0.0 ++ (qualifier.0 ++ bound.0),
      record {
        qualifier_text = qualifier.0;
        bound_text = bound.0;
        name = name.0;
        qualifier = qualifier.1;
        bound = bound.1;
        whole = refl;
      },
      e0 ∙ sym (append_assoc a.0.0 (qualifier.0 ++ bound.0) c.0.1 ∙ ap (λ l. a.0.0 ++ l) (append_assoc qualifier.0 bound.0 c.0.1)),
    )

-- ---- groups

both_blank : (a b : List ℕ) → IsWhitespace a → IsWhitespace b → IsWhitespace (a ++ b)
both_blank a b p q = list_all-append is_whitespace a b ∙ ap (λ t. t && list_all is_whitespace b) p ∙ q

padded : {kind : FieldKind} (blanks text : List ℕ) (atom : AtomParts) → IsWhitespace blanks → PaddedAtom kind text atom → PaddedAtom kind (blanks ++ text) atom
padded blanks text atom b h = record {
  before = blanks ++ h.before;
  middle = h.middle;
  after = h.after;
  blanks = (both_blank blanks h.before b h.blanks.0, h.blanks.1);
  spelled = h.spelled;
  whole = ap (λ l. blanks ++ l) h.whole ∙ sym (append_assoc blanks h.before (h.middle ++ h.after));
}

pub behind_found : (c : ℕ) (text after : List ℕ) → behind_byte c text ≡ Some after → text ≡ c ∷ after
behind_found c [] after e = absurd cc
behind_found c (b ∷ text) after e = go (b == c) refl e
  where
    go : (t : Bool) → (b == c) ≡ t → cond t (Some text) None ≡ Some after → b ∷ text ≡ c ∷ after
    go true h e = let k : text ≡ after = cc in ap (λ n. n ∷ text) (eqb-true b c h) ∙ ap (λ (l : List ℕ). c ∷ l) k
    go false h e = absurd cc

pad : (kind : FieldKind) (text middle after : List ℕ) (atom : AtomParts) → AtomText kind middle atom → IsWhitespace after → text ≡ middle ++ after → PaddedAtom kind text atom
pad kind text middle after atom h b e = record { before = []; middle = middle; after = after; blanks = (refl, b); spelled = h; whole = e }

abbrev put : Option (List AtomParts) → List (List AtomParts) → List (List AtomParts)
put None groups = groups
put (Some group) groups = group ∷ groups

joined : (kind : FieldKind) (first second : List ℕ) (atom : AtomParts) (atoms : List AtomParts) → PaddedAtom kind first atom → has_alternatives kind ≡ true → GroupText kind second atoms → GroupText kind (first ++ bar ∷ second) (atom ∷ atoms)
joined kind first second atom [] p h g = absurd g
joined kind first second atom (other ∷ more) p h g = (first, second, p, h, g, refl)

test_ok : {A : Type 0} (b : Bool) (d : RelationFault) (r : Result A RelationFault) (y : A) → cond b r (Err d) ≡ Ok y → (b ≡ true) × (r ≡ Ok y)
test_ok true d r y e = (refl, e)
test_ok false d r y e = absurd cc

-- blanks in front of a group
front_blanks : (kind : FieldKind) (blanks text : List ℕ) (group : List AtomParts) → IsWhitespace blanks → GroupText kind text group → GroupText kind (blanks ++ text) group
front_blanks kind blanks text [] b h = h
front_blanks kind blanks text (atom ∷ []) b h = padded blanks text atom b h
front_blanks kind blanks text (atom ∷ other ∷ more) b h =
    (blanks ++ h.0, h.1, padded blanks h.0 atom b h.2, h.3, h.4, ap (λ l. blanks ++ l) h.5 ∙ sym (append_assoc blanks h.0 (bar ∷ h.1)))

-- what follows a group, without the blanks in front, and the group's own text
pub group_found : (n : ℕ) (kind : FieldKind) (text : List ℕ) (x : List AtomParts × List ℕ) → group_at n kind text ≡ Ok x → (t : List ℕ) × GroupText kind t x.0 × (text ≡ t ++ rest is_whitespace x.1)
group_found zero kind text x e = absurd cc
group_found (suc n) kind text x e =
    let a = bind_ok (atom_at kind text) (λ atom. alternatives kind (group_at n kind) atom (behind_byte bar (rest is_whitespace atom.1))) x e in
    group_behind n kind text x a.0 (atom_found kind text a.0 a.1) (behind_byte bar (rest is_whitespace a.0.1)) refl a.2 (group_found n kind)
  where
    group_behind : (n : ℕ) (kind : FieldKind) (text : List ℕ) (x : List AtomParts × List ℕ) (a : AtomParts × List ℕ) → ((t : List ℕ) × AtomText kind t a.0 × (text ≡ t ++ a.1)) → (b : Option (List ℕ)) → behind_byte bar (rest is_whitespace a.1) ≡ b → alternatives kind (group_at n kind) a b ≡ Ok x
        → ((text : List ℕ) (x : List AtomParts × List ℕ) → group_at n kind text ≡ Ok x → (t : List ℕ) × GroupText kind t x.0 × (text ≡ t ++ rest is_whitespace x.1)) → (t : List ℕ) × GroupText kind t x.0 × (text ≡ t ++ rest is_whitespace x.1)
    group_behind n kind text x a f None b e more =
        let P : List AtomParts × List ℕ → Type 0 = λ y. (t : List ℕ) × GroupText kind t y.0 × (text ≡ t ++ rest is_whitespace y.1) in
        subst P (ok_is (a.0 ∷ [], a.1) x e) (
          f.0 ++ run is_whitespace a.1,
          pad kind (f.0 ++ run is_whitespace a.1) f.0 (run is_whitespace a.1) a.0 f.1 (run-passes is_whitespace a.1) refl,
          f.2 ∙ ap (λ l. f.0 ++ l) (run-rest is_whitespace a.1) ∙ sym (append_assoc f.0 (run is_whitespace a.1) (rest is_whitespace a.1)),
        )
    group_behind n kind text x a f (Some after) b e more =
        let g = test_ok (has_alternatives kind) fault.Alternative (group_at n kind (rest is_whitespace after) >>= λ y. Ok (a.0 ∷ y.0, y.1)) x e in
        let c = bind_ok (group_at n kind (rest is_whitespace after)) (λ y. Ok (a.0 ∷ y.0, y.1)) x g.1 in
        let m = more (rest is_whitespace after) c.0 c.1 in
        let first : List ℕ = f.0 ++ run is_whitespace a.1 in
        let second : List ℕ = run is_whitespace after ++ m.0 in
        let P : List AtomParts × List ℕ → Type 0 = λ y. (t : List ℕ) × GroupText kind t y.0 × (text ≡ t ++ rest is_whitespace y.1) in
        let atom = pad kind first f.0 (run is_whitespace a.1) a.0 f.1 (run-passes is_whitespace a.1) refl in
        let left : List ℕ = rest is_whitespace c.0.1 in
        let e2 : after ≡ second ++ left = run-rest is_whitespace after ∙ ap (λ l. run is_whitespace after ++ l) m.2 ∙ sym (append_assoc (run is_whitespace after) m.0 left) in
        let e1 : a.1 ≡ run is_whitespace a.1 ++ bar ∷ (second ++ left) = run-rest is_whitespace a.1 ∙ ap (λ l. run is_whitespace a.1 ++ l) (behind_found bar (rest is_whitespace a.1) after b ∙ ap (λ (l : List ℕ). bar ∷ l) e2) in
        let e0 : text ≡ (first ++ bar ∷ second) ++ left = f.2 ∙ ap (λ l. f.0 ++ l) e1 ∙ sym (append_assoc f.0 (run is_whitespace a.1) (bar ∷ (second ++ left))) ∙ sym (append_assoc first (bar ∷ second) left) in
        subst P (ok_is (a.0 ∷ c.0.0, c.0.1) x c.2) (first ++ bar ∷ second, joined kind first second a.0 c.0.0 atom g.0 (front_blanks kind (run is_whitespace after) m.0 c.0.0 (run-passes is_whitespace after) m.1), e0)

-- ---- fields

one_piece : (kind : FieldKind) (text : List ℕ) (piece : Option (List AtomParts)) → PieceText kind text piece → RelationsText kind text (given_groups (piece ∷ []))
one_piece kind text piece h = (piece ∷ [], h, refl)

-- one more piece in front
more_pieces : (kind : FieldKind) (first after : List ℕ) (piece : Option (List AtomParts)) (groups : List (List AtomParts)) → PieceText kind first piece → RelationsText kind after groups
    → RelationsText kind (first ++ comma ∷ after) (put piece groups)
more_pieces kind first after piece groups h r = go piece r.0 r.1 r.2 h
  where
    go : (piece : Option (List AtomParts)) (pieces : List (Option (List AtomParts))) → PiecesText kind after pieces → groups ≡ given_groups pieces → PieceText kind first piece → RelationsText kind (first ++ comma ∷ after) (put piece groups)
    go piece [] p e h = absurd p
    go None (other ∷ more) p e h = (None ∷ other ∷ more, (first, after, h, p, refl), e)
    go (Some group) (other ∷ more) p e h = (Some group ∷ other ∷ more, (first, after, h, p, refl), ap (λ (l : List (List AtomParts)). group ∷ l) e)

-- no bytes
empty : (text : List ℕ) → (length text == 0) ≡ true → text ≡ []
empty [] e = refl
empty (b ∷ text) e = absurd (omega (arith, eqb-true (length (b ∷ text)) 0 e))

whole : (kind : FieldKind) (text t : List ℕ) (gs : List (List AtomParts)) → t ≡ text → RelationsText kind t gs → RelationsText kind text gs
whole kind text t gs e h = let P : List ℕ → Type 0 = λ z. RelationsText kind z gs in subst P e h

-- the end, where nothing is left
at_end : (kind : FieldKind) (text : List ℕ) (gs : List (List AtomParts)) → (length (rest is_whitespace text) == 0) ≡ true → taken [] ≡ taken gs → RelationsText kind text gs
at_end kind text gs h e =
    let P : List (List AtomParts) → Type 0 = RelationsText kind text in
    let blank : IsWhitespace text = ap (λ l. list_all is_whitespace l) (run-rest is_whitespace text ∙ ap (λ l. run is_whitespace text ++ l) (empty (rest is_whitespace text) h)) ∙ both_blank (run is_whitespace text) [] (run-passes is_whitespace text) refl in
    subst P (ok_is [] gs e) (one_piece kind text None blank)

-- a group, and what stands behind it
group_then : (n : ℕ) (kind : FieldKind) (text : List ℕ) (gs : List (List AtomParts)) (a : List AtomParts × List ℕ) → ((text : List ℕ) (gs : List (List AtomParts)) → groups_at n kind text ≡ Ok gs → RelationsText kind text gs)
    → ((t : List ℕ) × GroupText kind t a.0 × (rest is_whitespace text ≡ t ++ rest is_whitespace a.1)) → (b : Option (List ℕ)) → behind_byte comma (rest is_whitespace a.1) ≡ b → groups_behind (groups_at n kind) a.0 (rest is_whitespace a.1) b ≡ Ok gs → RelationsText kind text gs
group_then n kind text gs a more g None b e =
    let h = guard_ok (length (rest is_whitespace a.1) == 0) fault.Name (a.0 ∷ []) gs e in
    let first : List ℕ = run is_whitespace text ++ g.0 in
    let P : List (List AtomParts) → Type 0 = RelationsText kind first in
    let e0 : text ≡ first = run-rest is_whitespace text ∙ ap (λ l. run is_whitespace text ++ l) (g.2 ∙ ap (λ l. g.0 ++ l) (empty (rest is_whitespace a.1) h.0) ∙ append-nil g.0) in
    whole kind text first gs (sym e0) (subst P h.1 (one_piece kind first (Some a.0) (front_blanks kind (run is_whitespace text) g.0 a.0 (run-passes is_whitespace text) g.1)))
group_then n kind text gs a more g (Some after) b e =
    let c = bind_ok (groups_at n kind after) (λ x. Ok (a.0 ∷ x)) gs e in
    let first : List ℕ = run is_whitespace text ++ g.0 in
    let P : List (List AtomParts) → Type 0 = RelationsText kind (first ++ comma ∷ after) in
    let e0 : text ≡ first ++ comma ∷ after = run-rest is_whitespace text ∙ ap (λ l. run is_whitespace text ++ l) (g.2 ∙ ap (λ l. g.0 ++ l) (behind_found comma (rest is_whitespace a.1) after b)) ∙ sym (append_assoc (run is_whitespace text) g.0 (comma ∷ after)) in
    whole kind text (first ++ comma ∷ after) gs (sym e0) (subst P (ok_is (a.0 ∷ c.0) gs c.2)
    (more_pieces kind first after (Some a.0) c.0 (front_blanks kind (run is_whitespace text) g.0 a.0 (run-passes is_whitespace text) g.1) (more after c.0 c.1)))

pub groups_found : (n : ℕ) (kind : FieldKind) (text : List ℕ) (gs : List (List AtomParts)) → groups_at n kind text ≡ Ok gs → RelationsText kind text gs
groups_found zero kind text gs e = absurd cc
groups_found (suc n) kind text gs e = from n kind text gs (groups_found n kind) (behind_byte comma (rest is_whitespace text)) refl e
  where
    from : (n : ℕ) (kind : FieldKind) (text : List ℕ) (gs : List (List AtomParts)) → ((text : List ℕ) (gs : List (List AtomParts)) → groups_at n kind text ≡ Ok gs → RelationsText kind text gs)
        → (b : Option (List ℕ)) → behind_byte comma (rest is_whitespace text) ≡ b → groups_from (groups_at n kind) kind (rest is_whitespace text) b ≡ Ok gs → RelationsText kind text gs
    from n kind text gs more (Some after) b e =
        let h : run is_whitespace text ++ comma ∷ after ≡ text = sym (run-rest is_whitespace text ∙ ap (λ l. run is_whitespace text ++ l) (behind_found comma (rest is_whitespace text) after b)) in
        whole kind text (run is_whitespace text ++ comma ∷ after) gs h (more_pieces kind (run is_whitespace text) after None gs (run-passes is_whitespace text) (more after gs e))
    from n kind text gs more None b e = go (length (rest is_whitespace text) == 0) refl e
      where
        go : (u : Bool) → (length (rest is_whitespace text) == 0) ≡ u
            → cond u (Ok []) (group_at (length (rest is_whitespace text) + 1) kind (rest is_whitespace text) >>= λ group. groups_behind (groups_at n kind) group.0 (rest is_whitespace group.1) (behind_byte comma (rest is_whitespace group.1))) ≡ Ok gs → RelationsText kind text gs
        go true h e = at_end kind text gs h e
        go false h e =
            let a = bind_ok (group_at (length (rest is_whitespace text) + 1) kind (rest is_whitespace text)) (λ group. groups_behind (groups_at n kind) group.0 (rest is_whitespace group.1) (behind_byte comma (rest is_whitespace group.1))) gs e in
            group_then n kind text gs a.0 more (group_found (length (rest is_whitespace text) + 1) kind (rest is_whitespace text) a.0 a.1) (behind_byte comma (rest is_whitespace a.0.1)) refl a.2

pub if_found : (kind : FieldKind) (body : List ℕ) (r : Result (List (List AtomParts)) RelationFault) → Gives (λ (x : List (List AtomParts)). x) r (relations_of kind body) → IfOk r (λ x. RelationsText kind body x)
if_found kind body (Ok x) h = groups_found (length body + 1) kind body x h
if_found kind body (Err e) h = tt
