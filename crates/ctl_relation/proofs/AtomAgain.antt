-- An atom of the grammar is read, whatever may follow it.
use Rattle.std.proofs.Common.{◌≡◌, ◌⊎◌, ℕ, Bool, true, false, cond, Option, Some, None, List, [], ◌∷◌, ◌++◌, length, Result, Ok, Err, refl, sym, ap, subst, ◌∙◌, append_assoc, arith, inl, inr}
use Rattle.std.specs.Prelude.{◌==◌, not, ◌&&◌, ◌||◌}
use Rattle.std.specs.List.{list_all}
use Rattle.std.proofs.lemmas.Bool.Decides.{nat_tests}
use Rattle.std.proofs.lemmas.Bool.{and_parts}
use Rattle.ctl_relation.proofs.Found.{taken, regroup}
use Rattle.ctl_relation.specs.declared.relation_fault.RelationFault.{RelationFault}
use Rattle.ctl_relation.specs.declared.relation_fault.RelationFault.TheVariants as fault
use Rattle.ctl_relation.specs.declared.operator.Operator.{Operator}
use Rattle.ctl_relation.specs.declared.operator.Operator.TheVariants.{Earlier, EarlierOrEqual, Equal, LaterOrEqual, Later}
use Rattle.ctl_relation.specs.declared.field_kind.FieldKind.{FieldKind}
use Rattle.ctl_relation.specs.Bytes.{left_parenthesis, right_parenthesis, comma, colon, less_than, equals, greater_than, bar}
use Rattle.ctl_relation.specs.FieldBytes.{is_whitespace, is_qualifier_byte, is_version_word_byte}
use Rattle.ctl_relation.specs.Runs.{run, rest, Stops}
use Rattle.ctl_relation.specs.Parts.{AtomParts}
use Rattle.ctl_relation.specs.Version.{is_upstream_byte, fault_of}
use Rattle.ctl_relation.specs.Names.{is_name_byte}
use Rattle.ctl_relation.specs.FieldKind.{is_provides, is_exact}
use Rattle.ctl_relation.specs.Reading.{◌>>=◌, name_at, qualifier_at, operator_token, allowed, operator_at, version_at, close_at, parenthesized_at, bound_behind, bound_at, atom_at}
use Rattle.ctl_relation.specs.Grammar.{IsWhitespace, IsSpelled, QualifierText, BoundText, AtomText}
use Rattle.ctl_relation.proofs.VersionBytes.{version_bytes, all_weaker}
use Rattle.ctl_relation.proofs.Only.{is_operator_byte, rest_again, stops_blanks, name_again, qualifier_again, operator_again, version_again}

pub upstream_run : (b : ℕ) → is_upstream_byte b ≡ true → is_version_word_byte b ≡ true
upstream_run b h = grind (arith, nat_tests)

pub upstream_no_blank : (b : ℕ) → is_upstream_byte b ≡ true → is_whitespace b ≡ false
upstream_no_blank b h = grind (arith, nat_tests)

pub upstream_no_operator : (b : ℕ) → is_upstream_byte b ≡ true → is_operator_byte b ≡ false
upstream_no_operator b h = grind (arith, nat_tests)

pub blank_no_operator : (b : ℕ) → is_whitespace b ≡ true → is_operator_byte b ≡ false
blank_no_operator b h = grind (arith, nat_tests)

pub blank_ends_version : (b : ℕ) → is_whitespace b ≡ true → is_version_word_byte b ≡ false
blank_ends_version b h = ap (λ t. not (t || b == right_parenthesis)) h

-- what doesn't begin a version's byte
pub stops_version : (p : ℕ → Bool) (v after : List ℕ) → ((b : ℕ) → is_upstream_byte b ≡ true → p b ≡ false) → fault_of v ≡ None → Stops p (v ++ after)
stops_version p [] after f h = absurd (omega (arith, (version_bytes [] h).0))
stops_version p (b ∷ v) after f h = f b (and_parts (is_upstream_byte b) (list_all is_upstream_byte v) (version_bytes (b ∷ v) h).1).0

stops_at : (p : ℕ → Bool) (n : ℕ) (s t after : List ℕ) → s ≡ n ∷ t → p n ≡ false → Stops p (s ++ after)
stops_at p n s t after e h = let P : List ℕ → Type 0 = λ l. Stops p (l ++ after) in subst P (sym e) h

stops_spelled : (op : Operator) (s after : List ℕ) → IsSpelled op s → Stops is_whitespace (s ++ after)
stops_spelled Earlier s after h = stops_at is_whitespace less_than s (less_than ∷ []) after h refl
stops_spelled EarlierOrEqual s after (inl h) = stops_at is_whitespace less_than s (equals ∷ []) after h refl
stops_spelled EarlierOrEqual s after (inr h) = stops_at is_whitespace less_than s [] after h refl
stops_spelled Equal s after h = stops_at is_whitespace equals s [] after h refl
stops_spelled LaterOrEqual s after (inl h) = stops_at is_whitespace greater_than s (equals ∷ []) after h refl
stops_spelled LaterOrEqual s after (inr h) = stops_at is_whitespace greater_than s [] after h refl
stops_spelled Later s after h = stops_at is_whitespace greater_than s (greater_than ∷ []) after h refl

allowed_again : (kind : FieldKind) (x : Operator × List ℕ) → (is_provides kind ≡ true → is_exact x.0 ≡ true) → allowed kind (Some x) ≡ taken x
allowed_again kind x h = go (is_provides kind) refl
  where
    go : (t : Bool) → is_provides kind ≡ t → cond (is_provides kind && not (is_exact x.0)) (Err fault.ProvidesOperator) (taken x) ≡ taken x
    go true e = ap (λ t. cond (t && not (is_exact x.0)) (Err fault.ProvidesOperator) (taken x)) e ∙ ap (λ t. cond (not t) (Err fault.ProvidesOperator) (taken x)) (h e)
    go false e = ap (λ t. cond (t && not (is_exact x.0)) (Err fault.ProvidesOperator) (taken x)) e

-- one step that is read
pub step : {A B : Type 0} (r : Result A RelationFault) (f : A → Result B RelationFault) (x : A) → r ≡ taken x → (r >>= f) ≡ f x
step r f x e = ap (λ z. z >>= f) e

parenthesized_again : (kind : FieldKind) (op : Operator) (inside spelled between version behind after : List ℕ) → IsWhitespace inside → IsSpelled op spelled → IsWhitespace between → IsWhitespace behind → (is_provides kind ≡ true → is_exact op ≡ true) → fault_of version ≡ None
    → parenthesized_at kind (inside ++ (spelled ++ (between ++ (version ++ (behind ++ right_parenthesis ∷ after))))) ≡ taken ((op, version), after)
unfolding parenthesized_at
parenthesized_again kind op inside spelled between version behind after hi hs hb he hp hv =
    let w : List ℕ = behind ++ right_parenthesis ∷ after in
    let z : List ℕ = version ++ w in
    let y : List ℕ = between ++ z in
    let x : List ℕ = spelled ++ y in
    let bytes = (version_bytes version hv).1 in
    let e0 : rest is_whitespace (inside ++ x) ≡ x = rest_again is_whitespace inside x hi (stops_spelled op spelled y hs) in
    let e1 : operator_token x ≡ Some (op, y) = operator_again op spelled y hs (stops_blanks is_operator_byte between z blank_no_operator hb (stops_version is_operator_byte version w upstream_no_operator hv)) in
    let e2 : operator_at kind (rest is_whitespace (inside ++ x)) ≡ taken (op, y) = ap (operator_at kind) e0 ∙ ap (allowed kind) e1 ∙ allowed_again kind (op, y) hp in
    let e3 : rest is_whitespace y ≡ z = rest_again is_whitespace between z hb (stops_version is_whitespace version w upstream_no_blank hv) in
    let e4 : version_at (rest is_whitespace y) ≡ taken (version, w) = ap version_at e3 ∙ version_again version w hv (all_weaker is_upstream_byte is_version_word_byte upstream_run version bytes) (stops_blanks is_version_word_byte behind (right_parenthesis ∷ after) blank_ends_version he refl) in
    let e5 : close_at (rest is_whitespace w) ≡ taken after = ap close_at (rest_again is_whitespace behind (right_parenthesis ∷ after) he refl) in
    step (operator_at kind (rest is_whitespace (inside ++ x))) (λ op. version_at (rest is_whitespace op.1) >>= λ version. close_at (rest is_whitespace version.1) >>= λ after. Ok ((op.0, version.0), after)) (op, y) e2
    ∙ step (version_at (rest is_whitespace y)) (λ version. close_at (rest is_whitespace version.1) >>= λ after. Ok ((op, version.0), after)) (version, w) e4
    ∙ step (close_at (rest is_whitespace w)) (λ after. Ok ((op, version), after)) after e5

-- what may follow an atom: no byte of names or qualifiers, no colon, and behind blanks no open parenthesis
pub record Follows (after : List ℕ) : Type 0 where
  pub blanks : List ℕ
  pub text : List ℕ
  pub blank : IsWhitespace blanks
  pub whole : after ≡ blanks ++ text
  pub next : (text ≡ []) ⊎ ((b : ℕ) × (more : List ℕ) × (text ≡ b ∷ more) × ((b ≡ comma) ⊎ (b ≡ bar)))

-- a test that holds of none of the bytes that may follow
pub record Ends (p : ℕ → Bool) : Type 0 where
  blank : (b : ℕ) → is_whitespace b ≡ true → p b ≡ false
  at_comma : p comma ≡ false
  at_bar : p bar ≡ false
  open_bracket : p left_parenthesis ≡ false

stops_next : (p : ℕ → Bool) (text : List ℕ) → p comma ≡ false → p bar ≡ false → (text ≡ []) ⊎ ((b : ℕ) × (more : List ℕ) × (text ≡ b ∷ more) × ((b ≡ comma) ⊎ (b ≡ bar))) → Stops p text
stops_next p text c d (inl e) = let P : List ℕ → Type 0 = Stops p in subst P (sym e) tt
stops_next p text c d (inr n) = let P : List ℕ → Type 0 = Stops p in subst P (sym n.2) (one n.3)
  where
    one : (n.0 ≡ comma) ⊎ (n.0 ≡ bar) → p n.0 ≡ false
    one (inl e) = ap p e ∙ c
    one (inr e) = ap p e ∙ d

stops_after : (p : ℕ → Bool) (after : List ℕ) → Ends p → Follows after → Stops p after
stops_after p after e f = let P : List ℕ → Type 0 = Stops p in subst P (sym f.whole) (stops_blanks p f.blanks f.text e.blank f.blank (stops_next p f.text e.at_comma e.at_bar f.next))

stops_bound : (p : ℕ → Bool) (kind : FieldKind) (t after : List ℕ) (bound : Option (Operator × List ℕ)) → Ends p → BoundText kind t bound → Follows after → Stops p (t ++ after)
stops_bound p kind t after None e h f = let P : List ℕ → Type 0 = λ l. Stops p (l ++ after) in subst P (sym h) (stops_after p after e f)
stops_bound p kind t after (Some bound) e h f =
    let P : List ℕ → Type 0 = Stops p in
    let w : t ++ after ≡ h.before ++ left_parenthesis ∷ (h.inside ++ (h.spelled ++ (h.between ++ (bound.1 ++ (h.behind ++ right_parenthesis ∷ after))))) = ap (λ (l : List ℕ). l ++ after) h.whole ∙ regroup h.before h.inside h.spelled h.between bound.1 h.behind after in
    subst P (sym w) (stops_blanks p h.before _ e.blank h.blanks.0 e.open_bracket)

no_bound : (kind : FieldKind) (after : List ℕ) → Follows after → bound_at kind after ≡ taken (None, after)
no_bound kind after f =
    let e : rest is_whitespace after ≡ f.text = ap (rest is_whitespace) f.whole ∙ rest_again is_whitespace f.blanks f.text f.blank (stops_next is_whitespace f.text refl refl f.next) in
    ap (bound_behind kind after) e ∙ go f.next
  where
    go : (f.text ≡ []) ⊎ ((b : ℕ) × (more : List ℕ) × (f.text ≡ b ∷ more) × ((b ≡ comma) ⊎ (b ≡ bar))) → bound_behind kind after f.text ≡ taken (None, after)
    go (inl e) = ap (bound_behind kind after) e
    go (inr n) = ap (bound_behind kind after) n.2 ∙ one n.3
      where
        one : (n.0 ≡ comma) ⊎ (n.0 ≡ bar) → bound_behind kind after (n.0 ∷ n.1) ≡ taken (None, after)
        one (inl e) = ap (λ b. bound_behind kind after (b ∷ n.1)) e
        one (inr e) = ap (λ b. bound_behind kind after (b ∷ n.1)) e

bound_again : (kind : FieldKind) (t after : List ℕ) (bound : Option (Operator × List ℕ)) → BoundText kind t bound → Follows after → bound_at kind (t ++ after) ≡ taken (bound, after)
bound_again kind t after None h f = ap (λ (l : List ℕ). bound_at kind (l ++ after)) h ∙ no_bound kind after f
bound_again kind t after (Some bound) h f =
    let x : List ℕ = h.inside ++ (h.spelled ++ (h.between ++ (bound.1 ++ (h.behind ++ right_parenthesis ∷ after)))) in
    let w : t ++ after ≡ h.before ++ left_parenthesis ∷ x = ap (λ (l : List ℕ). l ++ after) h.whole ∙ regroup h.before h.inside h.spelled h.between bound.1 h.behind after in
    let e : rest is_whitespace (h.before ++ left_parenthesis ∷ x) ≡ left_parenthesis ∷ x = rest_again is_whitespace h.before (left_parenthesis ∷ x) h.blanks.0 refl in
    ap (bound_at kind) w ∙ ap (bound_behind kind (h.before ++ left_parenthesis ∷ x)) e
    ∙ step (parenthesized_at kind x) (λ y. taken (Some y.0, y.1)) ((bound.0, bound.1), after) (parenthesized_again kind bound.0 h.inside h.spelled h.between bound.1 h.behind after h.blanks.1 h.operator h.blanks.2 h.blanks.3 h.in_provides h.is_version)

no_qualifier : (text : List ℕ) → Stops (λ b. b == colon) text → qualifier_at text ≡ taken (None, text)
no_qualifier [] s = refl
no_qualifier (b ∷ text) s = ap (λ t. cond t (cond (length (run is_qualifier_byte text) == 0) (Err fault.Name) (taken (Some (run is_qualifier_byte text), rest is_qualifier_byte text))) (taken (None, b ∷ text))) s

qualifier_text_again : (q after : List ℕ) (o : Option (List ℕ)) → QualifierText q o → Stops (λ b. b == colon) after → Stops is_qualifier_byte after → qualifier_at (q ++ after) ≡ taken (o, after)
qualifier_text_again q after None h s t = ap (λ (l : List ℕ). qualifier_at (l ++ after)) h ∙ no_qualifier after s
qualifier_text_again q after (Some name) h s t = ap (λ (l : List ℕ). qualifier_at (l ++ after)) h.0 ∙ qualifier_again name after h.1 h.2 t

stops_qualifier : (q after : List ℕ) (o : Option (List ℕ)) → QualifierText q o → Stops is_name_byte after → Stops is_name_byte (q ++ after)
stops_qualifier q after None h s = let P : List ℕ → Type 0 = λ l. Stops is_name_byte (l ++ after) in subst P (sym h) s
stops_qualifier q after (Some name) h s = let P : List ℕ → Type 0 = λ l. Stops is_name_byte (l ++ after) in subst P (sym h.0) refl

pub blank_no_name : (b : ℕ) → is_whitespace b ≡ true → is_name_byte b ≡ false
blank_no_name b h = grind (arith, nat_tests)

pub blank_no_qualifier : (b : ℕ) → is_whitespace b ≡ true → is_qualifier_byte b ≡ false
blank_no_qualifier b h = grind (arith, nat_tests)

pub blank_no_colon : (b : ℕ) → is_whitespace b ≡ true → (b == colon) ≡ false
blank_no_colon b h = grind (arith, nat_tests)

-- an atom of the grammar is read, whatever may follow it
pub atom_again : (kind : FieldKind) (t after : List ℕ) (atom : AtomParts) → AtomText kind t atom → Follows after → atom_at kind (t ++ after) ≡ taken (atom, after)
unfolding atom_at
atom_again kind t after atom h f =
    let y : List ℕ = h.bound_text ++ after in
    let x : List ℕ = h.qualifier_text ++ y in
    let w : t ++ after ≡ atom.name ++ x = ap (λ (l : List ℕ). l ++ after) h.whole ∙ append_assoc atom.name (h.qualifier_text ++ h.bound_text) after ∙ ap (λ (l : List ℕ). atom.name ++ l) (append_assoc h.qualifier_text h.bound_text after) in
    let s0 = stops_bound is_name_byte kind h.bound_text after atom.bound (record { blank = blank_no_name; at_comma = refl; at_bar = refl; open_bracket = refl }) h.bound f in
    let s1 = stops_bound is_qualifier_byte kind h.bound_text after atom.bound (record { blank = blank_no_qualifier; at_comma = refl; at_bar = refl; open_bracket = refl }) h.bound f in
    let s2 = stops_bound (λ b. b == colon) kind h.bound_text after atom.bound (record { blank = blank_no_colon; at_comma = refl; at_bar = refl; open_bracket = refl }) h.bound f in
    let e0 : name_at (t ++ after) ≡ taken (atom.name, x) = ap name_at w ∙ name_again atom.name x h.name (stops_qualifier h.qualifier_text y atom.qualifier h.qualifier s0) in
    let e1 : qualifier_at x ≡ taken (atom.qualifier, y) = qualifier_text_again h.qualifier_text y atom.qualifier h.qualifier s2 s1 in
    let e2 : bound_at kind y ≡ taken (atom.bound, after) = bound_again kind h.bound_text after atom.bound h.bound f in
    step (name_at (t ++ after)) (λ name. qualifier_at name.1 >>= λ qualifier. bound_at kind qualifier.1 >>= λ bound. taken (record { name = name.0; qualifier = qualifier.0; bound = bound.0 }, bound.1)) (atom.name, x) e0
    ∙ step (qualifier_at x) (λ qualifier. bound_at kind qualifier.1 >>= λ bound. taken (record { name = atom.name; qualifier = qualifier.0; bound = bound.0 }, bound.1)) (atom.qualifier, y) e1
    ∙ step (bound_at kind y) (λ bound. taken (record { name = atom.name; qualifier = atom.qualifier; bound = bound.0 }, bound.1)) (atom.bound, after) e2
