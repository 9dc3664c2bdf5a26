-- A fault that is read is the fault of the field.
use Rattle.std.proofs.Common.{◌≡◌, ℕ, ◌<◌, Bool, true, false, cond, Option, Some, None, List, [], ◌∷◌, ◌++◌, length, Result, Ok, Err, refl, sym, ap, subst, ◌∙◌, append_assoc, eqb-true, arith}
use Rattle.std.specs.Prelude.{◌≢◌, ◌==◌, ◌&&◌, ◌||◌, is_none, IfErr}
use Rattle.std.specs.List.{list_all}
use Rattle.std.specs.Char.{is_ascii_alphanumeric}
use Rattle.std.proofs.lemmas.Bool.Decides.{nat_tests}
use Rattle.ctl_relation.proofs.Found.{none_is}
use Rattle.ctl_relation.specs.declared.relation_fault.RelationFault.{RelationFault}
use Rattle.ctl_relation.specs.declared.relation_fault.RelationFault.TheVariants as fault
use Rattle.ctl_relation.specs.declared.field_kind.FieldKind.{FieldKind}
use Rattle.ctl_relation.specs.Bytes.{left_parenthesis, right_parenthesis, comma, colon, equals, bar}
use Rattle.ctl_relation.specs.FieldBytes.{is_whitespace, is_qualifier_byte, is_version_word_byte}
use Rattle.ctl_relation.specs.Runs.{run, rest}
use Rattle.ctl_relation.specs.Parts.{AtomParts}
use Rattle.ctl_relation.specs.Version.{fault_of}
use Rattle.ctl_relation.specs.Names.{is_name_byte, is_name}
use Rattle.ctl_relation.specs.FieldKind.{is_provides, has_alternatives}
use Rattle.ctl_relation.specs.Reading.{name_at, version_at, close_at, relations_of, Gives}
use Rattle.ctl_relation.specs.Fault.{Place, GroupDue, AtomDue, AfterName, QualifierDue, AfterQualifier, OperatorDue, AfterSign, VersionDue, CloseDue, AfterAtom, takes_name, takes_bracket, takes_bar, takes_comma, takes_version, is_sign, lengthens, StandsAt, at_start, comma_read, bar_read, name_read, colon_read, qualifier_read, bracket_read, equal_read, sign_read, sign_longer, version_read, close_read, name_fault, group_fault, end_fault, bracket_fault, operator_fault, version_fault, close_fault, due_fault, IsFault, NeverMemory, IsWhole}
use Rattle.ctl_relation.proofs.LongestRuns.{run-rest, run-passes, run-more, run-none, rest-stops}
use Rattle.ctl_relation.proofs.Runs.{Next, Ends, Moves, next_of, next_behind, group_next, end_next, bracket_next, operator_next, version_next, next, Runs, ends, moves, on_test, more_than, fault_in, reader_runs}

-- ---- the table of faults is where the places end

abbrev pub ended : Next → Option RelationFault
ended (Ends r) = r
ended (Moves q t) = None

either : (u : Bool) (q : Place) (t : List ℕ) (x : Option RelationFault) (n : Next) → x ≡ ended n → cond u None x ≡ ended (cond u (Moves q t) n)
either true q t x n h = refl
either false q t x n h = h

-- a name's first byte decides
name_first : (b : ℕ) (text : List ℕ) → is_name (run is_name_byte (b ∷ text)) ≡ is_ascii_alphanumeric b
name_first b text = go (is_name_byte b) refl
  where
    all : (u v : Bool) → v ≡ true → (u && v) ≡ u
    all true v h = h
    all false v h = refl

    not_first : (u v : Bool) → (u || v) ≡ false → false ≡ u
    not_first true v h = absurd cc
    not_first false v h = refl

    go : (u : Bool) → is_name_byte b ≡ u → is_name (run is_name_byte (b ∷ text)) ≡ is_ascii_alphanumeric b
    go true u = ap is_name (run-more is_name_byte b text u) ∙ all (is_ascii_alphanumeric b) (list_all is_name_byte (run is_name_byte text)) (run-passes is_name_byte text)
    go false u = ap is_name (run-none is_name_byte b text u) ∙ not_first (is_ascii_alphanumeric b) _ u

name_is : (y : List ℕ) → name_fault y ≡ ended (next_behind AfterName (name_at y))
name_is [] = refl
name_is (b ∷ text) = go (is_ascii_alphanumeric b) ∙ ap (λ u. ended (next_behind AfterName (cond u (Ok (run is_name_byte (b ∷ text), rest is_name_byte (b ∷ text))) (Err fault.Name)))) (sym (name_first b text))
  where
    go : (u : Bool) → cond u None (Some fault.Name) ≡ ended (next_behind AfterName (cond u (Ok (run is_name_byte (b ∷ text), rest is_name_byte (b ∷ text))) (Err fault.Name)))
    go true = refl
    go false = refl

group_is : (y : List ℕ) → group_fault y ≡ ended (group_next y)
group_is [] = refl
group_is (b ∷ text) = either (b == comma) GroupDue text (name_fault (b ∷ text)) (next_behind AfterName (name_at (b ∷ text))) (name_is (b ∷ text))

end_is : (kind : FieldKind) (y : List ℕ) → end_fault kind y ≡ ended (end_next kind y)
end_is kind [] = refl
end_is kind (b ∷ text) = either (b == comma) GroupDue text _ _ (go (b == bar) (has_alternatives kind))
  where
    go : (u v : Bool) → cond u (cond v None (Some fault.Alternative)) (Some fault.Name) ≡ ended (cond u (cond v (Moves AtomDue text) (Ends (Some fault.Alternative))) (Ends (Some fault.Name)))
    go true true = refl
    go true false = refl
    go false v = refl

bracket_is : (kind : FieldKind) (y : List ℕ) → bracket_fault kind y ≡ ended (bracket_next kind y)
bracket_is kind [] = refl
bracket_is kind (b ∷ text) = either (b == left_parenthesis) OperatorDue text _ _ (end_is kind (b ∷ text))

operator_is : (kind : FieldKind) (y : List ℕ) → operator_fault kind y ≡ ended (operator_next kind y)
operator_is kind [] = refl
operator_is kind (b ∷ text) = either (b == equals) VersionDue text _ _ (go (is_sign b) (is_provides kind))
  where
    go : (u v : Bool) → cond u (cond v (Some fault.ProvidesOperator) None) (Some fault.Operator) ≡ ended (cond u (cond v (Ends (Some fault.ProvidesOperator)) (Moves (AfterSign b) text)) (Ends (Some fault.Operator)))
    go true true = refl
    go true false = refl
    go false v = refl

version_is : (y : List ℕ) → version_fault y ≡ ended (next_behind CloseDue (version_at y))
version_is y = go (is_none (fault_of (run is_version_word_byte y)))
  where
    go : (u : Bool) → cond u None (Some fault.Version) ≡ ended (next_behind CloseDue (cond u (Ok (run is_version_word_byte y, rest is_version_word_byte y)) (Err fault.Version)))
    go true = refl
    go false = refl

close_is : (y : List ℕ) → close_fault y ≡ ended (next_of AfterAtom (close_at y))
close_is [] = refl
close_is (b ∷ text) = go (b == right_parenthesis)
  where
    go : (u : Bool) → cond u None (Some fault.Close) ≡ ended (next_of AfterAtom (cond u (Ok text) (Err fault.Close)))
    go true = refl
    go false = refl

pub due_is : (kind : FieldKind) (p : Place) (left : List ℕ) → IsWhole p left → due_fault kind p left ≡ ended (next kind p left)
due_is kind GroupDue left w = group_is (rest is_whitespace left)
due_is kind AtomDue left w = name_is (rest is_whitespace left)
due_is kind AfterName [] w = refl
due_is kind AfterName (b ∷ text) w = ap (λ u. cond u None (cond (b == colon) None (bracket_fault kind (rest is_whitespace (b ∷ text))))) w ∙ either (b == colon) QualifierDue text _ _ (bracket_is kind (rest is_whitespace (b ∷ text)))
due_is kind QualifierDue [] w = refl
due_is kind QualifierDue (b ∷ text) w = go (is_qualifier_byte b) refl
  where
    go : (u : Bool) → is_qualifier_byte b ≡ u → cond (is_qualifier_byte b) None (Some fault.Name) ≡ ended (next kind QualifierDue (b ∷ text))
    go true u = ap (λ t. cond t None (Some fault.Name)) u ∙ sym (ap (λ (y : List ℕ). ended (cond (length y == 0) (Ends (Some fault.Name)) (Moves AfterQualifier (rest is_qualifier_byte (b ∷ text))))) (run-more is_qualifier_byte b text u) ∙ ap (λ t. ended (cond t (Ends (Some fault.Name)) (Moves AfterQualifier (rest is_qualifier_byte (b ∷ text))))) (more_than b (run is_qualifier_byte text)))
    go false u = ap (λ t. cond t None (Some fault.Name)) u ∙ sym (ap (λ (y : List ℕ). ended (cond (length y == 0) (Ends (Some fault.Name)) (Moves AfterQualifier (rest is_qualifier_byte (b ∷ text))))) (run-none is_qualifier_byte b text u))
due_is kind AfterQualifier [] w = refl
due_is kind AfterQualifier (b ∷ text) w = ap (λ u. cond u None (bracket_fault kind (rest is_whitespace (b ∷ text)))) w ∙ bracket_is kind (rest is_whitespace (b ∷ text))
due_is kind OperatorDue left w = operator_is kind (rest is_whitespace left)
due_is kind (AfterSign b) [] w = refl
due_is kind (AfterSign b) (c ∷ text) w = either (lengthens b c) VersionDue text _ _ (version_is (rest is_whitespace (c ∷ text)))
due_is kind VersionDue left w = version_is (rest is_whitespace left)
due_is kind CloseDue [] w = refl
due_is kind CloseDue (b ∷ text) w = ap (λ u. cond u None (close_fault (rest is_whitespace (b ∷ text)))) w ∙ close_is (rest is_whitespace (b ∷ text))
due_is kind AfterAtom left w = end_is kind (rest is_whitespace left)

ends_here : (f : RelationFault) (u : Bool) (x : Option RelationFault) → cond u None x ≡ Some f → u ≡ false
ends_here f true x h = absurd cc
ends_here f false x h = refl

-- where there is a fault the token before doesn't go on
pub whole_due : (kind : FieldKind) (p : Place) (left : List ℕ) (f : RelationFault) → due_fault kind p left ≡ Some f → IsWhole p left
whole_due kind GroupDue left f h = tt
whole_due kind AtomDue left f h = tt
whole_due kind AfterName [] f h = tt
whole_due kind AfterName (b ∷ text) f h = ends_here f (is_name_byte b) _ h
whole_due kind QualifierDue left f h = tt
whole_due kind AfterQualifier [] f h = tt
whole_due kind AfterQualifier (b ∷ text) f h = ends_here f (is_qualifier_byte b) _ h
whole_due kind OperatorDue left f h = tt
whole_due kind (AfterSign b) left f h = tt
whole_due kind VersionDue left f h = tt
whole_due kind CloseDue [] f h = tt
whole_due kind CloseDue (b ∷ text) f h = ends_here f (is_version_word_byte b) _ h
whole_due kind AfterAtom left f h = tt

-- ---- one token on

abbrev pub Moved : FieldKind → Place → List ℕ → Place → List ℕ → Type 0
Moved kind p left q t = (token : List ℕ) × (left ≡ token ++ t) × ((read : List ℕ) → StandsAt kind read p → StandsAt kind (read ++ token) q) × IsWhole q t

abbrev pub Outcome : FieldKind → Place → List ℕ → Next → Type 0
Outcome kind p left (Ends r) = Unit {0}
Outcome kind p left (Moves q t) = Moved kind p left q t

-- blanks and a byte
byte_token : (left : List ℕ) (b n : ℕ) (t : List ℕ) → rest is_whitespace left ≡ b ∷ t → b ≡ n → left ≡ (run is_whitespace left ++ n ∷ []) ++ t
byte_token left b n t e h = run-rest is_whitespace left ∙ ap (λ (l : List ℕ). run is_whitespace left ++ l) (e ∙ ap (λ m. m ∷ t) h) ∙ sym (append_assoc (run is_whitespace left) (n ∷ []) t)

-- blanks and a run
run_token : (p : ℕ → Bool) (left y : List ℕ) → rest is_whitespace left ≡ y → left ≡ (run is_whitespace left ++ run p y) ++ rest p y
run_token p left y e = run-rest is_whitespace left ∙ ap (λ (l : List ℕ). run is_whitespace left ++ l) (e ∙ run-rest p y) ∙ sym (append_assoc (run is_whitespace left) (run p y) (rest p y))

end_out : (kind : FieldKind) (p : Place) (left y : List ℕ) → takes_comma p ≡ true → takes_bar p ≡ true → rest is_whitespace left ≡ y → Outcome kind p left (end_next kind y)
end_out kind p left [] c d e = tt
end_out kind p left (b ∷ t) c d e =
    let P : Next → Type 0 = Outcome kind p left in
    on_test P (b == comma) _ _ (λ h. (run is_whitespace left ++ comma ∷ [], byte_token left b comma t e (eqb-true b comma h), (λ read s. comma_read read (run is_whitespace left) p s c (run-passes is_whitespace left)), tt))
    (λ n. on_test P (b == bar) _ _ (λ h. on_test P (has_alternatives kind) _ _ (λ a. (run is_whitespace left ++ bar ∷ [], byte_token left b bar t e (eqb-true b bar h), (λ read s. bar_read read (run is_whitespace left) p s d a (run-passes is_whitespace left)), tt)) (λ a. tt)) (λ m. tt))

bracket_out : (kind : FieldKind) (p : Place) (left y : List ℕ) → takes_comma p ≡ true → takes_bar p ≡ true → takes_bracket p ≡ true → rest is_whitespace left ≡ y → Outcome kind p left (bracket_next kind y)
bracket_out kind p left [] c d a e = tt
bracket_out kind p left (b ∷ t) c d a e =
    let P : Next → Type 0 = Outcome kind p left in
    on_test P (b == left_parenthesis) _ _ (λ h. (run is_whitespace left ++ left_parenthesis ∷ [], byte_token left b left_parenthesis t e (eqb-true b left_parenthesis h), (λ read s. bracket_read read (run is_whitespace left) p s a (run-passes is_whitespace left)), tt))
    (λ n. end_out kind p left (b ∷ t) c d e)

name_out : (kind : FieldKind) (p : Place) (left y : List ℕ) → takes_name p ≡ true → rest is_whitespace left ≡ y → Outcome kind p left (next_behind AfterName (name_at y))
name_out kind p left y c e =
    let P : Result (List ℕ × List ℕ) RelationFault → Type 0 = λ r. Outcome kind p left (next_behind AfterName r) in
    on_test P (is_name (run is_name_byte y)) _ _
    (λ h. (run is_whitespace left ++ run is_name_byte y, run_token is_name_byte left y e, (λ read s. name_read read (run is_whitespace left) (run is_name_byte y) p s c (run-passes is_whitespace left) h), rest-stops is_name_byte y)) (λ n. tt)

group_out : (kind : FieldKind) (left y : List ℕ) → rest is_whitespace left ≡ y → Outcome kind GroupDue left (group_next y)
group_out kind left [] e = tt
group_out kind left (b ∷ t) e =
    let P : Next → Type 0 = Outcome kind GroupDue left in
    on_test P (b == comma) _ _ (λ h. (run is_whitespace left ++ comma ∷ [], byte_token left b comma t e (eqb-true b comma h), (λ read s. comma_read read (run is_whitespace left) GroupDue s refl (run-passes is_whitespace left)), tt))
    (λ n. name_out kind GroupDue left (b ∷ t) refl e)

operator_out : (kind : FieldKind) (left y : List ℕ) → rest is_whitespace left ≡ y → Outcome kind OperatorDue left (operator_next kind y)
operator_out kind left [] e = tt
operator_out kind left (b ∷ t) e =
    let P : Next → Type 0 = Outcome kind OperatorDue left in
    on_test P (b == equals) _ _ (λ h. (run is_whitespace left ++ equals ∷ [], byte_token left b equals t e (eqb-true b equals h), (λ read s. equal_read read (run is_whitespace left) s (run-passes is_whitespace left)), tt))
    (λ n. on_test P (is_sign b) _ _ (λ h. on_test P (is_provides kind) _ _ (λ a. tt) (λ a. (run is_whitespace left ++ b ∷ [], byte_token left b b t e refl, (λ read s. sign_read read (run is_whitespace left) b s (run-passes is_whitespace left) h a), tt))) (λ m. tt))

version_out : (kind : FieldKind) (p : Place) (left : List ℕ) → takes_version p ≡ true → Outcome kind p left (version_next left)
version_out kind p left c =
    let P : Result (List ℕ × List ℕ) RelationFault → Type 0 = λ r. Outcome kind p left (next_behind CloseDue r) in
    let y : List ℕ = rest is_whitespace left in
    on_test P (is_none (fault_of (run is_version_word_byte y))) _ _
    (λ h. (run is_whitespace left ++ run is_version_word_byte y, run_token is_version_word_byte left y refl, (λ read s. version_read read (run is_whitespace left) (run is_version_word_byte y) p s c (run-passes is_whitespace left) (none_is (fault_of (run is_version_word_byte y)) h)), rest-stops is_version_word_byte y)) (λ n. tt)

close_out : (kind : FieldKind) (left y : List ℕ) → rest is_whitespace left ≡ y → Outcome kind CloseDue left (next_of AfterAtom (close_at y))
close_out kind left [] e = tt
close_out kind left (b ∷ t) e =
    let P : Result (List ℕ) RelationFault → Type 0 = λ r. Outcome kind CloseDue left (next_of AfterAtom r) in
    on_test P (b == right_parenthesis) _ _ (λ h. (run is_whitespace left ++ right_parenthesis ∷ [], byte_token left b right_parenthesis t e (eqb-true b right_parenthesis h), (λ read s. close_read read (run is_whitespace left) s (run-passes is_whitespace left)), tt)) (λ n. tt)

qualifier_some : (q : List ℕ) → (length q == 0) ≡ false → 0 < length q
qualifier_some q h = grind (arith, nat_tests)

pub outcome : (kind : FieldKind) (p : Place) (left : List ℕ) → Outcome kind p left (next kind p left)
outcome kind GroupDue left = group_out kind left (rest is_whitespace left) refl
outcome kind AtomDue left = name_out kind AtomDue left (rest is_whitespace left) refl refl
outcome kind AfterName [] = tt
outcome kind AfterName (b ∷ t) =
    let P : Next → Type 0 = Outcome kind AfterName (b ∷ t) in
    on_test P (b == colon) _ _ (λ h. (colon ∷ [], ap (λ n. n ∷ t) (eqb-true b colon h), (λ read s. colon_read read s), tt)) (λ n. bracket_out kind AfterName (b ∷ t) (rest is_whitespace (b ∷ t)) refl refl refl refl)
outcome kind QualifierDue left =
    let P : Next → Type 0 = Outcome kind QualifierDue left in
    let q : List ℕ = run is_qualifier_byte left in
    on_test P (length q == 0) _ _ (λ h. tt) (λ n. (q, run-rest is_qualifier_byte left, (λ read s. qualifier_read read q s (qualifier_some q n) (run-passes is_qualifier_byte left)), rest-stops is_qualifier_byte left))
outcome kind AfterQualifier left = bracket_out kind AfterQualifier left (rest is_whitespace left) refl refl refl refl
outcome kind OperatorDue left = operator_out kind left (rest is_whitespace left) refl
outcome kind (AfterSign b) [] = version_out kind (AfterSign b) [] refl
outcome kind (AfterSign b) (c ∷ t) =
    let P : Next → Type 0 = Outcome kind (AfterSign b) (c ∷ t) in
    on_test P (lengthens b c) _ _ (λ h. (c ∷ [], refl, (λ read s. sign_longer read b c s h), tt)) (λ n. version_out kind (AfterSign b) (c ∷ t) refl)
outcome kind VersionDue left = version_out kind VersionDue left refl
outcome kind CloseDue left = close_out kind left (rest is_whitespace left) refl
outcome kind AfterAtom left = end_out kind AfterAtom left (rest is_whitespace left) refl refl refl

-- ---- the fault

abbrev Ran : FieldKind → List ℕ → Option RelationFault → Type 0
Ran kind body None = Unit {0}
Ran kind body (Some f) = IsFault kind body f

runs_fault : (kind : FieldKind) (p : Place) (left : List ℕ) (r : Option RelationFault) → Runs kind p left r → (read : List ℕ) → StandsAt kind read p → IsWhole p left → Ran kind (read ++ left) r
runs_fault kind p left None h read s w = tt
runs_fault kind p left (Some f) (ends _ _ _ e) read s w = record { read = read; left = left; place = p; whole = refl; stands = s; due = due_is kind p left w ∙ ap ended e }
runs_fault kind p left (Some f) (moves _ _ q t _ e more) read s w =
    let P : Next → Type 0 = Outcome kind p left in
    let o : Moved kind p left q t = subst P e (outcome kind p left) in
    let Q : List ℕ → Type 0 = λ body. IsFault kind body f in
    subst Q (append_assoc read o.0 t ∙ ap (λ (l : List ℕ). read ++ l) (sym o.1)) (runs_fault kind q t (Some f) more (read ++ o.0) (o.2 read s) o.3)

pub read_fault : (kind : FieldKind) (body : List ℕ) (f : RelationFault) → fault_in (relations_of kind body) ≡ Some f → IsFault kind body f
read_fault kind body f h = let P : Option RelationFault → Type 0 = Runs kind GroupDue body in runs_fault kind GroupDue body (Some f) (subst P h (reader_runs kind body)) [] at_start tt

pub if_fault : (kind : FieldKind) (body : List ℕ) (r : Result (List (List AtomParts)) RelationFault) → Gives (λ (x : List (List AtomParts)). x) r (relations_of kind body) → IfErr r (λ e. e ≢ fault.Memory → IsFault kind body e)
if_fault kind body (Ok x) h = tt
if_fault kind body (Err e) h = λ n. read_fault kind body e (ap fault_in (h n))

-- ---- the table says nothing of memory

abbrev NotMemory : Option RelationFault → Type 0
NotMemory o = (f : RelationFault) → o ≡ Some f → f ≢ fault.Memory

nothing_said : NotMemory None
nothing_said f h k = absurd cc

says_name : NotMemory (Some fault.Name)
says_name f h k = absurd cc

says_operator : NotMemory (Some fault.Operator)
says_operator f h k = absurd cc

says_version : NotMemory (Some fault.Version)
says_version f h k = absurd cc

says_close : NotMemory (Some fault.Close)
says_close f h k = absurd cc

says_alternative : NotMemory (Some fault.Alternative)
says_alternative f h k = absurd cc

says_provides : NotMemory (Some fault.ProvidesOperator)
says_provides f h k = absurd cc

one_of : (u : Bool) (x y : Option RelationFault) → NotMemory x → NotMemory y → NotMemory (cond u x y)
one_of true x y g h = g
one_of false x y g h = h

name_says : (y : List ℕ) → NotMemory (name_fault y)
name_says [] = says_name
name_says (b ∷ text) = one_of (is_ascii_alphanumeric b) _ _ nothing_said says_name

group_says : (y : List ℕ) → NotMemory (group_fault y)
group_says [] = nothing_said
group_says (b ∷ text) = one_of (b == comma) _ _ nothing_said (name_says (b ∷ text))

end_says : (kind : FieldKind) (y : List ℕ) → NotMemory (end_fault kind y)
end_says kind [] = nothing_said
end_says kind (b ∷ text) = one_of (b == comma) _ _ nothing_said (one_of (b == bar) _ _ (one_of (has_alternatives kind) _ _ nothing_said says_alternative) says_name)

bracket_says : (kind : FieldKind) (y : List ℕ) → NotMemory (bracket_fault kind y)
bracket_says kind [] = nothing_said
bracket_says kind (b ∷ text) = one_of (b == left_parenthesis) _ _ nothing_said (end_says kind (b ∷ text))

operator_says : (kind : FieldKind) (y : List ℕ) → NotMemory (operator_fault kind y)
operator_says kind [] = says_operator
operator_says kind (b ∷ text) = one_of (b == equals) _ _ nothing_said (one_of (is_sign b) _ _ (one_of (is_provides kind) _ _ says_provides nothing_said) says_operator)

version_says : (y : List ℕ) → NotMemory (version_fault y)
version_says y = one_of (is_none (fault_of (run is_version_word_byte y))) _ _ nothing_said says_version

close_says : (y : List ℕ) → NotMemory (close_fault y)
close_says [] = says_close
close_says (b ∷ text) = one_of (b == right_parenthesis) _ _ nothing_said says_close

due_says : (kind : FieldKind) (p : Place) (left : List ℕ) → NotMemory (due_fault kind p left)
due_says kind GroupDue left = group_says (rest is_whitespace left)
due_says kind AtomDue left = name_says (rest is_whitespace left)
due_says kind AfterName [] = nothing_said
due_says kind AfterName (b ∷ text) = one_of (is_name_byte b) _ _ nothing_said (one_of (b == colon) _ _ nothing_said (bracket_says kind (rest is_whitespace (b ∷ text))))
due_says kind QualifierDue [] = says_name
due_says kind QualifierDue (b ∷ text) = one_of (is_qualifier_byte b) _ _ nothing_said says_name
due_says kind AfterQualifier [] = nothing_said
due_says kind AfterQualifier (b ∷ text) = one_of (is_qualifier_byte b) _ _ nothing_said (bracket_says kind (rest is_whitespace (b ∷ text)))
due_says kind OperatorDue left = operator_says kind (rest is_whitespace left)
due_says kind (AfterSign b) [] = says_version
due_says kind (AfterSign b) (c ∷ text) = one_of (lengthens b c) _ _ nothing_said (version_says (rest is_whitespace (c ∷ text)))
due_says kind VersionDue left = version_says (rest is_whitespace left)
due_says kind CloseDue [] = says_close
due_says kind CloseDue (b ∷ text) = one_of (is_version_word_byte b) _ _ nothing_said (close_says (rest is_whitespace (b ∷ text)))
due_says kind AfterAtom left = end_says kind (rest is_whitespace left)

pub never_memory : NeverMemory
never_memory kind body f h = due_says kind h.place h.left f h.due
