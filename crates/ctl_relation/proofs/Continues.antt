-- What stands at a place is read up to it, and can be continued.
use Rattle.std.proofs.Common.{◌≡◌, ◌⊎◌, ℕ, ◌+◌, ◌<◌, Bool, true, false, cond, Option, Some, None, List, [], ◌∷◌, ◌++◌, length, Result, Ok, Err, refl, sym, ap, subst, ◌∙◌, append_assoc, arith, inl, inr}
use Rattle.std.specs.Prelude.{◌==◌, codes}
use Rattle.std.specs.List.{list_all}
use Rattle.std.specs.Char.{is_ascii_alphanumeric}
use Rattle.std.proofs.lemmas.Bool.Decides.{nat_tests}
use Rattle.std.proofs.lemmas.Bool.{and_parts}
use Rattle.ctl_relation.specs.declared.relation_fault.RelationFault.{RelationFault}
use Rattle.ctl_relation.specs.declared.relation_fault.RelationFault.TheVariants as fault
use Rattle.ctl_relation.specs.declared.field_kind.FieldKind.{FieldKind}
use Rattle.ctl_relation.specs.Bytes.{left_parenthesis, right_parenthesis, comma, colon, equals, bar}
use Rattle.ctl_relation.specs.FieldBytes.{is_whitespace, is_qualifier_byte, is_version_word_byte}
use Rattle.ctl_relation.specs.Runs.{rest, Stops}
use Rattle.ctl_relation.specs.Parts.{AtomParts}
use Rattle.ctl_relation.specs.Version.{is_upstream_byte, fault_of}
use Rattle.ctl_relation.specs.Names.{is_name_byte, is_name}
use Rattle.ctl_relation.specs.FieldKind.{is_provides, has_alternatives}
use Rattle.ctl_relation.specs.Reading.{name_at, version_at, close_at, relations_of}
use Rattle.ctl_relation.specs.Grammar.{IsWhitespace, RelationsText}
use Rattle.ctl_relation.specs.Fault.{Place, GroupDue, AtomDue, AfterName, QualifierDue, AfterQualifier, OperatorDue, AfterSign, VersionDue, CloseDue, AfterAtom, takes_name, takes_bracket, takes_bar, takes_comma, takes_version, is_sign, lengthens, StandsAt, at_start, comma_read, bar_read, name_read, colon_read, qualifier_read, bracket_read, equal_read, sign_read, sign_longer, version_read, close_read, IsFault, Continues, GroupsOrFault, NeverBoth, OneFault, IsWhole}
use Rattle.ctl_relation.proofs.VersionBytes.{version_bytes, all_weaker}
use Rattle.ctl_relation.proofs.Only.{is_operator_byte, run_again, rest_again, stops_blanks, name_again, version_again, nonempty}
use Rattle.ctl_relation.proofs.AtomAgain.{blank_no_name, blank_no_qualifier, blank_no_colon, blank_ends_version, stops_version, upstream_run, upstream_no_blank, upstream_no_operator, blank_no_operator}
use Rattle.ctl_relation.proofs.FieldAgain.{letter_first, relations_again}
use Rattle.ctl_relation.proofs.Found.{groups_found}
use Rattle.ctl_relation.proofs.Runs.{Next, Ends, Moves, next_of, next_behind, group_next, end_next, bracket_next, name_next, operator_next, version_next, sign_next, next, Runs, ends, moves, one_end, fault_in, reader_runs}
use Rattle.ctl_relation.proofs.Faults.{ended, due_is, whole_due, read_fault}

-- ---- a token in front is the next one

-- a byte that ends names and qualifiers
record Cuts (c : ℕ) : Type 0 where
  blank : is_whitespace c ≡ false
  in_name : is_name_byte c ≡ false
  in_qualifier : is_qualifier_byte c ≡ false
  colon_other : (c == colon) ≡ false

front_byte : (blanks left : List ℕ) (c : ℕ) → (blanks ++ c ∷ []) ++ left ≡ blanks ++ c ∷ left
front_byte blanks left c = append_assoc blanks (c ∷ []) left

rest_byte : (blanks left : List ℕ) (c : ℕ) → IsWhitespace blanks → is_whitespace c ≡ false → rest is_whitespace ((blanks ++ c ∷ []) ++ left) ≡ c ∷ left
rest_byte blanks left c b h = ap (rest is_whitespace) (front_byte blanks left c) ∙ rest_again is_whitespace blanks (c ∷ left) b h

stops_byte : (p : ℕ → Bool) (blanks left : List ℕ) (c : ℕ) → ((b : ℕ) → is_whitespace b ≡ true → p b ≡ false) → IsWhitespace blanks → p c ≡ false → Stops p ((blanks ++ c ∷ []) ++ left)
stops_byte p blanks left c f b h = let P : List ℕ → Type 0 = Stops p in subst P (sym (front_byte blanks left c)) (stops_blanks p blanks (c ∷ left) f b h)

no_colon : (kind : FieldKind) (text : List ℕ) → Stops (λ b. b == colon) text → name_next kind text ≡ bracket_next kind (rest is_whitespace text)
no_colon kind [] s = refl
no_colon kind (b ∷ text) s = ap (λ z. cond z (Moves QualifierDue text) (bracket_next kind (rest is_whitespace (b ∷ text)))) s

-- Runs of what follows are runs from here.
abbrev Leads : FieldKind → Place → List ℕ → Next → Type 0
Leads kind p text n = IsWhole p text × (next kind p text ≡ n)

name_leads : (kind : FieldKind) (blanks left : List ℕ) (c : ℕ) → IsWhitespace blanks → Cuts c → Leads kind AfterName ((blanks ++ c ∷ []) ++ left) (bracket_next kind (c ∷ left))
name_leads kind blanks left c b h = (
  stops_byte is_name_byte blanks left c blank_no_name b h.in_name,
  no_colon kind ((blanks ++ c ∷ []) ++ left) (stops_byte (λ b. b == colon) blanks left c blank_no_colon b h.colon_other) ∙ ap (bracket_next kind) (rest_byte blanks left c b h.blank),
)

qualifier_leads : (kind : FieldKind) (blanks left : List ℕ) (c : ℕ) → IsWhitespace blanks → Cuts c → Leads kind AfterQualifier ((blanks ++ c ∷ []) ++ left) (bracket_next kind (c ∷ left))
qualifier_leads kind blanks left c b h = (stops_byte is_qualifier_byte blanks left c blank_no_qualifier b h.in_qualifier, ap (bracket_next kind) (rest_byte blanks left c b h.blank))

atom_leads : (kind : FieldKind) (blanks left : List ℕ) (c : ℕ) → IsWhitespace blanks → Cuts c → Leads kind AfterAtom ((blanks ++ c ∷ []) ++ left) (end_next kind (c ∷ left))
atom_leads kind blanks left c b h = (tt, ap (end_next kind) (rest_byte blanks left c b h.blank))

comma_leads : (kind : FieldKind) (p : Place) (blanks left : List ℕ) → takes_comma p ≡ true → IsWhitespace blanks → Leads kind p ((blanks ++ comma ∷ []) ++ left) (Moves GroupDue left)
comma_leads kind GroupDue blanks left c b = (tt, ap group_next (rest_byte blanks left comma b refl))
comma_leads kind AtomDue blanks left c b = absurd cc
comma_leads kind AfterName blanks left c b = name_leads kind blanks left comma b (record { blank = refl; in_name = refl; in_qualifier = refl; colon_other = refl })
comma_leads kind QualifierDue blanks left c b = absurd cc
comma_leads kind AfterQualifier blanks left c b = qualifier_leads kind blanks left comma b (record { blank = refl; in_name = refl; in_qualifier = refl; colon_other = refl })
comma_leads kind OperatorDue blanks left c b = absurd cc
comma_leads kind (AfterSign d) blanks left c b = absurd cc
comma_leads kind VersionDue blanks left c b = absurd cc
comma_leads kind CloseDue blanks left c b = absurd cc
comma_leads kind AfterAtom blanks left c b = atom_leads kind blanks left comma b (record { blank = refl; in_name = refl; in_qualifier = refl; colon_other = refl })

bar_leads : (kind : FieldKind) (p : Place) (blanks left : List ℕ) → takes_bar p ≡ true → has_alternatives kind ≡ true → IsWhitespace blanks → Leads kind p ((blanks ++ bar ∷ []) ++ left) (Moves AtomDue left)
bar_leads kind p blanks left c a b = go p c
  where
    bar_cuts : Cuts bar
    bar_cuts = record { blank = refl; in_name = refl; in_qualifier = refl; colon_other = refl }

    allowed : cond (has_alternatives kind) (Moves AtomDue left) (Ends (Some fault.Alternative)) ≡ Moves AtomDue left
    allowed = ap (λ z. cond z (Moves AtomDue left) (Ends (Some fault.Alternative))) a

    go : (p : Place) → takes_bar p ≡ true → Leads kind p ((blanks ++ bar ∷ []) ++ left) (Moves AtomDue left)
    go GroupDue c = absurd cc
    go AtomDue c = absurd cc
    go AfterName c = let l = name_leads kind blanks left bar b bar_cuts in (l.0, l.1 ∙ allowed)
    go QualifierDue c = absurd cc
    go AfterQualifier c = let l = qualifier_leads kind blanks left bar b bar_cuts in (l.0, l.1 ∙ allowed)
    go OperatorDue c = absurd cc
    go (AfterSign d) c = absurd cc
    go VersionDue c = absurd cc
    go CloseDue c = absurd cc
    go AfterAtom c = let l = atom_leads kind blanks left bar b bar_cuts in (l.0, l.1 ∙ allowed)

bracket_leads : (kind : FieldKind) (p : Place) (blanks left : List ℕ) → takes_bracket p ≡ true → IsWhitespace blanks → Leads kind p ((blanks ++ left_parenthesis ∷ []) ++ left) (Moves OperatorDue left)
bracket_leads kind GroupDue blanks left c b = absurd cc
bracket_leads kind AtomDue blanks left c b = absurd cc
bracket_leads kind AfterName blanks left c b = name_leads kind blanks left left_parenthesis b (record { blank = refl; in_name = refl; in_qualifier = refl; colon_other = refl })
bracket_leads kind QualifierDue blanks left c b = absurd cc
bracket_leads kind AfterQualifier blanks left c b = qualifier_leads kind blanks left left_parenthesis b (record { blank = refl; in_name = refl; in_qualifier = refl; colon_other = refl })
bracket_leads kind OperatorDue blanks left c b = absurd cc
bracket_leads kind (AfterSign d) blanks left c b = absurd cc
bracket_leads kind VersionDue blanks left c b = absurd cc
bracket_leads kind CloseDue blanks left c b = absurd cc
bracket_leads kind AfterAtom blanks left c b = absurd cc

-- a name
first_of_name : (word after : List ℕ) → is_name word ≡ true → Stops is_whitespace (word ++ after) × (group_next (word ++ after) ≡ next_behind AfterName (name_at (word ++ after)))
first_of_name [] after h = absurd cc
first_of_name (b ∷ word) after h =
    let l = letter_first b (and_parts (is_ascii_alphanumeric b) _ h).0 in
    (l.0, ap (λ t. cond t (Moves GroupDue (word ++ after)) (next_behind AfterName (name_at (b ∷ (word ++ after))))) l.1)

names_lead : (kind : FieldKind) (p : Place) (blanks word left : List ℕ) → takes_name p ≡ true → IsWhitespace blanks → is_name word ≡ true → Stops is_name_byte left → Leads kind p ((blanks ++ word) ++ left) (Moves AfterName left)
names_lead kind p blanks word left c b h s = go p c
  where
    f : Stops is_whitespace (word ++ left) × (group_next (word ++ left) ≡ next_behind AfterName (name_at (word ++ left)))
    f = first_of_name word left h

    e : rest is_whitespace ((blanks ++ word) ++ left) ≡ word ++ left
    e = ap (rest is_whitespace) (append_assoc blanks word left) ∙ rest_again is_whitespace blanks (word ++ left) b f.0

    n : next_behind AfterName (name_at (word ++ left)) ≡ Moves AfterName left
    n = ap (next_behind AfterName) (name_again word left h s)

    go : (p : Place) → takes_name p ≡ true → Leads kind p ((blanks ++ word) ++ left) (Moves AfterName left)
    go GroupDue c = (tt, ap group_next e ∙ f.1 ∙ n)
    go AtomDue c = (tt, ap (λ y. next_behind AfterName (name_at y)) e ∙ n)
    go AfterName c = absurd cc
    go QualifierDue c = absurd cc
    go AfterQualifier c = absurd cc
    go OperatorDue c = absurd cc
    go (AfterSign d) c = absurd cc
    go VersionDue c = absurd cc
    go CloseDue c = absurd cc
    go AfterAtom c = absurd cc

-- a qualifier
qualifiers_lead : (kind : FieldKind) (q left : List ℕ) → 0 < length q → list_all is_qualifier_byte q ≡ true → Stops is_qualifier_byte left → Leads kind QualifierDue (q ++ left) (Moves AfterQualifier left)
qualifiers_lead kind q left h a s = (
  tt,
  ap (λ (l : List ℕ). cond (length l == 0) (Ends (Some fault.Name)) (Moves AfterQualifier (rest is_qualifier_byte (q ++ left)))) (run_again is_qualifier_byte q left a s)
      ∙ ap (λ (l : List ℕ). cond (length q == 0) (Ends (Some fault.Name)) (Moves AfterQualifier l)) (rest_again is_qualifier_byte q left a s)
      ∙ ap (λ t. cond t (Ends (Some fault.Name)) (Moves AfterQualifier left)) (nonempty q h),
)

-- an operator
sign_facts : (b : ℕ) → is_sign b ≡ true → (is_whitespace b ≡ false) × ((b == equals) ≡ false) × (is_operator_byte b ≡ true)
sign_facts b h = (grind (arith, nat_tests), grind (arith, nat_tests), grind (arith, nat_tests))

signs_lead : (kind : FieldKind) (blanks left : List ℕ) (b : ℕ) → IsWhitespace blanks → is_sign b ≡ true → is_provides kind ≡ false → Leads kind OperatorDue ((blanks ++ b ∷ []) ++ left) (Moves (AfterSign b) left)
signs_lead kind blanks left b h i p =
    let f = sign_facts b i in (
      tt,
      ap (operator_next kind) (rest_byte blanks left b h f.0)
          ∙ ap (λ t. cond t (Moves VersionDue left) (cond (is_sign b) (cond (is_provides kind) (Ends (Some fault.ProvidesOperator)) (Moves (AfterSign b) left)) (Ends (Some fault.Operator)))) f.1
          ∙ ap (λ t. cond t (cond (is_provides kind) (Ends (Some fault.ProvidesOperator)) (Moves (AfterSign b) left)) (Ends (Some fault.Operator))) i
          ∙ ap (λ t. cond t (Ends (Some fault.ProvidesOperator)) (Moves (AfterSign b) left)) p,
    )

-- behind a sign stands a sign
abbrev Signs : Place → Type 0
Signs (AfterSign b) = is_sign b ≡ true
Signs _ = Unit {0}

stands_sign : (kind : FieldKind) (read : List ℕ) (p : Place) → StandsAt kind read p → Signs p
stands_sign kind read p at_start = tt
stands_sign kind read p (comma_read _ _ _ _ _ _) = tt
stands_sign kind read p (bar_read _ _ _ _ _ _ _) = tt
stands_sign kind read p (name_read _ _ _ _ _ _ _ _) = tt
stands_sign kind read p (colon_read _ _) = tt
stands_sign kind read p (qualifier_read _ _ _ _ _) = tt
stands_sign kind read p (bracket_read _ _ _ _ _ _) = tt
stands_sign kind read p (equal_read _ _ _ _) = tt
stands_sign kind read p (sign_read _ _ b _ _ h _) = h
stands_sign kind read p (sign_longer _ _ _ _ _) = tt
stands_sign kind read p (version_read _ _ _ _ _ _ _ _) = tt
stands_sign kind read p (close_read _ _ _ _) = tt

-- no operator's byte lengthens nothing
short_sign : (b c : ℕ) → is_sign b ≡ true → is_operator_byte c ≡ false → lengthens b c ≡ false
short_sign b c h k = grind (arith, nat_tests)

sign_next_version : (b : ℕ) (text : List ℕ) → is_sign b ≡ true → Stops is_operator_byte text → sign_next b text ≡ version_next text
sign_next_version b [] h s = refl
sign_next_version b (c ∷ text) h s = ap (λ t. cond t (Moves VersionDue text) (version_next (c ∷ text))) (short_sign b c h s)

versions_lead : (kind : FieldKind) (p : Place) (blanks v left : List ℕ) → takes_version p ≡ true → Signs p → IsWhitespace blanks → fault_of v ≡ None → Stops is_version_word_byte left → Leads kind p ((blanks ++ v) ++ left) (Moves CloseDue left)
versions_lead kind p blanks v left c i b h s = go p c i
  where
    w : (blanks ++ v) ++ left ≡ blanks ++ (v ++ left)
    w = append_assoc blanks v left

    e : rest is_whitespace ((blanks ++ v) ++ left) ≡ v ++ left
    e = ap (rest is_whitespace) w ∙ rest_again is_whitespace blanks (v ++ left) b (stops_version is_whitespace v left upstream_no_blank h)

    n : version_next ((blanks ++ v) ++ left) ≡ Moves CloseDue left
    n = ap (λ y. next_behind CloseDue (version_at y)) e ∙ ap (next_behind CloseDue) (version_again v left h (all_weaker is_upstream_byte is_version_word_byte upstream_run v (version_bytes v h).1) s)

    o : Stops is_operator_byte ((blanks ++ v) ++ left)
    o = let P : List ℕ → Type 0 = Stops is_operator_byte in subst P (sym w) (stops_blanks is_operator_byte blanks (v ++ left) blank_no_operator b (stops_version is_operator_byte v left upstream_no_operator h))

    go : (p : Place) → takes_version p ≡ true → Signs p → Leads kind p ((blanks ++ v) ++ left) (Moves CloseDue left)
    go GroupDue c i = absurd cc
    go AtomDue c i = absurd cc
    go AfterName c i = absurd cc
    go QualifierDue c i = absurd cc
    go AfterQualifier c i = absurd cc
    go OperatorDue c i = absurd cc
    go (AfterSign d) c i = (tt, sign_next_version d ((blanks ++ v) ++ left) i o ∙ n)
    go VersionDue c i = (tt, n)
    go CloseDue c i = absurd cc
    go AfterAtom c i = absurd cc

close_leads : (kind : FieldKind) (blanks left : List ℕ) → IsWhitespace blanks → Leads kind CloseDue ((blanks ++ right_parenthesis ∷ []) ++ left) (Moves AfterAtom left)
close_leads kind blanks left b = (stops_byte is_version_word_byte blanks left right_parenthesis blank_ends_version b refl, ap (λ y. next_of AfterAtom (close_at y)) (rest_byte blanks left right_parenthesis b refl))

-- ---- what stands at a place is read up to it

joined : (holds : Place → List ℕ → Type 0) (before token left : List ℕ) → holds GroupDue (before ++ (token ++ left)) → holds GroupDue ((before ++ token) ++ left)
joined holds before token left h = let P : List ℕ → Type 0 = holds GroupDue in subst P (sym (append_assoc before token left)) h

-- what each turn hands back to the place before it
abbrev pub HandsBack : FieldKind → (Place → List ℕ → Type 0) → Type 0
HandsBack kind holds = (p q : Place) (left t : List ℕ) → next kind p left ≡ Moves q t → holds q t → holds p left

-- What holds of what is left holds of the body.
pub stands_lead : (kind : FieldKind) (holds : Place → List ℕ → Type 0) → HandsBack kind holds → (read : List ℕ) (p : Place) → StandsAt kind read p → (left : List ℕ) → IsWhole p left → holds p left → holds GroupDue (read ++ left)
stands_lead kind holds back read p at_start left w h = h
stands_lead kind holds back read p (comma_read before blanks q s c b) left w h =
    let l = comma_leads kind q blanks left c b in
    joined holds before (blanks ++ comma ∷ []) left (stands_lead kind holds back before q s ((blanks ++ comma ∷ []) ++ left) l.0 (back q GroupDue ((blanks ++ comma ∷ []) ++ left) left l.1 h))
stands_lead kind holds back read p (bar_read before blanks q s c a b) left w h =
    let l = bar_leads kind q blanks left c a b in
    joined holds before (blanks ++ bar ∷ []) left (stands_lead kind holds back before q s ((blanks ++ bar ∷ []) ++ left) l.0 (back q AtomDue ((blanks ++ bar ∷ []) ++ left) left l.1 h))
stands_lead kind holds back read p (name_read before blanks word q s c b n) left w h =
    let l = names_lead kind q blanks word left c b n w in
    joined holds before (blanks ++ word) left (stands_lead kind holds back before q s ((blanks ++ word) ++ left) l.0 (back q AfterName ((blanks ++ word) ++ left) left l.1 h))
stands_lead kind holds back read p (colon_read before s) left w h =
    joined holds before (colon ∷ []) left (stands_lead kind holds back before AfterName s ((colon ∷ []) ++ left) refl (back AfterName QualifierDue ((colon ∷ []) ++ left) left refl h))
stands_lead kind holds back read p (qualifier_read before word s n a) left w h =
    let l = qualifiers_lead kind word left n a w in
    joined holds before word left (stands_lead kind holds back before QualifierDue s (word ++ left) l.0 (back QualifierDue AfterQualifier (word ++ left) left l.1 h))
stands_lead kind holds back read p (bracket_read before blanks q s c b) left w h =
    let l = bracket_leads kind q blanks left c b in
    joined holds before (blanks ++ left_parenthesis ∷ []) left (stands_lead kind holds back before q s ((blanks ++ left_parenthesis ∷ []) ++ left) l.0 (back q OperatorDue ((blanks ++ left_parenthesis ∷ []) ++ left) left l.1 h))
stands_lead kind holds back read p (equal_read before blanks s b) left w h =
    joined holds before (blanks ++ equals ∷ []) left (stands_lead kind holds back before OperatorDue s ((blanks ++ equals ∷ []) ++ left) tt (back OperatorDue VersionDue ((blanks ++ equals ∷ []) ++ left) left (ap (operator_next kind) (rest_byte blanks left equals b refl)) h))
stands_lead kind holds back read p (sign_read before blanks d s b i n) left w h =
    let l = signs_lead kind blanks left d b i n in
    joined holds before (blanks ++ d ∷ []) left (stands_lead kind holds back before OperatorDue s ((blanks ++ d ∷ []) ++ left) l.0 (back OperatorDue (AfterSign d) ((blanks ++ d ∷ []) ++ left) left l.1 h))
stands_lead kind holds back read p (sign_longer before d c s n) left w h =
    joined holds before (c ∷ []) left (stands_lead kind holds back before (AfterSign d) s ((c ∷ []) ++ left) tt (back (AfterSign d) VersionDue ((c ∷ []) ++ left) left (ap (λ t. cond t (Moves VersionDue left) (version_next (c ∷ left))) n) h))
stands_lead kind holds back read p (version_read before blanks v q s c b n) left w h =
    let l = versions_lead kind q blanks v left c (stands_sign kind before q s) b n w in
    joined holds before (blanks ++ v) left (stands_lead kind holds back before q s ((blanks ++ v) ++ left) l.0 (back q CloseDue ((blanks ++ v) ++ left) left l.1 h))
stands_lead kind holds back read p (close_read before blanks s b) left w h =
    let l = close_leads kind blanks left b in
    joined holds before (blanks ++ right_parenthesis ∷ []) left (stands_lead kind holds back before CloseDue s ((blanks ++ right_parenthesis ∷ []) ++ left) l.0 (back CloseDue AfterAtom ((blanks ++ right_parenthesis ∷ []) ++ left) left l.1 h))

stands_runs : (kind : FieldKind) (read : List ℕ) (p : Place) → StandsAt kind read p → (left : List ℕ) (r : Option RelationFault) → IsWhole p left → Runs kind p left r → Runs kind GroupDue (read ++ left) r
stands_runs kind read p s left r w more = stands_lead kind (λ q t. Runs kind q t r) (λ q x l t e runs. moves q l x t r e runs) read p s left w more

-- ---- one fault

pub ended_so : (n : Next) (f : RelationFault) → ended n ≡ Some f → n ≡ Ends (Some f)
ended_so (Ends r) f h = ap Ends h
ended_so (Moves q t) f h = absurd cc

-- The fault of a field is what is read.
pub fault_read : (kind : FieldKind) (body : List ℕ) (f : RelationFault) → IsFault kind body f → fault_in (relations_of kind body) ≡ Some f
fault_read kind body f h =
    let w = whole_due kind h.place h.left f h.due in
    let e : next kind h.place h.left ≡ Ends (Some f) = ended_so (next kind h.place h.left) f (sym (due_is kind h.place h.left w) ∙ h.due) in
    let runs : Runs kind GroupDue (h.read ++ h.left) (Some f) = stands_runs kind h.read h.place h.stands h.left (Some f) w (ends h.place h.left (Some f) e) in
    let P : List ℕ → Type 0 = λ z. Runs kind GroupDue z (Some f) in
    one_end kind GroupDue body (fault_in (relations_of kind body)) (Some f) (reader_runs kind body) (subst P (sym h.whole) runs)

-- ---- a place can be continued

-- the shortest end from a place
record Ending (kind : FieldKind) (p : Place) : Type 0 where
  more : List ℕ
  whole : IsWhole p more
  runs : Runs kind p more None

at_end : (kind : FieldKind) (p : Place) → next kind p [] ≡ Ends None → IsWhole p [] → Ending kind p
at_end kind p e w = record { more = []; whole = w; runs = ends p [] None e }

close_runs : (kind : FieldKind) → Runs kind CloseDue (right_parenthesis ∷ []) None
close_runs kind = moves CloseDue (right_parenthesis ∷ []) AfterAtom [] None refl (ends AfterAtom [] None refl)

version_runs : (kind : FieldKind) → Runs kind VersionDue (codes "1)") None
version_runs kind = moves VersionDue (codes "1)") CloseDue (right_parenthesis ∷ []) None refl (close_runs kind)

ending : (kind : FieldKind) (p : Place) → Signs p → Ending kind p
ending kind GroupDue i = at_end kind GroupDue refl tt
ending kind AtomDue i = record { more = codes "a"; whole = tt; runs = moves AtomDue (codes "a") AfterName [] None refl (ends AfterName [] None refl) }
ending kind AfterName i = at_end kind AfterName refl tt
ending kind QualifierDue i = record { more = codes "a"; whole = tt; runs = moves QualifierDue (codes "a") AfterQualifier [] None refl (ends AfterQualifier [] None refl) }
ending kind AfterQualifier i = at_end kind AfterQualifier refl tt
ending kind OperatorDue i = record { more = codes "=1)"; whole = tt; runs = moves OperatorDue (codes "=1)") VersionDue (codes "1)") None refl (version_runs kind) }
ending kind (AfterSign b) i = record { more = codes "1)"; whole = tt; runs = moves (AfterSign b) (codes "1)") CloseDue (right_parenthesis ∷ []) None (sign_next_version b (codes "1)") i refl) (close_runs kind) }
ending kind VersionDue i = record { more = codes "1)"; whole = tt; runs = version_runs kind }
ending kind CloseDue i = record { more = right_parenthesis ∷ []; whole = refl; runs = close_runs kind }
ending kind AfterAtom i = at_end kind AfterAtom refl tt

-- no fault, so groups
groups_read : (kind : FieldKind) (body : List ℕ) → fault_in (relations_of kind body) ≡ None → (groups : List (List AtomParts)) × RelationsText kind body groups
groups_read kind body h = go (relations_of kind body) refl h
  where
    go : (r : Result (List (List AtomParts)) RelationFault) → relations_of kind body ≡ r → fault_in r ≡ None → (groups : List (List AtomParts)) × RelationsText kind body groups
    go (Ok groups) e h = (groups, groups_found (length body + 1) kind body groups e)
    go (Err d) e h = absurd cc

pub continued : Continues
continued kind read p s =
    let t = ending kind p (stands_sign kind read p s) in
    let runs = stands_runs kind read p s t.more None t.whole t.runs in
    let g = groups_read kind (read ++ t.more) (one_end kind GroupDue (read ++ t.more) (fault_in (relations_of kind (read ++ t.more))) None (reader_runs kind (read ++ t.more)) runs) in
    (t.more, g.0, g.1)

-- ---- one fault or groups, and never both

pub one_fault : OneFault
one_fault kind body f g h k = let e : Some f ≡ Some g = sym (fault_read kind body f h) ∙ fault_read kind body g k in cc

pub never_both : NeverBoth
never_both kind body f groups h t = let e : Some f ≡ None = sym (fault_read kind body f h) ∙ ap fault_in (relations_again kind body groups t) in absurd cc

pub groups_or_fault : GroupsOrFault
groups_or_fault kind body = go (relations_of kind body) refl
  where
    go : (r : Result (List (List AtomParts)) RelationFault) → relations_of kind body ≡ r → ((groups : List (List AtomParts)) × RelationsText kind body groups) ⊎ ((f : RelationFault) × IsFault kind body f)
    go (Ok groups) e = inl (groups, groups_found (length body + 1) kind body groups e)
    go (Err f) e = inr (f, read_fault kind body f (ap fault_in e))
