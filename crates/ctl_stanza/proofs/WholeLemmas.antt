-- The fault that is told of a stanza without a faulty line is the least of its faults.
use Rattle.std.proofs.Common.{◌≡◌, ◌⊎◌, ◌∙◌, ◌+◌, ◌<◌, ◌≤◌, ◌++◌, ◌==◌, ◌&&◌, ◌||◌, is_none, ℕ, zero, suc, Bool, true, false, List, [], ◌∷◌, length, get_or, Option, Some, None, refl, sym, ap, subst, arith, inl, inr, ⊎_elim}
use Rattle.std.proofs.lemmas.Bool.{cases_Bool, cond-true, cond-false, eqb-true}
use Rattle.std.specs.Bool.{⊤, if◌then◌else◌}
use Rattle.std.specs.List.{Contains}
use Rattle.ctl_relation.specs.Names.{is_name}
use Rattle.ctl_stanza.specs.declared.line_kind.LineKind.{LineKind}
use Rattle.ctl_stanza.specs.declared.line_kind.LineKind.TheVariants.{Blank, Field, Continuation, Faulty}
use Rattle.ctl_stanza.specs.declared.list_kind.ListKind.{ListKind}
use Rattle.ctl_stanza.specs.declared.repeats.Repeats.TheVariants.{Never}
use Rattle.ctl_relation.specs.declared.field_kind.FieldKind.{FieldKind}
use Rattle.ctl_relation.specs.Version.{fault_of}
use Rattle.ctl_relation.specs.Reading.{relations_of}
use Rattle.ctl_stanza.specs.RelationFields.{name_of, relation_kind}
use Rattle.ctl_stanza.specs.Status.{liveness, is_live_by}
use Rattle.ctl_stanza.proofs.RelationLemmas.{same-respects, kind-same, same-kind, package-no-kind, version-no-kind}
use Rattle.ctl_stanza.specs.declared.fault.TextFault.{TextFault}
use Rattle.ctl_stanza.specs.declared.fault.Cause.{Cause}
use Rattle.ctl_stanza.specs.declared.fault.Cause.TheVariants as causes
use Rattle.ctl_stanza.specs.LineKind.{kind_of}
use Rattle.ctl_stanza.specs.Fields.{FieldText, field_at, fields_from, fields_of_lines, body_named, is_same_name, package_name, version_name}
use Rattle.ctl_stanza.specs.Faults.{fault_or, is_empty_body, lacks_state, is_missing, is_read, relation_cause, live_cause, field_cause, first_wrong, whole_fault, or_else, first_fault, stanza_fault}
use Rattle.ctl_stanza.specs.Laws.{LacksBody, LacksState, LacksField, IsLive, HasBadName, HasBadVersion, HasBadRelation, HasWholeFault, HasNoFaultyLine}
use Rattle.ctl_stanza.proofs.KeepLemmas.{option_either}
use Rattle.ctl_stanza.proofs.CauseLemmas.{IsAtMost, TellsLeast, HasFaultyLine, lines_tell, or-cases, or-left, or-right, same-some}

-- ---- the lines of fields rise

abbrev pub Rise : ℕ → List FieldText → Type 0
Rise m [] = ⊤
Rise m (f ∷ fs) = (m ≤ f.line) × Rise (suc f.line) fs

rise-less : (m k : ℕ) (fs : List FieldText) → m ≤ k → Rise k fs → Rise m fs
rise-less m k [] le rise = tt
rise-less m k (f ∷ fs) le rise = (omega (arith, rise.0), rise.1)

rise-at : (i : ℕ) (kind : LineKind) (l : List ℕ) (behind : List (List ℕ)) (fs : List FieldText) → Rise (suc i) fs → Rise i (field_at i kind l behind ++ fs)
rise-at i (Field n) l behind fs rise = (omega arith, rise)
rise-at i Blank l behind fs rise = rise-less i (suc i) fs (omega arith) rise
rise-at i Continuation l behind fs rise = rise-less i (suc i) fs (omega arith) rise
rise-at i Faulty l behind fs rise = rise-less i (suc i) fs (omega arith) rise

pub rise-from : (i : ℕ) (ls : List (List ℕ)) → Rise i (fields_from i ls)
rise-from i [] = tt
rise-from i (l ∷ ls) = rise-at i (kind_of l) l ls (fields_from (suc i) ls) (rise-from (suc i) ls)

rise-reach : (m : ℕ) (fs : List FieldText) (k : ℕ) (f : FieldText) → Rise m fs → k < length fs → get_or fs k f ≡ f → m ≤ f.line
rise-reach m [] k f rise lt is = absurd (omega arith)
rise-reach m (g ∷ fs) zero f rise lt is = omega (arith, rise.0, ap (λ (x : FieldText). x.line) is)
rise-reach m (g ∷ fs) (suc k) f rise lt is = omega (arith, rise.0, rise-reach (suc g.line) fs k f rise.1 (omega arith) is)

-- ---- and lie within the lines

abbrev pub Below : ℕ → List FieldText → Type 0
Below m [] = ⊤
Below m (f ∷ fs) = (f.line < m) × Below m fs

below-at : (i m : ℕ) (kind : LineKind) (l : List ℕ) (behind : List (List ℕ)) (fs : List FieldText) → i < m → Below m fs → Below m (field_at i kind l behind ++ fs)
below-at i m (Field n) l behind fs lt below = (lt, below)
below-at i m Blank l behind fs lt below = below
below-at i m Continuation l behind fs lt below = below
below-at i m Faulty l behind fs lt below = below

pub below-from : (i m : ℕ) (ls : List (List ℕ)) → i + length ls ≤ m → Below m (fields_from i ls)
below-from i m [] le = tt
below-from i m (l ∷ ls) le = below-at i m (kind_of l) l ls (fields_from (suc i) ls) (omega arith) (below-from (suc i) m ls (omega arith))

below-reach : (m : ℕ) (fs : List FieldText) (k : ℕ) (f : FieldText) → Below m fs → k < length fs → get_or fs k f ≡ f → f.line < m
below-reach m [] k f below lt is = absurd (omega arith)
below-reach m (g ∷ fs) zero f below lt is = omega (arith, below.0, ap (λ (x : FieldText). x.line) is)
below-reach m (g ∷ fs) (suc k) f below lt is = below-reach m fs k f below.1 (omega arith) is

-- the line of a field of a stanza is one of its lines
field-within : (stanza : List (List ℕ)) (i : ℕ) (field : FieldText) → Contains (fields_of_lines stanza) field → field.line ≡ i → i < length stanza
field-within stanza i field stands line =
    omega (arith, below-reach (length stanza) (fields_of_lines stanza) stands.0 field (below-from 0 (length stanza) stanza (omega arith)) stands.1 stands.2, line)

pub whole-within : (kind : ListKind) (stanza : List (List ℕ)) (i : ℕ) (cause : Cause) → 0 < length stanza → HasWholeFault kind stanza i cause → i < length stanza
whole-within kind stanza i causes.TooLong some fault = absurd fault
whole-within kind stanza i causes.Line some fault = absurd fault
whole-within kind stanza i causes.FieldTwice some fault = absurd fault
whole-within kind stanza i causes.Missing some fault = omega (arith, some, fault.0)
whole-within kind stanza i causes.Name some fault = field-within stanza i fault.field fault.stands fault.line
whole-within kind stanza i causes.Version some fault = field-within stanza i fault.field fault.stands fault.line
whole-within kind stanza i causes.Relation some fault = field-within stanza i fault.field fault.stands fault.line
whole-within kind stanza i causes.Priority some fault = absurd fault
whole-within kind stanza i causes.Form some fault = absurd fault
whole-within kind stanza i causes.Memory some fault = absurd fault

-- ---- what is missing

nil-of : (xs : List ℕ) → (length xs == 0) ≡ true → xs ≡ []
nil-of [] e = refl
nil-of (x ∷ xs) e = absurd (omega (arith, eqb-true (length (x ∷ xs)) 0 e))

empty-sound : (o : Option (List ℕ)) → is_empty_body o ≡ true → (body : List ℕ) → o ≡ Some body → body ≡ []
empty-sound None e body is = absurd (cc)
empty-sound (Some b) e body is = let same : b ≡ body = cc in sym same ∙ nil-of b e

empty-complete : (o : Option (List ℕ)) → ((body : List ℕ) → o ≡ Some body → body ≡ []) → is_empty_body o ≡ true
empty-complete None lacks = refl
empty-complete (Some b) lacks = ap (λ t. length t == 0) (lacks b refl)

lacks-sound : (o : Option Bool) → lacks_state o ≡ true → o ≡ None
lacks-sound None e = refl
lacks-sound (Some live) e = absurd (cc)

lacks-complete : (o : Option Bool) → o ≡ None → lacks_state o ≡ true
lacks-complete None e = refl
lacks-complete (Some live) e = absurd (cc)

and-left : (a b : Bool) → (a && b) ≡ true → a ≡ true
and-left true b e = refl
and-left false b e = absurd (cc)

and-right : (a b : Bool) → (a && b) ≡ true → b ≡ true
and-right true b e = e
and-right false b e = absurd (cc)

and-both : (a b : Bool) → a ≡ true → b ≡ true → (a && b) ≡ true
and-both true b e f = f
and-both false b e f = absurd (cc)

missing-sound : (kind : ListKind) (stanza : List (List ℕ)) → is_missing kind (fields_of_lines stanza) ≡ true → LacksField kind stanza
missing-sound kind stanza e =
    let fields = fields_of_lines stanza in
    let no_version = is_empty_body (body_named version_name fields) in
    ⊎_elim
    (λ (here : is_empty_body (body_named package_name fields) ≡ true). inl (empty-sound _ here))
    (λ (later : (lacks_state (liveness kind fields) || (is_live_by kind fields && no_version)) ≡ true). inr (⊎_elim
    (λ (here : lacks_state (liveness kind fields) ≡ true). inl (lacks-sound _ here))
    (λ (both : (is_live_by kind fields && no_version) ≡ true). inr (and-left (is_live_by kind fields) no_version both, empty-sound _ (and-right (is_live_by kind fields) no_version both)))
    (or-cases _ _ later)))
    (or-cases _ _ e)

missing-complete : (kind : ListKind) (stanza : List (List ℕ)) → LacksField kind stanza → is_missing kind (fields_of_lines stanza) ≡ true
missing-complete kind stanza lacks =
    let fields = fields_of_lines stanza in
    let no_package = is_empty_body (body_named package_name fields) in
    let no_state = lacks_state (liveness kind fields) in
    let no_version = is_live_by kind fields && is_empty_body (body_named version_name fields) in
    ⊎_elim
    (λ (here : LacksBody stanza package_name). or-left no_package (no_state || no_version) (empty-complete (body_named package_name fields) here))
    (λ (later : LacksState kind stanza ⊎ (IsLive kind stanza × LacksBody stanza version_name)).
    let some : (no_state || no_version) ≡ true = ⊎_elim
    (λ (here : LacksState kind stanza). or-left no_state no_version (lacks-complete (liveness kind fields) here))
    (λ (both : IsLive kind stanza × LacksBody stanza version_name).
    or-right no_state no_version (and-both (is_live_by kind fields) (is_empty_body (body_named version_name fields)) both.0 (empty-complete (body_named version_name fields) both.1)))
    later in
    or-right no_package (no_state || no_version) some)
    lacks

-- ---- a wrong field

pub record IsBadName (name body : List ℕ) (cause : Cause) : Type 0 where
  pub is_package : is_same_name name package_name ≡ true
  pub no_name : is_name body ≡ false
  pub is_cause : cause ≡ causes.Name

pub record IsBadVersion (live : Bool) (name body : List ℕ) (cause : Cause) : Type 0 where
  pub is_live : live ≡ true
  pub is_version : is_same_name name version_name ≡ true
  pub no_version : is_none (fault_of body) ≡ false
  pub is_cause : cause ≡ causes.Version

pub record IsBadRelation (live : Bool) (name body : List ℕ) (cause : Cause) : Type 0 where
  pub is_live : live ≡ true
  pub relation : FieldKind
  pub is_relation : is_same_name name (name_of relation) ≡ true
  pub no_relations : is_read (relations_of relation body) ≡ false
  pub is_cause : cause ≡ causes.Relation

abbrev IsBadField : Bool → List ℕ → List ℕ → Cause → Type 0
IsBadField live name body cause = IsBadName name body cause ⊎ (IsBadVersion live name body cause ⊎ IsBadRelation live name body cause)

relation_cause-sound : (live : Bool) (name body : List ℕ) (cause : Cause) (kind : Option FieldKind) → live ≡ true → relation_kind name ≡ kind → relation_cause body kind ≡ Some cause → IsBadRelation live name body cause
relation_cause-sound live name body cause None is_live is e = absurd (cc)
relation_cause-sound live name body cause (Some relation) is_live is e = ⊎_elim
    (λ (good : is_read (relations_of relation body) ≡ true). let here : relation_cause body (Some relation) ≡ None = cond-true _ _ _ good in absurd (cc))
    (λ (bad : is_read (relations_of relation body) ≡ false).
    let here : relation_cause body (Some relation) ≡ Some causes.Relation = cond-false _ _ _ bad in
    let found : IsBadRelation live name body cause = record { is_live = is_live; relation = relation; is_relation = same-kind name relation is; no_relations = bad; is_cause = cc } in found)
    (cases_Bool (is_read (relations_of relation body)))

live_cause-sound : (live : Bool) (name body : List ℕ) (cause : Cause) → live ≡ true → live_cause name body ≡ Some cause → IsBadVersion live name body cause ⊎ IsBadRelation live name body cause
live_cause-sound live name body cause is_live e = ⊎_elim
    (λ (is_version : is_same_name name version_name ≡ true). ⊎_elim
    (λ (good : is_none (fault_of body) ≡ true). let here : live_cause name body ≡ None = cond-true _ _ _ is_version ∙ cond-true _ _ _ good in absurd (cc))
    (λ (bad : is_none (fault_of body) ≡ false).
    let here : live_cause name body ≡ Some causes.Version = cond-true _ _ _ is_version ∙ cond-false _ _ _ bad in
    let found : IsBadVersion live name body cause = record { is_live = is_live; is_version = is_version; no_version = bad; is_cause = cc } in inl found)
    (cases_Bool (is_none (fault_of body))))
    (λ (other : is_same_name name version_name ≡ false).
    inr (relation_cause-sound live name body cause (relation_kind name) is_live refl (sym (cond-false (is_same_name name version_name) _ (relation_cause body (relation_kind name)) other) ∙ e)))
    (cases_Bool (is_same_name name version_name))

field_cause-sound : (live : Bool) (name body : List ℕ) (cause : Cause) → field_cause live name body ≡ Some cause → IsBadField live name body cause
field_cause-sound live name body cause e = ⊎_elim
    (λ (is_package : is_same_name name package_name ≡ true). ⊎_elim
    (λ (good : is_name body ≡ true). let here : field_cause live name body ≡ None = cond-true _ _ _ is_package ∙ cond-true _ _ _ good in absurd (cc))
    (λ (bad : is_name body ≡ false). let here : field_cause live name body ≡ Some causes.Name = cond-true _ _ _ is_package ∙ cond-false _ _ _ bad in
    let found : IsBadName name body cause = record { is_package = is_package; no_name = bad; is_cause = cc } in inl found)
    (cases_Bool (is_name body)))
    (λ (other : is_same_name name package_name ≡ false). ⊎_elim
    (λ (is_live : live ≡ true). inr (live_cause-sound live name body cause is_live (sym (cond-false (is_same_name name package_name) _ (if live then live_cause name body else None) other ∙ cond-true _ _ _ is_live) ∙ e)))
    (λ (not_live : live ≡ false). let here : field_cause live name body ≡ None = cond-false _ _ _ other ∙ cond-false _ _ _ not_live in absurd (cc))
    (cases_Bool live))
    (cases_Bool (is_same_name name package_name))

bad-name : (live : Bool) (name body : List ℕ) → is_same_name name package_name ≡ true → is_name body ≡ false → field_cause live name body ≡ Some causes.Name
bad-name live name body is_package no_name = cond-true _ _ _ is_package ∙ cond-false _ _ _ no_name

version-no-package : (name : List ℕ) → is_same_name name version_name ≡ true → is_same_name name package_name ≡ false
version-no-package name is = same-respects name version_name package_name is

bad-version : (live : Bool) (name body : List ℕ) → live ≡ true → is_same_name name version_name ≡ true → is_none (fault_of body) ≡ false → field_cause live name body ≡ Some causes.Version
bad-version live name body is_live is_version no_version =
    cond-false _ _ _ (version-no-package name is_version) ∙ cond-true _ _ _ is_live ∙ cond-true _ _ _ is_version ∙ cond-false _ _ _ no_version

relation-other : (name other : List ℕ) (relation : FieldKind) → relation_kind other ≡ None → (is_same_name name other ≡ true → relation_kind name ≡ None) → is_same_name name (name_of relation) ≡ true → is_same_name name other ≡ false
relation-other name other relation none respects is = ⊎_elim
    (λ (same : is_same_name name other ≡ true). let some = kind-same name relation is in let clash = respects same in absurd (cc))
    (λ (differs : is_same_name name other ≡ false). differs)
    (cases_Bool (is_same_name name other))

bad-relation : (live : Bool) (name body : List ℕ) (relation : FieldKind) → live ≡ true → is_same_name name (name_of relation) ≡ true → is_read (relations_of relation body) ≡ false → field_cause live name body ≡ Some causes.Relation
bad-relation live name body relation is_live is_relation no_relations =
    cond-false _ _ _ (relation-other name package_name relation refl (package-no-kind name) is_relation) ∙ cond-true _ _ _ is_live
    ∙ cond-false _ _ _ (relation-other name version_name relation refl (version-no-kind name) is_relation)
    ∙ ap (relation_cause body) (kind-same name relation is_relation) ∙ cond-false _ _ _ no_relations

-- the field that is told
pub record TellsField (live : Bool) (n : ℕ) (fields : List FieldText) (fault : TextFault) : Type 0 where
  pub field : FieldText
  pub stands : Contains fields field
  pub line : fault.line ≡ n + field.line
  pub wrong : field_cause live field.name field.body ≡ Some fault.cause

wrong-sound : (live : Bool) (n : ℕ) (fields : List FieldText) (fault : TextFault) → first_wrong live n fields ≡ Some fault → TellsField live n fields fault
wrong-sound live n [] fault e = absurd (cc)
wrong-sound live n (f ∷ fs) fault e = ⊎_elim
    (λ none.
    let here = ap (λ o. fault_or (n + f.line) o (first_wrong live n fs)) none in
    let rest = wrong-sound live n fs fault (sym here ∙ e) in
    let later : TellsField live n (f ∷ fs) fault = record { field = rest.field; stands = (suc rest.stands.0, omega (arith, rest.stands.1), rest.stands.2); line = rest.line; wrong = rest.wrong } in later)
    (λ some.
    let here = ap (λ o. fault_or (n + f.line) o (first_wrong live n fs)) some.1 in
    let same = same-some _ fault _ here e in
    let first : TellsField live n (f ∷ fs) fault = record {
      field = f;
      stands = (0, omega arith, refl);
      line = sym (ap (λ (g : TextFault). g.line) same);
      wrong = some.1 ∙ ap (λ (g : TextFault). Some g.cause) same;
    } in first)
    (option_either (field_cause live f.name f.body))

-- a fault is told that is at most that of this field
wrong-least : (live : Bool) (n m : ℕ) (fields : List FieldText) (k : ℕ) (field : FieldText) (cause : Cause) → Rise m fields → k < length fields → get_or fields k field ≡ field → field_cause live field.name field.body ≡ Some cause
    → (fault : TextFault) × (first_wrong live n fields ≡ Some fault) × IsAtMost fault (n + field.line) cause
wrong-least live n m [] k field cause rise lt is wrong = absurd (omega arith)
wrong-least live n m (f ∷ fs) zero field cause rise lt is wrong =
    let here : field_cause live f.name f.body ≡ Some cause = ap (λ (g : FieldText). field_cause live g.name g.body) is ∙ wrong in
    (record { line = n + f.line; cause = cause }, ap (λ o. fault_or (n + f.line) o (first_wrong live n fs)) here, inr (ap (λ (g : FieldText). n + g.line) is, omega arith))
wrong-least live n m (f ∷ fs) (suc k) field cause rise lt is wrong = ⊎_elim
    (λ none.
    let rest = wrong-least live n (suc f.line) fs k field cause rise.1 (omega arith) is wrong in
    (rest.0, ap (λ o. fault_or (n + f.line) o (first_wrong live n fs)) none ∙ rest.1, rest.2))
    (λ some. (
      record { line = n + f.line; cause = some.0 },
      ap (λ o. fault_or (n + f.line) o (first_wrong live n fs)) some.1,
      inl (let behind = rise-reach (suc f.line) fs k field rise.1 (omega arith) is in omega arith),
    ))
    (option_either (field_cause live f.name f.body))

-- ---- a stanza without a faulty line

field-fault : (kind : ListKind) (stanza : List (List ℕ)) (field : FieldText) (cause : Cause) → Contains (fields_of_lines stanza) field
    → IsBadField (is_live_by kind (fields_of_lines stanza)) field.name field.body cause → HasWholeFault kind stanza field.line cause
field-fault kind stanza field cause stands bad = ⊎_elim
    (λ (name : IsBadName field.name field.body cause).
    let has : HasBadName stanza field.line = record { field = field; stands = stands; line = refl; is_package = name.is_package; no_name = name.no_name } in
    subst (HasWholeFault kind stanza field.line) (sym name.is_cause) has)
    (λ (later : IsBadVersion (is_live_by kind (fields_of_lines stanza)) field.name field.body cause ⊎ IsBadRelation (is_live_by kind (fields_of_lines stanza)) field.name field.body cause). ⊎_elim
    (λ (version : IsBadVersion (is_live_by kind (fields_of_lines stanza)) field.name field.body cause).
    let has : HasBadVersion kind stanza field.line =
    record { live = version.is_live; field = field; stands = stands; line = refl; is_version = version.is_version; no_version = version.no_version } in
    subst (HasWholeFault kind stanza field.line) (sym version.is_cause) has)
    (λ (relation : IsBadRelation (is_live_by kind (fields_of_lines stanza)) field.name field.body cause).
    let has : HasBadRelation kind stanza field.line = record {
      live = relation.is_live;
      field = field;
      stands = stands;
      line = refl;
      relation = relation.relation;
      is_relation = relation.is_relation;
      no_relations = relation.no_relations;
    } in
    subst (HasWholeFault kind stanza field.line) (sym relation.is_cause) has)
    later)
    bad

wrong_tell : (kind : ListKind) (n : ℕ) (stanza : List (List ℕ)) → is_missing kind (fields_of_lines stanza) ≡ false
    → TellsLeast (HasWholeFault kind stanza) n (first_wrong (is_live_by kind (fields_of_lines stanza)) n (fields_of_lines stanza))
wrong_tell kind n stanza whole = record {
  sound = λ fault e.
      let told = wrong-sound (is_live_by kind (fields_of_lines stanza)) n (fields_of_lines stanza) fault e in
      (told.field.line, told.line, field-fault kind stanza told.field fault.cause told.stands (field_cause-sound (is_live_by kind (fields_of_lines stanza)) told.field.name told.field.body fault.cause told.wrong));
  least = λ i cause fault. wrong_is_least i cause fault;
}
  where
    field_least : (i : ℕ) (cause : Cause) (field : FieldText) → Contains (fields_of_lines stanza) field → field.line ≡ i → field_cause (is_live_by kind (fields_of_lines stanza)) field.name field.body ≡ Some cause
        → (fault : TextFault) × (first_wrong (is_live_by kind (fields_of_lines stanza)) n (fields_of_lines stanza) ≡ Some fault) × IsAtMost fault (n + i) cause
    field_least i cause field stands line wrong =
        let told = wrong-least (is_live_by kind (fields_of_lines stanza)) n 0 (fields_of_lines stanza) stands.0 field cause (rise-from 0 stanza) stands.1 stands.2 wrong in
        (told.0, told.1, subst (λ k. IsAtMost told.0 (n + k) cause) line told.2)

    wrong_is_least : (i : ℕ) (cause : Cause) → HasWholeFault kind stanza i cause
        → (fault : TextFault) × (first_wrong (is_live_by kind (fields_of_lines stanza)) n (fields_of_lines stanza) ≡ Some fault) × IsAtMost fault (n + i) cause
    wrong_is_least i causes.TooLong fault = absurd fault
    wrong_is_least i causes.Line fault = absurd fault
    wrong_is_least i causes.FieldTwice fault = absurd fault
    wrong_is_least i causes.Missing fault = let lacks = missing-complete kind stanza fault.1 in absurd (cc)
    wrong_is_least i causes.Name fault = field_least i causes.Name fault.field fault.stands fault.line (bad-name (is_live_by kind (fields_of_lines stanza)) fault.field.name fault.field.body fault.is_package fault.no_name)
    wrong_is_least i causes.Version fault =
        field_least i causes.Version fault.field fault.stands fault.line (bad-version (is_live_by kind (fields_of_lines stanza)) fault.field.name fault.field.body fault.live fault.is_version fault.no_version)
    wrong_is_least i causes.Relation fault =
        field_least i causes.Relation fault.field fault.stands fault.line
        (bad-relation (is_live_by kind (fields_of_lines stanza)) fault.field.name fault.field.body fault.relation fault.live fault.is_relation fault.no_relations)
    wrong_is_least i causes.Priority fault = absurd fault
    wrong_is_least i causes.Form fault = absurd fault
    wrong_is_least i causes.Memory fault = absurd fault

missing_tell : (kind : ListKind) (n : ℕ) (stanza : List (List ℕ)) → is_missing kind (fields_of_lines stanza) ≡ true
    → TellsLeast (HasWholeFault kind stanza) n (Some (record { line = n; cause = causes.Missing }))
missing_tell kind n stanza missing = record {
  sound = λ fault e.
      let first : TextFault = record { line = n; cause = causes.Missing } in
      let same : first ≡ fault = same-some first fault (Some first) refl e in
      let lacks : HasWholeFault kind stanza 0 causes.Missing = (refl, missing-sound kind stanza missing) in
      (0, omega (arith, ap (λ (f : TextFault). f.line) same), subst (HasWholeFault kind stanza 0) (ap (λ (f : TextFault). f.cause) same) lacks);
  least = λ i cause fault. (record { line = n; cause = causes.Missing }, refl, at_most i cause fault);
}
  where
    at_most : (i : ℕ) (cause : Cause) → HasWholeFault kind stanza i cause → IsAtMost (record { line = n; cause = causes.Missing }) (n + i) cause
    at_most i causes.TooLong fault = absurd fault
    at_most i causes.Line fault = absurd fault
    at_most i causes.FieldTwice fault = absurd fault
    at_most i causes.Missing fault = inr (omega (arith, fault.0), omega arith)
    at_most zero causes.Name fault = inr (omega arith, omega arith)
    at_most (suc i) causes.Name fault = inl (omega arith)
    at_most zero causes.Version fault = inr (omega arith, omega arith)
    at_most (suc i) causes.Version fault = inl (omega arith)
    at_most zero causes.Relation fault = inr (omega arith, omega arith)
    at_most (suc i) causes.Relation fault = inl (omega arith)
    at_most i causes.Priority fault = absurd fault
    at_most i causes.Form fault = absurd fault
    at_most i causes.Memory fault = absurd fault

pub whole_tell : (kind : ListKind) (n : ℕ) (stanza : List (List ℕ)) → TellsLeast (HasWholeFault kind stanza) n (whole_fault kind n (fields_of_lines stanza))
whole_tell kind n stanza = ⊎_elim
    (λ (missing : is_missing kind (fields_of_lines stanza) ≡ true). subst (TellsLeast (HasWholeFault kind stanza) n) (sym (cond-true _ _ _ missing)) (missing_tell kind n stanza missing))
    (λ (whole : is_missing kind (fields_of_lines stanza) ≡ false). subst (TellsLeast (HasWholeFault kind stanza) n) (sym (cond-false _ _ _ whole)) (wrong_tell kind n stanza whole))
    (cases_Bool (is_missing kind (fields_of_lines stanza)))

-- ---- a stanza

-- a line of a stanza is faulty, or none is and the stanza has this fault there
abbrev pub HasStanzaLine : ListKind → List (List ℕ) → ℕ → Cause → Type 0
HasStanzaLine kind stanza i cause = HasFaultyLine Never stanza i cause ⊎ (HasNoFaultyLine stanza × HasWholeFault kind stanza i cause)

faulty_tell : (kind : ListKind) (n : ℕ) (stanza : List (List ℕ)) (first : TextFault) → first_fault Never n [] stanza ≡ Some first
    → TellsLeast (HasStanzaLine kind stanza) n (Some first)
faulty_tell kind n stanza first some =
    let lines = lines_tell Never n stanza in
    let found = lines.sound first some in
    record {
      sound = λ fault e.
          let same : first ≡ fault = same-some first fault (Some first) refl e in
          let known = lines.sound fault (some ∙ ap Some same) in
          (known.0, known.1, inl known.2);
      least = λ i cause fault. ⊎_elim
          (λ (faulty : HasFaultyLine Never stanza i cause).
          let told = lines.least i cause faulty in
          let same : told.0 ≡ first = same-some told.0 first (first_fault Never n [] stanza) told.1 some in
          (first, refl, subst (λ f. IsAtMost f (n + i) cause) same told.2))
          (λ (whole : HasNoFaultyLine stanza × HasWholeFault kind stanza i cause). absurd (whole.0 found.0 first.cause found.2.0 found.2.1))
          fault;
    }

good_tell : (kind : ListKind) (n : ℕ) (stanza : List (List ℕ)) → first_fault Never n [] stanza ≡ None
    → TellsLeast (HasStanzaLine kind stanza) n (whole_fault kind n (fields_of_lines stanza))
good_tell kind n stanza none =
    let lines = lines_tell Never n stanza in
    let whole = whole_tell kind n stanza in
    let good : HasNoFaultyLine stanza = λ i cause lt faulty. let told = lines.least i cause (lt, faulty) in let clash = sym none ∙ told.1 in absurd (cc) in
    record {
      sound = λ fault e. let known = whole.sound fault e in (known.0, known.1, inr (good, known.2));
      least = λ i cause fault. ⊎_elim
          (λ (faulty : HasFaultyLine Never stanza i cause). absurd (good i cause faulty.0 faulty.1))
          (λ (here : HasNoFaultyLine stanza × HasWholeFault kind stanza i cause). whole.least i cause here.1)
          fault;
    }

pub stanza_tell : (kind : ListKind) (n : ℕ) (stanza : List (List ℕ)) → TellsLeast (HasStanzaLine kind stanza) n (stanza_fault kind n stanza)
stanza_tell kind n stanza = ⊎_elim
    (λ none. subst (λ o. TellsLeast (HasStanzaLine kind stanza) n (or_else o (whole_fault kind n (fields_of_lines stanza)))) (sym none) (good_tell kind n stanza none))
    (λ some. subst (λ o. TellsLeast (HasStanzaLine kind stanza) n (or_else o (whole_fault kind n (fields_of_lines stanza)))) (sym some.1) (faulty_tell kind n stanza some.0 some.1))
    (option_either (first_fault Never n [] stanza))
