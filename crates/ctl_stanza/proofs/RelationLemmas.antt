-- The names of the relation fields, and what is kept of them.
use Rattle.std.proofs.Common.{◌≡◌, ◌∙◌, ◌++◌, ℕ, true, false, cond, List, [], ◌∷◌, length, nat_eq, Option, Some, None, refl, sym, ap, subst, ⊎_elim, Bool, unwrap_or}
use Rattle.std.specs.Option.{option_map}
use Rattle.std.specs.Str.{bytes_eq, str_to_ascii_lowercase}
use Rattle.std.specs.Char.{to_ascii_lowercase}
use Rattle.std.proofs.lemmas.Bool.{cases_Bool, cond-true, cond-false}
use Rattle.std.proofs.lemmas.List.{length-map}
use Rattle.std.proofs.lemmas.List.Elements.{All-push}
use Rattle.std.proofs.lemmas.Slice.Eq.{bytes_eq-Decides}
use Rattle.ctl_relation.specs.declared.field_kind.FieldKind.{FieldKind}
use Rattle.ctl_relation.specs.declared.field_kind.FieldKind.TheVariants.{PreDepends, Depends, Conflicts, Breaks, Recommends, Suggests, Replaces, Enhances, Provides}
use Rattle.ctl_relation.specs.declared.span.Span.{Span}
use Rattle.ctl_relation.specs.FieldKind.{field_place}
use Rattle.ctl_relation.specs.Marks.{MarkedField, groups_in, kept_groups, AreKeptIn, AreMarks, IsKeptIn, KeepsIfRelation}
use Rattle.ctl_relation.specs.Parts.{AtomParts}
use Rattle.ctl_relation.specs.Reading.{groups_read}
use Rattle.ctl_relation.proofs.MarkLemmas.{same-place, place-same}
use Rattle.ctl_stanza.specs.Fields.{FieldText, is_same_name, body_named, package_name, version_name}
use Rattle.ctl_stanza.specs.RelationFields.{name_of, relation_kind}
use Rattle.ctl_stanza.specs.Faults.{or_else}
use Rattle.ctl_stanza.specs.Inside.HeldFields.{shown}
use Rattle.ctl_stanza.specs.Inside.HeldStanza.{version_given}

-- ---- names without regard to case

lower-same : (a b : List ℕ) → is_same_name a b ≡ true → str_to_ascii_lowercase a ≡ str_to_ascii_lowercase b
lower-same a b same = (bytes_eq-Decides (str_to_ascii_lowercase a) (str_to_ascii_lowercase b)).0 same

-- names that are the same have as many bytes
pub same-length : (a b : List ℕ) → is_same_name a b ≡ true → length a ≡ length b
same-length a b same = sym (length-map a to_ascii_lowercase) ∙ ap length (lower-same a b same) ∙ length-map b to_ascii_lowercase

-- names that are the same are the same as the same others
pub same-respects : (a b c : List ℕ) → is_same_name a b ≡ true → is_same_name a c ≡ is_same_name b c
same-respects a b c same = ap (λ t. bytes_eq t (str_to_ascii_lowercase c)) (lower-same a b same)

-- the relation field of a name, by the name in lower case
abbrev kind_by : List ℕ → Option FieldKind
kind_by lower =
    cond (bytes_eq lower (str_to_ascii_lowercase (name_of PreDepends))) (Some PreDepends) (
    cond (bytes_eq lower (str_to_ascii_lowercase (name_of Depends))) (Some Depends) (
    cond (bytes_eq lower (str_to_ascii_lowercase (name_of Conflicts))) (Some Conflicts) (
    cond (bytes_eq lower (str_to_ascii_lowercase (name_of Breaks))) (Some Breaks) (
    cond (bytes_eq lower (str_to_ascii_lowercase (name_of Recommends))) (Some Recommends) (
    cond (bytes_eq lower (str_to_ascii_lowercase (name_of Suggests))) (Some Suggests) (
    cond (bytes_eq lower (str_to_ascii_lowercase (name_of Replaces))) (Some Replaces) (
    cond (bytes_eq lower (str_to_ascii_lowercase (name_of Enhances))) (Some Enhances) (
    cond (bytes_eq lower (str_to_ascii_lowercase (name_of Provides))) (Some Provides) None))))))))

kind-respects : (a b : List ℕ) → is_same_name a b ≡ true → relation_kind a ≡ relation_kind b
kind-respects a b same = ap kind_by (lower-same a b same)

kind-of-name : (kind : FieldKind) → relation_kind (name_of kind) ≡ Some kind
kind-of-name PreDepends = refl
kind-of-name Depends = refl
kind-of-name Conflicts = refl
kind-of-name Breaks = refl
kind-of-name Recommends = refl
kind-of-name Suggests = refl
kind-of-name Replaces = refl
kind-of-name Enhances = refl
kind-of-name Provides = refl

-- a name that is that of a relation field tells it
pub kind-same : (name : List ℕ) (kind : FieldKind) → is_same_name name (name_of kind) ≡ true → relation_kind name ≡ Some kind
kind-same name kind same = kind-respects name (name_of kind) same ∙ kind-of-name kind

-- one test of the name, and the others
kind-step : (name : List ℕ) (here kind : FieldKind) (rest : Option FieldKind) → cond (is_same_name name (name_of here)) (Some here) rest ≡ Some kind
    → (rest ≡ Some kind → is_same_name name (name_of kind) ≡ true) → is_same_name name (name_of kind) ≡ true
kind-step name here kind rest e later = ⊎_elim
    (λ (same : is_same_name name (name_of here) ≡ true).
    let first = sym (cond-true (is_same_name name (name_of here)) (Some here) rest same) ∙ e in
    let is : here ≡ kind = cc in
    subst (λ (k : FieldKind). is_same_name name (name_of k) ≡ true) is same)
    (λ (other : is_same_name name (name_of here) ≡ false). later (sym (cond-false (is_same_name name (name_of here)) (Some here) rest other) ∙ e))
    (cases_Bool (is_same_name name (name_of here)))

pub same-kind : (name : List ℕ) (kind : FieldKind) → relation_kind name ≡ Some kind → is_same_name name (name_of kind) ≡ true
same-kind name kind e =
    kind-step name PreDepends kind _ e (λ e1.
    kind-step name Depends kind _ e1 (λ e2.
    kind-step name Conflicts kind _ e2 (λ e3.
    kind-step name Breaks kind _ e3 (λ e4.
    kind-step name Recommends kind _ e4 (λ e5.
    kind-step name Suggests kind _ e5 (λ e6.
    kind-step name Replaces kind _ e6 (λ e7.
    kind-step name Enhances kind _ e7 (λ e8.
    kind-step name Provides kind _ e8 (λ e9. absurd (cc))))))))))

-- names that are those of no relation field
pub package-no-kind : (name : List ℕ) → is_same_name name package_name ≡ true → relation_kind name ≡ None
package-no-kind name same = kind-respects name package_name same

pub version-no-kind : (name : List ℕ) → is_same_name name version_name ≡ true → relation_kind name ≡ None
version-no-kind name same = kind-respects name version_name same

-- ---- what is kept

-- the groups that are kept of a relation field, if it was given
abbrev pub kept_of : FieldKind → List ℕ → List MarkedField → Option (List (List AtomParts))
kept_of kind bytes [] = None
kept_of kind bytes (field ∷ fields) = cond (nat_eq (field_place field.kind) (field_place kind)) (Some (groups_in bytes field)) (kept_of kind bytes fields)

pub kept-or-none : (kind : FieldKind) (bytes : List ℕ) (fields : List MarkedField) → kept_groups kind bytes fields ≡ unwrap_or (kept_of kind bytes fields) []
kept-or-none kind bytes [] = refl
kept-or-none kind bytes (f ∷ fs) = by (nat_eq (field_place f.kind) (field_place kind)) (kept-or-none kind bytes fs)
  where
    by : (t : Bool) → kept_groups kind bytes fs ≡ unwrap_or (kept_of kind bytes fs) [] → cond t (groups_in bytes f) (kept_groups kind bytes fs) ≡ unwrap_or (cond t (Some (groups_in bytes f)) (kept_of kind bytes fs)) []
    by true rest = refl
    by false rest = rest

-- what a field gives to the groups of a relation field
abbrev pub groups_given : FieldKind → List ℕ → List ℕ → Option (List (List AtomParts))
groups_given kind name body = cond (is_same_name name (name_of kind)) (Some (groups_read kind body)) None

-- the groups of a relation field among fields, if it is given
abbrev pub groups_found : FieldKind → List FieldText → Option (List (List AtomParts))
groups_found kind fields = option_map (groups_read kind) (body_named (name_of kind) fields)

found-or-none : (kind : FieldKind) (body : Option (List ℕ)) → unwrap_or (option_map (groups_read kind) body) [] ≡ groups_read kind (unwrap_or body [])
found-or-none kind None = refl
found-or-none kind (Some body) = refl

-- the groups of a field that is pushed
abbrev pushed_groups : FieldKind → List ℕ → MarkedField → Option (List (List AtomParts))
pushed_groups kind bytes field = cond (nat_eq (field_place field.kind) (field_place kind)) (Some (groups_in bytes field)) None

kept-push : (kind : FieldKind) (bytes : List ℕ) (fields : List MarkedField) (field : MarkedField) → kept_of kind bytes (fields ++ field ∷ []) ≡ or_else (kept_of kind bytes fields) (pushed_groups kind bytes field)
kept-push kind bytes [] field = refl
kept-push kind bytes (f ∷ fs) field = by (nat_eq (field_place f.kind) (field_place kind)) (kept-push kind bytes fs field)
  where
    by : (t : Bool) → kept_of kind bytes (fs ++ field ∷ []) ≡ or_else (kept_of kind bytes fs) (pushed_groups kind bytes field) → cond t (Some (groups_in bytes f)) (kept_of kind bytes (fs ++ field ∷ [])) ≡ or_else (cond t (Some (groups_in bytes f)) (kept_of kind bytes fs)) (pushed_groups kind bytes field)
    by true rest = refl
    by false rest = rest

-- what a relation field gives is what is pushed
gives-pushed : (name body : List ℕ) (here kind : FieldKind) (groups : List (List AtomParts)) → relation_kind name ≡ Some here → groups ≡ groups_read here body
    → cond (nat_eq (field_place here) (field_place kind)) (Some groups) None ≡ groups_given kind name body
gives-pushed name body here kind groups is read = ⊎_elim
    (λ (same : nat_eq (field_place here) (field_place kind) ≡ true).
    let one : here ≡ kind = same-place here kind same in
    let named : is_same_name name (name_of kind) ≡ true = same-kind name kind (is ∙ ap Some one) in
    cond-true _ _ _ same ∙ ap Some (read ∙ ap (λ (k : FieldKind). groups_read k body) one) ∙ sym (cond-true _ _ _ named))
    (λ (other : nat_eq (field_place here) (field_place kind) ≡ false). ⊎_elim
    (λ (named : is_same_name name (name_of kind) ≡ true).
    let some = kind-same name kind named in
    let one : here ≡ kind = cc in
    let clash = sym other ∙ ap (λ (k : FieldKind). nat_eq (field_place here) (field_place k)) (sym one) ∙ place-same here in absurd (cc))
    (λ (unnamed : is_same_name name (name_of kind) ≡ false). cond-false _ _ _ other ∙ sym (cond-false _ _ _ unnamed))
    (cases_Bool (is_same_name name (name_of kind))))
    (cases_Bool (nat_eq (field_place here) (field_place kind)))

or_else-none : {A : Type 0} (o : Option A) → or_else o None ≡ o
or_else-none None = refl
or_else-none (Some x) = refl

-- a field that is none of the nine gives no groups
none-given : (name body : List ℕ) (kind : FieldKind) → relation_kind name ≡ None → groups_given kind name body ≡ None
none-given name body kind is = ⊎_elim
    (λ (named : is_same_name name (name_of kind) ≡ true). let some = kind-same name kind named in absurd (cc))
    (λ (unnamed : is_same_name name (name_of kind) ≡ false). cond-false _ _ _ unnamed)
    (cases_Bool (is_same_name name (name_of kind)))

-- what is kept, with one field more
pub keeps-given : (bytes name : List ℕ) (body : Span) (o : Option FieldKind) (old new : List MarkedField) → relation_kind name ≡ o → KeepsIfRelation bytes o body old new
    → (kind : FieldKind) → kept_of kind bytes new ≡ or_else (kept_of kind bytes old) (groups_given kind name (shown bytes body))
keeps-given bytes name body None old new is keeps kind =
    ap (kept_of kind bytes) keeps ∙ sym (ap (or_else (kept_of kind bytes old)) (none-given name (shown bytes body) kind is) ∙ or_else-none (kept_of kind bytes old))
keeps-given bytes name body (Some here) old new is keeps kind =
    ap (kept_of kind bytes) keeps.pushed ∙ kept-push kind bytes old keeps.field
    ∙ ap (or_else (kept_of kind bytes old))
    (ap (λ (k : FieldKind). cond (nat_eq (field_place k) (field_place kind)) (Some (groups_in bytes keeps.field)) None) keeps.kind_is
    ∙ gives-pushed name (shown bytes body) here kind (groups_in bytes keeps.field) is keeps.groups)

pub keeps-kept : (bytes : List ℕ) (body : Span) (o : Option FieldKind) (old new : List MarkedField) → KeepsIfRelation bytes o body old new → AreKeptIn bytes old → AreKeptIn bytes new
keeps-kept bytes body None old new keeps kept = subst (AreKeptIn bytes) (sym keeps) kept
keeps-kept bytes body (Some here) old new keeps kept = subst (AreKeptIn bytes) (sym keeps.pushed) (All-push (IsKeptIn bytes) old keeps.field kept keeps.kept)

-- the fields so far are marked, and those that are left give the rest
pub record AreMarkedSoFar (bytes marks : List ℕ) (left all : List FieldText) : Type 0 where
  pub relations : List MarkedField
  pub are : AreMarks bytes marks relations
  pub groups : (kind : FieldKind) → or_else (kept_of kind bytes relations) (groups_found kind left) ≡ groups_found kind all

-- ---- one field more

or_else-assoc : {A : Type 0} (a b c : Option A) → or_else (or_else a b) c ≡ or_else a (or_else b c)
or_else-assoc None b c = refl
or_else-assoc (Some x) b c = refl

version-first : (field : FieldText) (fields : List FieldText) → body_named version_name (field ∷ fields) ≡ or_else (version_given field.name field.body) (body_named version_name fields)
version-first field fields = ⊎_elim
    (λ (same : is_same_name field.name version_name ≡ true). cond-true _ _ _ same ∙ ap (λ o. or_else o (body_named version_name fields)) (sym (cond-true _ _ _ same)))
    (λ (other : is_same_name field.name version_name ≡ false). cond-false _ _ _ other ∙ ap (λ o. or_else o (body_named version_name fields)) (sym (cond-false _ _ _ other)))
    (cases_Bool (is_same_name field.name version_name))

groups-first : (kind : FieldKind) (field : FieldText) (fields : List FieldText) → groups_found kind (field ∷ fields) ≡ or_else (groups_given kind field.name field.body) (groups_found kind fields)
groups-first kind field fields = ⊎_elim
    (λ (same : is_same_name field.name (name_of kind) ≡ true).
    ap (option_map (groups_read kind)) (cond-true _ _ _ same) ∙ ap (λ o. or_else o (groups_found kind fields)) (sym (cond-true _ _ _ same)))
    (λ (other : is_same_name field.name (name_of kind) ≡ false).
    ap (option_map (groups_read kind)) (cond-false _ _ _ other) ∙ ap (λ o. or_else o (groups_found kind fields)) (sym (cond-false _ _ _ other)))
    (cases_Bool (is_same_name field.name (name_of kind)))

pub version-turn : (field : FieldText) (fields left : List FieldText) (old new whole : Option (List ℕ)) → left ≡ field ∷ fields → new ≡ or_else old (version_given field.name field.body)
    → or_else old (body_named version_name left) ≡ whole → or_else new (body_named version_name fields) ≡ whole
version-turn field fields left old new whole is e told =
    ap (λ o. or_else o (body_named version_name fields)) e ∙ or_else-assoc old (version_given field.name field.body) (body_named version_name fields)
    ∙ ap (or_else old) (sym (version-first field fields) ∙ ap (body_named version_name) (sym is)) ∙ told

pub groups-turn : (kind : FieldKind) (bytes : List ℕ) (field : FieldText) (fields left : List FieldText) (old new : List MarkedField) (whole : Option (List (List AtomParts))) → left ≡ field ∷ fields
    → kept_of kind bytes new ≡ or_else (kept_of kind bytes old) (groups_given kind field.name field.body) → or_else (kept_of kind bytes old) (groups_found kind left) ≡ whole → or_else (kept_of kind bytes new) (groups_found kind fields) ≡ whole
groups-turn kind bytes field fields left old new whole is keeps told =
    ap (λ o. or_else o (groups_found kind fields)) keeps ∙ or_else-assoc (kept_of kind bytes old) (groups_given kind field.name field.body) (groups_found kind fields)
    ∙ ap (or_else (kept_of kind bytes old)) (sym (groups-first kind field fields) ∙ ap (groups_found kind) (sym is)) ∙ told

-- where all fields were looked at, what is kept are their groups
pub all-kept : (kind : FieldKind) (bytes : List ℕ) (all : List FieldText) (relations : List MarkedField) → or_else (kept_of kind bytes relations) None ≡ groups_found kind all
    → kept_groups kind bytes relations ≡ groups_read kind (unwrap_or (body_named (name_of kind) all) [])
all-kept kind bytes all relations told =
    kept-or-none kind bytes relations ∙ ap (λ (o : Option (List (List AtomParts))). unwrap_or o []) (sym (or_else-none (kept_of kind bytes relations)) ∙ told) ∙ found-or-none kind (body_named (name_of kind) all)
