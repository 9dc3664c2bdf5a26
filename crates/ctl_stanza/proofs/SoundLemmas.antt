-- What holds of a stanza without a fault.
use Rattle.std.proofs.Common.{◌≡◌, ◌∙◌, ◌+◌, ◌-◌, ◌<◌, ◌≤◌, ◌^◌, ◌==◌, ◌&&◌, ◌||◌, ℕ, suc, Bool, true, false, cond, List, [], ◌∷◌, ◌++◌, nat_eq, length, map, take, drop, Option, Some, None, Result, Ok, Err, refl, sym, ap, ap₂, subst, arith, ⊎_elim}
use Rattle.std.specs.Bool.{⊤}
use Rattle.std.specs.List.{All, prefix_len, sum_by}
use Rattle.std.specs.Prelude.{IsSome, unwrap_or}
use Rattle.std.proofs.lemmas.Bool.{cases_Bool, cond-true, cond-false}
use Rattle.std.proofs.lemmas.List.{length-append, length-map, length-drop, length-take-le}
use Rattle.std.proofs.lemmas.List.Elements.{All-nil, All-cons}
use Rattle.std.proofs.lemmas.List.Sums.{sum_by-cons}
use Rattle.ctl_relation.specs.declared.field_kind.FieldKind.{FieldKind}
use Rattle.ctl_relation.specs.declared.field_kind.FieldKind.TheVariants as field_kinds
use Rattle.ctl_relation.specs.declared.relation_fault.RelationFault.{RelationFault}
use Rattle.ctl_relation.specs.Bounds.{atom_count, GroupsHaveAtoms, AtomsTakeBytes}
use Rattle.ctl_relation.specs.Bytes.{newline}
use Rattle.ctl_relation.specs.FieldKind.{nine_fields, field_place}
use Rattle.ctl_relation.specs.Grammar.{RelationsText}
use Rattle.ctl_relation.specs.Names.{is_name}
use Rattle.ctl_relation.specs.Parts.{AtomParts, OfferParts}
use Rattle.ctl_relation.specs.Reading.{relations_of, groups_or_none, groups_read}
use Rattle.ctl_stanza.specs.declared.fault.Cause.{Cause}
use Rattle.ctl_stanza.specs.declared.fault.Cause.TheVariants as causes
use Rattle.ctl_stanza.specs.declared.fault.TextFault.{TextFault}
use Rattle.ctl_stanza.specs.declared.line_kind.LineKind.{LineKind}
use Rattle.ctl_stanza.specs.declared.line_kind.LineKind.TheVariants as line_kinds
use Rattle.ctl_stanza.specs.declared.list_kind.ListKind.{ListKind}
use Rattle.ctl_stanza.specs.declared.repeats.Repeats.{Repeats}
use Rattle.ctl_stanza.specs.declared.repeats.Repeats.TheVariants.{Never}
use Rattle.ctl_stanza.specs.Lines.{lines_of, text_of_lines, onto_first, is_blank_byte}
use Rattle.ctl_stanza.specs.LineKind.{kind_of}
use Rattle.ctl_stanza.specs.Fields.{FieldText, strip_front, strip_end, before_stripped, value_of, continues, continued, field_at, fields_from, fields_of_lines, body_named, is_same_name, package_name, version_name}
use Rattle.ctl_stanza.specs.RelationFields.{name_of, relation_kind}
use Rattle.ctl_stanza.specs.Status.{liveness, is_live_by}
use Rattle.ctl_stanza.specs.Content.{Content, fields_of, body_of, is_live, package_of, version_of, relations_of_kind, offer_of, offers_in, offers_of}
use Rattle.ctl_stanza.specs.Faults.{cause_of, fault_or, first_fault, is_empty_body, lacks_state, is_missing, field_cause, first_wrong, whole_fault, or_else, stanza_fault}
use Rattle.std.proofs.Math.Seq.{take-append_seam, drop-append-add}
use Rattle.ctl_stanza.specs.declared.fields.Field.{Field}
use Rattle.ctl_stanza.specs.Inside.HeldFields.{AreWithin, Grows, IsReadFrom, IsWalk, loose_bodies, shown_fields}
use Rattle.ctl_stanza.specs.Sound.{IsWhole, IsSound, atoms_of}
use Rattle.ctl_stanza.proofs.FieldLemmas.{continued-le}
use Rattle.ctl_stanza.proofs.ProvidesLemmas.{one_atom_each}
use Rattle.ctl_relation.proofs.MarkLemmas.{place-same}
use Rattle.ctl_stanza.proofs.RelationLemmas.{kind-same}

-- ---- no fault, from whichever line the lines count

pub fault_or-none : (n : ℕ) (o : Option Cause) (later : Option TextFault) → fault_or n o later ≡ None → (o ≡ None) × (later ≡ None)
fault_or-none n None later e = (refl, e)
fault_or-none n (Some cause) later e = absurd cc

pub first_fault-none : (r : Repeats) (n m : ℕ) (before lines : List (List ℕ)) → first_fault r n before lines ≡ None → first_fault r m before lines ≡ None
first_fault-none r n m before [] e = refl
first_fault-none r n m before (line ∷ lines) e =
    let h = fault_or-none n (cause_of r before line) (first_fault r (suc n) (before ++ line ∷ []) lines) e in
    ap (λ o. fault_or m o (first_fault r (suc m) (before ++ line ∷ []) lines)) h.0 ∙ first_fault-none r (suc n) (suc m) (before ++ line ∷ []) lines h.1

first_wrong-none : (live : Bool) (n m : ℕ) (fields : List FieldText) → first_wrong live n fields ≡ None → first_wrong live m fields ≡ None
first_wrong-none live n m [] e = refl
first_wrong-none live n m (f ∷ fs) e =
    let h = fault_or-none (n + f.line) (field_cause live f.name f.body) (first_wrong live n fs) e in
    ap (λ o. fault_or (m + f.line) o (first_wrong live m fs)) h.0 ∙ first_wrong-none live n m fs h.1

guard-none : {A : Type 0} (b : Bool) (x : A) (o : Option A) → cond b (Some x) o ≡ None → (b ≡ false) × (o ≡ None)
guard-none true x o e = absurd cc
guard-none false x o e = (refl, e)

or_else-none : {A : Type 0} (a b : Option A) → or_else a b ≡ None → (a ≡ None) × (b ≡ None)
or_else-none None b e = (refl, e)
or_else-none (Some x) b e = absurd cc

whole-none : (kind : ListKind) (n m : ℕ) (fields : List FieldText) → whole_fault kind n fields ≡ None → whole_fault kind m fields ≡ None
whole-none kind n m fields e =
    let h = guard-none (is_missing kind fields) (record { line = n; cause = causes.Missing }) (first_wrong (is_live_by kind fields) n fields) e in
    cond-false _ _ _ h.0 ∙ first_wrong-none (is_live_by kind fields) n m fields h.1

-- a stanza that is read has no fault
pub no_fault : (kind : ListKind) (n : ℕ) (lines : List (List ℕ)) (text : List ℕ) → lines_of text ≡ lines
    → first_fault Never n [] lines ≡ None → whole_fault kind n (fields_of_lines lines) ≡ None → stanza_fault kind 0 (lines_of text) ≡ None
no_fault kind n lines text same first whole =
    ap (stanza_fault kind 0) same
    ∙ ap (λ o. or_else o (whole_fault kind 0 (fields_of_lines lines))) (first_fault-none Never n 0 [] lines first)
    ∙ whole-none kind n 0 (fields_of_lines lines) whole

-- ---- the package and the version

or-false : (a b : Bool) → (a || b) ≡ false → (a ≡ false) × (b ≡ false)
or-false true b e = absurd cc
or-false false b e = (refl, e)

and-false : (a b : Bool) → (a && b) ≡ false → a ≡ true → b ≡ false
and-false true b e h = e
and-false false b e h = absurd cc

some-body : (o : Option (List ℕ)) → is_empty_body o ≡ false → (body : List ℕ) × (o ≡ Some body)
some-body None e = absurd cc
some-body (Some body) e = (body, refl)

-- a field of this name is good
pub record IsGood (live : Bool) (name body : List ℕ) : Type 0 where
  pub given : List ℕ
  pub same : is_same_name given name ≡ true
  pub good : field_cause live given body ≡ None

named-good : (live : Bool) (n : ℕ) (name body : List ℕ) (fields : List FieldText) → first_wrong live n fields ≡ None → body_named name fields ≡ Some body → IsGood live name body
named-good live n name body [] e is = absurd cc
named-good live n name body (f ∷ fs) e is =
    let h = fault_or-none (n + f.line) (field_cause live f.name f.body) (first_wrong live n fs) e in
    ⊎_elim
    (λ (same : is_same_name f.name name ≡ true).
    let some : Some f.body ≡ Some body = sym (cond-true (is_same_name f.name name) (Some f.body) (body_named name fs) same) ∙ is in
    let one : f.body ≡ body = cc in
    let found : IsGood live name body = record { given = f.name; same = same; good = ap (λ b. field_cause live f.name b) (sym one) ∙ h.0 } in found)
    (λ (other : is_same_name f.name name ≡ false).
    named-good live n name body fs h.1 (sym (cond-false (is_same_name f.name name) (Some f.body) (body_named name fs) other) ∙ is))
    (cases_Bool (is_same_name f.name name))

good-name : (live : Bool) (body : List ℕ) → IsGood live package_name body → is_name body ≡ true
good-name live body h = ⊎_elim
    (λ (good : is_name body ≡ true). good)
    (λ (bad : is_name body ≡ false).
    let clash : field_cause live h.given body ≡ Some causes.Name = cond-true _ _ _ h.same ∙ cond-false _ _ _ bad in
    let none = h.good in absurd cc)
    (cases_Bool (is_name body))

-- ---- the bodies of fields are shorter than the text

strip_end-le : (text : List ℕ) → length (strip_end text) ≤ length text
strip_end-le [] = omega arith
strip_end-le (b ∷ text) = go (strip_end text) refl (strip_end-le text)
  where
    blank : (t : Bool) → length (cond t [] (b ∷ [])) ≤ 1
    blank true = omega arith
    blank false = omega arith

    go : (s : List ℕ) → strip_end text ≡ s → length s ≤ length text → length (before_stripped b s) ≤ length (b ∷ text)
    go [] e le = omega (arith, blank (is_blank_byte b))
    go (c ∷ s) e le = omega (arith, le)

value-le : (n : ℕ) (b : ℕ) (line : List ℕ) → length (value_of n (b ∷ line)) ≤ length line
value-le n b line =
    let cut : List ℕ = drop (n + 1) (b ∷ line) in
    let front : List ℕ = strip_front cut in
    omega (arith, strip_end-le front, length-drop (prefix_len is_blank_byte cut) cut, length-drop (n + 1) (b ∷ line))

abbrev BodiesWithin : ℕ → List FieldText → Type 0
BodiesWithin m [] = ⊤
BodiesWithin m (f ∷ fs) = (length f.body + 2 ≤ m) × BodiesWithin m fs

bodies-at : (i m b n : ℕ) (kind : LineKind) (line : List ℕ) (behind : List (List ℕ)) (fs : List FieldText) → length (text_of_lines ((b ∷ line) ∷ behind)) ≤ m
    → BodiesWithin m fs → BodiesWithin m (field_at i kind (b ∷ line) behind ++ fs)
bodies-at i m b n (line_kinds.Field k) line behind fs le rest =
    (omega (arith, le, value-le k b line, continued-le behind, length-append (value_of k (b ∷ line)) (continued behind), length-append (b ∷ line) (newline ∷ text_of_lines behind)), rest)
bodies-at i m b n line_kinds.Blank line behind fs le rest = rest
bodies-at i m b n line_kinds.Continuation line behind fs le rest = rest
bodies-at i m b n line_kinds.Faulty line behind fs le rest = rest

bodies-from : (i m : ℕ) (lines : List (List ℕ)) → length (text_of_lines lines) ≤ m → BodiesWithin m (fields_from i lines)
bodies-from i m [] le = tt
bodies-from i m ([] ∷ lines) le = bodies-from (suc i) m lines (omega (arith, le))
bodies-from i m ((b ∷ line) ∷ lines) le =
    bodies-at i m b 0 (kind_of (b ∷ line)) line lines (fields_from (suc i) lines) le
    (bodies-from (suc i) m lines (omega (arith, le, length-append (b ∷ line) (newline ∷ text_of_lines lines))))

body-short : (m : ℕ) (name body : List ℕ) (fields : List FieldText) → BodiesWithin m fields → body_named name fields ≡ Some body → length body + 2 ≤ m
body-short m name body [] within is = absurd cc
body-short m name body (f ∷ fs) within is = ⊎_elim
    (λ (same : is_same_name f.name name ≡ true).
    let some : Some f.body ≡ Some body = sym (cond-true (is_same_name f.name name) (Some f.body) (body_named name fs) same) ∙ is in
    let one : f.body ≡ body = cc in
    subst (λ (t : List ℕ). length t + 2 ≤ m) one within.0)
    (λ (other : is_same_name f.name name ≡ false).
    body-short m name body fs within.1 (sym (cond-false (is_same_name f.name name) (Some f.body) (body_named name fs) other) ∙ is))
    (cases_Bool (is_same_name f.name name))

-- lines cut from a text have at most one byte more
lines-size : (text : List ℕ) → length (text_of_lines (lines_of text)) ≤ length text + 1
lines-size [] = omega arith
lines-size (b ∷ text) = go (b == newline) (lines-size text)
  where
    go : (t : Bool) → length (text_of_lines (lines_of text)) ≤ length text + 1 → length (text_of_lines (cond t ([] ∷ lines_of text) (onto_first b (lines_of text)))) ≤ length (b ∷ text) + 1
    go true le = omega (arith, le)
    go false le = more (lines_of text) le
      where
        more : (lines : List (List ℕ)) → length (text_of_lines lines) ≤ length text + 1 → length (text_of_lines (onto_first b lines)) ≤ length (b ∷ text) + 1
        more [] le = omega arith
        more (line ∷ lines) le = omega (arith, le, length-append (b ∷ line) (newline ∷ text_of_lines lines), length-append line (newline ∷ text_of_lines lines))

content-body : (content : Content) (name body : List ℕ) → body_of content name ≡ Some body → length body + 1 ≤ length content.text
content-body content name body is =
    let m = length (text_of_lines (lines_of content.text)) in
    omega (arith, body-short m name body (fields_of content) (bodies-from 0 m (lines_of content.text) (omega arith)) is, lines-size content.text)

-- ---- groups

abbrev pub Found : Type 0
Found = (kind : FieldKind) (body : List ℕ) (groups : List (List AtomParts)) → relations_of kind body ≡ Ok groups → RelationsText kind body groups

abbrev HaveAtoms : List (List AtomParts) → Type 0
HaveAtoms groups = All (λ group. 0 < length group) groups

none-have : HaveAtoms []
none-have = λ k d lt. absurd (omega arith)

read-some : Found → GroupsHaveAtoms → (kind : FieldKind) (body : List ℕ) (r : Result (List (List AtomParts)) RelationFault) → relations_of kind body ≡ r → HaveAtoms (groups_or_none r)
read-some found some kind body (Ok groups) e = some kind body groups (found kind body groups e)
read-some found some kind body (Err fault) e = none-have

read-count : Found → AtomsTakeBytes → (kind : FieldKind) (body : List ℕ) (r : Result (List (List AtomParts)) RelationFault) → relations_of kind body ≡ r → atom_count (groups_or_none r) ≤ length body
read-count found bounded kind body (Ok groups) e = bounded kind body groups (found kind body groups e)
read-count found bounded kind body (Err fault) e = omega arith

-- the body of a relation field is shorter than the text, or there is none
field-size : (content : Content) (kind : FieldKind) (o : Option (List ℕ)) → body_of content (name_of kind) ≡ o → length (unwrap_or o []) ≤ length content.text - 1
field-size content kind None e = omega arith
field-size content kind (Some body) e = omega (arith, content-body content (name_of kind) body e)

if-live : {A : Type 0} (P : A → Type 0) (b : Bool) (x y : A) → P x → P y → P (cond b x y)
if-live P true x y p q = p
if-live P false x y p q = q

content-count : Found → AtomsTakeBytes → (content : Content) (kind : FieldKind) → atom_count (relations_of_kind kind content) ≤ length content.text - 1
content-count found bounded content kind =
    let body = unwrap_or (body_of content (name_of kind)) [] in
    if-live (λ (groups : List (List AtomParts)). atom_count groups ≤ length content.text - 1) (is_live content) (groups_read kind body) []
    (omega (arith, read-count found bounded kind body (relations_of kind body) refl, field-size content kind (body_of content (name_of kind)) refl)) (omega arith)

-- each group has an atom, and so the groups are no more than the atoms
groups-le : (groups : List (List AtomParts)) → HaveAtoms groups → length groups ≤ atom_count groups
groups-le [] some = omega arith
groups-le (g ∷ gs) some =
    omega (arith, some 0 g (omega arith), groups-le gs (λ k d lt. some (suc k) d (omega arith)), sum_by-cons (λ (x : List AtomParts). length x) g gs)

small-groups : (m : ℕ) (groups : List (List AtomParts)) → atom_count groups < m → All (λ group. length group < m) groups
small-groups m [] lt = All-nil (λ (group : List AtomParts). length group < m)
small-groups m (g ∷ gs) lt =
    All-cons (λ (group : List AtomParts). length group < m) g gs (omega (arith, lt, sum_by-cons (λ (x : List AtomParts). length x) g gs))
    (small-groups m gs (omega (arith, lt, sum_by-cons (λ (x : List AtomParts). length x) g gs)))

offers-size : (groups : List (List AtomParts)) → length (offers_in groups) ≡ atom_count groups
offers-size [] = refl
offers-size (g ∷ gs) = omega (arith, offers-size gs, length-append (map offer_of g) (offers_in gs), length-map g offer_of, sum_by-cons (λ (x : List AtomParts). length x) g gs)

abbrev own_offer : Content → OfferParts
own_offer content = record { name = package_of content; version = version_of content }

content-offers : Found → AtomsTakeBytes → (content : Content) → length content.text < 2 ^ 32 → length (offers_of content) < 2 ^ 32
content-offers found bounded content small =
    if-live (λ (offers : List OfferParts). length offers < 2 ^ 32) (is_live content) (own_offer content ∷ offers_in (relations_of_kind field_kinds.Provides content)) []
    (omega (arith, small, offers-size (relations_of_kind field_kinds.Provides content), content-count found bounded content field_kinds.Provides)) (omega arith)

-- ---- the atoms of all fields together

abbrev bodies_size : List FieldText → ℕ
bodies_size [] = 0
bodies_size (f ∷ fs) = length f.body + bodies_size fs

-- with a byte more for each field
abbrev bodies_more : List FieldText → ℕ
bodies_more [] = 0
bodies_more (f ∷ fs) = (length f.body + 1) + bodies_more fs

bodies-less : (fs : List FieldText) → bodies_size fs ≤ bodies_more fs - 1
bodies-less [] = omega arith
bodies-less (f ∷ fs) = omega (arith, bodies-less fs)

value-size : (n b : ℕ) (line : List ℕ) → length (value_of n (b ∷ line)) + 1 ≤ length (b ∷ line)
value-size n b line = omega (arith, value-le n b line)

-- The bodies of fields, with a byte more for each, and the lines that continue what stands before, take no more than the text.
bodies-room : (i : ℕ) (lines : List (List ℕ)) → bodies_more (fields_from i lines) + length (continued lines) ≤ length (text_of_lines lines)
bodies-room i [] = omega arith
bodies-room i ([] ∷ lines) = omega (arith, bodies-room (suc i) lines)
bodies-room i ((b ∷ line) ∷ lines) = by (kind_of (b ∷ line)) (bodies-room (suc i) lines)
  where
    by : (kind : LineKind) → bodies_more (fields_from (suc i) lines) + length (continued lines) ≤ length (text_of_lines lines)
        → bodies_more (field_at i kind (b ∷ line) lines ++ fields_from (suc i) lines) + length (cond (continues kind) (newline ∷ ((b ∷ line) ++ continued lines)) []) ≤ length (text_of_lines ((b ∷ line) ∷ lines))
    by (line_kinds.Field k) le = omega (arith, le, value-size k b line, length-append (value_of k (b ∷ line)) (continued lines), length-append (b ∷ line) (newline ∷ text_of_lines lines))
    by line_kinds.Blank le = omega (arith, le, length-append (b ∷ line) (newline ∷ text_of_lines lines))
    by line_kinds.Continuation le = omega (arith, le, length-append (b ∷ line) (continued lines), length-append (b ∷ line) (newline ∷ text_of_lines lines))
    by line_kinds.Faulty le = omega (arith, le, length-append (b ∷ line) (newline ∷ text_of_lines lines))

-- how long the body of a relation field is, 0 where it isn't given
abbrev size_of : List FieldText → FieldKind → ℕ
size_of fields kind = length (unwrap_or (body_named (name_of kind) fields) [])

-- how long the body of a field is that is this relation field, and else 0
abbrev size_if : List ℕ → ℕ → FieldKind → ℕ
size_if name size kind = cond (is_same_name name (name_of kind)) size 0

size-first : (f : FieldText) (fs : List FieldText) (kind : FieldKind) → size_of (f ∷ fs) kind ≤ size_if f.name (length f.body) kind + size_of fs kind
size-first f fs kind = by (is_same_name f.name (name_of kind))
  where
    by : (t : Bool) → length (unwrap_or (cond t (Some f.body) (body_named (name_of kind) fs)) []) ≤ cond t (length f.body) 0 + size_of fs kind
    by true = omega arith
    by false = omega arith

size-le : (name : List ℕ) (size : ℕ) (kind : FieldKind) → size_if name size kind ≤ size
size-le name size kind = by (is_same_name name (name_of kind))
  where
    by : (t : Bool) → cond t size 0 ≤ size
    by true = omega arith
    by false = omega arith

size-other : (name : List ℕ) (size : ℕ) (here kind : FieldKind) → relation_kind name ≡ Some here → nat_eq (field_place here) (field_place kind) ≡ false → size_if name size kind ≡ 0
size-other name size here kind is other = ⊎_elim
    (λ (named : is_same_name name (name_of kind) ≡ true).
    let some = kind-same name kind named in
    let one : here ≡ kind = cc in
    let clash = sym other ∙ ap (λ (k : FieldKind). nat_eq (field_place here) (field_place k)) (sym one) ∙ place-same here in absurd cc)
    (λ (unnamed : is_same_name name (name_of kind) ≡ false). cond-false _ _ _ unnamed)
    (cases_Bool (is_same_name name (name_of kind)))

size-none : (name : List ℕ) (size : ℕ) (kind : FieldKind) → relation_kind name ≡ None → size_if name size kind ≡ 0
size-none name size kind is = ⊎_elim
    (λ (named : is_same_name name (name_of kind) ≡ true). let some = kind-same name kind named in absurd cc)
    (λ (unnamed : is_same_name name (name_of kind) ≡ false). cond-false _ _ _ unnamed)
    (cases_Bool (is_same_name name (name_of kind)))

abbrev nine_sum : (FieldKind → ℕ) → ℕ
nine_sum f = f field_kinds.PreDepends + (f field_kinds.Depends + (f field_kinds.Conflicts + (f field_kinds.Breaks + (f field_kinds.Recommends + (f field_kinds.Suggests + (f field_kinds.Replaces + (f field_kinds.Enhances + f field_kinds.Provides)))))))

-- a field is at most one of the nine
one-of-nine : (name : List ℕ) (size : ℕ) (o : Option FieldKind) → relation_kind name ≡ o → nine_sum (size_if name size) ≤ size
one-of-nine name size None is =
    omega (arith, size-none name size field_kinds.PreDepends is, size-none name size field_kinds.Depends is, size-none name size field_kinds.Conflicts is, size-none name size field_kinds.Breaks is, size-none name size field_kinds.Recommends is, size-none name size field_kinds.Suggests is, size-none name size field_kinds.Replaces is, size-none name size field_kinds.Enhances is, size-none name size field_kinds.Provides is)
one-of-nine name size (Some field_kinds.PreDepends) is =
    omega (arith, size-le name size field_kinds.PreDepends, size-other name size field_kinds.PreDepends field_kinds.Depends is refl, size-other name size field_kinds.PreDepends field_kinds.Conflicts is refl, size-other name size field_kinds.PreDepends field_kinds.Breaks is refl, size-other name size field_kinds.PreDepends field_kinds.Recommends is refl, size-other name size field_kinds.PreDepends field_kinds.Suggests is refl, size-other name size field_kinds.PreDepends field_kinds.Replaces is refl, size-other name size field_kinds.PreDepends field_kinds.Enhances is refl, size-other name size field_kinds.PreDepends field_kinds.Provides is refl)
one-of-nine name size (Some field_kinds.Depends) is =
    omega (arith, size-le name size field_kinds.Depends, size-other name size field_kinds.Depends field_kinds.PreDepends is refl, size-other name size field_kinds.Depends field_kinds.Conflicts is refl, size-other name size field_kinds.Depends field_kinds.Breaks is refl, size-other name size field_kinds.Depends field_kinds.Recommends is refl, size-other name size field_kinds.Depends field_kinds.Suggests is refl, size-other name size field_kinds.Depends field_kinds.Replaces is refl, size-other name size field_kinds.Depends field_kinds.Enhances is refl, size-other name size field_kinds.Depends field_kinds.Provides is refl)
one-of-nine name size (Some field_kinds.Conflicts) is =
    omega (arith, size-le name size field_kinds.Conflicts, size-other name size field_kinds.Conflicts field_kinds.PreDepends is refl, size-other name size field_kinds.Conflicts field_kinds.Depends is refl, size-other name size field_kinds.Conflicts field_kinds.Breaks is refl, size-other name size field_kinds.Conflicts field_kinds.Recommends is refl, size-other name size field_kinds.Conflicts field_kinds.Suggests is refl, size-other name size field_kinds.Conflicts field_kinds.Replaces is refl, size-other name size field_kinds.Conflicts field_kinds.Enhances is refl, size-other name size field_kinds.Conflicts field_kinds.Provides is refl)
one-of-nine name size (Some field_kinds.Breaks) is =
    omega (arith, size-le name size field_kinds.Breaks, size-other name size field_kinds.Breaks field_kinds.PreDepends is refl, size-other name size field_kinds.Breaks field_kinds.Depends is refl, size-other name size field_kinds.Breaks field_kinds.Conflicts is refl, size-other name size field_kinds.Breaks field_kinds.Recommends is refl, size-other name size field_kinds.Breaks field_kinds.Suggests is refl, size-other name size field_kinds.Breaks field_kinds.Replaces is refl, size-other name size field_kinds.Breaks field_kinds.Enhances is refl, size-other name size field_kinds.Breaks field_kinds.Provides is refl)
one-of-nine name size (Some field_kinds.Recommends) is =
    omega (arith, size-le name size field_kinds.Recommends, size-other name size field_kinds.Recommends field_kinds.PreDepends is refl, size-other name size field_kinds.Recommends field_kinds.Depends is refl, size-other name size field_kinds.Recommends field_kinds.Conflicts is refl, size-other name size field_kinds.Recommends field_kinds.Breaks is refl, size-other name size field_kinds.Recommends field_kinds.Suggests is refl, size-other name size field_kinds.Recommends field_kinds.Replaces is refl, size-other name size field_kinds.Recommends field_kinds.Enhances is refl, size-other name size field_kinds.Recommends field_kinds.Provides is refl)
one-of-nine name size (Some field_kinds.Suggests) is =
    omega (arith, size-le name size field_kinds.Suggests, size-other name size field_kinds.Suggests field_kinds.PreDepends is refl, size-other name size field_kinds.Suggests field_kinds.Depends is refl, size-other name size field_kinds.Suggests field_kinds.Conflicts is refl, size-other name size field_kinds.Suggests field_kinds.Breaks is refl, size-other name size field_kinds.Suggests field_kinds.Recommends is refl, size-other name size field_kinds.Suggests field_kinds.Replaces is refl, size-other name size field_kinds.Suggests field_kinds.Enhances is refl, size-other name size field_kinds.Suggests field_kinds.Provides is refl)
one-of-nine name size (Some field_kinds.Replaces) is =
    omega (arith, size-le name size field_kinds.Replaces, size-other name size field_kinds.Replaces field_kinds.PreDepends is refl, size-other name size field_kinds.Replaces field_kinds.Depends is refl, size-other name size field_kinds.Replaces field_kinds.Conflicts is refl, size-other name size field_kinds.Replaces field_kinds.Breaks is refl, size-other name size field_kinds.Replaces field_kinds.Recommends is refl, size-other name size field_kinds.Replaces field_kinds.Suggests is refl, size-other name size field_kinds.Replaces field_kinds.Enhances is refl, size-other name size field_kinds.Replaces field_kinds.Provides is refl)
one-of-nine name size (Some field_kinds.Enhances) is =
    omega (arith, size-le name size field_kinds.Enhances, size-other name size field_kinds.Enhances field_kinds.PreDepends is refl, size-other name size field_kinds.Enhances field_kinds.Depends is refl, size-other name size field_kinds.Enhances field_kinds.Conflicts is refl, size-other name size field_kinds.Enhances field_kinds.Breaks is refl, size-other name size field_kinds.Enhances field_kinds.Recommends is refl, size-other name size field_kinds.Enhances field_kinds.Suggests is refl, size-other name size field_kinds.Enhances field_kinds.Replaces is refl, size-other name size field_kinds.Enhances field_kinds.Provides is refl)
one-of-nine name size (Some field_kinds.Provides) is =
    omega (arith, size-le name size field_kinds.Provides, size-other name size field_kinds.Provides field_kinds.PreDepends is refl, size-other name size field_kinds.Provides field_kinds.Depends is refl, size-other name size field_kinds.Provides field_kinds.Conflicts is refl, size-other name size field_kinds.Provides field_kinds.Breaks is refl, size-other name size field_kinds.Provides field_kinds.Recommends is refl, size-other name size field_kinds.Provides field_kinds.Suggests is refl, size-other name size field_kinds.Provides field_kinds.Replaces is refl, size-other name size field_kinds.Provides field_kinds.Enhances is refl)

nine-first : (f : FieldText) (fs : List FieldText) → nine_sum (size_of fs) ≤ bodies_size fs → nine_sum (size_of (f ∷ fs)) ≤ bodies_size (f ∷ fs)
nine-first f fs le =
    omega (
      arith,
      le,
      one-of-nine f.name (length f.body) (relation_kind f.name) refl,
      size-first f fs field_kinds.PreDepends,
      size-first f fs field_kinds.Depends,
      size-first f fs field_kinds.Conflicts,
      size-first f fs field_kinds.Breaks,
      size-first f fs field_kinds.Recommends,
      size-first f fs field_kinds.Suggests,
      size-first f fs field_kinds.Replaces,
      size-first f fs field_kinds.Enhances,
      size-first f fs field_kinds.Provides,
    )

nine-size : (fields : List FieldText) → nine_sum (size_of fields) ≤ bodies_size fields
nine-size [] = omega arith
nine-size (f ∷ fs) = nine-first f fs (nine-size fs)

count-size : Found → AtomsTakeBytes → (content : Content) (kind : FieldKind) → atom_count (relations_of_kind kind content) ≤ size_of (fields_of content) kind
count-size found bounded content kind =
    let body = unwrap_or (body_of content (name_of kind)) [] in
    if-live (λ (groups : List (List AtomParts)). atom_count groups ≤ length body) (is_live content) (groups_read kind body) []
    (read-count found bounded kind body (relations_of kind body) refl) (omega arith)

all-atoms : Found → AtomsTakeBytes → (content : Content) → length content.text < 2 ^ 32 → atoms_of content < 2 ^ 32
all-atoms found bounded content small =
    let count : FieldKind → ℕ = λ kind. atom_count (relations_of_kind kind content) in
    let le : (kind : FieldKind) → count kind ≤ size_of (fields_of content) kind = count-size found bounded content in
    let whole : nine_sum count ≤ nine_sum (size_of (fields_of content)) =
    omega (arith, le field_kinds.PreDepends, le field_kinds.Depends, le field_kinds.Conflicts, le field_kinds.Breaks, le field_kinds.Recommends, le field_kinds.Suggests, le field_kinds.Replaces, le field_kinds.Enhances, le field_kinds.Provides) in
    let same : atoms_of content ≡ nine_sum count = sum-nine count in
    omega (arith, small, whole, same, nine-size (fields_of content), bodies-less (fields_of content), bodies-room 0 (lines_of content.text), lines-size content.text)
  where
    sum-nine : (f : FieldKind → ℕ) → sum_by f nine_fields ≡ nine_sum f
    sum-nine f =
        omega (arith, sum_by-cons f field_kinds.PreDepends (field_kinds.Depends ∷ field_kinds.Conflicts ∷ field_kinds.Breaks ∷ field_kinds.Recommends ∷ field_kinds.Suggests ∷ field_kinds.Replaces ∷ field_kinds.Enhances ∷ field_kinds.Provides ∷ []), sum_by-cons f field_kinds.Depends (field_kinds.Conflicts ∷ field_kinds.Breaks ∷ field_kinds.Recommends ∷ field_kinds.Suggests ∷ field_kinds.Replaces ∷ field_kinds.Enhances ∷ field_kinds.Provides ∷ []), sum_by-cons f field_kinds.Conflicts (field_kinds.Breaks ∷ field_kinds.Recommends ∷ field_kinds.Suggests ∷ field_kinds.Replaces ∷ field_kinds.Enhances ∷ field_kinds.Provides ∷ []), sum_by-cons f field_kinds.Breaks (field_kinds.Recommends ∷ field_kinds.Suggests ∷ field_kinds.Replaces ∷ field_kinds.Enhances ∷ field_kinds.Provides ∷ []), sum_by-cons f field_kinds.Recommends (field_kinds.Suggests ∷ field_kinds.Replaces ∷ field_kinds.Enhances ∷ field_kinds.Provides ∷ []), sum_by-cons f field_kinds.Suggests (field_kinds.Replaces ∷ field_kinds.Enhances ∷ field_kinds.Provides ∷ []), sum_by-cons f field_kinds.Replaces (field_kinds.Enhances ∷ field_kinds.Provides ∷ []), sum_by-cons f field_kinds.Enhances (field_kinds.Provides ∷ []), sum_by-cons f field_kinds.Provides ([]))

-- ---- all of it

pub sound : Found → GroupsHaveAtoms → AtomsTakeBytes → (content : Content) → IsWhole content → IsSound content
sound found some bounded content whole =
    let fields = fields_of content in
    let kind = content.kind in
    let faults = or_else-none (first_fault Never 0 [] (lines_of content.text)) (whole_fault kind 0 fields) whole.no_fault in
    let parts = guard-none (is_missing kind fields) (record { line = 0; cause = causes.Missing }) (first_wrong (is_live_by kind fields) 0 fields) faults.1 in
    let lacks_version = is_live_by kind fields && is_empty_body (body_named version_name fields) in
    let here = or-false (is_empty_body (body_named package_name fields)) (lacks_state (liveness kind fields) || lacks_version) parts.0 in
    let later = or-false (lacks_state (liveness kind fields)) lacks_version here.1 in
    let «package» = some-body (body_named package_name fields) here.0 in
    let have : (field : FieldKind) → HaveAtoms (relations_of_kind field content) = λ field.
    let body = unwrap_or (body_of content (name_of field)) [] in
    if-live HaveAtoms (is_live content) (groups_read field body) [] (read-some found some field body (relations_of field body) refl) none-have in
    let few : (field : FieldKind) → atom_count (relations_of_kind field content) < 2 ^ 32 = λ field. omega (arith, whole.small, content-count found bounded content field) in
    record {
      name = ap (λ o. is_name (unwrap_or o [])) «package».1 ∙ good-name (is_live_by kind fields) «package».0 (named-good (is_live_by kind fields) 0 package_name «package».0 fields parts.1 «package».1);
      version = λ live. let version = some-body (body_named version_name fields) (and-false (is_live_by kind fields) (is_empty_body (body_named version_name fields)) later.1 live) in
          subst (λ (o : Option (List ℕ)). IsSome o) (sym (cond-true (is_live content) (body_of content version_name) None live ∙ version.1)) refl;
      some = have;
      one = one_atom_each (found field_kinds.Provides) content;
      atoms = few;
      groups = λ field. omega (arith, groups-le (relations_of_kind field content) (have field), few field);
      sizes = λ field. small-groups (2 ^ 32) (relations_of_kind field content) (few field);
      all_atoms = all-atoms found bounded content whole.small;
      offers = content-offers found bounded content whole.small;
    }

-- a stanza without a faulty line whose fields have no fault has none
pub no_fault_of : (kind : ListKind) (n text_len : ℕ) (bytes : List ℕ) (fields : List Field) → IsReadFrom bytes text_len fields → whole_fault kind n (shown_fields bytes fields) ≡ None → stanza_fault kind 0 (lines_of (take text_len bytes)) ≡ None
no_fault_of kind n text_len bytes fields read whole =
    let lines = lines_of (take text_len bytes) in
    no_fault kind n lines (take text_len bytes) refl (first_fault-none Never 0 n [] lines read.good_lines) (ap (whole_fault kind n) (sym read.fields_are.fields_are) ∙ whole)

-- the text at the front of bytes is no longer than its length says
pub short_text : (size : ℕ) (bytes : List ℕ) → size ≤ length bytes → size < 2 ^ 32 → length (take size bytes) < 2 ^ 32
short_text size bytes le lt = omega (arith, length-take-le size bytes le)

-- the fields of what was read are found by walking its text
pub walk_of : (size : ℕ) (bytes : List ℕ) (fields : List Field) → IsReadFrom bytes size fields → IsWalk (take size bytes) (drop size bytes)
walk_of size bytes fields read = record { small = short_text size bytes read.within read.small; is_text = read.is_text; loose_are = read.loose_are }

-- the text stays at the front of bytes that grow
pub front_text : (size : ℕ) (old new : List ℕ) → size ≡ length old → Grows old new → take size new ≡ old
front_text size old new e grows = ap (λ n. take n new) e ∙ ap (take (length old)) grows.joined ∙ take-append_seam old grows.more

-- the lines at the front are those that the text was made of
pub lines_in_front : (text_len : ℕ) (lines : List (List ℕ)) (old new : List ℕ) → text_len ≡ length old → old ≡ text_of_lines lines → lines_of (text_of_lines lines) ≡ lines
    → Grows old new → lines_of (take text_len new) ≡ lines
lines_in_front text_len lines old new size text cut grows = ap lines_of (front_text text_len old new size grows ∙ text) ∙ cut

-- what the lines of a stanza without a faulty line are read to
pub read_from : (n text_len : ℕ) (lines : List (List ℕ)) (old new : List ℕ) (fields : List Field) → text_len ≡ length old → length old < 2 ^ 32 → old ≡ text_of_lines lines → lines_of (text_of_lines lines) ≡ lines
    → new ≡ old ++ loose_bodies lines → AreWithin new fields → shown_fields new fields ≡ fields_of_lines lines → first_fault Never n [] lines ≡ None → IsReadFrom new text_len fields
read_from n text_len lines old new fields size small text cut joined within read good =
    let front = front_text text_len old new size (record { more = loose_bodies lines; joined = joined }) in
    let same = lines_in_front text_len lines old new size text cut (record { more = loose_bodies lines; joined = joined }) in
    let behind : text_len ≡ length old + 0 = omega (arith, size) in
    record {
      within = omega (arith, size, ap (λ (t : List ℕ). length t) joined, length-append old (loose_bodies lines));
      small = omega (arith, size, small);
      is_text = front ∙ text ∙ ap text_of_lines (sym same);
      loose_are = ap₂ drop behind joined ∙ drop-append-add old (loose_bodies lines) 0 ∙ ap loose_bodies (sym same);
      fields_are = record { within = within; fields_are = read ∙ ap fields_of_lines (sym same) };
      good_lines = ap (first_fault Never 0 []) same ∙ first_fault-none Never n 0 [] lines good;
    }

pub lines_take_bytes : (text : List ℕ) → length (lines_of text) ≤ length text
lines_take_bytes [] = omega arith
lines_take_bytes (b ∷ text) = go (b == newline) (lines_of text) (lines_take_bytes text)
  where
    go : (t : Bool) (lines : List (List ℕ)) → length lines ≤ length text → length (cond t ([] ∷ lines) (onto_first b lines)) ≤ length (b ∷ text)
    go true lines le = omega (arith, le)
    go false [] le = omega arith
    go false (line ∷ lines) le = omega (arith, le)
