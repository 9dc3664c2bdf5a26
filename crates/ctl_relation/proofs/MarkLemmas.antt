-- The words of relation fields, read one field after the other.
use Rattle.std.proofs.Common.{◌≡◌, ◌≢◌, ◌∙◌, ◌+◌, ◌-◌, ◌*◌, ◌/◌, ◌%◌, ◌<◌, ◌≤◌, ◌==◌, ℕ, suc, true, false, List, [], ◌∷◌, ◌++◌, length, take, drop, slice_index_or, slice_range, get_or, nat_eq, Some, refl, sym, ap, ap₂, subst, arith, append_assoc, append-nil, ⊎_elim}
use Rattle.std.specs.Borrow.{Bor}
use Rattle.std.proofs.lemmas.List.{length-append}
use Rattle.std.proofs.lemmas.Grind.{flat_map-append}
use Rattle.std.proofs.lemmas.Bool.{cases_Bool, cond-true, cond-false, eqb-true}
use Rattle.std.proofs.Math.Seq.{take-append_seam, drop-append-add}
use Rattle.std.proofs.lemmas.Nat.{div-mul-add, mod-mul-add}
use Rattle.ctl_relation.specs.declared.field_kind.FieldKind.{FieldKind}
use Rattle.ctl_relation.specs.declared.field_kind.FieldKind.TheVariants.{PreDepends, Depends, Conflicts, Breaks, Recommends, Suggests, Replaces, Enhances, Provides}
use Rattle.ctl_relation.specs.FieldKind.{field_place}
use Rattle.ctl_relation.specs.Inside.HeldPlaces.{AreHeld, groups_held}
use Rattle.ctl_relation.specs.Reading.{groups_read}
use Rattle.ctl_relation.specs.declared.span.Span.{Span}
use Rattle.ctl_relation.specs.Spans.{IsWithin, shown}
use Rattle.ctl_relation.specs.declared.marks.Counts.{Counts}
use Rattle.ctl_relation.specs.declared.marks.FirstField.{FirstField}
use Rattle.ctl_relation.specs.Inside.HeldMarks.{HasFirst, IsFirst, AreCounts}
use Rattle.ctl_relation.specs.Marks.{MarkedField, code_of, counts_of, word_of, words_of, words_of_all, kept_groups, IsKeptIn, AreMarks, Marks}

-- the nine fields in their order
abbrev nine : List FieldKind
nine = PreDepends ∷ Depends ∷ Conflicts ∷ Breaks ∷ Recommends ∷ Suggests ∷ Replaces ∷ Enhances ∷ Provides ∷ []

at-place : (kind : FieldKind) → get_or nine (field_place kind) PreDepends ≡ kind
at-place PreDepends = refl
at-place Depends = refl
at-place Conflicts = refl
at-place Breaks = refl
at-place Recommends = refl
at-place Suggests = refl
at-place Replaces = refl
at-place Enhances = refl
at-place Provides = refl

-- Fields that stand at one place are one.
pub same-place : (a b : FieldKind) → nat_eq (field_place a) (field_place b) ≡ true → a ≡ b
same-place a b same = sym (at-place a) ∙ ap (λ n. get_or nine n PreDepends) (eqb-true (field_place a) (field_place b) same) ∙ at-place b

pub place-same : (a : FieldKind) → nat_eq (field_place a) (field_place a) ≡ true
place-same PreDepends = refl
place-same Depends = refl
place-same Conflicts = refl
place-same Breaks = refl
place-same Recommends = refl
place-same Suggests = refl
place-same Replaces = refl
place-same Enhances = refl
place-same Provides = refl

-- the words that are left are those of the last of all fields, and the groups that are sought are among theirs
pub record Left (bytes left : List ℕ) (kind : FieldKind) (all : List MarkedField) : Type 0 where
  pub fields : List MarkedField
  pub are : AreMarks bytes left fields
  pub same : kept_groups kind bytes all ≡ kept_groups kind bytes fields

-- the words of the first field, cut from those of the others
pub record Cut (bytes : List ℕ) (first : FirstField) (fields : List MarkedField) : Type 0 where
  pub field : MarkedField
  pub others : List MarkedField
  pub is : fields ≡ field ∷ others
  pub first_is : IsFirst first field (words_of_all others)
  pub kept : IsKeptIn bytes field
  pub behind_are : AreMarks bytes first.behind.now others

-- the first word has the count of groups and the place of the field
place-below : (kind : FieldKind) → field_place kind < 16
place-below PreDepends = omega arith
place-below Depends = omega arith
place-below Conflicts = omega arith
place-below Breaks = omega arith
place-below Recommends = omega arith
place-below Suggests = omega arith
place-below Replaces = omega arith
place-below Enhances = omega arith
place-below Provides = omega arith

front-part : (part rest whole : List ℕ) (n : ℕ) → whole ≡ part ++ rest → n ≡ length part → take n whole ≡ part
front-part part rest whole n is size = ap₂ take size is ∙ take-append_seam part rest

back-part : (part rest whole : List ℕ) (n : ℕ) → whole ≡ part ++ rest → n ≡ length part → drop n whole ≡ rest
back-part part rest whole n is size =
    let end : n ≡ length part + 0 = omega (arith, size) in ap₂ drop end is ∙ drop-append-add part rest 0

-- the second word has the length of the body, the code of the counts and the place of the field
code-below : (groups further : ℕ) → code_of groups further < 128
code-below groups further = grind arith

place-in : (field : MarkedField) → word_of field % 16 ≡ field_place field.kind
place-in field = mod-mul-add _ 16 (field_place field.kind) (place-below field.kind)

above-in : (field : MarkedField) → word_of field / 16 ≡ (field.body.end - field.body.start) * 128 + code_of (length field.starts) (length field.further)
above-in field = div-mul-add _ 16 (field_place field.kind) (place-below field.kind)

code-in : (field : MarkedField) → word_of field / 16 % 128 ≡ code_of (length field.starts) (length field.further)
code-in field = ap (λ n. n % 128) (above-in field) ∙ mod-mul-add (field.body.end - field.body.start) 128 _ (code-below (length field.starts) (length field.further))

len-in : (field : MarkedField) → word_of field / 16 / 128 ≡ field.body.end - field.body.start
len-in field = ap (λ n. n / 128) (above-in field) ∙ div-mul-add (field.body.end - field.body.start) 128 _ (code-below (length field.starts) (length field.further))

-- what is read of the words of a field
pub first-is : (marks head behind : List ℕ) (counts : Counts) (starts b2 further b3 : Bor (List ℕ)) (field : MarkedField) (rest : List ℕ) → head ≡ take 2 marks → behind ≡ drop 2 marks
    → ((g f : ℕ) (r : List ℕ) → slice_index_or head 1 0 / 16 % 128 ≡ code_of g f → behind ≡ counts_of g f ++ r → AreCounts counts g f r)
    → starts.now ≡ take counts.groups counts.behind.now → b2.now ≡ drop counts.groups counts.behind.now → further.now ≡ take counts.further b2.now → b3.now ≡ drop counts.further b2.now
    → marks ≡ words_of field ++ rest → field.body.start ≤ field.body.end
    → IsFirst (record { place = slice_index_or head 1 0 % 16; start = slice_index_or head 0 0; len = slice_index_or head 1 0 / 16 / 128; starts = starts; further = further; behind = b3 }) field rest
first-is marks head behind counts starts b2 further b3 field rest e0 e1 counted e2 e3 e4 e5 is ordered =
    let x = counts_of (length field.starts) (length field.further) in
    let head_is : head ≡ field.body.start ∷ word_of field ∷ [] = e0 ∙ ap (take 2) is in
    let back : behind ≡ x ++ (field.starts ++ (field.further ++ rest)) =
    e1 ∙ ap (drop 2) is ∙ append_assoc x (field.starts ++ field.further) rest ∙ ap (λ t. x ++ t) (append_assoc field.starts field.further rest) in
    let are = counted (length field.starts) (length field.further) (field.starts ++ (field.further ++ rest)) (ap (λ t. slice_index_or t 1 0 / 16 % 128) head_is ∙ code-in field) back in
    let b2_is : b2.now ≡ field.further ++ rest = e3 ∙ back-part field.starts (field.further ++ rest) counts.behind.now counts.groups are.behind_is are.groups_are in
    let start : slice_index_or head 0 0 ≡ field.body.start = ap (λ t. slice_index_or t 0 0) head_is in
    let len : slice_index_or head 1 0 / 16 / 128 ≡ field.body.end - field.body.start = ap (λ t. slice_index_or t 1 0 / 16 / 128) head_is ∙ len-in field in
    record {
      place_is = ap (λ t. slice_index_or t 1 0 % 16) head_is ∙ place-in field;
      start_is = start;
      end_is = omega (arith, start, len, ordered);
      starts_are = e2 ∙ front-part field.starts (field.further ++ rest) counts.behind.now counts.groups are.behind_is are.groups_are;
      further_are = e4 ∙ front-part field.further rest b2.now counts.further b2_is are.further_are;
      behind_is = e5 ∙ back-part field.further rest b2.now counts.further b2_is are.further_are;
    }

-- the words of a field are all there
pub has-first : (bytes left : List ℕ) (fields : List MarkedField) → AreMarks bytes left fields → (length left == 0) ≡ false → HasFirst left
has-first bytes left [] are some = let none : (length left == 0) ≡ true = ap (λ t. length t == 0) are.words in absurd cc
has-first bytes left (field ∷ others) are some =
    let kept : IsKeptIn bytes field = are.kept 0 field (omega arith) in
    record { field = field; rest = words_of_all others; ordered = kept.within.0; words = are.words }

pub cut : (bytes left : List ℕ) (first : FirstField) (fields : List MarkedField) → AreMarks bytes left fields → (length left == 0) ≡ false
    → ((field : MarkedField) (rest : List ℕ) → left ≡ words_of field ++ rest → field.body.start ≤ field.body.end → IsFirst first field rest) → Cut bytes first fields
cut bytes left first [] are some firsts = let none : (length left == 0) ≡ true = ap (λ t. length t == 0) are.words in absurd cc
cut bytes left first (field ∷ others) are some firsts =
    let kept : IsKeptIn bytes field = are.kept 0 field (omega arith) in
    let first_is = firsts field (words_of_all others) are.words kept.within.0 in
    record {
      field = field;
      others = others;
      is = refl;
      first_is = first_is;
      kept = kept;
      behind_are = record { words = first_is.behind_is; kept = λ k d lt. are.kept (suc k) d (omega arith) };
    }

pub is-shorter : (left : List ℕ) (first : FirstField) (bytes : List ℕ) (fields : List MarkedField) (c : Cut bytes first fields) → left ≡ words_of_all fields → length first.behind.now < length left
is-shorter left first bytes fields c is =
    let size = ap length (is ∙ ap words_of_all c.is) ∙ length-append (words_of c.field) (words_of_all c.others) in
    omega (arith, size, ap length c.first_is.behind_is)

-- the first field is of another kind
pub left-next : (bytes left : List ℕ) (first : FirstField) (kind : FieldKind) (all : List MarkedField) (l : Left bytes left kind all) → Cut bytes first l.fields
    → first.place ≢ field_place kind → Left bytes first.behind.now kind all
left-next bytes left first kind all l c other =
    let here : nat_eq (field_place c.field.kind) (field_place kind) ≡ false =
    ⊎_elim (λ yes. absurd (other (c.first_is.place_is ∙ eqb-true (field_place c.field.kind) (field_place kind) yes))) (λ none. none) (cases_Bool (nat_eq (field_place c.field.kind) (field_place kind))) in
    record { fields = c.others; are = c.behind_are; same = l.same ∙ ap (kept_groups kind bytes) c.is ∙ cond-false _ _ _ here }

-- the first field is of the kind that is sought
pub kind-here : (bytes : List ℕ) (first : FirstField) (kind : FieldKind) (fields : List MarkedField) (c : Cut bytes first fields) → first.place ≡ field_place kind → kind ≡ c.field.kind
kind-here bytes first kind fields c same = sym (same-place c.field.kind kind (ap (λ n. nat_eq n (field_place kind)) (sym c.first_is.place_is ∙ same) ∙ place-same kind))

pub ends-within : (bytes : List ℕ) (first : FirstField) (fields : List MarkedField) → Cut bytes first fields → first.start + first.len ≤ length bytes
ends-within bytes first fields c = omega (arith, c.first_is.end_is, c.kept.within.1)

body-here : (bytes body : List ℕ) (first : FirstField) (fields : List MarkedField) (c : Cut bytes first fields) → body ≡ slice_range bytes first.start (first.start + first.len) → body ≡ shown bytes c.field.body
body-here bytes body first fields c shows = shows ∙ ap₂ (slice_range bytes) c.first_is.start_is c.first_is.end_is

pub held-here : (bytes body : List ℕ) (first : FirstField) (kind : FieldKind) (fields : List MarkedField) → Cut bytes first fields → first.place ≡ field_place kind
    → body ≡ slice_range bytes first.start (first.start + first.len) → AreHeld kind body first.starts.now first.further.now
held-here bytes body first kind fields c same shows =
    let body_is : body ≡ shown bytes c.field.body = body-here bytes body first fields c shows in
    subst (λ (k : FieldKind). AreHeld k body first.starts.now first.further.now) (sym (kind-here bytes first kind fields c same))
    (subst (λ (b : List ℕ). AreHeld c.field.kind b first.starts.now first.further.now) (sym body_is)
    (subst (λ (s : List ℕ). AreHeld c.field.kind (shown bytes c.field.body) s first.further.now) (sym c.first_is.starts_are)
    (subst (λ (f : List ℕ). AreHeld c.field.kind (shown bytes c.field.body) c.field.starts f) (sym c.first_is.further_are) c.kept.places)))

pub groups-here : (bytes left body : List ℕ) (first : FirstField) (kind : FieldKind) (all : List MarkedField) (l : Left bytes left kind all) → Cut bytes first l.fields
    → first.place ≡ field_place kind → body ≡ slice_range bytes first.start (first.start + first.len) → groups_held kind body first.starts.now first.further.now ≡ kept_groups kind bytes all
groups-here bytes left body first kind all l c same shows =
    let kind_is = kind-here bytes first kind l.fields c same in
    let here : nat_eq (field_place c.field.kind) (field_place kind) ≡ true = ap (λ n. nat_eq n (field_place kind)) (sym c.first_is.place_is ∙ same) ∙ place-same kind in
    ap (λ (k : FieldKind). groups_held k body first.starts.now first.further.now) kind_is
    ∙ ap (λ (b : List ℕ). groups_held c.field.kind b first.starts.now first.further.now) (body-here bytes body first l.fields c shows)
    ∙ ap₂ (groups_held c.field.kind (shown bytes c.field.body)) c.first_is.starts_are c.first_is.further_are
    ∙ sym (l.same ∙ ap (kept_groups kind bytes) c.is ∙ cond-true _ _ _ here)

-- no words are left
pub none-left : (bytes left : List ℕ) (kind : FieldKind) (all : List MarkedField) (l : Left bytes left kind all) → (length left == 0) ≡ true → [] ≡ kept_groups kind bytes all
none-left bytes left kind all l none = sym (l.same ∙ by l.fields l.are.words)
  where
    by : (fields : List MarkedField) → left ≡ words_of_all fields → kept_groups kind bytes fields ≡ []
    by [] is = refl
    by (field ∷ others) is = absurd (omega (arith, eqb-true (length left) 0 none, ap length is))

-- ---- one field more

pub marks-field : (bytes old new body : List ℕ) (span : Span) (kind : FieldKind) (starts further : List ℕ)
    → new ≡ old ++ words_of (record { kind = kind; body = span; starts = starts; further = further }) → IsWithin bytes span → body ≡ shown bytes span → AreHeld kind body starts further
    → groups_held kind body starts further ≡ groups_read kind body → Marks bytes (Some kind) span old new
marks-field bytes old new body span kind starts further adds within shows held groups = λ fields is.
    let field : MarkedField = record { kind = kind; body = span; starts = starts; further = further } in
    let last : words_of_all (field ∷ []) ≡ words_of field = append-nil (words_of field) in
    record {
      fields = fields ++ field ∷ [];
      words = adds ∙ ap₂ ◌++◌ is (sym last) ∙ sym (flat_map-append words_of fields (field ∷ []));
      keeps = record {
        field = field;
        pushed = refl;
        kind_is = refl;
        body_is = refl;
        kept = record { within = within; places = subst (λ (b : List ℕ). AreHeld kind b starts further) shows held };
        groups = subst (λ (b : List ℕ). groups_held kind b starts further ≡ groups_read kind b) shows groups;
      };
    }
