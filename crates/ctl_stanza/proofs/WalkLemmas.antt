-- Fields, found line by line.
use Rattle.std.proofs.Common.{◌≡◌, ◌∙◌, ◌+◌, ◌-◌, ◌<◌, ◌≤◌, ◌^◌, ◌==◌, ℕ, suc, true, false, cond, List, [], ◌∷◌, ◌++◌, length, map, take, drop, get_or, slice_range, take_all, length-append, Some, refl, sym, ap, ap₂, arith, ⊎_elim}
use Rattle.std.proofs.lemmas.List.{length-drop, length-take-le}
use Rattle.std.proofs.Math.Seq.{drop-append-add, take-append_seam}
use Rattle.std.proofs.lemmas.Bool.{cases_Bool, cases_lt, cond-true, cond-false}
use Rattle.ctl_relation.specs.Bytes.{colon}
use Rattle.ctl_stanza.specs.declared.line_kind.LineKind.{LineKind}
use Rattle.ctl_stanza.specs.declared.line_kind.LineKind.TheVariants.{Blank, Field, Continuation, Faulty}
use Rattle.ctl_stanza.specs.Lines.{lines_of, text_of_lines}
use Rattle.ctl_stanza.specs.LineKind.{kind_of}
use Rattle.ctl_stanza.specs.Content.{name_and_body}
use Rattle.ctl_stanza.specs.Fields.{value_of, continues, continued, field_at, fields_from, body_named, is_same_name, names_field}
use Rattle.ctl_stanza.specs.Inside.HeldFields.{IsText, IsWalk, StandsAt, bodies_in, loose_at, loose_bodies}
use Rattle.ctl_stanza.proofs.FieldLemmas.{beyond_line, take-continued, continued-le}
use Rattle.ctl_stanza.proofs.FieldLineLemmas.{field-found, taken}
use Rattle.ctl_stanza.proofs.RelationLemmas.{same-length}

-- ---- one line

-- behind the first line of a text stand its other lines, each with a newline
pub text-behind : (left line behind : List ℕ) → IsText left → lines_of left ≡ line ∷ lines_of behind → (length line < length left → left ≡ line ++ 10 ∷ behind)
    → (left ≡ line ++ 10 ∷ behind) × IsText behind
text-behind left line behind is_text lines first =
    let joined : left ≡ line ++ 10 ∷ text_of_lines (lines_of behind) = is_text ∙ ap text_of_lines lines in
    let cut = first (omega (arith, ap length joined, length-append line (10 ∷ text_of_lines (lines_of behind)))) in
    (cut, sym (drop-append-add line (10 ∷ behind) 1) ∙ ap (drop (length line + 1)) (sym cut ∙ joined) ∙ drop-append-add line (10 ∷ text_of_lines (lines_of behind)) 1)

-- ---- lines that continue a field

pub continued-first : (left line behind : List ℕ) → lines_of left ≡ line ∷ lines_of behind → continues (kind_of line) ≡ true
    → length (continued (lines_of left)) ≡ length line + 1 + length (continued (lines_of behind))
continued-first left line behind lines so =
    let is : continued (lines_of left) ≡ 10 ∷ (line ++ continued (lines_of behind)) = ap continued lines ∙ cond-true _ _ _ so in
    omega (arith, ap length is, length-append line (continued (lines_of behind)))

pub continued-room : (text : List ℕ) → IsText text → length (continued (lines_of text)) ≤ length text
continued-room text is = omega (arith, ap length is, continued-le (lines_of text))

pub continued-up : (line : List ℕ) (ls : List (List ℕ)) → length (continued (line ∷ ls)) ≤ length line + 1 + length (continued ls)
continued-up line ls = ⊎_elim
    (λ (so : continues (kind_of line) ≡ true).
    let is : continued (line ∷ ls) ≡ 10 ∷ (line ++ continued ls) = cond-true _ _ _ so in omega (arith, ap length is, length-append line (continued ls)))
    (λ (other : continues (kind_of line) ≡ false). let none : continued (line ∷ ls) ≡ [] = cond-false _ _ _ other in omega (arith, ap length none))
    (cases_Bool (continues (kind_of line)))

-- a value at the end of its line, and the lines that continue it, stand in one piece
pub body-piece : (text line behind value : List ℕ) (more : ℕ) → text ≡ line ++ 10 ∷ behind → IsText behind → more ≡ length (continued (lines_of behind)) → length value ≤ length line
    → drop (length line - length value) line ≡ value
    → take (length line + more - (length line - length value)) (drop (length line - length value) text) ≡ value ++ continued (lines_of behind)
body-piece text line behind value more whole is_text size le ends =
    let from : length line - length value ≡ 0 + (length line - length value) = omega arith in
    let to : length line + more ≡ 0 + length line + more = omega arith in
    ap (λ t. slice_range t (length line - length value) (length line + more)) whole
    ∙ ap₂ (slice_range (line ++ 10 ∷ behind)) from to
    ∙ beyond_line [] line (10 ∷ behind) 0 (length line - length value) (length line) more refl (omega arith) refl
    ∙ ap₂ ◌++◌ (take_all _ _ (omega (arith, length-drop (length line - length value) line)) ∙ ends)
    (ap₂ (λ n t. take n (10 ∷ t)) size is_text ∙ take-continued (lines_of behind))

-- a walk over the first line of a text
pub record Next (left loose line behind : List ℕ) : Type 0 where
  pub whole : left ≡ line ++ 10 ∷ behind
  pub is_text : IsText behind
  pub short : length line < 2 ^ 32
  pub few : length behind < 2 ^ 32
  pub loose_are : loose ≡ loose_at (kind_of line) line (lines_of behind) ++ loose_bodies (lines_of behind)

pub walk-next : (left loose line behind : List ℕ) → IsWalk left loose → lines_of left ≡ line ∷ lines_of behind → (length line < length left → left ≡ line ++ 10 ∷ behind)
    → Next left loose line behind
walk-next left loose line behind walk lines first =
    let next = text-behind left line behind walk.is_text lines first in
    let size = ap length next.0 in
    record {
      whole = next.0;
      is_text = next.1;
      short = omega (arith, walk.small, size, length-append line (10 ∷ behind));
      few = omega (arith, walk.small, size, length-append line (10 ∷ behind));
      loose_are = walk.loose_are ∙ ap loose_bodies lines;
    }

pub walk-behind : (left loose line behind rest : List ℕ) → Next left loose line behind → rest ≡ loose_bodies (lines_of behind) → IsWalk behind rest
walk-behind left loose line behind rest next is = record { small = next.few; is_text = next.is_text; loose_are = is }

-- the body that a line gives stands first among those that don't stand in the text in one piece
pub loose-here : (left loose line behind : List ℕ) (kind : LineKind) → Next left loose line behind → kind_of line ≡ kind → StandsAt loose 0 (loose_at kind line (lines_of behind))
loose-here left loose line behind kind next is =
    let whole : loose ≡ loose_at kind line (lines_of behind) ++ loose_bodies (lines_of behind) = next.loose_are ∙ ap (λ (k : LineKind). loose_at k line (lines_of behind) ++ loose_bodies (lines_of behind)) is in
    ap (take (length (loose_at kind line (lines_of behind)))) whole ∙ take-append_seam (loose_at kind line (lines_of behind)) (loose_bodies (lines_of behind))

-- ---- the names of lines

-- the name of a field line lies within it
field-within : (line : List ℕ) (n : ℕ) → kind_of line ≡ Field n → n < length line
field-within line n is = ⊎_elim
    (λ lt. lt)
    (λ (ge : length line ≤ n). let found = taken line n is in
    absurd (omega (arith, ap length found.joined, length-append (take n line) (colon ∷ (found.before ++ (value_of n line ++ found.behind))), ap length (take_all n line ge))))
    (cases_lt n (length line))

pub other-name : (line name : List ℕ) (kind : LineKind) → kind_of line ≡ kind
    → (length name < length line → (get_or line (length name) 0 == colon) ≡ true → is_same_name (take (length name) line) name ≡ true → ⊥) → names_field kind line name ≡ false
other-name line name (Field n) is none = ⊎_elim
    (λ (same : is_same_name (take n line) name ≡ true).
    let size : n ≡ length name = omega (arith, same-length (take n line) name same, length-take-le n line (omega (arith, field-within line n is))) in
    absurd (none (omega (arith, field-within line n is, size)) (ap (λ k. get_or line k 0 == colon) (sym size) ∙ (field-found line n is).colon_at) (ap (λ k. is_same_name (take k line) name) (sym size) ∙ same)))
    (λ (other : is_same_name (take n line) name ≡ false). other)
    (cases_Bool (is_same_name (take n line) name))
other-name line name Blank is none = refl
other-name line name Continuation is none = refl
other-name line name Faulty is none = refl

pub name-len : (line name : List ℕ) (n : ℕ) → n < length line → is_same_name (take n line) name ≡ true → n ≡ length name
name-len line name n lt same = omega (arith, same-length (take n line) name same, length-take-le n line (omega (arith, lt)))

-- ---- fields, wherever their lines are counted from

at-anywhere : (i j : ℕ) (kind : LineKind) (line : List ℕ) (lines : List (List ℕ)) → map name_and_body (fields_from (suc i) lines) ≡ map name_and_body (fields_from (suc j) lines)
    → map name_and_body (field_at i kind line lines ++ fields_from (suc i) lines) ≡ map name_and_body (field_at j kind line lines ++ fields_from (suc j) lines)
at-anywhere i j (Field n) line lines rest = ap (λ t. (take n line, value_of n line ++ continued lines) ∷ t) rest
at-anywhere i j Blank line lines rest = rest
at-anywhere i j Continuation line lines rest = rest
at-anywhere i j Faulty line lines rest = rest

bodies-anywhere : (i j : ℕ) (lines : List (List ℕ)) → map name_and_body (fields_from i lines) ≡ map name_and_body (fields_from j lines)
bodies-anywhere i j [] = refl
bodies-anywhere i j (line ∷ lines) = at-anywhere i j (kind_of line) line lines (bodies-anywhere (suc i) (suc j) lines)

pub bodies-field : (left line behind : List ℕ) (n : ℕ) → lines_of left ≡ line ∷ lines_of behind → kind_of line ≡ Field n
    → bodies_in left ≡ (take n line, value_of n line ++ continued (lines_of behind)) ∷ bodies_in behind
bodies-field left line behind n lines is =
    ap (λ ls. map name_and_body (fields_from 0 ls)) lines
    ∙ ap (λ k. map name_and_body (field_at 0 k line (lines_of behind) ++ fields_from 1 (lines_of behind))) is
    ∙ ap (λ t. (take n line, value_of n line ++ continued (lines_of behind)) ∷ t) (bodies-anywhere 1 0 (lines_of behind))

no-field : (kind : LineKind) (line : List ℕ) (lines : List (List ℕ)) → ((n : ℕ) → kind ≡ Field n → ⊥) → field_at 0 kind line lines ≡ []
no-field (Field n) line lines other = absurd (other n refl)
no-field Blank line lines other = refl
no-field Continuation line lines other = refl
no-field Faulty line lines other = refl

pub bodies-none : (left line behind : List ℕ) (kind : LineKind) → lines_of left ≡ line ∷ lines_of behind → kind_of line ≡ kind → ((n : ℕ) → kind ≡ Field n → ⊥) → bodies_in left ≡ bodies_in behind
bodies-none left line behind kind lines is other =
    ap (λ ls. map name_and_body (fields_from 0 ls)) lines
    ∙ ap (λ k. map name_and_body (field_at 0 k line (lines_of behind) ++ fields_from 1 (lines_of behind))) is
    ∙ ap (λ t. map name_and_body (t ++ fields_from 1 (lines_of behind))) (no-field kind line (lines_of behind) other)
    ∙ bodies-anywhere 1 0 (lines_of behind)

-- ---- the body of a name

named-anywhere : (name : List ℕ) (i j : ℕ) (kind : LineKind) (line : List ℕ) (lines : List (List ℕ)) → body_named name (fields_from (suc i) lines) ≡ body_named name (fields_from (suc j) lines)
    → body_named name (field_at i kind line lines ++ fields_from (suc i) lines) ≡ body_named name (field_at j kind line lines ++ fields_from (suc j) lines)
named-anywhere name i j (Field n) line lines rest = ap (cond (is_same_name (take n line) name) (Some (value_of n line ++ continued lines))) rest
named-anywhere name i j Blank line lines rest = rest
named-anywhere name i j Continuation line lines rest = rest
named-anywhere name i j Faulty line lines rest = rest

body-anywhere : (name : List ℕ) (i j : ℕ) (lines : List (List ℕ)) → body_named name (fields_from i lines) ≡ body_named name (fields_from j lines)
body-anywhere name i j [] = refl
body-anywhere name i j (line ∷ lines) = named-anywhere name i j (kind_of line) line lines (body-anywhere name (suc i) (suc j) lines)

-- the kind of a line that begins the field of a name
pub named-kind : (line name : List ℕ) (kind : LineKind) → kind_of line ≡ kind → names_field kind line name ≡ true → (kind ≡ Field (length name)) × (is_same_name (take (length name) line) name ≡ true) × (length name < length line)
named-kind line name (Field n) is same =
    let lt = field-within line n is in
    let size = name-len line name n lt same in
    (ap Field size, ap (λ k. is_same_name (take k line) name) (sym size) ∙ same, omega (arith, lt, size))
named-kind line name Blank is same = absurd cc
named-kind line name Continuation is same = absurd cc
named-kind line name Faulty is same = absurd cc

pub body-here : (left line behind name : List ℕ) → lines_of left ≡ line ∷ lines_of behind → kind_of line ≡ Field (length name) → is_same_name (take (length name) line) name ≡ true
    → body_named name (fields_from 0 (lines_of left)) ≡ Some (value_of (length name) line ++ continued (lines_of behind))
body-here left line behind name lines is same =
    ap (λ ls. body_named name (fields_from 0 ls)) lines ∙ ap (λ k. body_named name (field_at 0 k line (lines_of behind) ++ fields_from 1 (lines_of behind))) is ∙ cond-true _ _ _ same

unnamed : (name line : List ℕ) (lines : List (List ℕ)) (kind : LineKind) → names_field kind line name ≡ false → body_named name (field_at 0 kind line lines ++ fields_from 1 lines) ≡ body_named name (fields_from 0 lines)
unnamed name line lines (Field n) other = cond-false _ _ _ other ∙ body-anywhere name 1 0 lines
unnamed name line lines Blank other = body-anywhere name 1 0 lines
unnamed name line lines Continuation other = body-anywhere name 1 0 lines
unnamed name line lines Faulty other = body-anywhere name 1 0 lines

pub body-other : (left line behind name : List ℕ) → lines_of left ≡ line ∷ lines_of behind → names_field (kind_of line) line name ≡ false
    → body_named name (fields_from 0 (lines_of behind)) ≡ body_named name (fields_from 0 (lines_of left))
body-other left line behind name lines other = sym (ap (λ ls. body_named name (fields_from 0 ls)) lines ∙ unnamed name line (lines_of behind) (kind_of line) other)
