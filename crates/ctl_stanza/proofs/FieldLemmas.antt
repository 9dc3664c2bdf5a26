-- Fields, and where they stand in a text.
use Rattle.std.proofs.Common.{◌≡◌, ◌∙◌, ◌+◌, ◌-◌, ◌⊎◌, ◌<◌, ◌≤◌, ◌==◌, ◌||◌, ℕ, zero, suc, Bool, true, false, List, [], ◌∷◌, ◌++◌, length, take, drop, get_or, Some, None, slice_range, append_assoc, take_all, refl, sym, ap, ap₂, arith, ⊎_elim}
use Rattle.std.proofs.lemmas.Bool.{cases_Bool, cond-true, cond-false}
use Rattle.std.proofs.Math.Seq.{take-append-add, take-append_seam, drop-append-add}
use Rattle.std.proofs.lemmas.List.{take-append-le, drop-append-le, take-append-drop, length-take-le, append-nil, drop_more, length-append, length-drop}
use Rattle.std.specs.Str.{bytes_eq}
use Rattle.std.proofs.lemmas.Slice.Eq.{bytes_eq-Decides}
use Rattle.ctl_stanza.specs.declared.fields.Field.{Field}
use Rattle.ctl_stanza.specs.declared.fault.Cause.{Cause}
use Rattle.ctl_stanza.specs.declared.line_kind.LineKind.{LineKind}
use Rattle.ctl_stanza.specs.declared.line_kind.LineKind.TheVariants.{Blank, Field as FieldLine, Continuation, Faulty}
use Rattle.ctl_stanza.specs.Lines.{is_blank_byte, text_of_lines}
use Rattle.ctl_stanza.specs.LineKind.{kind_of}
use Rattle.ctl_relation.specs.declared.span.Span.{Span}
use Rattle.ctl_stanza.specs.Fields.{FieldText, strip_end, before_stripped, value_of, continues, continued, fields_from, field_at}
use Rattle.ctl_stanza.specs.Faults.{field_cause, first_wrong, fault_or}
use Rattle.ctl_stanza.specs.Inside.HeldFields.{IsPlainAt, ArePlain, IsWithin, AreWithin, StandsAt, Shows, ends_with_value, loose_at, loose_bodies, shown, shown_fields}

-- nothing but blanks is left
pub strip_end-none : (text : List ℕ) → ((k : ℕ) → k < length text → is_blank_byte (get_or text k 0) ≡ true) → strip_end text ≡ []
strip_end-none [] all = refl
strip_end-none (b ∷ text) all =
    ap (before_stripped b) (strip_end-none text (λ k lt. all (suc k) (omega arith))) ∙ cond-true _ _ _ (all 0 (omega arith))

-- the last byte that isn't a blank stands at i
pub strip_end-at : (text : List ℕ) (i : ℕ) → i < length text → is_blank_byte (get_or text i 0) ≡ false
    → ((k : ℕ) → i < k → k < length text → is_blank_byte (get_or text k 0) ≡ true) → strip_end text ≡ take (suc i) text
strip_end-at [] i lt here all = absurd (omega arith)
strip_end-at (b ∷ text) zero lt here all =
    ap (before_stripped b) (strip_end-none text (λ k less. all (suc k) (omega arith) (omega arith))) ∙ cond-false _ _ _ here
strip_end-at (b ∷ []) (suc i) lt here all = absurd (omega arith)
strip_end-at (b ∷ c ∷ text) (suc i) lt here all =
    ap (before_stripped b) (strip_end-at (c ∷ text) i (omega arith) here (λ k less more. all (suc k) (omega arith) (omega arith)))

-- the part of a text that a span shows has the bytes from its start to its end
pub shown-len : (text : List ℕ) (span : Span) → IsWithin text span → length (shown text span) ≡ span.end - span.start
shown-len text span within = length-take-le (span.end - span.start) (drop span.start text) (omega (arith, within.0, within.1, length-drop span.start text))

-- a part of a line, in the text round it
pub within_line : (front line behind : List ℕ) (at a b : ℕ) → length front ≡ at → a ≤ b → b ≤ length line
    → slice_range (front ++ (line ++ behind)) (at + a) (at + b) ≡ slice_range line a b
within_line front line behind at a b e le in_line =
    let n : at + b - (at + a) ≡ b - a = omega arith in
    let place : at + a ≡ length front + a = omega arith in
    ap (λ k. take k (drop (at + a) (front ++ (line ++ behind)))) n
    ∙ ap (λ k. take (b - a) (drop k (front ++ (line ++ behind)))) place
    ∙ ap (take (b - a)) (drop-append-add front (line ++ behind) a ∙ drop-append-le a line behind (omega arith))
    ∙ take-append-le (b - a) (drop a line) behind (omega (arith, length-drop a line))

-- from within a line on, up to a place behind it
pub beyond_line : (front line behind : List ℕ) (at a b m : ℕ) → length front ≡ at → a ≤ b → b ≡ length line
    → slice_range (front ++ (line ++ behind)) (at + a) (at + b + m) ≡ slice_range line a b ++ take m behind
beyond_line front line behind at a b m e le is =
    let n : at + b + m - (at + a) ≡ length (drop a line) + m = omega (arith, length-drop a line) in
    let place : at + a ≡ length front + a = omega arith in
    ap (λ k. take k (drop (at + a) (front ++ (line ++ behind)))) n
    ∙ ap (λ k. take (length (drop a line) + m) (drop k (front ++ (line ++ behind)))) place
    ∙ ap (take (length (drop a line) + m)) (drop-append-add front (line ++ behind) a ∙ drop-append-le a line behind (omega arith))
    ∙ take-append-add (drop a line) behind m
    ∙ ap (λ t. t ++ take m behind) (sym (take_all (b - a) (drop a line) (omega (arith, length-drop a line))))

-- ---- continuation lines

pub continued-stop : (ls : List (List ℕ)) (i : ℕ) → i < length ls → continues (kind_of (get_or ls i [])) ≡ false → continued (drop i ls) ≡ []
continued-stop ls i lt other = ap continued (drop_more ls i [] lt) ∙ cond-false _ _ _ other

pub continued-go : (ls : List (List ℕ)) (i : ℕ) → i < length ls → continues (kind_of (get_or ls i [])) ≡ true
    → continued (drop i ls) ≡ 10 ∷ (get_or ls i [] ++ continued (drop (i + 1) ls))
continued-go ls i lt so = ap continued (drop_more ls i [] lt) ∙ cond-true _ _ _ so

-- they stand at the front of the text behind the line before them
pub take-continued : (ls : List (List ℕ)) → take (length (continued ls)) (10 ∷ text_of_lines ls) ≡ continued ls
take-continued [] = refl
take-continued (l ∷ ls) = ⊎_elim
    (λ (so : continues (kind_of l) ≡ true).
    let is : continued (l ∷ ls) ≡ 10 ∷ (l ++ continued ls) = cond-true _ _ _ so in
    ap (λ t. take (length t) (10 ∷ (l ++ 10 ∷ text_of_lines ls))) is
    ∙ ap (λ n. 10 ∷ take n (l ++ 10 ∷ text_of_lines ls)) (length-append l (continued ls))
    ∙ ap (λ t. 10 ∷ t) (take-append-add l (10 ∷ text_of_lines ls) (length (continued ls)) ∙ ap (λ t. l ++ t) (take-continued ls))
    ∙ sym is)
    (λ (other : continues (kind_of l) ≡ false).
    let none : continued (l ∷ ls) ≡ [] = cond-false _ _ _ other in
    ap (λ t. take (length t) (10 ∷ (l ++ 10 ∷ text_of_lines ls))) none ∙ sym none)
    (cases_Bool (continues (kind_of l)))

pub continued-le : (ls : List (List ℕ)) → length (continued ls) ≤ length (text_of_lines ls)
continued-le [] = omega arith
continued-le (l ∷ ls) = ⊎_elim
    (λ (so : continues (kind_of l) ≡ true).
    let is : continued (l ∷ ls) ≡ 10 ∷ (l ++ continued ls) = cond-true _ _ _ so in
    rw is (omega (arith, length-append l (continued ls), length-append l (10 ∷ text_of_lines ls), continued-le ls)))
    (λ (other : continues (kind_of l) ≡ false).
    let none : continued (l ∷ ls) ≡ [] = cond-false _ _ _ other in rw none (omega arith))
    (cases_Bool (continues (kind_of l)))

pub len-stop : (ls : List (List ℕ)) (line : List ℕ) (i len total : ℕ) → i < length ls → get_or ls i [] ≡ line → continues (kind_of line) ≡ false
    → len + length (continued (drop i ls)) ≡ total → len ≡ total
len-stop ls line i len total lt is other e = omega (arith, e, ap length (continued-stop ls i lt (ap (λ l. continues (kind_of l)) is ∙ other)))

pub len-go : (ls : List (List ℕ)) (line : List ℕ) (i len total : ℕ) → i < length ls → get_or ls i [] ≡ line → continues (kind_of line) ≡ true
    → len + length (continued (drop i ls)) ≡ total → len + (length line + 1) + length (continued (drop (i + 1) ls)) ≡ total
len-go ls line i len total lt is so e =
    omega (arith, e, ap length (continued-go ls i lt (ap (λ l. continues (kind_of l)) is ∙ so)), length-append (get_or ls i []) (continued (drop (i + 1) ls)), ap length is)

pub join-stop : (ls : List (List ℕ)) (line body whole : List ℕ) (i : ℕ) → i < length ls → get_or ls i [] ≡ line → continues (kind_of line) ≡ false
    → body ++ continued (drop i ls) ≡ whole → body ≡ whole
join-stop ls line body whole i lt is other e =
    sym (append-nil body) ∙ ap (λ t. body ++ t) (sym (continued-stop ls i lt (ap (λ l. continues (kind_of l)) is ∙ other))) ∙ e

pub join-go : (ls : List (List ℕ)) (line body pushed more whole : List ℕ) (i : ℕ) → i < length ls → get_or ls i [] ≡ line → continues (kind_of line) ≡ true
    → pushed ≡ body ++ 10 ∷ [] → more ≡ pushed ++ line → body ++ continued (drop i ls) ≡ whole → more ++ continued (drop (i + 1) ls) ≡ whole
join-go ls line body pushed more whole i lt is so first then e =
    ap (λ t. t ++ continued (drop (i + 1) ls)) (then ∙ ap (λ t. t ++ line) first)
    ∙ append_assoc (body ++ 10 ∷ []) line (continued (drop (i + 1) ls))
    ∙ append_assoc body (10 ∷ []) (line ++ continued (drop (i + 1) ls))
    ∙ ap (λ l. body ++ 10 ∷ (l ++ continued (drop (i + 1) ls))) (sym is)
    ∙ ap (λ t. body ++ t) (sym (continued-go ls i lt (ap (λ l. continues (kind_of l)) is ∙ so))) ∙ e

pub nil-of : {A : Type 0} (xs : List A) → length xs ≡ 0 → xs ≡ []
nil-of [] e = refl
nil-of (x ∷ xs) e = absurd (omega (arith, e))

-- ---- a line at a place of bytes

-- what stands round a line
pub record IsRound (bytes : List ℕ) (at : ℕ) (line : List ℕ) (behind : List (List ℕ)) : Type 0 where
  pub front : List ℕ
  pub rest : List ℕ
  pub front_len : length front ≡ at
  pub whole : bytes ≡ front ++ (line ++ 10 ∷ (text_of_lines behind ++ rest))

pub stands-size : (bytes part : List ℕ) (at : ℕ) → 0 < length part → StandsAt bytes at part → at + length part ≤ length bytes
stands-size bytes part at some stands =
    let parts = ap length (take-append-drop (length part) (drop at bytes)) in
    omega (arith, some, ap length stands, parts, length-append (take (length part) (drop at bytes)) (drop (length part) (drop at bytes)), length-drop at bytes)

-- a line and those behind it have room
pub stands-room : (bytes line : List ℕ) (at : ℕ) (behind : List (List ℕ)) → StandsAt bytes at (line ++ 10 ∷ text_of_lines behind) → at + length line + 1 + length (text_of_lines behind) ≤ length bytes
stands-room bytes line at behind stands =
    let size = length-append line (10 ∷ text_of_lines behind) in
    omega (arith, size, stands-size bytes (line ++ 10 ∷ text_of_lines behind) at (omega (arith, size)) stands)

pub stands-round : (bytes line : List ℕ) (at : ℕ) (behind : List (List ℕ)) → StandsAt bytes at (line ++ 10 ∷ text_of_lines behind) → IsRound bytes at line behind
stands-round bytes line at behind stands =
    let part = line ++ 10 ∷ text_of_lines behind in
    let rest = drop (length part) (drop at bytes) in
    let size = stands-size bytes part at (omega (arith, length-append line (10 ∷ text_of_lines behind))) stands in
    record {
      front = take at bytes;
      rest = rest;
      front_len = length-take-le at bytes (omega arith);
      whole = sym (take-append-drop at bytes)
          ∙ ap (λ t. take at bytes ++ t) (sym (take-append-drop (length part) (drop at bytes)) ∙ ap (λ t. t ++ rest) stands ∙ append_assoc line (10 ∷ text_of_lines behind) rest);
    }

-- the lines behind stand behind the line
pub stands-next : (bytes line : List ℕ) (at : ℕ) (behind : List (List ℕ)) → StandsAt bytes at (line ++ 10 ∷ text_of_lines behind) → StandsAt bytes (at + (length line + 1)) (text_of_lines behind)
stands-next bytes line at behind stands =
    let round = stands-round bytes line at behind stands in
    let front = round.front ++ (line ++ 10 ∷ []) in
    let tail = text_of_lines behind ++ round.rest in
    let whole : bytes ≡ front ++ tail =
    round.whole ∙ ap (λ t. round.front ++ t) (sym (append_assoc line (10 ∷ []) tail)) ∙ sym (append_assoc round.front (line ++ 10 ∷ []) tail) in
    let place : at + (length line + 1) ≡ length front + 0 = omega (arith, round.front_len, length-append round.front (line ++ 10 ∷ []), length-append line (10 ∷ [])) in
    ap (λ t. take (length (text_of_lines behind)) (drop (at + (length line + 1)) t)) whole
    ∙ ap (λ n. take (length (text_of_lines behind)) (drop n (front ++ tail))) place
    ∙ ap (take (length (text_of_lines behind))) (drop-append-add front tail 0)
    ∙ take-append_seam (text_of_lines behind) round.rest

-- ---- more bytes

pub stands-grow : (bytes part more : List ℕ) (at : ℕ) → at ≤ length bytes → StandsAt bytes at part → StandsAt (bytes ++ more) at part
stands-grow bytes part more at le stands =
    let parts = ap length (take-append-drop (length part) (drop at bytes)) in
    ap (take (length part)) (drop-append-le at bytes more le)
    ∙ take-append-le (length part) (drop at bytes) more
    (omega (arith, ap length stands, parts, length-append (take (length part) (drop at bytes)) (drop (length part) (drop at bytes)))) ∙ stands

pub shown-grow : (bytes more : List ℕ) (span : Span) → IsWithin bytes span → shown (bytes ++ more) span ≡ shown bytes span
shown-grow bytes more span within =
    ap (take (span.end - span.start)) (drop-append-le span.start bytes more (omega (arith, within.0, within.1)))
    ∙ take-append-le (span.end - span.start) (drop span.start bytes) more (omega (arith, length-drop span.start bytes, within.0, within.1))

pub within-grow : (bytes more : List ℕ) (span : Span) → IsWithin bytes span → IsWithin (bytes ++ more) span
within-grow bytes more span within = (within.0, omega (arith, within.1, length-append bytes more))

pub fields_within-grow : (bytes more : List ℕ) (fields : List Field) → AreWithin bytes fields → AreWithin (bytes ++ more) fields
fields_within-grow bytes more fields all = λ k d lt. (within-grow bytes more _ (all k d lt).0, within-grow bytes more _ (all k d lt).1)

pub fields-grow : (bytes more : List ℕ) (fields : List Field) → AreWithin bytes fields → shown_fields (bytes ++ more) fields ≡ shown_fields bytes fields
fields-grow bytes more [] all = refl
fields-grow bytes more (f ∷ fs) all =
    let here = all 0 f (omega arith) in
    let name = shown-grow bytes more f.name here.0 in
    let body = shown-grow bytes more f.body here.1 in
    ap₂ (λ (x : FieldText) xs. x ∷ xs) (ap₂ (λ (x y : List ℕ). record { line = f.line; name = x; body = y }) name body)
    (fields-grow bytes more fs (λ k d lt. all (suc k) d (omega arith)))

-- ---- the body of a field

-- a body that stands in the text in one piece
pub body-within : (bytes line value : List ℕ) (at a b m : ℕ) (behind : List (List ℕ)) → StandsAt bytes at (line ++ 10 ∷ text_of_lines behind) → a ≤ b → b ≤ length line → slice_range line a b ≡ value
    → m ≡ length (continued behind) → (m ≡ 0) ⊎ (b ≡ length line) → Shows bytes (record { start = at + a; end = at + b + m }) (value ++ continued behind)
body-within bytes line value at a b m behind stands le in_line is size ends =
    let round = stands-round bytes line at behind stands in
    let room = stands-room bytes line at behind stands in
    let tail = 10 ∷ (text_of_lines behind ++ round.rest) in
    let short = continued-le behind in
    let within : (at + a ≤ at + b + m) × (at + b + m ≤ length bytes) = (omega arith, omega (arith, room, short, size)) in
    let front : take m tail ≡ continued behind =
    take-append-le m (10 ∷ text_of_lines behind) round.rest (omega (arith, size, short)) ∙ ap (λ n. take n (10 ∷ text_of_lines behind)) size ∙ take-continued behind in
    let shows : slice_range bytes (at + a) (at + b + m) ≡ value ++ continued behind = ⊎_elim
    (λ (none : m ≡ 0).
    let here : at + b + m ≡ at + b = omega arith in
    ap (λ n. slice_range bytes (at + a) n) here ∙ ap (λ t. slice_range t (at + a) (at + b)) round.whole
    ∙ within_line round.front line tail at a b round.front_len le in_line ∙ is ∙ sym (append-nil value) ∙ ap (λ t. value ++ t) (sym (nil-of (continued behind) (sym size ∙ none))))
    (λ (end : b ≡ length line).
    ap (λ t. slice_range t (at + a) (at + b + m)) round.whole ∙ beyond_line round.front line tail at a b m round.front_len le end ∙ ap₂ ◌++◌ is front)
    ends in
    record { within = within; part_is = shows }

-- ---- bodies in one piece

either-way : (a : Bool) → (a || true) ≡ true
either-way true = refl
either-way false = refl

pub loose-end : (n : ℕ) (line : List ℕ) (behind : List (List ℕ)) → length (continued behind) ≡ 0 → loose_at (FieldLine n) line behind ≡ []
loose-end n line behind none = cond-true _ _ _ (ap (λ (m : ℕ). m == 0 || ends_with_value n line) none)

pub loose-ends : (n : ℕ) (line value : List ℕ) (behind : List (List ℕ)) → value ≡ value_of n line → bytes_eq (drop (length line - length value) line) value ≡ true → loose_at (FieldLine n) line behind ≡ []
loose-ends n line value behind is ends =
    let here : ends_with_value n line ≡ true = ap (λ v. bytes_eq (drop (length line - length v) line) v) (sym is) ∙ ends in
    cond-true _ _ _ (ap (λ (b : Bool). length (continued behind) == 0 || b) here ∙ either-way (length (continued behind) == 0))

-- a line of another kind begins no field
pub loose-other : (kind : LineKind) (line : List ℕ) (behind : List (List ℕ)) → ((n : ℕ) → kind ≡ FieldLine n → ⊥) → loose_at kind line behind ≡ []
loose-other (FieldLine n) line behind other = absurd (other n refl)
loose-other Blank line behind other = refl
loose-other Continuation line behind other = refl
loose-other Faulty line behind other = refl

-- the end of a line that is a value
pub end-shown : (line value : List ℕ) → length value ≤ length line → bytes_eq (drop (length line - length value) line) value ≡ true → slice_range line (length line - length value) (length line) ≡ value
end-shown line value le ends =
    take_all (length line - (length line - length value)) (drop (length line - length value) line) (omega (arith, length-drop (length line - length value) line))
    ∙ (bytes_eq-Decides (drop (length line - length value) line) value).0 ends

pub nothing-added : (bytes more : List ℕ) → more ≡ [] → bytes ≡ bytes ++ more
nothing-added bytes more none = sym (ap (λ t. bytes ++ t) none ∙ append-nil bytes)

-- the body of one line more
pub loose-turn : (ls : List (List ℕ)) (line old new whole : List ℕ) (i : ℕ) → i < length ls → get_or ls i [] ≡ line → new ≡ old ++ loose_at (kind_of line) line (drop (i + 1) ls)
    → old ++ loose_bodies (drop i ls) ≡ whole → new ++ loose_bodies (drop (i + 1) ls) ≡ whole
loose-turn ls line old new whole i lt is adds told =
    let left : drop i ls ≡ line ∷ drop (i + 1) ls = drop_more ls i [] lt ∙ ap (λ l. l ∷ drop (i + 1) ls) is in
    ap (λ t. t ++ loose_bodies (drop (i + 1) ls)) adds ∙ append_assoc old (loose_at (kind_of line) line (drop (i + 1) ls)) (loose_bodies (drop (i + 1) ls))
    ∙ ap (λ t. old ++ loose_bodies t) (sym left) ∙ told

plain-none : (kind : LineKind) (line : List ℕ) (behind : List (List ℕ)) → IsPlainAt kind line behind → loose_at kind line behind ≡ []
plain-none (FieldLine n) line behind plain = ⊎_elim
    (λ none. loose-end n line behind none)
    (λ ends. loose-ends n line (value_of n line) behind refl ((bytes_eq-Decides (drop (length line - length (value_of n line)) line) (value_of n line)).1 ends))
    plain
plain-none Blank line behind plain = refl
plain-none Continuation line behind plain = refl
plain-none Faulty line behind plain = refl

-- Where all bodies stand in one piece, nothing is put behind the text.
pub plain-nothing : (ls : List (List ℕ)) → ArePlain ls → loose_bodies ls ≡ []
plain-nothing [] plain = refl
plain-nothing (line ∷ behind) plain = ap₂ ◌++◌ (plain-none (kind_of line) line behind plain.0) (plain-nothing behind plain.1)

-- ---- the fields that are left

-- the field at i, and those behind it
pub left-shown : (text name body : List ℕ) (fields : List Field) (i : ℕ) (d : Field) → i < length fields → name ≡ shown text (get_or fields i d).name → body ≡ shown text (get_or fields i d).body
    → shown_fields text (drop i fields) ≡ (record { line = (get_or fields i d).line; name = name; body = body }) ∷ shown_fields text (drop (i + 1) fields)
left-shown text name body fields i d lt is_name is_body =
    ap (shown_fields text) (drop_more fields i d lt)
    ∙ ap₂ (λ (x y : List ℕ). (record { line = (get_or fields i d).line; name = x; body = y }) ∷ shown_fields text (drop (i + 1) fields)) (sym is_name) (sym is_body)

pub first_wrong-good : (live : Bool) (n : ℕ) (field : FieldText) (fields left : List FieldText) → left ≡ field ∷ fields → field_cause live field.name field.body ≡ None → first_wrong live n left ≡ first_wrong live n fields
first_wrong-good live n field fields left is good = ap (first_wrong live n) is ∙ ap (λ o. fault_or (n + field.line) o (first_wrong live n fields)) good

pub first_wrong-bad : (live : Bool) (n : ℕ) (cause : Cause) (field : FieldText) (fields left : List FieldText) → left ≡ field ∷ fields → field_cause live field.name field.body ≡ Some cause → first_wrong live n left ≡ Some (record { line = n + field.line; cause = cause })
first_wrong-bad live n cause field fields left is bad = ap (first_wrong live n) is ∙ ap (λ o. fault_or (n + field.line) o (first_wrong live n fields)) bad

-- ---- the text of lines

-- each line has a newline at least
pub length-text_of_lines : (ls : List (List ℕ)) → length ls ≤ length (text_of_lines ls)
length-text_of_lines [] = omega arith
length-text_of_lines (l ∷ ls) = omega (arith, length-append l (10 ∷ text_of_lines ls), length-text_of_lines ls)

pub text-go : (ls : List (List ℕ)) (line text more pushed whole : List ℕ) (i : ℕ) → i < length ls → get_or ls i [] ≡ line
    → more ≡ text ++ line → pushed ≡ more ++ 10 ∷ [] → text ++ text_of_lines (drop i ls) ≡ whole → pushed ++ text_of_lines (drop (i + 1) ls) ≡ whole
text-go ls line text more pushed whole i lt is first then e =
    ap (λ t. t ++ text_of_lines (drop (i + 1) ls)) (then ∙ ap (λ t. t ++ 10 ∷ []) first)
    ∙ append_assoc (text ++ line) (10 ∷ []) (text_of_lines (drop (i + 1) ls))
    ∙ append_assoc text line (10 ∷ text_of_lines (drop (i + 1) ls))
    ∙ ap (λ l. text ++ (l ++ 10 ∷ text_of_lines (drop (i + 1) ls))) (sym is)
    ∙ ap (λ t. text ++ text_of_lines t) (sym (drop_more ls i [] lt)) ∙ e

-- the fields of one line more
pub fields-turn : (ls : List (List ℕ)) (line text : List ℕ) (before : List FieldText) (new : List Field) (i : ℕ) (whole : List FieldText) → i < length ls → get_or ls i [] ≡ line
    → shown_fields text new ≡ before ++ field_at i (kind_of line) line (drop (i + 1) ls)
    → before ++ fields_from i (drop i ls) ≡ whole
    → shown_fields text new ++ fields_from (i + 1) (drop (i + 1) ls) ≡ whole
fields-turn ls line text before new i whole lt is adds e =
    let next : i + 1 ≡ suc i = omega arith in
    ap (λ t. t ++ fields_from (i + 1) (drop (i + 1) ls)) (adds ∙ ap (λ l. before ++ field_at i (kind_of l) l (drop (i + 1) ls)) (sym is))
    ∙ append_assoc before _ (fields_from (i + 1) (drop (i + 1) ls))
    ∙ ap (λ n. before ++ (field_at i (kind_of (get_or ls i [])) (get_or ls i []) (drop (i + 1) ls) ++ fields_from n (drop (i + 1) ls))) next
    ∙ ap (λ t. before ++ fields_from i t) (sym (drop_more ls i [] lt)) ∙ e
