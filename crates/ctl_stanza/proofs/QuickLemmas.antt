-- Lines accepted one by one.
use Rattle.std.proofs.Common.{not, ◌==◌, ◌||◌, slice_index, ⊎_elim, ◌≡◌, ◌∙◌, ◌⊎◌, inl, inr, ◌+◌, ◌-◌, ◌<◌, ◌≤◌, ℕ, suc, true, false, cond, List, [], ◌∷◌, ◌++◌, length, take, drop, get_or, slice_range, take_all, Option, Some, None, IfSome, refl, sym, ap, ap₂, subst, arith, append_assoc, length-append}
use Rattle.std.proofs.lemmas.List.{map-append, append-nil, append_cancel_right, take_more, drop_more, length-take-le, length-drop, take-append-drop}
use Rattle.std.proofs.Math.Seq.{take-append_seam, drop-append-add}
use Rattle.std.proofs.lemmas.Bool.{cond-true, cond-false, cases_Bool, eqb-true}
use Rattle.std.proofs.lemmas.List.Elements.{All-push}
use Rattle.std.specs.Bool.{⊤}
use Rattle.std.specs.List.{position}
use Rattle.ctl_stanza.specs.declared.fields.Field.{Field}
use Rattle.ctl_stanza.specs.declared.line_kind.LineKind.{LineKind}
use Rattle.ctl_stanza.specs.declared.line_kind.LineKind.TheVariants as kinds
use Rattle.ctl_stanza.specs.declared.quick.Accepted.{Accepted}
use Rattle.ctl_stanza.specs.declared.quick.LineHere.{LineHere}
use Rattle.ctl_stanza.specs.declared.repeats.Repeats.{Repeats}
use Rattle.ctl_stanza.specs.declared.repeats.Repeats.TheVariants.{Never}
use Rattle.ctl_stanza.specs.Lines.{lines_of, onto_first, text_of_lines, is_blank, is_blank_byte}
use Rattle.ctl_stanza.specs.LineKind.{kind_of, kind_after_name, is_field_name_byte}
use Rattle.ctl_stanza.specs.Fields.{value_of, continues, continued, field_at, fields_from, fields_of_lines}
use Rattle.ctl_stanza.specs.Faults.{fault_or, cause_of, first_fault, or_else, whole_fault}
use Rattle.ctl_stanza.specs.declared.list_kind.ListKind.{ListKind}
use Rattle.ctl_stanza.specs.Inside.HeldFields.{IsText, IsPlainAt, ArePlain, loose_bodies, IsReadFrom, AreWithin, AreBelow, StandsAt, shown_field, shown_fields}
use Rattle.ctl_stanza.specs.Inside.NameSlots.{AreTakenBy}
use Rattle.ctl_stanza.specs.Text.{is_gap, IsFirstPiece, piece, piece_fault}
use Rattle.ctl_stanza.specs.Inside.Quick.{IsUpTo, AreUpTo, end_behind, IsPlainField, AddsPlain, IsCutOff, IsAccepted}
use Rattle.ctl_stanza.proofs.LineLemmas.{IsLine}
use Rattle.ctl_stanza.proofs.PieceLemmas.{AreOther, AreSingle, StartsGap, pieces-run, other-push, single-push, are_lines}
use Rattle.ctl_stanza.proofs.FieldLemmas.{within_line, stands-round, body-within, nothing-added, plain-nothing, fields-grow, fields-turn, length-text_of_lines}
use Rattle.ctl_stanza.proofs.WalkLemmas.{text-behind, continued-up}
use Rattle.ctl_stanza.proofs.SoundLemmas.{fault_or-none, first_fault-none, read_from}
use Rattle.ctl_stanza.proofs.PartLemmas.{some-lines}

-- ---- a text that ends with a newline

text-onto : (b : ℕ) (ls : List (List ℕ)) → 0 < length ls → text_of_lines (onto_first b ls) ≡ b ∷ text_of_lines ls
text-onto b [] some = absurd (omega (arith, some))
text-onto b (l ∷ ls) some = refl

pub text-whole : (front : List ℕ) → IsText (front ++ 10 ∷ [])
text-whole [] = refl
text-whole (b ∷ front) =
    let text = front ++ 10 ∷ [] in
    ⊎_elim
    (λ (is : (b == 10) ≡ true).
    ap₂ (λ (x : ℕ) (t : List ℕ). x ∷ t) (eqb-true b 10 is) (text-whole front) ∙ ap text_of_lines (sym (cond-true _ ([] ∷ lines_of text) (onto_first b (lines_of text)) is)))
    (λ (other : (b == 10) ≡ false).
    ap (λ t. b ∷ t) (text-whole front) ∙ sym (text-onto b (lines_of text) (some-lines front [] 10)) ∙ ap text_of_lines (sym (cond-false _ ([] ∷ lines_of text) (onto_first b (lines_of text)) other)))
    (cases_Bool (b == 10))

pub ends-text : (text : List ℕ) → 1 ≤ length text → (get_or text (length text - 1) 0 == 10) ≡ true → IsText text
ends-text text some is =
    let k = length text - 1 in
    let place : k + 1 ≡ length text = omega (arith, some) in
    let whole : text ≡ take k text ++ 10 ∷ [] =
    sym (take_all (k + 1) text (omega (arith, place))) ∙ take_more text k 0 (omega (arith, place)) ∙ ap (λ b. take k text ++ b ∷ []) (eqb-true (get_or text k 0) 10 is) in
    subst IsText (sym whole) (text-whole (take k text))

-- the line that is reached
pub record IsNext (lines : List (List ℕ)) (count : ℕ) (line : List ℕ) (rest : List (List ℕ)) : Type 0 where
  pub below : count < length lines
  pub here : get_or lines count [] ≡ line
  pub so_far : take (count + 1) lines ≡ take count lines ++ line ∷ []
  pub left : drop (count + 1) lines ≡ rest

pub next-is : (lines : List (List ℕ)) (count : ℕ) (line : List ℕ) (rest : List (List ℕ)) → drop count lines ≡ line ∷ rest → IsNext lines count line rest
next-is lines count line rest e =
    let size = ap length e in
    let below : count < length lines = omega (arith, size, length-drop count lines) in
    let both = sym (drop_more lines count [] below) ∙ e in
    let here : get_or lines count [] ≡ line = ap (λ t. get_or t 0 []) both in
    record { below = below; here = here; so_far = take_more lines count [] below ∙ ap (λ l. take count lines ++ l ∷ []) here; left = ap (λ t. drop 1 t) both }

-- one line more, without a fault
pub good-push : (r : Repeats) (n : ℕ) (before lines : List (List ℕ)) (line : List ℕ) → first_fault r n before lines ≡ None → cause_of r (before ++ lines) line ≡ None
    → first_fault r n before (lines ++ line ∷ []) ≡ None
good-push r n before [] line good none = ap (λ c. fault_or n c None) (ap (λ b. cause_of r b line) (sym (append-nil before)) ∙ none)
good-push r n before (l ∷ lines) line good none =
    let both = fault_or-none n (cause_of r before l) _ good in
    ap (λ c. fault_or n c (first_fault r (suc n) (before ++ l ∷ []) (lines ++ line ∷ []))) both.0
    ∙ good-push r (suc n) (before ++ l ∷ []) lines line both.1 (ap (λ b. cause_of r b line) (append_assoc before (l ∷ []) lines) ∙ none)

-- the blank lines are those of the blank kind
pub blank-kind : (line : List ℕ) → is_blank line ≡ true → kind_of line ≡ kinds.Blank
blank-kind line e = cond-true _ _ _ e

pub not-blank : (line : List ℕ) → (kind_of line ≡ kinds.Blank → ⊥) → is_blank line ≡ false
not-blank line other = ⊎_elim (λ is. absurd (other (blank-kind line is))) (λ (not_so : is_blank line ≡ false). not_so) (cases_Bool (is_blank line))

-- ---- fields, one line more

pub continued-field : (xs more : List (List ℕ)) (line : List ℕ) → continues (kind_of line) ≡ false → continued (xs ++ line ∷ more) ≡ continued xs
continued-field [] more line other = cond-false _ _ _ other
continued-field (x ∷ xs) more line other = ap (λ t. cond (continues (kind_of x)) (10 ∷ (x ++ t)) []) (continued-field xs more line other)

field_at-before : (i : ℕ) (kind : LineKind) (x : List ℕ) (xs more : List (List ℕ)) (line : List ℕ) → continues (kind_of line) ≡ false
    → field_at i kind x (xs ++ line ∷ more) ≡ field_at i kind x xs
field_at-before i (kinds.Field n) x xs more line other = ap (λ t. (record { line = i; name = take n x; body = value_of n x ++ t }) ∷ []) (continued-field xs more line other)
field_at-before i kinds.Blank x xs more line other = refl
field_at-before i kinds.Continuation x xs more line other = refl
field_at-before i kinds.Faulty x xs more line other = refl

-- the fields before a line that continues none are those of the lines before it
pub fields-split : (i : ℕ) (xs more : List (List ℕ)) (line : List ℕ) → continues (kind_of line) ≡ false
    → fields_from i (xs ++ line ∷ more) ≡ fields_from i xs ++ fields_from (i + length xs) (line ∷ more)
fields-split i [] more line other = let e : i ≡ i + 0 = omega arith in ap (λ k. fields_from k (line ∷ more)) e
fields-split i (x ∷ xs) more line other =
    let e : suc i + length xs ≡ i + length (x ∷ xs) = omega arith in
    ap₂ ◌++◌ (field_at-before i (kind_of x) x xs more line other) (fields-split (suc i) xs more line other)
    ∙ sym (append_assoc (field_at i (kind_of x) x xs) (fields_from (suc i) xs) (fields_from (suc i + length xs) (line ∷ more)))
    ∙ ap (λ k. field_at i (kind_of x) x xs ++ fields_from (suc i) xs ++ fields_from k (line ∷ more)) e

after-not-blank : (line : List ℕ) (o : Option ℕ) → kind_after_name line o ≡ kinds.Blank → ⊥
after-not-blank line None e = absurd cc
after-not-blank line (Some n) e = ⊎_elim
    (λ bad. absurd (cc (sym (cond-true _ _ _ bad) ∙ e)))
    (λ good. ⊎_elim
    (λ bad. absurd (cc (sym (cond-true _ _ _ bad) ∙ (sym (cond-false _ _ _ good) ∙ e))))
    (λ fine. absurd (cc (sym (cond-false _ _ _ fine) ∙ (sym (cond-false _ _ _ good) ∙ e))))
    (cases_Bool (slice_index line 0 == 35 || slice_index line 0 == 45)))
    (cases_Bool (n == 0 || not (slice_index line n == 58)))

pub blank-is : (line : List ℕ) → kind_of line ≡ kinds.Blank → is_blank line ≡ true
blank-is line e = ⊎_elim (λ (is : is_blank line ≡ true). is)
    (λ other. ⊎_elim
    (λ begins. absurd (cc (sym (cond-true _ _ _ begins) ∙ (sym (cond-false _ _ _ other) ∙ e))))
    (λ no. absurd (after-not-blank line (position (λ b. not (is_field_name_byte b)) line) (sym (cond-false _ _ _ no) ∙ (sym (cond-false _ _ _ other) ∙ e))))
    (cases_Bool (is_blank_byte (slice_index line 0))))
    (cases_Bool (is_blank line))

-- ---- the field of a line

-- a value that reaches to the end of its line
plain-end : (line value : List ℕ) (start : ℕ) → start ≤ length line → slice_range line start (length line) ≡ value → drop (length line - length value) line ≡ value
plain-end line value start le is =
    let rest : slice_range line start (length line) ≡ drop start line = take_all (length line - start) (drop start line) (omega (arith, length-drop start line)) in
    let from : length line - length value ≡ start = omega (arith, le, ap length (sym is), ap length rest, length-drop start line) in
    ap (λ n. drop n line) from ∙ sym rest ∙ is

-- the field whose body stands in one piece
pub plain-is : (bytes : List ℕ) (here : LineHere) (n a b m : ℕ) → StandsAt bytes here.at (here.line.now ++ 10 ∷ here.behind.now) → IsText here.behind.now → n < length here.line.now → a ≤ b → b ≤ length here.line.now
    → slice_range here.line.now a b ≡ value_of n here.line.now → m ≡ length (continued (lines_of here.behind.now)) → (m ≡ 0) ⊎ (b ≡ length here.line.now)
    → IsPlainField bytes here n (record { line = here.index; name = record { start = here.at; end = here.at + n }; body = record { start = here.at + a; end = here.at + b + m } })
plain-is bytes here n a b m stands is_text lt le in_line is size ends =
    let line = here.line.now in
    let behind = lines_of here.behind.now in
    let at = here.at in
    let stands_lines : StandsAt bytes at (line ++ 10 ∷ text_of_lines behind) = subst (λ t. StandsAt bytes at (line ++ 10 ∷ t)) is_text stands in
    let round = stands-round bytes line at behind stands_lines in
    let tail = 10 ∷ (text_of_lines behind ++ round.rest) in
    let nothing_more : at + 0 ≡ at = omega arith in
    let whole_name : n - 0 ≡ n = omega arith in
    let name : take (at + n - at) (drop at bytes) ≡ take n line =
    ap (λ t. take (at + n - at) (drop at t)) round.whole
    ∙ ap (λ k. take (at + n - k) (drop k (round.front ++ (line ++ tail)))) (sym nothing_more)
    ∙ within_line round.front line tail at 0 n round.front_len (omega arith) (omega (arith, lt)) ∙ ap (λ k. take k line) whole_name in
    let body = body-within bytes line (value_of n line) at a b m behind stands_lines le in_line is size ends in
    record {
      shows = ap₂ (λ (x y : List ℕ). record { line = here.index; name = x; body = y }) name body.part_is;
      up_to = ((omega arith, omega (arith, lt)), (omega (arith, le), omega (arith, in_line, size)));
      plain = ⊎_elim (λ (none : m ≡ 0). inl (sym size ∙ none))
          (λ (end : b ≡ length line). inr (plain-end line (value_of n line) a (omega (arith, le, in_line)) (ap (slice_range line a) (sym end) ∙ is))) ends;
    }

-- a field that was pushed
pub adds-field : (bytes : List ℕ) (here : LineHere) (n : ℕ) (field : Field) (old new : List Field) → kind_of here.line.now ≡ kinds.Field n → IsPlainField bytes here n field → new ≡ old ++ field ∷ []
    → AddsPlain bytes here old new
adds-field bytes here n field old new is plain pushed =
    let line = here.line.now in
    let behind = lines_of here.behind.now in
    let index : field.line ≡ here.index = ap (λ f. f.line) plain.shows in
    record {
      fields = ap (shown_fields bytes) pushed ∙ map-append (shown_field bytes) old (field ∷ []) ∙ ap (λ f. shown_fields bytes old ++ f ∷ []) plain.shows
          ∙ ap (λ k. shown_fields bytes old ++ field_at here.index k line behind) (sym is);
      up_to = λ all. rw pushed (All-push (IsUpTo (end_behind here)) old field all plain.up_to);
      below = λ all. rw pushed (All-push (λ f. f.line < here.index + 1) old field all (omega (arith, index)));
      plain = rw is plain.plain;
    }

-- ---- the lines so far

-- fields whose bodies stand in one piece, before other lines
abbrev pub IsPlainFront : List (List ℕ) → List (List ℕ) → Type 0
IsPlainFront [] rest = ⊤
IsPlainFront (l ∷ ls) rest = IsPlainAt (kind_of l) l (ls ++ rest) × IsPlainFront ls rest

front-push : (ls rest : List (List ℕ)) (line : List ℕ) → IsPlainFront ls (line ∷ rest) → IsPlainAt (kind_of line) line rest → IsPlainFront (ls ++ line ∷ []) rest
front-push [] rest line front plain = (plain, _)
front-push (l ∷ ls) rest line front plain =
    (subst (IsPlainAt (kind_of l) l) (sym (append_assoc ls (line ∷ []) rest)) front.0, front-push ls rest line front.1 plain)

text-push : (ls : List (List ℕ)) (line : List ℕ) → text_of_lines (ls ++ line ∷ []) ≡ text_of_lines ls ++ (line ++ 10 ∷ [])
text-push [] line = refl
text-push (l ∷ ls) line = ap (λ t. l ++ 10 ∷ t) (text-push ls line) ∙ sym (append_assoc l (10 ∷ text_of_lines ls) (line ++ 10 ∷ []))

-- so many lines of a text are accepted, and these are their fields; what is left comes behind them
pub record Reached (text left : List ℕ) (count : ℕ) (fields : List Field) : Type 0 where
  pub is_text : IsText left
  pub joined : text ≡ text_of_lines (take count (lines_of text)) ++ left
  pub left_is : drop count (lines_of text) ≡ lines_of left
  pub size : count ≤ length (lines_of text)
  pub good : first_fault Never 0 [] (take count (lines_of text)) ≡ None
  pub other : AreOther (take count (lines_of text))
  pub single : AreSingle (take count (lines_of text))
  pub told : shown_fields text fields ++ fields_from count (lines_of left) ≡ fields_of_lines (lines_of text)
  pub up_to : AreUpTo (length text - length left + length (continued (lines_of left))) fields
  pub below : AreBelow count fields
  pub plain : IsPlainFront (take count (lines_of text)) (lines_of left)

-- the place that is reached
pub reached-at : (text left : List ℕ) (count : ℕ) (fields : List Field) → Reached text left count fields → (count + length left ≤ length text) × (length (text_of_lines (take count (lines_of text))) ≡ length text - length left)
reached-at text left count fields is =
    let front = text_of_lines (take count (lines_of text)) in
    let whole : length text ≡ length front + length left = ap length is.joined ∙ length-append front left in
    let lines = length-text_of_lines (take count (lines_of text)) in
    let size = length-take-le count (lines_of text) is.size in
    (omega (arith, whole, lines, size), omega (arith, whole))

-- one line more
pub reached-next : (text left : List ℕ) (here : LineHere) (old new : List Field) → Reached text left here.index old → here.at ≡ length text - length left → lines_of left ≡ here.line.now ∷ lines_of here.behind.now
    → (length here.line.now < length left → left ≡ here.line.now ++ 10 ∷ here.behind.now) → IsLine here.line.now → is_blank here.line.now ≡ false → cause_of Never (take here.index (lines_of text)) here.line.now ≡ None
    → ((bytes : List ℕ) → StandsAt bytes here.at (here.line.now ++ 10 ∷ here.behind.now) → AddsPlain bytes here old new)
    → Reached text here.behind.now (here.index + 1) new
reached-next text left here old new is at_is lines first single other cause adding =
    let ls = lines_of text in
    let n = here.index in
    let line = here.line.now in
    let behind = here.behind.now in
    let front = text_of_lines (take n ls) in
    let part = line ++ 10 ∷ behind in
    let next = next-is ls n line (lines_of behind) (is.left_is ∙ lines) in
    let cut = text-behind left line behind is.is_text lines first in
    let reached = reached-at text left n old is in
    let place : here.at ≡ length front + 0 = omega (arith, at_is, reached.1) in
    let stands : StandsAt text here.at part =
    ap (λ t. take (length part) (drop here.at t)) is.joined ∙ ap (λ k. take (length part) (drop k (front ++ left))) place
    ∙ ap (take (length part)) (drop-append-add front left 0) ∙ ap (take (length part)) cut.0 ∙ take_all (length part) part (omega arith) in
    let adds = adding text stands in
    let left_len : length left ≡ length line + 1 + length behind = omega (arith, ap length cut.0, length-append line (10 ∷ behind)) in
    let end : end_behind here ≡ length text - length behind + length (continued (lines_of behind)) = omega (arith, at_is, left_len, reached.0) in
    let up : length text - length left + length (continued (lines_of left)) ≤ end_behind here =
    omega (arith, at_is, ap (λ t. length (continued t)) lines, continued-up line (lines_of behind)) in
    let told = fields-turn ls line text (shown_fields text old) new n (fields_of_lines ls) next.below next.here
    (adds.fields ∙ ap (λ t. shown_fields text old ++ field_at n (kind_of line) line t) (sym next.left)) (ap (λ t. shown_fields text old ++ fields_from n t) is.left_is ∙ is.told) in
    record {
      is_text = cut.1;
      joined = is.joined ∙ ap (λ t. front ++ t) (cut.0 ∙ sym (append_assoc line (10 ∷ []) behind)) ∙ sym (append_assoc front (line ++ 10 ∷ []) behind)
          ∙ ap (λ t. t ++ behind) (sym (ap text_of_lines next.so_far ∙ text-push (take n ls) line));
      left_is = next.left;
      size = omega (arith, next.below);
      good = ap (first_fault Never 0 []) next.so_far ∙ good-push Never 0 [] (take n ls) line is.good cause;
      other = rw next.so_far (other-push (take n ls) line is.other other);
      single = rw next.so_far (single-push (take n ls) line is.single single);
      told = ap (λ t. shown_fields text new ++ fields_from (n + 1) t) (sym next.left) ∙ told;
      up_to = subst (λ e. AreUpTo e new) end (adds.up_to (up_to-more old _ _ up is.up_to));
      below = adds.below (below-more old n is.below);
      plain = subst (λ ls. IsPlainFront ls (lines_of behind)) (sym next.so_far) (front-push (take n ls) (lines_of behind) line (subst (IsPlainFront (take n ls)) lines is.plain) adds.plain);
    }
  where
    up_to-more : (fields : List Field) (a b : ℕ) → a ≤ b → AreUpTo a fields → AreUpTo b fields
    up_to-more fields a b le all = λ k d lt. let one = all k d lt in ((one.0.0, omega (arith, le, one.0.1)), (one.1.0, omega (arith, le, one.1.1)))

    below-more : (fields : List Field) (n : ℕ) → AreBelow n fields → AreBelow (n + 1) fields
    below-more fields n all = λ k d lt. omega (arith, all k d lt)

-- ---- the stanza's end

-- what begins a gap continues no field
gap-continues : (rest : List (List ℕ)) → StartsGap rest → continued rest ≡ []
gap-continues [] gap = refl
gap-continues (l ∷ ls) gap = cond-false _ _ _ (ap continues (blank-kind l gap))

-- the fields before it are those of the lines before it
fields-cut : (ls rest : List (List ℕ)) → StartsGap rest → fields_from 0 (ls ++ rest) ≡ fields_from 0 ls ++ fields_from (0 + length ls) rest
fields-cut ls [] gap = ap (fields_from 0) (append-nil ls) ∙ sym (append-nil (fields_from 0 ls))
fields-cut ls (l ∷ rest) gap = fields-split 0 ls rest l (ap continues (blank-kind l gap))

continued-cut : (ls rest : List (List ℕ)) → StartsGap rest → continued (ls ++ rest) ≡ continued ls
continued-cut ls [] gap = ap continued (append-nil ls)
continued-cut ls (l ∷ rest) gap = continued-field ls rest l (ap continues (blank-kind l gap))

plain-cut : (kind : LineKind) (line : List ℕ) (ls rest : List (List ℕ)) → continued (ls ++ rest) ≡ continued ls → IsPlainAt kind line (ls ++ rest) → IsPlainAt kind line ls
plain-cut (kinds.Field n) line ls rest e plain = ⊎_elim (λ none. inl (ap length (sym e) ∙ none)) (λ ends. inr ends) plain
plain-cut kinds.Blank line ls rest e plain = plain
plain-cut kinds.Continuation line ls rest e plain = plain
plain-cut kinds.Faulty line ls rest e plain = plain

are_plain : (ls rest : List (List ℕ)) → StartsGap rest → IsPlainFront ls rest → ArePlain ls
are_plain [] rest gap front = _
are_plain (l ∷ ls) rest gap front = (plain-cut (kind_of l) l ls rest (continued-cut ls rest gap) front.0, are_plain ls rest gap front.1)

gap-other : (ls : List (List ℕ)) → 0 < length ls → AreOther ls → is_gap ls ≡ false
gap-other [] some other = absurd (omega (arith, some))
gap-other (l ∷ ls) some other = other.0

pub reached-end : (text left : List ℕ) (count : ℕ) (fields : List Field) (found : Accepted) → Reached text left count fields → StartsGap (lines_of left) → IsCutOff text left count found → IsAccepted text found fields
reached-end text left count fields found is gap cut =
    let ls = lines_of text in
    let lines = take count ls in
    let front = text_of_lines lines in
    let reached = reached-at text left count fields is in
    let size : length lines ≡ count = length-take-le count ls is.size in
    let whole : ls ≡ lines ++ lines_of left = sym (take-append-drop count ls) ∙ ap (λ t. lines ++ t) is.left_is in
    let text_is : found.text.now ≡ front =
    cut.text_is ∙ ap (λ n. take n text) (sym reached.1) ∙ ap (take (length front)) is.joined ∙ take-append_seam front left in
    let lines_are : lines_of front ≡ lines = are_lines lines is.single in
    let same : lines_of found.text.now ≡ lines = ap lines_of text_is ∙ lines_are in
    let left_is : lines_of left ≡ lines_of found.behind.now = ap lines_of (sym cut.behind_is) in
    let some : 0 < length lines = omega (arith, size, cut.some) in
    let from_here : 0 + length lines ≡ count = omega (arith, size) in
    let end : length text - length left + length (continued (lines_of left)) ≡ length front = omega (arith, reached.1, ap length (gap-continues (lines_of left) gap)) in
    let within : AreWithin front fields = subst (λ e. AreUpTo e fields) end is.up_to in
    let told : shown_fields front fields ++ fields_from count (lines_of left) ≡ fields_of_lines lines ++ fields_from count (lines_of left) =
    ap (λ t. t ++ fields_from count (lines_of left)) (sym (ap (λ t. shown_fields t fields) is.joined ∙ fields-grow front left fields within)) ∙ is.told
    ∙ ap fields_of_lines whole ∙ fields-cut lines (lines_of left) gap ∙ ap (λ k. fields_from 0 lines ++ fields_from k (lines_of left)) from_here in
    let shown : shown_fields front fields ≡ fields_of_lines lines = append_cancel_right (shown_fields front fields) (fields_of_lines lines) (fields_from count (lines_of left)) told in
    let read : IsReadFrom front (length front) fields =
    read_from 0 (length front) lines front front fields refl (omega (arith, reached.1, cut.small)) refl lines_are
    (nothing-added front (loose_bodies lines) (plain-nothing lines (are_plain lines (lines_of left) gap is.plain))) within shown is.good in
    record {
      some = omega (arith, cut.some, cut.count_is);
      count = cut.count_is ∙ sym size ∙ ap length (sym same);
      first = subst (λ l. IsFirstPiece ls l (lines_of found.behind.now)) (sym same) (subst (IsFirstPiece ls lines) left_is (pieces-run lines (lines_of left) ls whole some is.other gap));
      stanza = ap is_gap same ∙ gap-other lines some is.other;
      read = subst (λ t. IsReadFrom t (length t) fields) (sym text_is) read;
      below = subst (λ k. AreBelow k fields) (sym cut.count_is) is.below;
      room = ap length whole ∙ length-append lines (lines_of left) ∙ ap₂ ◌+◌ (size ∙ sym cut.count_is) (ap length left_is);
      less = omega (arith, ap length cut.behind_is, reached.0, cut.some);
    }

-- its lines are those up to there
reached-lines : (text left : List ℕ) (count : ℕ) (fields : List Field) (found : Accepted) → Reached text left count fields → IsCutOff text left count found → lines_of found.text.now ≡ take count (lines_of text)
reached-lines text left count fields found is cut =
    let lines = take count (lines_of text) in
    let front = text_of_lines lines in
    let text_is : found.text.now ≡ front =
    cut.text_is ∙ ap (λ n. take n text) (sym (reached-at text left count fields is).1) ∙ ap (take (length front)) is.joined ∙ take-append_seam front left in
    ap lines_of text_is ∙ are_lines lines is.single

pub names-if : (text left : List ℕ) (count names : ℕ) (fields : List Field) (found : Option Accepted) → Reached text left count fields → AreTakenBy (take count (lines_of text)) names
    → IfSome found (λ stanza. IsCutOff text left count stanza) → IfSome found (λ stanza. stanza.names ≡ names) → IfSome found (λ stanza. AreTakenBy (lines_of stanza.text.now) stanza.names)
names-if text left count names fields None is taken cut same = cut
names-if text left count names fields (Some stanza) is taken cut same =
    subst (λ lines. AreTakenBy lines stanza.names) (sym (reached-lines text left count fields stanza is cut)) (subst (AreTakenBy (take count (lines_of text))) (sym same) taken)

pub end-if : (text left : List ℕ) (count : ℕ) (fields : List Field) (found : Option Accepted) → Reached text left count fields → StartsGap (lines_of left) → IfSome found (λ stanza. IsCutOff text left count stanza)
    → IfSome found (λ stanza. IsAccepted text stanza fields)
end-if text left count fields None is gap cut = cut
end-if text left count fields (Some stanza) is gap cut = reached-end text left count fields stanza is gap cut

-- ---- what an accepted stanza is read to

-- it has no faulty line: its fault is that of the whole
pub accepted-fault : (kind : ListKind) (n : ℕ) (text : List ℕ) (fields : List Field) → IsReadFrom text (length text) fields → is_gap (lines_of text) ≡ false
    → piece_fault kind (piece n (lines_of text)) ≡ whole_fault kind n (shown_fields text fields)
accepted-fault kind n text fields read stanza =
    let whole : take (length text) text ≡ text = take_all (length text) text (omega arith) in
    let good : first_fault Never n [] (lines_of text) ≡ None = first_fault-none Never 0 n [] (lines_of text) (ap (λ t. first_fault Never 0 [] (lines_of t)) (sym whole) ∙ read.good_lines) in
    cond-false _ _ _ stanza ∙ ap (λ o. or_else o (whole_fault kind n (fields_of_lines (lines_of text)))) good
    ∙ ap (λ t. whole_fault kind n (fields_of_lines (lines_of t))) (sym whole) ∙ ap (whole_fault kind n) (sym read.fields_are.fields_are)
