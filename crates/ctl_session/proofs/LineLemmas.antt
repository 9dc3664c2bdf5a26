-- The lines of a source, byte by byte.
use Rattle.std.proofs.Common.{◌≡◌, ℕ, ◌+◌, ◌<◌, List, [], ◌∷◌, ◌++◌, Option, take, length, refl, arith, ap, zero, suc, true, false, Bool, inl, inr}
use Rattle.std.specs.Io.KnownBytes.{Consumes}
use Rattle.std.proofs.Common.{nat_lt, ◌^◌, ◌≤◌}
use Rattle.std.proofs.KnownBytes.{Consumes-trans}
use Rattle.std.proofs.lemmas.List.{take_all, length-append}
use Rattle.std.specs.Io.KnownBytes.{IsAtEnd, prepend_known}
use Rattle.std.proofs.Common.{append_assoc, append-nil, subst, sym, ◌∙◌, eqb, drop, ◌-◌, Some, None}
use Rattle.std.proofs.lemmas.List.{length-take, drop-drop, drop-take}
use Rattle.std.proofs.lemmas.Bool.{eqb-true}
use Rattle.std.proofs.Math.Seq.{take-append-add}
use Rattle.bstr.specs.Find.{Nowhere, NoneBefore, Passes, is_byte}
use Rattle.ctl_session.specs.declared.read_ahead.LineRead.{LineRead}
use Rattle.ctl_session.specs.LineReading.{TakesPiece, newline_if, IsOneLine, TakesLine, StopsInLine, StopsAfter}
use Rattle.ctl_session.specs.declared.fault.ReadingFault.{ReadingFault}
use Rattle.ctl_session.specs.declared.fault.ReadingFault.TheVariants.{ReadFailed, TooManyLines}
use Rattle.std.proofs.lemmas.Bool.{ltb-true, ltb-false}
use Rattle.ctl_stanza.specs.Lines.{max_line, lines_of}
use Rattle.ctl_session.proofs.ScriptLemmas.{lines_of-last}

length-take-of : (k : ℕ) (xs : List ℕ) → k < length xs → length (take k xs) ≡ k
length-take-of k xs short = let e = length-take k xs in omega arith

-- the first bytes of those read ahead are taken out
pub skipped : (part now : List ℕ) (start end count : ℕ) → take (end - start) (drop start part) ≡ now → start ≤ end → count ≤ length now → take (end - (start + count)) (drop (start + count) part) ≡ drop count now
skipped part now start end count view ordered within =
    let size = ap length view in
    let most = length-take (end - start) (drop start part) in
    let wide : count + (end - (start + count)) ≡ end - start = omega arith in
    ap (take (end - (start + count))) (sym (drop-drop count start part)) ∙ sym (drop-take count (end - (start + count)) (drop start part)) ∙
    ap (λ k. drop count (take k (drop start part))) wide ∙ ap (drop count) view

-- the search for a newline
no_newline : (text : List ℕ) → Nowhere (Passes (is_byte 10) text) 0 (length text) → IsOneLine text
no_newline [] nowhere = tt
no_newline (b ∷ text) nowhere = (λ e. nowhere 0 (omega arith) (omega arith) (ap (λ x. eqb x 10) e), no_newline text (λ k low high found. nowhere (suc k) (omega arith) (omega arith) found))

before_newline : (k : ℕ) (text : List ℕ) → k < length text → Nowhere (Passes (is_byte 10) text) 0 k → Passes (is_byte 10) text k → IsOneLine (take k text) × (text ≡ (take k text ++ 10 ∷ []) ++ drop (suc k) text)
before_newline k [] short nowhere found = absurd (omega arith)
before_newline zero (b ∷ text) short nowhere found = (tt, ap (λ x. x ∷ text) (eqb-true b 10 found))
before_newline (suc k) (b ∷ text) short nowhere found =
    let more = before_newline k text (omega arith) (λ i low high at. nowhere (suc i) (omega arith) (omega arith) at) found in
    ((λ e. nowhere 0 (omega arith) (omega arith) (ap (λ x. eqb x 10) e), more.0), ap (λ t. b ∷ t) more.1)

-- a piece up to a newline
pub takes_before : (pending slice piece pending' line line' : List ℕ) (read : LineRead) (k : ℕ) → slice ≡ pending → NoneBefore (Passes (is_byte 10) slice) 0 (length slice) k × Passes (is_byte 10) slice k →
    piece ≡ take k slice → pending' ≡ drop (k + 1) pending → line' ≡ take max_line (line ++ piece) → read.count ≡ k → read.newline ≡ true → TakesPiece pending pending' line line' read
takes_before pending slice piece pending' line line' read k same found is after kept counts newline =
    let cut = before_newline k slice found.0.high found.0.before found.1 in
    let split : slice ≡ (take k slice ++ 10 ∷ []) ++ drop (suc k) slice = cut.1 in
    let number : k + 1 ≡ suc k = omega arith in
    record {
      piece = piece;
      one = subst IsOneLine (sym is) cut.0;
      split = sym same ∙ split ∙ ap (λ p. (p ++ 10 ∷ []) ++ drop (suc k) slice) (sym is) ∙ ap (λ b. (piece ++ newline_if b) ++ drop (suc k) slice) (sym newline) ∙
          ap (λ t. (piece ++ newline_if read.newline) ++ drop (suc k) t) same ∙ ap (λ n. (piece ++ newline_if read.newline) ++ drop n pending) (sym number) ∙ ap (λ t. (piece ++ newline_if read.newline) ++ t) (sym after);
      count = counts ∙ sym (ap length is ∙ length-take-of k slice found.0.high);
      kept = kept;
      rest = λ bad. absurd (let no : true ≡ false = sym newline ∙ bad in cc no);
    }

-- all that was read ahead
pub takes_all : (pending slice piece pending' line line' : List ℕ) (read : LineRead) → slice ≡ pending → Nowhere (Passes (is_byte 10) slice) 0 (length slice) →
    piece ≡ pending → pending' ≡ [] → line' ≡ take max_line (line ++ piece) → read.count ≡ length piece → read.newline ≡ false → TakesPiece pending pending' line line' read
takes_all pending slice piece pending' line line' read same nowhere is after kept counts newline = record {
  piece = piece;
  one = subst IsOneLine (same ∙ sym is) (no_newline slice nowhere);
  split = sym is ∙ sym (append-nil piece) ∙ sym (append-nil (piece ++ [])) ∙ ap (λ b. (piece ++ newline_if b) ++ []) (sym newline) ∙ ap (λ p. (piece ++ newline_if read.newline) ++ p) (sym after);
  count = counts;
  kept = kept;
  rest = λ _. after;
}

-- a line that is being read: these bytes of it came so far
pub record Reading (old new : Option (List ℕ)) (buffer : List ℕ) (count : ℕ) (got : List ℕ) : Type 0 where
  pub one : IsOneLine got
  pub took : Consumes old new got
  pub counted : count ≡ length got
  pub front : buffer ≡ take max_line got

-- the front of a list can be cut before something goes after it
pub take_front : (n : ℕ) (xs ys : List ℕ) → take n (take n xs ++ ys) ≡ take n (xs ++ ys)
take_front zero xs ys = refl
take_front (suc n) [] ys = refl
take_front (suc n) (x ∷ xs) ys = ap (λ l. x ∷ l) (take_front n xs ys)

-- bytes go into a buffer that has room for them, and as many as it has room for
pub keeps_all : (n : ℕ) (xs ys : List ℕ) → length xs + length ys ≤ n → xs ++ ys ≡ take n (xs ++ ys)
keeps_all n xs ys short = sym (take_all n (xs ++ ys) (omega (arith, length-append xs ys)))

pub keeps_front : (n : ℕ) (xs ys : List ℕ) → length xs ≤ n → xs ++ take (n - length xs) ys ≡ take n (xs ++ ys)
keeps_front n xs ys short = let whole : length xs + (n - length xs) ≡ n = omega arith in
    sym (take-append-add xs ys (n - length xs)) ∙ ap (λ k. take k (xs ++ ys)) whole

pub one_line_append : (bytes more : List ℕ) → IsOneLine bytes → IsOneLine more → IsOneLine (bytes ++ more)
one_line_append [] more one next = next
one_line_append (x ∷ bytes) more one next = (one.0, one_line_append bytes more one.1 next)

-- what was taken from the bytes read ahead was taken from what is to come
pub takes_ahead : (known : Option (List ℕ)) (pending pending' bytes : List ℕ) → pending ≡ bytes ++ pending' → Consumes (prepend_known pending known) (prepend_known pending' known) bytes
takes_ahead None pending pending' bytes split = tt
takes_ahead (Some xs) pending pending' bytes split = ap (λ p. p ++ xs) split ∙ append_assoc bytes pending' xs

-- nothing more of a line, and then its next piece
pub reads_piece : (old mid next new : Option (List ℕ)) (buffer buffer' pending pending' : List ℕ) (count : ℕ) (read : LineRead) (got : List ℕ) → Reading old mid buffer count got →
    Consumes mid next [] → (takes : TakesPiece pending pending' buffer buffer' read) → Consumes next new (takes.piece ++ newline_if read.newline) → read.newline ≡ false →
    Reading old new buffer' (count + read.count) (got ++ takes.piece)
reads_piece old mid next new buffer buffer' pending pending' count read got reading none takes took newline = record {
  one = one_line_append got takes.piece reading.one takes.one;
  took = Consumes-trans old next new got takes.piece (subst (λ t. Consumes old next t) (append-nil got) (Consumes-trans old mid next got [] reading.took none))
      (subst (λ t. Consumes next new t) (ap (λ b. takes.piece ++ newline_if b) newline ∙ append-nil takes.piece) took);
  counted = omega (arith, reading.counted, takes.count, length-append got takes.piece);
  front = takes.kept ∙ ap (λ b. take max_line (b ++ takes.piece)) reading.front ∙ take_front max_line got takes.piece;
}

-- a line that a newline ends
pub ends_by_newline : (old mid next new : Option (List ℕ)) (buffer buffer' pending pending' : List ℕ) (count : ℕ) (read : LineRead) (got : List ℕ) → Reading old mid buffer count got →
    Consumes mid next [] → (takes : TakesPiece pending pending' buffer buffer' read) → Consumes next new (takes.piece ++ newline_if read.newline) → read.newline ≡ true → count + read.count < 2 ^ 32 →
    TakesLine old new buffer' (got ++ takes.piece) (record { count = count + read.count; newline = true })
ends_by_newline old mid next new buffer buffer' pending pending' count read got reading none takes took newline fits =
    let before = subst (λ t. Consumes old next t) (append-nil got) (Consumes-trans old mid next got [] reading.took none) in
    let after = Consumes-trans old next new got (takes.piece ++ newline_if read.newline) before took in
    record {
      one = one_line_append got takes.piece reading.one takes.one;
      took = subst (λ t. Consumes old new t) (ap (λ b. got ++ (takes.piece ++ newline_if b)) newline ∙ sym (append_assoc got takes.piece (10 ∷ []))) after;
      count = omega (arith, reading.counted, takes.count, length-append got takes.piece);
      front = takes.kept ∙ ap (λ b. take max_line (b ++ takes.piece)) reading.front ∙ take_front max_line got takes.piece;
      last = λ bad. absurd (cc bad);
      short = omega (arith, reading.counted, takes.count, length-append got takes.piece);
    }

-- a piece has a byte, or its newline
pub piece_some : (pending pending' buffer buffer' : List ℕ) (read : LineRead) → (takes : TakesPiece pending pending' buffer buffer' read) → 0 < length pending → 0 < length (takes.piece ++ newline_if read.newline)
piece_some pending pending' buffer buffer' read takes some = by_newline read.newline refl
  where
    by_newline : (b : Bool) → read.newline ≡ b → 0 < length (takes.piece ++ newline_if read.newline)
    by_newline true e = rw e (omega (arith, length-append takes.piece (10 ∷ [])))
    by_newline false e = let all = takes.split ∙ ap (λ p. (takes.piece ++ newline_if read.newline) ++ p) (takes.rest e) ∙ append-nil (takes.piece ++ newline_if read.newline) in
        let same = ap length all in omega arith

-- a piece without a newline has a byte
pub piece_counts : (pending pending' buffer buffer' : List ℕ) (read : LineRead) → (takes : TakesPiece pending pending' buffer buffer' read) → 0 < length pending → read.newline ≡ false → 0 < read.count
piece_counts pending pending' buffer buffer' read takes some newline =
    let has = piece_some pending pending' buffer buffer' read takes some in
    let whole : takes.piece ++ newline_if read.newline ≡ takes.piece = ap (λ b. takes.piece ++ newline_if b) newline ∙ append-nil takes.piece in
    let same = ap length whole in omega (arith, takes.count)

-- a line that the end of the input ends
pub ends_at_end : (old mid new : Option (List ℕ)) (buffer : List ℕ) (count : ℕ) (got : List ℕ) → Reading old mid buffer count got →
    count < 2 ^ 32 → Consumes mid new [] → IsAtEnd new → (count ≡ 0 → ⊥) → TakesLine old new buffer got (record { count = count; newline = false })
ends_at_end old mid new buffer count got reading fits next end some = record {
  one = reading.one;
  took = Consumes-trans old mid new got [] reading.took next;
  count = reading.counted;
  front = reading.front;
  last = λ _. (end, omega (arith, reading.counted));
  short = omega (arith, reading.counted);
}

-- a byte of a line that isn't allowed
pub stops_unallowed : (old mid next new : Option (List ℕ)) (buffer buffer' pending pending' : List ℕ) (count : ℕ) (read : LineRead) (got : List ℕ) (allowed : Bool) → Reading old mid buffer count got →
    Consumes mid next [] → (takes : TakesPiece pending pending' buffer buffer' read) → Consumes next new (takes.piece ++ newline_if read.newline) → 0 < length pending → allowed ≡ false →
    StopsInLine old new allowed TooManyLines
stops_unallowed old mid next new buffer buffer' pending pending' count read got allowed reading none takes took some refused =
    let before = subst (λ t. Consumes old next t) (append-nil got) (Consumes-trans old mid next got [] reading.took none) in
    let after = Consumes-trans old next new got (takes.piece ++ newline_if read.newline) before took in
    let has = piece_some pending pending' buffer buffer' read takes some in (
      got ++ (takes.piece ++ newline_if read.newline),
      [],
      subst (λ t. Consumes old new t) (sym (append-nil (got ++ (takes.piece ++ newline_if read.newline)))) after,
      inl (refused, omega (arith, length-append got (takes.piece ++ newline_if read.newline))),
    )

-- too many bytes of one line
pub stops_long : (old mid next new : Option (List ℕ)) (buffer buffer' pending pending' : List ℕ) (count : ℕ) (read : LineRead) (got : List ℕ) (allowed : Bool) → Reading old mid buffer count got →
    Consumes mid next [] → (takes : TakesPiece pending pending' buffer buffer' read) → Consumes next new (takes.piece ++ newline_if read.newline) → 2 ^ 32 ≤ count + read.count → allowed ≡ true →
    StopsInLine old new allowed TooManyLines
stops_long old mid next new buffer buffer' pending pending' count read got allowed reading none takes took long open_to =
    let before = subst (λ t. Consumes old next t) (append-nil got) (Consumes-trans old mid next got [] reading.took none) in
    let after = Consumes-trans old next new got (takes.piece ++ newline_if read.newline) before took in (
      got ++ takes.piece,
      newline_if read.newline,
      subst (λ t. Consumes old new t) (sym (append_assoc got takes.piece (newline_if read.newline))) after,
      inr (open_to, one_line_append got takes.piece reading.one takes.one, omega (arith, reading.counted, takes.count, length-append got takes.piece)),
    )

-- the same, at an equal limit
pub stops_after_same : (old new : Option (List ℕ)) (number max first : ℕ) (fault : ReadingFault) → max ≡ first → StopsAfter old new number max fault → StopsAfter old new number first fault
stops_after_same old new number max first fault same stops = subst (λ m. StopsAfter old new number m fault) same stops

-- the part of a line is one line more at most, and has a byte only where there may be one more
part_within : (part : List ℕ) (number max : ℕ) → IsOneLine part → number ≤ max → (0 < length part → number < max) →
    number + length (lines_of part) ≤ max
part_within [] number max one within more = let none : length (lines_of []) ≡ 0 = refl in omega (arith, within, none)
part_within (b ∷ part) number max one within more =
    let some : 0 < length (b ∷ part) = omega arith in
    let short = more some in
    let single : length (lines_of (b ∷ part)) ≡ 1 = ap length (lines_of-last (b ∷ part) one some) in
    omega (arith, short, single)

-- a read failed in a line, behind a byte of it only where it is allowed
pub stops_in_read : (old mid new : Option (List ℕ)) (buffer : List ℕ) (count : ℕ) (got : List ℕ) (allowed : Bool) →
    Reading old mid buffer count got → count < 2 ^ 32 → (0 < count → allowed ≡ true) → Consumes mid new [] →
    StopsInLine old new allowed ReadFailed
stops_in_read old mid new buffer count got allowed reading fits some none = (
  got,
  reading.one,
  subst (λ t. Consumes old new t) (append-nil got) (Consumes-trans old mid new got [] reading.took none),
  omega (arith, reading.counted),
  λ has. some (omega (arith, reading.counted)),
)

-- where a line isn't allowed, there are as many as there may be
pub stops_after : (fault : ReadingFault) (old new : Option (List ℕ)) (number max : ℕ) → number ≤ max → StopsInLine old new (nat_lt number max) fault → StopsAfter old new number max fault
stops_after ReadFailed old new number max within stops = (
  stops.0,
  stops.1,
  stops.2,
  stops.3,
  part_within stops.0 number max stops.1 within (λ some. ltb-true number max (stops.4 some)),
)
stops_after TooManyLines old new number max within stops = elim stops.3 [
  | inl h ↦ let full : max ≤ number = ltb-false number max h.0 in let same : number ≡ max = omega arith in (stops.0, stops.1, stops.2, inl (same, h.1))
  | inr h ↦ let short : number < max = ltb-true number max h.0 in (stops.0, stops.1, stops.2, inr (short, h.1, h.2))
]
