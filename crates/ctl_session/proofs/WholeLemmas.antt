-- Lines that were given whole.
use Rattle.std.proofs.Common.{◌≡◌, ℕ, ◌+◌, ◌<◌, ◌^◌, List, [], ◌∷◌, ◌++◌, Bool, true, false, Option, None, Some, length, refl, sym, ◌∙◌, ap, arith, append_assoc, append-nil, subst}
use Rattle.std.proofs.lemmas.List.{length-append}
use Rattle.std.specs.Io.KnownBytes.{Consumes}
use Rattle.ctl_stanza.specs.Lines.{lines_of, text_of_lines}
use Rattle.ctl_session.specs.LineReading.{IsOneLine, newline_if}
use Rattle.ctl_session.specs.Script.{AreLines, whole_lines_of}
use Rattle.ctl_session.specs.Reading.{WholeLines, CountsLines}
use Rattle.ctl_session.proofs.ScriptLemmas.{not_eq, lines_of-newline, lines_of-last}

text_of_lines-append : (front back : List (List ℕ)) → text_of_lines (front ++ back) ≡ text_of_lines front ++ text_of_lines back
text_of_lines-append [] back = refl
text_of_lines-append (line ∷ front) back = rw (text_of_lines-append front back) (sym (append_assoc line (10 ∷ text_of_lines front) (text_of_lines back)))

are_lines-append : (front back : List (List ℕ)) → AreLines front → AreLines back → AreLines (front ++ back)
are_lines-append [] back good more = more
are_lines-append (line ∷ front) back good more = (good.0, are_lines-append front back good.1 more)

-- no byte
pub consumes_none : (given : Option (List ℕ)) → Consumes given given []
consumes_none None = tt
consumes_none (Some bytes) = refl

pub whole_none : (number : ℕ) → WholeLines [] number number
whole_none number = record { lines = []; same = refl; good = tt; count = omega arith }

-- one line
pub line_is_whole : (newline : Bool) (line : List ℕ) (number after : ℕ) → newline ≡ true → IsOneLine line → length line < 2 ^ 32 → after ≡ number + 1 → WholeLines (line ++ newline_if newline) number after
line_is_whole newline line number after ends one short next = record {
  lines = line ∷ [];
  same = ap (λ b. line ++ newline_if b) ends;
  good = ((one, short), tt);
  count = next;
}

-- whole lines, and then further ones
pub whole_append : (bytes more : List ℕ) (number mid after : ℕ) → WholeLines bytes number mid → WholeLines more mid after → WholeLines (bytes ++ more) number after
whole_append bytes more number mid after first second = record {
  lines = first.lines ++ second.lines;
  same = ap (λ b. b ++ more) first.same ∙ ap (λ m. text_of_lines first.lines ++ m) second.same ∙ sym (text_of_lines-append first.lines second.lines);
  good = are_lines-append first.lines second.lines first.good second.good;
  count = omega (arith, first.count, second.count, length-append first.lines second.lines);
}

-- a line without its end is none
whole_lines_of-part : (part : List ℕ) → IsOneLine part → whole_lines_of part ≡ []
whole_lines_of-part [] one = refl
whole_lines_of-part (b ∷ part) one = rw (not_eq b 10 one.0, whole_lines_of-part part one.1) refl

whole_lines_of-newline : (line rest : List ℕ) → IsOneLine line → whole_lines_of (line ++ 10 ∷ rest) ≡ line ∷ whole_lines_of rest
whole_lines_of-newline [] rest one = refl
whole_lines_of-newline (b ∷ line) rest one = rw (not_eq b 10 one.0, whole_lines_of-newline line rest one.1) refl

-- lines, and a part of a line after them
pub whole_lines_of-text : (lines : List (List ℕ)) (part : List ℕ) → AreLines lines → IsOneLine part → whole_lines_of (text_of_lines lines ++ part) ≡ lines
whole_lines_of-text [] part good one = whole_lines_of-part part one
whole_lines_of-text (line ∷ lines) part good one =
    ap whole_lines_of (append_assoc line (10 ∷ text_of_lines lines) part) ∙ whole_lines_of-newline line (text_of_lines lines ++ part) good.0.0 ∙
    ap (λ ls. line ∷ ls) (whole_lines_of-text lines part good.1 one)

pub lines_of-text : (lines : List (List ℕ)) → AreLines lines → lines_of (text_of_lines lines) ≡ lines
lines_of-text [] good = refl
lines_of-text (line ∷ lines) good = lines_of-newline line (text_of_lines lines) good.0.0 ∙ ap (λ ls. line ∷ ls) (lines_of-text lines good.1)

-- ---- lines that are counted, the last of which may lack its newline

-- lines, and what comes after them
lines_of-text-append : (lines : List (List ℕ)) (rest : List ℕ) → AreLines lines → lines_of (text_of_lines lines ++ rest) ≡ lines ++ lines_of rest
lines_of-text-append [] rest good = refl
lines_of-text-append (line ∷ lines) rest good =
    ap lines_of (append_assoc line (10 ∷ text_of_lines lines) rest) ∙ lines_of-newline line (text_of_lines lines ++ rest) good.0.0 ∙
    ap (λ ls. line ∷ ls) (lines_of-text-append lines rest good.1)

-- one line
one_line_of : (newline : Bool) (line : List ℕ) → IsOneLine line → (newline ≡ false → 0 < length line) → lines_of (line ++ newline_if newline) ≡ line ∷ []
one_line_of true line one some = lines_of-newline line [] one
one_line_of false line one some = ap lines_of (append-nil line) ∙ lines_of-last line one (some refl)

pub line_counts : (newline : Bool) (line : List ℕ) (number after : ℕ) → IsOneLine line → (newline ≡ false → 0 < length line) → length line < 2 ^ 32 → after ≡ number + 1 →
    CountsLines (line ++ newline_if newline) number after
line_counts newline line number after one some short next =
    let is = one_line_of newline line one some in
    record {
      good = subst AreLines (sym is) ((one, short), tt);
      count = next ∙ ap (λ (ls : List (List ℕ)). number + length ls) (sym is);
    }

-- whole lines, and then lines
pub counts_append : (bytes more : List ℕ) (number mid after : ℕ) → WholeLines bytes number mid → CountsLines more mid after → CountsLines (bytes ++ more) number after
counts_append bytes more number mid after whole counts =
    let is : lines_of (bytes ++ more) ≡ whole.lines ++ lines_of more = ap (λ b. lines_of (b ++ more)) whole.same ∙ lines_of-text-append whole.lines more whole.good in
    let size : length (lines_of (bytes ++ more)) ≡ length whole.lines + length (lines_of more) = ap length is ∙ length-append whole.lines (lines_of more) in
    record {
      good = subst AreLines (sym is) (are_lines-append whole.lines (lines_of more) whole.good counts.good);
      count = omega (arith, whole.count, counts.count, size);
    }

pub counts_none : (number : ℕ) → CountsLines [] number number
counts_none number = record { good = tt; count = omega arith }

-- a part of a line
pub part_counts : (part : List ℕ) (number : ℕ) → IsOneLine part → length part < 2 ^ 32 → CountsLines part number (number + length (lines_of part))
part_counts [] number one short = record { good = tt; count = refl }
part_counts (b ∷ part) number one short =
    let is : lines_of (b ∷ part) ≡ (b ∷ part) ∷ [] = lines_of-last (b ∷ part) one (omega arith) in
    record { good = subst AreLines (sym is) ((one, short), tt); count = refl }

-- whole lines and no more
pub whole_counts : (bytes : List ℕ) (number after : ℕ) → WholeLines bytes number after → CountsLines bytes number after
whole_counts bytes number after whole = subst (λ b. CountsLines b number after) (append-nil bytes) (counts_append bytes [] number after after whole (counts_none after))
