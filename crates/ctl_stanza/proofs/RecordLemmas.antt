-- The lines of a text of preferences that aren't comments.
use Rattle.std.proofs.Common.{◌≡◌, ◌∙◌, ◌+◌, ◌++◌, ℕ, suc, not, true, false, List, [], ◌∷◌, filter, sym, ap, arith, append_assoc}
use Rattle.std.proofs.lemmas.Bool.{cond-true, cond-false}
use Rattle.std.proofs.lemmas.List.{map-append, append-nil}
use Rattle.ctl_stanza.specs.Lines.{lines_of, text_of_lines}
use Rattle.ctl_stanza.specs.Records.{NumberedLine, numbered_from, is_comment, record_lines, numbers_of, bytes_of}
use Rattle.ctl_stanza.proofs.LineLemmas.{IsLine}
use Rattle.ctl_stanza.proofs.PieceLemmas.{AreSingle, single-push, are_lines}
use Rattle.ctl_stanza.proofs.KeepLemmas.{text_of_lines-append}

-- The lines that were kept, and those that will be, are all; each is cut again from the text of those kept.
pub record AreKept (text numbers : List ℕ) (number : ℕ) (left : List ℕ) (all : List NumberedLine) : Type 0 where
  pub kept : List NumberedLine
  pub text_is : text ≡ text_of_lines (bytes_of kept)
  pub numbers_are : numbers ≡ numbers_of kept
  pub single : AreSingle (bytes_of kept)
  pub joined : kept ++ record_lines number left ≡ all

-- a first line that is a comment, and one that isn't
comment-first : (number : ℕ) (line left behind : List ℕ) → lines_of left ≡ line ∷ lines_of behind → is_comment line ≡ true → record_lines number left ≡ record_lines (suc number) behind
comment-first number line left behind is comment =
    ap (λ ls. filter (λ (l : NumberedLine). not (is_comment l.line)) (numbered_from number ls)) is ∙ cond-false _ _ _ (ap not comment)

line-first : (number : ℕ) (line left behind : List ℕ) → lines_of left ≡ line ∷ lines_of behind → is_comment line ≡ false
    → record_lines number left ≡ (record { number = number; line = line }) ∷ record_lines (suc number) behind
line-first number line left behind is other =
    ap (λ ls. filter (λ (l : NumberedLine). not (is_comment l.line)) (numbered_from number ls)) is ∙ cond-true _ _ _ (ap not other)

pub kept-skip : (text numbers : List ℕ) (number : ℕ) (line left behind : List ℕ) (all : List NumberedLine) → lines_of left ≡ line ∷ lines_of behind → is_comment line ≡ true
    → AreKept text numbers number left all → AreKept text numbers (number + 1) behind all
kept-skip text numbers number line left behind all is comment are =
    let next : suc number ≡ number + 1 = omega arith in
    record {
      kept = are.kept;
      text_is = are.text_is;
      numbers_are = are.numbers_are;
      single = are.single;
      joined = ap (λ n. are.kept ++ record_lines n behind) (sym next) ∙ ap (λ ls. are.kept ++ ls) (sym (comment-first number line left behind is comment)) ∙ are.joined;
    }

pub kept-add : (text numbers more_text more_numbers : List ℕ) (number : ℕ) (line left behind : List ℕ) (all : List NumberedLine) → lines_of left ≡ line ∷ lines_of behind → IsLine line
    → is_comment line ≡ false → more_text ≡ text ++ (line ++ 10 ∷ []) → more_numbers ≡ numbers ++ number ∷ []
    → AreKept text numbers number left all → AreKept more_text more_numbers (number + 1) behind all
kept-add text numbers more_text more_numbers number line left behind all is one other text_more numbers_more are =
    let here : NumberedLine = record { number = number; line = line } in
    let next : suc number ≡ number + 1 = omega arith in
    let bytes = map-append (λ (l : NumberedLine). l.line) are.kept (here ∷ []) in
    record {
      kept = are.kept ++ here ∷ [];
      text_is = text_more ∙ ap (λ t. t ++ (line ++ 10 ∷ [])) are.text_is ∙ sym (text_of_lines-append (bytes_of are.kept) (line ∷ [])) ∙ ap text_of_lines (sym bytes);
      numbers_are = numbers_more ∙ ap (λ t. t ++ number ∷ []) are.numbers_are ∙ sym (map-append (λ (l : NumberedLine). l.number) are.kept (here ∷ []));
      single = rw bytes (single-push (bytes_of are.kept) line are.single one);
      joined = append_assoc are.kept (here ∷ []) (record_lines (number + 1) behind)
          ∙ ap (λ n. are.kept ++ here ∷ record_lines n behind) (sym next) ∙ ap (λ ls. are.kept ++ ls) (sym (line-first number line left behind is other)) ∙ are.joined;
    }

kept-end : (kept all : List NumberedLine) (number : ℕ) (left : List ℕ) → left ≡ [] → kept ++ record_lines number left ≡ all → kept ≡ all
kept-end kept all number left none e = sym (append-nil kept) ∙ ap (λ t. kept ++ record_lines number t) (sym none) ∙ e

pub kept-lines : (text numbers : List ℕ) (number : ℕ) (left : List ℕ) (all : List NumberedLine) → left ≡ [] → AreKept text numbers number left all → lines_of text ≡ bytes_of all
kept-lines text numbers number left all none are = ap lines_of are.text_is ∙ are_lines (bytes_of are.kept) are.single ∙ ap bytes_of (kept-end are.kept all number left none are.joined)

pub kept-numbers : (text numbers : List ℕ) (number : ℕ) (left : List ℕ) (all : List NumberedLine) → left ≡ [] → AreKept text numbers number left all → numbers ≡ numbers_of all
kept-numbers text numbers number left all none are = are.numbers_are ∙ ap numbers_of (kept-end are.kept all number left none are.joined)
