-- A body that is being read.
use Rattle.std.proofs.Common.{◌≡◌, ℕ, ◌+◌, ◌<◌, ◌≤◌, List, [], ◌∷◌, ◌++◌, Option, None, Some, Bool, true, false, not, length, append_assoc, take, inl, inr, refl, sym, ◌∙◌, ap, arith, append-nil, subst}
use Rattle.std.specs.Io.KnownBytes.{Consumes, IsAtEnd}
use Rattle.std.proofs.KnownBytes.{Consumes-trans}
use Rattle.std.proofs.lemmas.List.{length-append, take_all}
use Rattle.std.proofs.lemmas.Bool.{eqb-true, cases_Bool, le-leb, lt-leb, false≢true}
use Rattle.ctl_stanza.specs.Lines.{max_line, lines_of, text_of_lines}
use Rattle.ctl_session.specs.LineReading.{TakesLine, StopsAfter, newline_if}
use Rattle.ctl_session.specs.Script.{is_dot, first_long, fits}
use Rattle.ctl_session.specs.Reading.{Cuts, HasNoDot, HoldsBody, ReadsBody, WholeLines, CountsLines, StopsInBody}
use Rattle.ctl_session.specs.declared.script.Body.{Body}
use Rattle.ctl_session.specs.declared.read_ahead.LineRead.{LineRead}
use Rattle.ctl_session.specs.declared.fault.ReadingFault.{ReadingFault}
use Rattle.ctl_session.proofs.ScriptLemmas.{cuts_line, cuts_none, no_dot_push}
use Rattle.ctl_session.proofs.WholeLemmas.{whole_none, line_is_whole, whole_append, line_counts, counts_append, whole_counts}

-- the line that ends a body is one dot
pub is_dot-dot : (line : List ℕ) → is_dot line ≡ true → line ≡ 46 ∷ []
is_dot-dot [] bad = absurd (false≢true bad)
is_dot-dot (b ∷ []) dot = ap (λ x. x ∷ []) (eqb-true b 46 dot)
is_dot-dot (b ∷ c ∷ line) bad = absurd (false≢true bad)

-- whether a line is a dot shows in its front
pub is_dot-front : (line : List ℕ) → is_dot (take max_line line) ≡ is_dot line
is_dot-front [] = refl
is_dot-front (b ∷ []) = refl
is_dot-front (b ∷ c ∷ line) = refl

pub line_is_dot : (line buffer slice : List ℕ) (b : Bool) → buffer ≡ take max_line line → slice ≡ buffer → b ≡ is_dot slice → is_dot line ≡ b
line_is_dot line buffer slice b front same tested = sym (is_dot-front line) ∙ ap is_dot (sym front) ∙ ap is_dot (sym same) ∙ sym tested

pub false_of_not : (b : Bool) → not b ≡ true → b ≡ false
false_of_not true bad = absurd (false≢true bad)
false_of_not false e = refl

pub is_true : (b : Bool) → (b ≡ false → ⊥) → b ≡ true
is_true true other = refl
is_true false other = absurd (other refl)

pub true_of_not : (b : Bool) → not b ≡ false → b ≡ true
true_of_not true e = refl
true_of_not false bad = absurd (false≢true (sym bad))

-- these bytes of a body came, that are these lines
pub record InBody (old new : Option (List ℕ)) (number after : ℕ) (body : Body) : Type 0 where
  pub taken : List ℕ
  pub lines : List (List ℕ)
  pub took : Consumes old new taken
  pub cut : Cuts false taken lines
  pub none : HasNoDot lines
  pub holds : HoldsBody (number + 1) lines body
  pub count : after ≡ number + length lines
  pub whole : WholeLines taken number after

-- nothing of a body came yet
pub in_body_none : (old : Option (List ℕ)) (number : ℕ) (body : Body) → Consumes old old [] → HoldsBody (number + 1) [] body → InBody old old number number body
in_body_none old number body took holds = record { taken = []; lines = []; took = took; cut = cuts_none; none = tt; holds = holds; count = omega arith; whole = whole_none number }

-- the run stops in a body
pub stops_in_body : (old mid new : Option (List ℕ)) (number after max : ℕ) (body : Body) (fault : ReadingFault) → (in_body : InBody old mid number after body) →
    StopsAfter mid new after max fault → StopsInBody old new number max fault
stops_in_body old mid new number after max body fault in_body stops = record {
  taken = in_body.taken;
  lines = in_body.lines;
  after = after;
  mid = mid;
  took = in_body.took;
  cut = in_body.cut;
  none = in_body.none;
  whole = in_body.whole;
  stops = stops;
}

-- a line that fits, and one that doesn't
pub fits_short : (line : List ℕ) → length line ≤ max_line → fits line ≡ true
fits_short line short = le-leb (length line) max_line short

pub fits_long : (line : List ℕ) → max_line < length line → fits line ≡ false
fits_long line long = lt-leb (length line) max_line long

pub first_long-kept : (first k : ℕ) (lines : List (List ℕ)) (line : List ℕ) → first_long first lines ≡ Some k → first_long first (lines ++ line ∷ []) ≡ Some k
first_long-kept first k [] line some = cc
first_long-kept first k (x ∷ lines) line some = elim (cases_Bool (fits x)) [
  | inl short ↦ rw short (first_long-kept (first + 1) k lines line (rw short at some))
  | inr long ↦ rw long (rw long at some)
]

pub first_long-fits : (first : ℕ) (lines : List (List ℕ)) (line : List ℕ) → fits line ≡ true → first_long first (lines ++ line ∷ []) ≡ first_long first lines
first_long-fits first [] line short = rw short refl
first_long-fits first (x ∷ lines) line short = rw (first_long-fits (first + 1) lines line short) refl

pub first_long-new : (first : ℕ) (lines : List (List ℕ)) (line : List ℕ) → first_long first lines ≡ None → fits line ≡ false →
    first_long first (lines ++ line ∷ []) ≡ Some (first + length lines)
first_long-new first [] line none long = let e : first ≡ first + 0 = omega arith in rw long (ap Some e)
first_long-new first (x ∷ lines) line none long = elim (cases_Bool (fits x)) [
  | inl short ↦ let e : (first + 1) + length lines ≡ first + length (x ∷ lines) = omega arith in
      rw short (first_long-new (first + 1) lines line (rw short at none) long ∙ ap Some e)
  | inr other ↦ let bad : Some first ≡ None = rw other at none in absurd (cc bad)
]

pub text_of_lines-push : (lines : List (List ℕ)) (line : List ℕ) → text_of_lines (lines ++ line ∷ []) ≡ text_of_lines lines ++ (line ++ 10 ∷ [])
text_of_lines-push [] line = refl
text_of_lines-push (x ∷ lines) line = rw (text_of_lines-push lines line) (simp append_assoc)

-- a line goes into a body: the first that is too long, one more that is, one that is kept, one that is dropped
pub holds_new_long : (first number : ℕ) (lines : List (List ℕ)) (all : List ℕ) (old new : Body) → HoldsBody first lines old → old.too_long ≡ None →
    new.too_long ≡ Some number → number ≡ first + length lines → max_line < length all → HoldsBody first (lines ++ all ∷ []) new
holds_new_long first number lines all old new holds none some at long = record {
  long = some ∙ ap Some at ∙ sym (first_long-new first lines all (sym holds.long ∙ none) (fits_long all long));
  text = λ _ bad. absurd (let no_line : Some number ≡ None = sym some ∙ bad in cc no_line);
}

pub holds_more_long : (first k : ℕ) (lines : List (List ℕ)) (all : List ℕ) (old new : Body) → HoldsBody first lines old → old.too_long ≡ Some k →
    new.too_long ≡ old.too_long → HoldsBody first (lines ++ all ∷ []) new
holds_more_long first k lines all old new holds some same = record {
  long = same ∙ some ∙ sym (first_long-kept first k lines all (sym holds.long ∙ some));
  text = λ _ bad. absurd (let no_line : Some k ≡ None = sym (same ∙ some) ∙ bad in cc no_line);
}

pub holds_kept : (first : ℕ) (lines : List (List ℕ)) (line all : List ℕ) (old new : Body) → HoldsBody first lines old → line ≡ take max_line all →
    length all ≤ max_line → new.too_long ≡ old.too_long → new.dropped ≡ old.dropped → new.text.items ≡ old.text.items ++ (line ++ 10 ∷ []) →
    HoldsBody first (lines ++ all ∷ []) new
holds_kept first lines line all old new holds front short same_long same_dropped text = record {
  long = same_long ∙ holds.long ∙ sym (first_long-fits first lines all (fits_short all short));
  text = λ calm none.
      let whole : line ≡ all = front ∙ take_all max_line all short in
      text ∙ ap (λ t. t ++ (line ++ 10 ∷ [])) (holds.text (sym same_dropped ∙ calm) (sym same_long ∙ none)) ∙ ap (λ l. text_of_lines lines ++ (l ++ 10 ∷ [])) whole ∙ sym (text_of_lines-push lines all);
}

pub holds_dropped : (first : ℕ) (lines : List (List ℕ)) (all : List ℕ) (old new : Body) → HoldsBody first lines old →
    length all ≤ max_line → new.too_long ≡ old.too_long → new.dropped ≡ true → HoldsBody first (lines ++ all ∷ []) new
holds_dropped first lines all old new holds short same_long dropped = record {
  long = same_long ∙ holds.long ∙ sym (first_long-fits first lines all (fits_short all short));
  text = λ bad _. absurd (false≢true (sym bad ∙ dropped));
}

-- the next line of a body, which goes on
pub in_body_more : (old mid new : Option (List ℕ)) (number after now : ℕ) (body grown : Body) (buffer line : List ℕ) (read : LineRead) → (in_body : InBody old mid number after body) →
    TakesLine mid new buffer line read → now ≡ after + 1 → is_dot line ≡ false → read.newline ≡ true → HoldsBody (number + 1) (in_body.lines ++ line ∷ []) grown →
    InBody old new number now grown
in_body_more old mid new number after now body grown buffer line read in_body takes next no_dot newline holds = record {
  taken = in_body.taken ++ (line ++ newline_if read.newline);
  lines = in_body.lines ++ line ∷ [];
  took = Consumes-trans old mid new in_body.taken (line ++ newline_if read.newline) in_body.took takes.took;
  cut = let cut = cuts_line read.newline in_body.taken line in_body.lines in_body.cut takes.one (λ e. (takes.last e).1) in
      subst (λ b. Cuts (not b) (in_body.taken ++ (line ++ newline_if read.newline)) (in_body.lines ++ line ∷ [])) newline cut;
  none = no_dot_push in_body.lines line in_body.none no_dot;
  holds = holds;
  count = omega (arith, next, in_body.count, length-append in_body.lines (line ∷ []));
  whole = whole_append in_body.taken (line ++ newline_if read.newline) number after now in_body.whole (line_is_whole read.newline line after now newline takes.one takes.short next);
}

-- the line that ends a body
pub body_ends : (old mid new : Option (List ℕ)) (number after now : ℕ) (body : Body) (buffer line : List ℕ) (read : LineRead) → (in_body : InBody old mid number after body) →
    TakesLine mid new buffer line read → now ≡ after + 1 → is_dot line ≡ true →
    ReadsBody old new number now (record body { ended = true; last = not read.newline })
body_ends old mid new number after now body buffer line read in_body takes next dot = record {
  taken = in_body.taken ++ (line ++ newline_if read.newline);
  lines = in_body.lines;
  took = Consumes-trans old mid new in_body.taken (line ++ newline_if read.newline) in_body.took takes.took;
  cut = let cut = cuts_line read.newline in_body.taken line in_body.lines in_body.cut takes.one (λ e. (takes.last e).1) in
      subst (λ d. Cuts (not read.newline) (in_body.taken ++ (line ++ newline_if read.newline)) (in_body.lines ++ d ∷ [])) (is_dot-dot line dot) cut;
  none = in_body.none;
  unended = λ bad. absurd (false≢true (sym bad));
  holds = record { long = in_body.holds.long; text = in_body.holds.text };
  count = omega (arith, next, in_body.count);
  ends = λ last. (takes.last (false_of_not _ last)).0;
  whole = λ on. whole_append in_body.taken (line ++ newline_if read.newline) number after now in_body.whole (line_is_whole read.newline line after now (true_of_not _ on) takes.one takes.short next);
  counts = counts_append in_body.taken (line ++ newline_if read.newline) number after now in_body.whole (line_counts read.newline line after now takes.one (λ e. (takes.last e).1) takes.short next);
}

-- the end of the input, in a line of the body
pub body_stops_in_line : (old mid new : Option (List ℕ)) (number after now : ℕ) (body grown : Body) (buffer line : List ℕ) (read : LineRead) → (in_body : InBody old mid number after body) →
    TakesLine mid new buffer line read → now ≡ after + 1 → is_dot line ≡ false → read.newline ≡ false → grown.ended ≡ false → HoldsBody (number + 1) (in_body.lines ++ line ∷ []) grown →
    ReadsBody old new number now (record grown { last = true })
body_stops_in_line old mid new number after now body grown buffer line read in_body takes next no_dot newline unended holds = record {
  taken = in_body.taken ++ (line ++ newline_if read.newline);
  lines = in_body.lines ++ line ∷ [];
  took = Consumes-trans old mid new in_body.taken (line ++ newline_if read.newline) in_body.took takes.took;
  cut = let cut = cuts_line read.newline in_body.taken line in_body.lines in_body.cut takes.one (λ e. (takes.last e).1) in
      let open_cut : Cuts true (in_body.taken ++ (line ++ newline_if read.newline)) ((in_body.lines ++ line ∷ []) ++ []) = rw append-nil (subst (λ b. Cuts (not b) (in_body.taken ++ (line ++ newline_if read.newline)) (in_body.lines ++ line ∷ [])) newline cut) in
      rw unended open_cut;
  none = no_dot_push in_body.lines line in_body.none no_dot;
  unended = λ _. refl;
  holds = record { long = holds.long; text = holds.text };
  count = rw unended (omega (arith, next, in_body.count, length-append in_body.lines (line ∷ [])));
  ends = λ _. (takes.last newline).0;
  whole = λ bad. absurd (false≢true (sym bad));
  counts = counts_append in_body.taken (line ++ newline_if read.newline) number after now in_body.whole (line_counts read.newline line after now takes.one (λ e. (takes.last e).1) takes.short next);
}

-- the end of the input, behind a line of the body
pub body_stops : (old mid new : Option (List ℕ)) (number after now : ℕ) (body : Body) → (in_body : InBody old mid number after body) →
    Consumes mid new [] × IsAtEnd new → now ≡ after → body.ended ≡ false → ReadsBody old new number now (record body { last = true })
body_stops old mid new number after now body in_body takes same unended = record {
  taken = in_body.taken;
  lines = in_body.lines;
  took = subst (λ t. Consumes old new t) (append-nil in_body.taken) (Consumes-trans old mid new in_body.taken [] in_body.took takes.0);
  cut = let open_cut : Cuts true in_body.taken (in_body.lines ++ []) = λ rest last. in_body.cut rest (λ bad. absurd (false≢true bad)) ∙ ap (λ ls. ls ++ lines_of rest) (sym (append-nil in_body.lines)) in
      rw unended open_cut;
  none = in_body.none;
  unended = λ _. refl;
  holds = record { long = in_body.holds.long; text = in_body.holds.text };
  count = rw unended (omega (arith, same, in_body.count));
  ends = λ _. takes.1;
  whole = λ bad. absurd (false≢true (sym bad));
  counts = subst (λ n. CountsLines in_body.taken number n) (sym same) (whole_counts in_body.taken number after in_body.whole);
}
