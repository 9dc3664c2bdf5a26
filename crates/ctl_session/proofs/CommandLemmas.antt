-- A command that is being read.
use Rattle.std.proofs.Common.{subst, ◌≡◌, ℕ, ◌+◌, ◌<◌, ◌≤◌, List, [], ◌∷◌, ◌++◌, Option, None, Some, Bool, true, false, not, ◌&&◌, if◌then◌else◌, take, length, Result, refl, sym, ◌∙◌, ap, arith, append_assoc, append-nil, add-zero}
use Rattle.std.specs.Io.KnownBytes.{Consumes, IsAtEnd}
use Rattle.std.proofs.KnownBytes.{Consumes-trans}
use Rattle.std.proofs.lemmas.Bool.{leb-true, false≢true}
use Rattle.std.proofs.lemmas.List.{take_all}
use Rattle.ctl_stanza.specs.Lines.{lines_of, max_line}
use Rattle.ctl_store.specs.declared.refusal.Refusal.{Refusal}
use Rattle.ctl_session.specs.State.{CacheState}
use Rattle.ctl_session.specs.Asked.{ReadsLine}
use Rattle.ctl_session.specs.LineReading.{TakesLine, StopsAfter, IsOneLine, newline_if}
use Rattle.ctl_session.proofs.CommandNameLemmas.{body_by_name}
use Rattle.ctl_session.specs.declared.command_name.CommandName.{CommandName}
use Rattle.ctl_session.specs.Request.{command_named, has_body}
use Rattle.ctl_session.specs.Script.{commands_in, commands_from, command_at, is_skipped, is_idle, without_blanks, opens_body, names_body, name_of, fits, body_of, has_end, first_long, ended_of}
use Rattle.ctl_session.specs.Reading.{HasNoDot, dot_if, ReadsNone, SkipsToLine, ReadsBody, ReadsCommand, WholeLines, CountsLines, StopsInBody, StopsReading}
use Rattle.ctl_session.specs.declared.read_ahead.LineRead.{LineRead}
use Rattle.ctl_session.specs.declared.script.Body.{Body}
use Rattle.ctl_session.specs.declared.fault.ReadingFault.{ReadingFault}
use Rattle.ctl_session.specs.declared.script.CommandRead.{CommandRead}
use Rattle.ctl_session.specs.declared.request.Request.{Request}
use Rattle.ctl_session.proofs.ScriptLemmas.{cuts_line, cuts_none, body_of-ended, has_end-ended, after-ended, body_of-open, has_end-open, after-open}
use Rattle.ctl_session.proofs.ReadingLemmas.{fits_short, fits_long, false_of_not, true_of_not, first_long-new, first_long-fits}
use Rattle.ctl_session.proofs.WholeLemmas.{whole_none, line_is_whole, whole_append, line_counts, counts_append, whole_counts}

-- the bytes so far are no commands
pub record Skips (old new : Option (List ℕ)) (number now : ℕ) : Type 0 where
  pub skipped : List ℕ
  pub took : Consumes old new skipped
  pub skips : (rest : List ℕ) → commands_from (number + 1) (skipped ++ rest) ≡ commands_from (now + 1) rest
  pub whole : WholeLines skipped number now
  pub more : number ≤ now

-- a line with what comes after it
pub line_first : (newline : Bool) (line rest : List ℕ) → IsOneLine line → (newline ≡ false → 0 < length line) → (newline ≡ false → rest ≡ []) →
    lines_of ((line ++ newline_if newline) ++ rest) ≡ line ∷ lines_of rest
line_first newline line rest one some last = cuts_line newline [] line [] cuts_none one some rest (λ e. last (false_of_not newline e))

-- whether a line is skipped shows in its front, if it isn't too long
pub line_is_skipped : (line buffer slice : List ℕ) (b : Bool) → buffer ≡ take max_line line → slice ≡ buffer → length line ≤ max_line →
    b ≡ is_idle (without_blanks slice) → is_skipped line ≡ b
line_is_skipped line buffer slice b front same short tested =
    let whole : slice ≡ line = same ∙ front ∙ take_all max_line line short in
    ap (λ x. x && is_idle (without_blanks line)) (fits_short line short) ∙ ap (λ l. is_idle (without_blanks l)) (sym whole) ∙ sym tested

pub long_isn't_skipped : (line : List ℕ) → max_line < length line → is_skipped line ≡ false
long_isn't_skipped line long = ap (λ x. x && is_idle (without_blanks line)) (fits_long line long)

pub commands_in-skipped : (n : ℕ) (line : List ℕ) (lines : List (List ℕ)) → is_skipped line ≡ true → commands_in false n (line ∷ lines) ≡ commands_in false (n + 1) lines
commands_in-skipped n line lines skipped =
    ap (λ b. if b then commands_in false (n + 1) lines else (command_at n line lines ∷ commands_in (opens_body line) (n + 1) lines)) skipped

pub commands_in-used : (n : ℕ) (line : List ℕ) (lines : List (List ℕ)) → is_skipped line ≡ false →
    commands_in false n (line ∷ lines) ≡ command_at n line lines ∷ commands_in (opens_body line) (n + 1) lines
commands_in-used n line lines used =
    ap (λ b. if b then commands_in false (n + 1) lines else (command_at n line lines ∷ commands_in (opens_body line) (n + 1) lines)) used

-- nothing was read yet
pub skips_none : (old : Option (List ℕ)) (n : ℕ) → Consumes old old [] → Skips old old n n
skips_none old n took = record { skipped = []; took = took; skips = λ rest. refl; whole = whole_none n; more = omega arith }

-- what comes after the bytes so far and a line
skips_to : (old new : Option (List ℕ)) (number now : ℕ) (line rest : List ℕ) (newline : Bool) → (skips : Skips old new number now) → IsOneLine line →
    (newline ≡ false → 0 < length line) → (newline ≡ false → rest ≡ []) →
    commands_from (number + 1) ((skips.skipped ++ (line ++ newline_if newline)) ++ rest) ≡ commands_in false (now + 1) (line ∷ lines_of rest)
skips_to old new number now line rest newline skips one some last =
    let same : (skips.skipped ++ (line ++ newline_if newline)) ++ rest ≡ skips.skipped ++ ((line ++ newline_if newline) ++ rest) = append_assoc skips.skipped (line ++ newline_if newline) rest in
    ap (λ text. commands_from (number + 1) text) same ∙ skips.skips ((line ++ newline_if newline) ++ rest) ∙ ap (λ lines. commands_in false (now + 1) lines) (line_first newline line rest one some last)

pub skips_line : (old mid new : Option (List ℕ)) (number now next : ℕ) (buffer line : List ℕ) (read : LineRead) → (skips : Skips old mid number now) → TakesLine mid new buffer line read →
    read.newline ≡ true → is_skipped line ≡ true → next ≡ now + 1 → Skips old new number next
skips_line old mid new number now next buffer line read skips takes newline skipped counts = record {
  skipped = skips.skipped ++ (line ++ newline_if read.newline);
  took = Consumes-trans old mid new skips.skipped (line ++ newline_if read.newline) skips.took takes.took;
  skips = λ rest. skips_to old mid number now line rest read.newline skips takes.one (λ e. (takes.last e).1) (λ e. absurd (false≢true (sym e ∙ newline))) ∙ commands_in-skipped (now + 1) line (lines_of rest) skipped ∙ ap (λ n. commands_from (n + 1) rest) (sym counts);
  whole = whole_append skips.skipped (line ++ newline_if read.newline) number now next skips.whole (line_is_whole read.newline line now next newline takes.one takes.short counts);
  more = omega (arith, skips.more, counts);
}

-- the run stops before a line that is a command
pub stops_skipping : (old mid new : Option (List ℕ)) (number now max : ℕ) (fault : ReadingFault) → (skips : Skips old mid number now) → StopsAfter mid new now max fault → StopsReading old new number max fault
stops_skipping old mid new number now max fault skips stops = record {
  taken = skips.skipped;
  after = now;
  mid = mid;
  took = skips.took;
  whole = skips.whole;
  none = ap (λ text. ended_of (commands_from (number + 1) text)) (sym (append-nil skips.skipped)) ∙ ap ended_of (skips.skips []);
  stops = stops;
}

-- the end of the input, behind a line that is no command
pub skips_end : (old mid new : Option (List ℕ)) (number now after : ℕ) → (skips : Skips old mid number now) → Consumes mid new [] × IsAtEnd new → after ≡ now → ReadsNone old new number after
skips_end old mid new number now after skips takes same = record {
  taken = skips.skipped;
  took = subst (λ t. Consumes old new t) (append-nil skips.skipped) (Consumes-trans old mid new skips.skipped [] skips.took takes.0);
  end = takes.1;
  none = ap (λ text. commands_from (number + 1) text) (sym (append-nil skips.skipped)) ∙ skips.skips [];
  counts = subst (λ n. CountsLines skips.skipped number n) (sym same) (whole_counts skips.skipped number now skips.whole);
}

pub skips_last : (old mid new : Option (List ℕ)) (number now next : ℕ) (buffer line : List ℕ) (read : LineRead) → (skips : Skips old mid number now) → TakesLine mid new buffer line read →
    read.newline ≡ false → is_skipped line ≡ true → next ≡ now + 1 → ReadsNone old new number next
skips_last old mid new number now next buffer line read skips takes newline skipped after = record {
  taken = skips.skipped ++ (line ++ newline_if read.newline);
  took = Consumes-trans old mid new skips.skipped (line ++ newline_if read.newline) skips.took takes.took;
  end = (takes.last newline).0;
  none = ap (λ text. commands_from (number + 1) text) (sym (append-nil (skips.skipped ++ (line ++ newline_if read.newline)))) ∙ skips_to old mid number now line [] read.newline skips takes.one (λ e. (takes.last e).1) (λ _. refl) ∙ commands_in-skipped (now + 1) line [] skipped;
  counts = counts_append skips.skipped (line ++ newline_if read.newline) number now next skips.whole (line_counts read.newline line now next takes.one (λ e. (takes.last e).1) takes.short after);
}

pub finds_line : (old mid new : Option (List ℕ)) (number now next : ℕ) (buffer line : List ℕ) (read : LineRead) → (skips : Skips old mid number now) → TakesLine mid new buffer line read →
    is_skipped line ≡ false → next ≡ now + 1 → SkipsToLine old new number next buffer read
finds_line old mid new number now next buffer line read skips takes used counts = record {
  skipped = skips.skipped;
  line = line;
  mid = mid;
  took = skips.took;
  skips = λ rest. skips.skips rest ∙ ap (λ n. commands_from n rest) (sym counts);
  takes = takes;
  used = used;
  before = now;
  whole = skips.whole;
  next = counts;
  more = omega (arith, skips.more, counts);
}

-- a line in the buffer is whole, if it isn't too long
pub whole_line : (line buffer : List ℕ) → buffer ≡ take max_line line → fits line ≡ true → buffer ≡ line
whole_line line buffer front short = front ∙ take_all max_line line (leb-true (length line) max_line short)

-- a line that was read is that of the buffer, if it isn't too long
pub reads_whole : (cache : CacheState) (line buffer slice : List ℕ) (request : Result Request Refusal) → buffer ≡ take max_line line → slice ≡ buffer → ReadsLine cache slice request →
    fits line ≡ true → ReadsLine cache line request
reads_whole cache line buffer slice request front same reads short =
    subst (λ l. ReadsLine cache l request) (same ∙ whole_line line buffer front short) reads

-- and of a line that is too long nothing is said
pub reads_long : (cache : CacheState) (line : List ℕ) (request : Result Request Refusal) → max_line < length line → fits line ≡ true → ReadsLine cache line request
reads_long cache line request long short = absurd (false≢true (sym (fits_long line long) ∙ short))

-- what comes after a line that is a command
found_to : (old new : Option (List ℕ)) (number at : ℕ) (buffer : List ℕ) (read : LineRead) (rest : List ℕ) → (found : SkipsToLine old new number at buffer read) → (read.newline ≡ false → rest ≡ []) →
    commands_from (number + 1) ((found.skipped ++ (found.line ++ newline_if read.newline)) ++ rest) ≡ command_at at found.line (lines_of rest) ∷ commands_in (opens_body found.line) (at + 1) (lines_of rest)
found_to old new number at buffer read rest found last =
    let same : (found.skipped ++ (found.line ++ newline_if read.newline)) ++ rest ≡ found.skipped ++ ((found.line ++ newline_if read.newline) ++ rest) = append_assoc found.skipped (found.line ++ newline_if read.newline) rest in
    ap (λ text. commands_from (number + 1) text) same ∙ found.skips ((found.line ++ newline_if read.newline) ++ rest) ∙
    ap (λ lines. commands_in false at lines) (line_first read.newline found.line rest found.takes.one (λ e. (found.takes.last e).1) last) ∙
    commands_in-used at found.line (lines_of rest) found.used

-- what came up to a line that is a command, and that line
whole_to : (old new : Option (List ℕ)) (number at : ℕ) (buffer : List ℕ) (read : LineRead) → (found : SkipsToLine old new number at buffer read) → read.newline ≡ true →
    WholeLines (found.skipped ++ (found.line ++ newline_if read.newline)) number at
whole_to old new number at buffer read found newline =
    whole_append found.skipped (found.line ++ newline_if read.newline) number found.before at found.whole (line_is_whole read.newline found.line found.before at newline found.takes.one found.takes.short found.next)

-- the same, where the line may lack its newline
counts_to : (old new : Option (List ℕ)) (number at : ℕ) (buffer : List ℕ) (read : LineRead) → (found : SkipsToLine old new number at buffer read) →
    CountsLines (found.skipped ++ (found.line ++ newline_if read.newline)) number at
counts_to old new number at buffer read found =
    counts_append found.skipped (found.line ++ newline_if read.newline) number found.before at found.whole
    (line_counts read.newline found.line found.before at found.takes.one (λ e. (found.takes.last e).1) found.takes.short found.next)

-- a command that no body follows
pub reads_alone : (cache : CacheState) (old new : Option (List ℕ)) (number at : ℕ) (buffer : List ℕ) (read : LineRead) (result : CommandRead) → (found : SkipsToLine old new number at buffer read) →
    opens_body found.line ≡ false → result.number ≡ at → (fits found.line ≡ true → ReadsLine cache found.line result.request) → result.body.ended ≡ true → result.body.last ≡ not read.newline →
    result.body.too_long ≡ first_long at (found.line ∷ []) → result.body.text.items ≡ [] → ReadsCommand cache old new number at result
reads_alone cache old new number at buffer read result found opens is_at asks ended last long text = record {
  taken = found.skipped ++ (found.line ++ newline_if read.newline);
  command = record { number = at; line = found.line; body = []; ended = true };
  took = Consumes-trans old found.mid new found.skipped (found.line ++ newline_if read.newline) found.took found.takes.took;
  cut = λ rest ends. found_to old new number at buffer read rest found (λ e. ends (last ∙ ap not e)) ∙
      ap (λ b. (if b then record { number = at; line = found.line; body = body_of (lines_of rest); ended = has_end (lines_of rest) } else record { number = at; line = found.line; body = []; ended = true }) ∷ commands_in b (at + 1) (lines_of rest)) opens;
  at = is_at;
  ended = ended;
  long = long;
  asks = asks;
  text = λ _ _. text;
  end = λ bad. absurd (false≢true (sym bad));
  unended = λ bad. absurd (false≢true (sym bad));
  ends = λ e. (found.takes.last (false_of_not read.newline (sym last ∙ e))).0;
  whole = λ e. whole_to old new number at buffer read found (true_of_not read.newline (sym last ∙ e));
  counts = counts_to old new number at buffer read found;
  more = found.more;
}

-- a command whose body has no line
pub reads_unended : (cache : CacheState) (old new : Option (List ℕ)) (number at : ℕ) (buffer : List ℕ) (read : LineRead) (result : CommandRead) → (found : SkipsToLine old new number at buffer read) →
    opens_body found.line ≡ true → read.newline ≡ false → result.number ≡ at → (fits found.line ≡ true → ReadsLine cache found.line result.request) → result.body.ended ≡ false → result.body.last ≡ true →
    result.body.too_long ≡ first_long at (found.line ∷ []) → result.body.text.items ≡ [] → ReadsCommand cache old new number at result
reads_unended cache old new number at buffer read result found opens newline is_at asks ended last long text = record {
  taken = found.skipped ++ (found.line ++ newline_if read.newline);
  command = record { number = at; line = found.line; body = []; ended = false };
  took = Consumes-trans old found.mid new found.skipped (found.line ++ newline_if read.newline) found.took found.takes.took;
  cut = λ rest ends. found_to old new number at buffer read rest found (λ e. ends last) ∙
      ap (λ b. (if b then record { number = at; line = found.line; body = body_of (lines_of rest); ended = has_end (lines_of rest) } else record { number = at; line = found.line; body = []; ended = true }) ∷ commands_in b (at + 1) (lines_of rest)) opens ∙
      ap (λ r. record { number = at; line = found.line; body = body_of (lines_of r); ended = has_end (lines_of r) } ∷ commands_in true (at + 1) (lines_of r)) (ends last) ∙
      ap (λ r. record { number = at; line = found.line; body = []; ended = false } ∷ commands_from (at + 1) r) (sym (ends last));
  at = is_at;
  ended = ended;
  long = long;
  asks = asks;
  text = λ _ _. text;
  end = λ _. omega arith;
  unended = λ _. last;
  ends = λ _. (found.takes.last newline).0;
  whole = λ e. absurd (false≢true (sym e ∙ last));
  counts = counts_to old new number at buffer read found;
  more = found.more;
}

-- the commands of a line, its body and what comes after it
body_first : (at after : ℕ) (line : List ℕ) (lines more : List (List ℕ)) (ended : Bool) → opens_body line ≡ true → HasNoDot lines → (ended ≡ false → more ≡ []) →
    after ≡ at + length lines + length (dot_if ended) →
    command_at at line ((lines ++ dot_if ended) ++ more) ∷ commands_in (opens_body line) (at + 1) ((lines ++ dot_if ended) ++ more)
    ≡ record { number = at; line = line; body = lines; ended = ended } ∷ commands_in false (after + 1) more
body_first at after line lines more true opens none last counts =
    let same : (lines ++ (46 ∷ []) ∷ []) ++ more ≡ lines ++ (46 ∷ []) ∷ more = append_assoc lines ((46 ∷ []) ∷ []) more in
    let numbers : (at + 1) + length lines + 1 ≡ after + 1 = omega (arith, counts) in
    ap (λ b. (if b then record { number = at; line = line; body = body_of ((lines ++ (46 ∷ []) ∷ []) ++ more); ended = has_end ((lines ++ (46 ∷ []) ∷ []) ++ more) } else record { number = at; line = line; body = []; ended = true }) ∷ commands_in b (at + 1) ((lines ++ (46 ∷ []) ∷ []) ++ more)) opens ∙
    ap (λ ls. record { number = at; line = line; body = body_of ls; ended = has_end ls } ∷ commands_in true (at + 1) ls) same ∙
    ap (λ b. record { number = at; line = line; body = b; ended = has_end (lines ++ (46 ∷ []) ∷ more) } ∷ commands_in true (at + 1) (lines ++ (46 ∷ []) ∷ more)) (body_of-ended lines more (46 ∷ []) none refl) ∙
    ap (λ e. record { number = at; line = line; body = lines; ended = e } ∷ commands_in true (at + 1) (lines ++ (46 ∷ []) ∷ more)) (has_end-ended lines more (46 ∷ []) none refl) ∙
    ap (λ cs. record { number = at; line = line; body = lines; ended = true } ∷ cs) (after-ended (at + 1) lines more (46 ∷ []) none refl ∙ ap (λ n. commands_in false n more) numbers)
body_first at after line lines more false opens none last counts =
    let same : (lines ++ []) ++ more ≡ lines = ap (λ m. (lines ++ []) ++ m) (last refl) ∙ append-nil (lines ++ []) ∙ append-nil lines in
    ap (λ b. (if b then record { number = at; line = line; body = body_of ((lines ++ []) ++ more); ended = has_end ((lines ++ []) ++ more) } else record { number = at; line = line; body = []; ended = true }) ∷ commands_in b (at + 1) ((lines ++ []) ++ more)) opens ∙
    ap (λ ls. record { number = at; line = line; body = body_of ls; ended = has_end ls } ∷ commands_in true (at + 1) ls) same ∙
    ap (λ b. record { number = at; line = line; body = b; ended = has_end lines } ∷ commands_in true (at + 1) lines) (body_of-open lines none) ∙
    ap (λ e. record { number = at; line = line; body = lines; ended = e } ∷ commands_in true (at + 1) lines) (has_end-open lines none) ∙
    ap (λ cs. record { number = at; line = line; body = lines; ended = false } ∷ cs) (after-open (at + 1) lines none ∙ ap (λ m. commands_in false (after + 1) m) (sym (last refl)))

-- a command and its body
pub reads_with_body : (cache : CacheState) (old mid new : Option (List ℕ)) (number at after : ℕ) (buffer : List ℕ) (read : LineRead) (request : Result Request Refusal) (body : Body) → (found : SkipsToLine old mid number at buffer read) →
    fits found.line ≡ true → opens_body found.line ≡ true → read.newline ≡ true → (fits found.line ≡ true → ReadsLine cache found.line request) → (reads : ReadsBody mid new at after body) →
    ReadsCommand cache old new number after (record { number = at; request = request; body = body })
reads_with_body cache old mid new number at after buffer read request body found short opens newline asks reads = record {
  taken = (found.skipped ++ (found.line ++ newline_if read.newline)) ++ reads.taken;
  command = record { number = at; line = found.line; body = reads.lines; ended = body.ended };
  took = Consumes-trans old mid new (found.skipped ++ (found.line ++ newline_if read.newline)) reads.taken
      (Consumes-trans old found.mid mid found.skipped (found.line ++ newline_if read.newline) found.took found.takes.took) reads.took;
  cut = λ rest ends.
      ap (λ text. commands_from (number + 1) text) (append_assoc (found.skipped ++ (found.line ++ newline_if read.newline)) reads.taken rest) ∙
      found_to old mid number at buffer read (reads.taken ++ rest) found (λ e. absurd (false≢true (sym e ∙ newline))) ∙
      ap (λ ls. command_at at found.line ls ∷ commands_in (opens_body found.line) (at + 1) ls) (reads.cut rest ends) ∙
      body_first at after found.line reads.lines (lines_of rest) body.ended opens reads.none (λ e. ap lines_of (ends (reads.unended e))) reads.count;
  at = refl;
  ended = refl;
  long = reads.holds.long ∙ sym (ap (λ b. if b then first_long (at + 1) reads.lines else Some at) short);
  asks = asks;
  text = reads.holds.text;
  end = λ e. reads.count ∙ ap (λ b. at + length reads.lines + length (dot_if b)) e ∙ add-zero (at + length reads.lines);
  unended = reads.unended;
  ends = reads.ends;
  whole = λ e. whole_append (found.skipped ++ (found.line ++ newline_if read.newline)) reads.taken number at after (whole_to old mid number at buffer read found newline) (reads.whole e);
  counts = counts_append (found.skipped ++ (found.line ++ newline_if read.newline)) reads.taken number at after (whole_to old mid number at buffer read found newline) reads.counts;
  more = omega (arith, found.more, reads.count);
}

-- the same, at an equal limit
pub stops_in_body_same : (old new : Option (List ℕ)) (number max first : ℕ) (fault : ReadingFault) → max ≡ first → StopsInBody old new number max fault → StopsInBody old new number first fault
stops_in_body_same old new number max first fault same stops = subst (λ m. StopsInBody old new number m fault) same stops

-- the run stops in the body of a command
pub stops_with_body : (old mid new : Option (List ℕ)) (number at max : ℕ) (buffer : List ℕ) (read : LineRead) (fault : ReadingFault) → (found : SkipsToLine old mid number at buffer read) →
    opens_body found.line ≡ true → read.newline ≡ true → (reads : StopsInBody mid new at max fault) → StopsReading old new number max fault
stops_with_body old mid new number at max buffer read fault found opens newline reads =
    let lines : lines_of reads.taken ≡ (reads.lines ++ []) ++ [] = ap lines_of (sym (append-nil reads.taken)) ∙ reads.cut [] (λ _. refl) ∙ sym (append-nil (reads.lines ++ [])) in
    record {
      taken = (found.skipped ++ (found.line ++ newline_if read.newline)) ++ reads.taken;
      after = reads.after;
      mid = reads.mid;
      took = Consumes-trans old mid reads.mid (found.skipped ++ (found.line ++ newline_if read.newline)) reads.taken
          (Consumes-trans old found.mid mid found.skipped (found.line ++ newline_if read.newline) found.took found.takes.took) reads.took;
      whole = whole_append (found.skipped ++ (found.line ++ newline_if read.newline)) reads.taken number at reads.after (whole_to old mid number at buffer read found newline) reads.whole;
      none = ap ended_of (found_to old mid number at buffer read reads.taken found (λ e. absurd (false≢true (sym e ∙ newline))) ∙
          ap (λ ls. command_at at found.line ls ∷ commands_in (opens_body found.line) (at + 1) ls) lines ∙
          body_first at (at + length reads.lines + 0) found.line reads.lines [] false opens reads.none (λ _. refl) refl);
      stops = reads.stops;
    }

pub first_long-one : (at : ℕ) (line : List ℕ) → max_line < length line → first_long at (line ∷ []) ≡ Some at
first_long-one at line long = first_long-new at [] line refl (fits_long line long) ∙ ap Some (add-zero at)

pub first_long-none : (at : ℕ) (line : List ℕ) → length line ≤ max_line → first_long at (line ∷ []) ≡ None
first_long-none at line short = first_long-fits at [] line (fits_short line short)

pub long_opens_nothing : (line : List ℕ) → max_line < length line → opens_body line ≡ false
long_opens_nothing line long = ap (λ b. b && names_body (name_of line)) (fits_long line long)

-- whether a body comes shows in the front of a line, if it isn't too long
pub line_opens : (line buffer slice word : List ℕ) (command : Option CommandName) (b : Bool) → buffer ≡ take max_line line → slice ≡ buffer →
    length line ≤ max_line → word ≡ name_of slice → command ≡ command_named word → b ≡ has_body command → opens_body line ≡ b
line_opens line buffer slice word command b front same short named read tested =
    let whole : slice ≡ line = same ∙ front ∙ take_all max_line line short in
    ap (λ x. x && names_body (name_of line)) (fits_short line short) ∙ ap (λ l. names_body (name_of l)) (sym whole)
    ∙ sym (tested ∙ ap has_body (read ∙ ap command_named named) ∙ body_by_name (name_of slice))
