-- A run, command by command.
use Rattle.std.proofs.Common.{◌≡◌, ℕ, ◌+◌, ◌≤◌, List, [], ◌∷◌, ◌++◌, Option, None, Some, Bool, true, false, length, refl, sym, ◌∙◌, ap, arith, subst, append_assoc, append-nil, zero-add, take, if◌then◌else◌}
use Rattle.std.specs.Io.KnownBytes.{Consumes, IsAtEnd, Appends, prepend_known}
use Rattle.std.proofs.KnownBytes.{Consumes-trans, Appends-trans, Appends-nil}
use Rattle.std.proofs.lemmas.Bool.{false≢true}
use Rattle.ctl_stanza.specs.Lines.{lines_of}
use Rattle.ctl_session.specs.Streams.{WritesPart}
use Rattle.ctl_session.specs.Script.{Command, IsWithin, commands_from, commands_of, commands_in, ended_of, whole_lines_of, whole_commands_in}
use Rattle.ctl_session.specs.LineReading.{IsPast}
use Rattle.ctl_session.specs.Reading.{ReadsNone, ReadsCommand, StopsReading, WholeLines, CountsLines, Describes}
use Rattle.ctl_session.specs.State.{CacheState}
use Rattle.ctl_session.specs.Outcome.{Outcome, Refused, Answered, Changed, text_of, text_of_all, state_after, state_after_all, accepted_in, refused_in}
use Rattle.ctl_session.specs.Effect.{MayCome}
use Rattle.ctl_session.specs.Run.{Runs, Ran, StoppedInWrite, Stopped}
use Rattle.ctl_session.specs.Replies.{ReadMayCome, ChangesByEdit, accepted_by, outcome_from, refused_by, text_of_reply}
use Rattle.ctl_session.proofs.PerformLemmas.{accepted_one, left_by, refused_one, text_by}
use Rattle.ctl_session.specs.declared.reply.Reply.{Reply}
use Rattle.ctl_session.specs.declared.script.CommandRead.{CommandRead}
use Rattle.ctl_session.specs.declared.summary.Summary.{Summary}
use Rattle.ctl_session.specs.declared.fault.Fault.{Fault}
use Rattle.ctl_session.specs.declared.fault.ReadingFault.{ReadingFault}
use Rattle.ctl_session.specs.declared.fault.ReadingFault.TheVariants.{ReadFailed, TooManyLines}
use Rattle.ctl_session.specs.Faults.{run_fault}
use Rattle.ctl_session.proofs.WholeLemmas.{whole_none, whole_append, counts_none, counts_append, part_counts, whole_lines_of-text, lines_of-text}
use Rattle.ctl_session.proofs.ReadingLemmas.{is_true}

pub runs_more : (state : CacheState) (commands : List Command) (outcomes : List Outcome) (command : Command) (outcome : Outcome) → Runs state commands outcomes →
    MayCome (state_after_all state outcomes) command outcome → Runs state (commands ++ command ∷ []) (outcomes ++ outcome ∷ [])
runs_more state [] [] command outcome runs may = (may, tt)
runs_more state [] (o ∷ outcomes) command outcome runs may = absurd runs
runs_more state (c ∷ commands) [] command outcome runs may = absurd runs
runs_more state (c ∷ commands) (o ∷ outcomes) command outcome runs may = (runs.0, runs_more (state_after state o) commands outcomes command outcome runs.1 may)

pub text_more : (outcomes : List Outcome) (outcome : Outcome) → text_of_all (outcomes ++ outcome ∷ []) ≡ text_of_all outcomes ++ text_of outcome
text_more [] outcome = append-nil (text_of outcome)
text_more (o ∷ outcomes) outcome = ap (λ t. text_of o ++ t) (text_more outcomes outcome) ∙ sym (append_assoc (text_of o) (text_of_all outcomes) (text_of outcome))

pub state_more : (state : CacheState) (outcomes : List Outcome) (outcome : Outcome) → state_after_all state (outcomes ++ outcome ∷ []) ≡ state_after (state_after_all state outcomes) outcome
state_more state [] outcome = refl
state_more state (o ∷ outcomes) outcome = state_more (state_after state o) outcomes outcome

pub accepted_more : (outcomes : List Outcome) (outcome : Outcome) → accepted_in (outcomes ++ outcome ∷ []) ≡ accepted_in outcomes + accepted_in (outcome ∷ [])
accepted_more [] outcome = sym (zero-add (accepted_in (outcome ∷ [])))
accepted_more (Refused line cause ∷ outcomes) outcome = accepted_more outcomes outcome
accepted_more (Answered text ∷ outcomes) outcome = let e = accepted_more outcomes outcome in omega (arith, e)
accepted_more (Changed state ∷ outcomes) outcome = let e = accepted_more outcomes outcome in omega (arith, e)

pub refused_more : (outcomes : List Outcome) (outcome : Outcome) → refused_in (outcomes ++ outcome ∷ []) ≡ refused_in outcomes + refused_in (outcome ∷ [])
refused_more [] outcome = sym (zero-add (refused_in (outcome ∷ [])))
refused_more (Refused line cause ∷ outcomes) outcome = let e = refused_more outcomes outcome in omega (arith, e)
refused_more (Answered text ∷ outcomes) outcome = refused_more outcomes outcome
refused_more (Changed state ∷ outcomes) outcome = refused_more outcomes outcome

-- a run that has come to here: these bytes are these commands, and whatever comes next goes on after them
pub record Running (last : Bool) (given given' taken taken' : Option (List ℕ)) (old new : CacheState) (number accepted refused : ℕ) : Type 0 where
  pub bytes : List ℕ
  pub commands : List Command
  pub outcomes : List Outcome
  pub gave : Consumes given given' bytes
  pub cut : (rest : List ℕ) → (last ≡ true → rest ≡ []) → commands_from 1 (bytes ++ rest) ≡ commands ++ commands_from (number + 1) rest
  pub runs : Runs old commands outcomes
  pub wrote : Appends taken taken' (text_of_all outcomes)
  pub state : new ≡ state_after_all old outcomes
  pub counts_accepted : accepted ≡ accepted_in outcomes
  pub counts_refused : refused ≡ refused_in outcomes
  pub ends : last ≡ true → IsAtEnd given'
  pub whole : last ≡ false → WholeLines bytes 0 number
  pub counts : CountsLines bytes 0 number
  pub ended : last ≡ false → (more : List Command) → ended_of (commands ++ more) ≡ commands ++ ended_of more

given_none : (given : Option (List ℕ)) → Consumes given (prepend_known [] given) []
given_none None = tt
given_none (Some bytes) = refl

-- nothing was read yet
pub running_none : (given taken : Option (List ℕ)) (pending : List ℕ) (old : CacheState) (number : ℕ) → pending ≡ [] → number ≡ 0 → Running false given (prepend_known pending given) taken taken old old number 0 0
running_none given taken pending old number none first = record {
  bytes = [];
  commands = [];
  outcomes = [];
  gave = subst (λ p. Consumes given (prepend_known p given) []) (sym none) (given_none given);
  cut = λ rest last. ap (λ n. commands_from (n + 1) rest) (sym first);
  runs = tt;
  wrote = Appends-nil taken;
  state = refl;
  counts_accepted = refl;
  counts_refused = refl;
  ends = λ bad. absurd (false≢true bad);
  whole = λ _. subst (λ n. WholeLines [] 0 n) (sym first) (whole_none 0);
  counts = subst (λ n. CountsLines [] 0 n) (sym first) (counts_none 0);
  ended = λ _ more. refl;
}

-- a command with its end is one of those
ended_first : (command : Command) (more : List Command) → command.ended ≡ true → ended_of (command ∷ more) ≡ command ∷ ended_of more
ended_first command more has = ap (λ b. if b then command ∷ ended_of more else ended_of more) has

-- one command more
pub running_more : (given mid new taken taken' taken'' : Option (List ℕ)) (old state state' : CacheState) (number after accepted refused accepted' refused' : ℕ) (read : CommandRead) (outcome : Outcome) →
    (running : Running false given mid taken taken' old state number accepted refused) → (reads : ReadsCommand state mid new number after read) → MayCome state reads.command outcome →
    state' ≡ state_after state outcome → Appends taken' taken'' (text_of outcome) → accepted' ≡ accepted + accepted_in (outcome ∷ []) → refused' ≡ refused + refused_in (outcome ∷ []) →
    Running read.body.last given new taken taken'' old state' after accepted' refused'
running_more given mid new taken taken' taken'' old state state' number after accepted refused accepted' refused' read outcome running reads may changes wrote counts_accepted counts_refused = record {
  bytes = running.bytes ++ reads.taken;
  commands = running.commands ++ reads.command ∷ [];
  outcomes = running.outcomes ++ outcome ∷ [];
  gave = Consumes-trans given mid new running.bytes reads.taken running.gave reads.took;
  cut = λ rest last. ap (λ text. commands_from 1 text) (append_assoc running.bytes reads.taken rest) ∙ running.cut (reads.taken ++ rest) (λ bad. absurd (false≢true bad)) ∙
      ap (λ cs. running.commands ++ cs) (reads.cut rest last) ∙ sym (append_assoc running.commands (reads.command ∷ []) (commands_from (after + 1) rest));
  runs = runs_more old running.commands running.outcomes reads.command outcome running.runs (subst (λ s. MayCome s reads.command outcome) running.state may);
  wrote = subst (λ t. Appends taken taken'' t) (sym (text_more running.outcomes outcome)) (Appends-trans taken taken' taken'' (text_of_all running.outcomes) (text_of outcome) running.wrote wrote);
  state = changes ∙ ap (λ s. state_after s outcome) running.state ∙ sym (state_more old running.outcomes outcome);
  counts_accepted = counts_accepted ∙ ap (λ n. n + accepted_in (outcome ∷ [])) running.counts_accepted ∙ sym (accepted_more running.outcomes outcome);
  counts_refused = counts_refused ∙ ap (λ n. n + refused_in (outcome ∷ [])) running.counts_refused ∙ sym (refused_more running.outcomes outcome);
  ends = reads.ends;
  whole = λ on. whole_append running.bytes reads.taken 0 number after (running.whole refl) (reads.whole on);
  counts = counts_append running.bytes reads.taken 0 number after (running.whole refl) reads.counts;
  ended = λ on more. ap ended_of (append_assoc running.commands (reads.command ∷ []) more) ∙ running.ended refl (reads.command ∷ more) ∙
      ap (λ cs. running.commands ++ cs) (ended_first reads.command more (is_true reads.command.ended (λ e. false≢true (sym on ∙ reads.unended e)))) ∙
      sym (append_assoc running.commands (reads.command ∷ []) (ended_of more));
}

nothing_after : (front back : List ℕ) → front ++ back ≡ [] → back ≡ []
nothing_after [] back none = none
nothing_after (b ∷ front) back none = absurd (cc none)

end_inside : (pending : List ℕ) (given : Option (List ℕ)) → IsAtEnd (prepend_known pending given) → IsAtEnd given
end_inside pending None end = tt
end_inside pending (Some bytes) end = nothing_after pending bytes end

gave_inside : (given new : Option (List ℕ)) (pending bytes : List ℕ) → Consumes given (prepend_known pending new) bytes → IsAtEnd (prepend_known pending new) → Consumes given new bytes
gave_inside None new pending bytes gave end = tt
gave_inside (Some xs) None pending bytes gave end = absurd gave
gave_inside (Some xs) (Some ys) pending bytes gave end = gave ∙ ap (λ t. bytes ++ t) (end ∙ sym (nothing_after pending ys end))

-- as many lines as were counted are within a limit that is no less
within_limit : (bytes : List ℕ) (number max : ℕ) → CountsLines bytes 0 number → number ≤ max → IsWithin max bytes
within_limit bytes number max counts within = (omega (arith, counts.count), counts.good)

-- the end came after the last command's newline
pub ran_none : (given mid new taken taken' : Option (List ℕ)) (pending : List ℕ) (old state : CacheState) (number after max : ℕ) (summary : Summary) →
    (running : Running false given mid taken taken' old state number summary.accepted summary.refused) → (reads : ReadsNone mid (prepend_known pending new) number after) → after ≤ max →
    Ran max (record { held = old; given = given; taken = taken }) (record { held = state; given = new; taken = taken' }) summary
ran_none given mid new taken taken' pending old state number after max summary running reads few = record {
  script = running.bytes ++ reads.taken;
  outcomes = running.outcomes;
  gave = gave_inside given new pending (running.bytes ++ reads.taken) (Consumes-trans given mid (prepend_known pending new) running.bytes reads.taken running.gave reads.took) reads.end;
  end = end_inside pending new reads.end;
  within = within_limit (running.bytes ++ reads.taken) after max (counts_append running.bytes reads.taken 0 number after (running.whole refl) reads.counts) few;
  runs = subst (λ cs. Runs old cs running.outcomes) (sym (running.cut reads.taken (λ bad. absurd (false≢true bad)) ∙ ap (λ cs. running.commands ++ cs) reads.none ∙ append-nil running.commands)) running.runs;
  wrote = running.wrote;
  state = running.state;
  counts_accepted = running.counts_accepted;
  counts_refused = running.counts_refused;
}

-- the end came in the last command
pub ran_last : (given new taken taken' : Option (List ℕ)) (pending : List ℕ) (old state : CacheState) (number max : ℕ) (summary : Summary) (last : Bool) → last ≡ true → number ≤ max →
    (running : Running last given (prepend_known pending new) taken taken' old state number summary.accepted summary.refused) →
    Ran max (record { held = old; given = given; taken = taken }) (record { held = state; given = new; taken = taken' }) summary
ran_last given new taken taken' pending old state number max summary last is_last few running = record {
  script = running.bytes;
  outcomes = running.outcomes;
  gave = gave_inside given new pending running.bytes running.gave (running.ends is_last);
  end = end_inside pending new (running.ends is_last);
  within = within_limit running.bytes number max running.counts few;
  runs = subst (λ cs. Runs old cs running.outcomes) (sym (ap (λ text. commands_from 1 text) (sym (append-nil running.bytes)) ∙ running.cut [] (λ _. refl) ∙ append-nil running.commands)) running.runs;
  wrote = running.wrote;
  state = running.state;
  counts_accepted = running.counts_accepted;
  counts_refused = running.counts_refused;
}

pub describes : (cache : CacheState) (old new : Option (List ℕ)) (number after : ℕ) (read : CommandRead) → (reads : ReadsCommand cache old new number after read) →
    Describes cache after read reads.command
describes cache old new number after read reads =
    record { at = reads.at; ended = reads.ended; long = reads.long; asks = reads.asks; text = reads.text; end = reads.end }

-- the input goes on
pub running_on : (last : Bool) (given given' taken taken' : Option (List ℕ)) (old new : CacheState) (number accepted refused : ℕ) → last ≡ false →
    Running last given given' taken taken' old new number accepted refused → Running false given given' taken taken' old new number accepted refused
running_on last given given' taken taken' old new number accepted refused on running =
    subst (λ b. Running b given given' taken taken' old new number accepted refused) on running

gave_ahead : (given new : Option (List ℕ)) (pending bytes : List ℕ) → Consumes given (prepend_known pending new) bytes → Consumes given new (bytes ++ pending)
gave_ahead None new pending bytes gave = tt
gave_ahead (Some xs) None pending bytes gave = absurd gave
gave_ahead (Some xs) (Some ys) pending bytes gave = gave ∙ sym (append_assoc bytes pending ys)

-- what was read ahead, where the input goes on
abbrev ahead_of : Bool → List ℕ → List ℕ
ahead_of true pending = []
ahead_of false pending = pending

gave_on : (given new : Option (List ℕ)) (pending bytes : List ℕ) (last : Bool) → (last ≡ true → IsAtEnd (prepend_known pending new)) →
    Consumes given (prepend_known pending new) bytes → Consumes given new (bytes ++ ahead_of last pending)
gave_on given new pending bytes true end gave = subst (λ t. Consumes given new t) (sym (append-nil bytes)) (gave_inside given new pending bytes gave (end refl))
gave_on given new pending bytes false end gave = gave_ahead given new pending bytes gave

ahead_at_end : (last : Bool) (pending : List ℕ) → last ≡ true → ahead_of last pending ≡ []
ahead_at_end true pending is_last = refl
ahead_at_end false pending is_last = absurd (false≢true is_last)

-- the commands so far and one more are the first ones, whatever comes
whole_so_far : (given mid taken taken' : Option (List ℕ)) (new : Option (List ℕ)) (old state : CacheState) (number after accepted refused : ℕ) (read : CommandRead) →
    (running : Running false given mid taken taken' old state number accepted refused) → (reads : ReadsCommand state mid new number after read) →
    (rest : List ℕ) → (read.body.last ≡ true → rest ≡ []) →
    commands_of ((running.bytes ++ reads.taken) ++ rest) ≡ (running.commands ++ reads.command ∷ []) ++ commands_from (after + 1) rest
whole_so_far given mid taken taken' new old state number after accepted refused read running reads rest none =
    ap commands_of (append_assoc running.bytes reads.taken rest) ∙ running.cut (reads.taken ++ rest) (λ bad. absurd (false≢true bad)) ∙
    ap (λ cs. running.commands ++ cs) (reads.cut rest none) ∙ sym (append_assoc running.commands (reads.command ∷ []) (commands_from (after + 1) rest))

-- a write failed in the text of a command
pub stopped_in_write : (given mid new taken taken' taken'' : Option (List ℕ)) (pending : List ℕ) (old state state' : CacheState) (number after accepted refused : ℕ) (read : CommandRead) (outcome : Outcome) →
    (running : Running false given mid taken taken' old state number accepted refused) → (reads : ReadsCommand state mid (prepend_known pending new) number after read) → MayCome state reads.command outcome →
    state' ≡ state_after state outcome → WritesPart taken' taken'' (text_of outcome) → StoppedInWrite (record { held = old; given = given; taken = taken }) (record { held = state'; given = new; taken = taken'' })
stopped_in_write given mid new taken taken' taken'' pending old state state' number after accepted refused read outcome running reads may changes part =
    let script : commands_of (running.bytes ++ reads.taken) ≡ running.commands ++ reads.command ∷ [] =
    ap (λ taken. commands_of (running.bytes ++ taken)) (sym (append-nil reads.taken)) ∙ running.cut (reads.taken ++ []) (λ bad. absurd (false≢true bad)) ∙ ap (λ cs. running.commands ++ cs) (reads.cut [] (λ _. refl)) in
    record {
      script = running.bytes ++ reads.taken;
      ahead = ahead_of read.body.last pending;
      outcome = outcome;
      outcomes = running.outcomes;
      part = part.0;
      last = read.body.last;
      whole = λ rest none. (
        commands_from (after + 1) rest,
        whole_so_far given mid taken taken' (prepend_known pending new) old state number after accepted refused read running reads rest none ∙
            ap (λ cs. cs ++ commands_from (after + 1) rest) (sym script),
      );
      end = λ is_last. (end_inside pending new (reads.ends is_last), ahead_at_end read.body.last pending is_last);
      gave = gave_on given new pending (running.bytes ++ reads.taken) read.body.last reads.ends (Consumes-trans given mid (prepend_known pending new) running.bytes reads.taken running.gave reads.took);
      runs = subst (λ cs. Runs old cs (running.outcomes ++ outcome ∷ [])) (sym script) (runs_more old running.commands running.outcomes reads.command outcome running.runs (subst (λ s. MayCome s reads.command outcome) running.state may));
      short = part.1;
      wrote = Appends-trans taken taken' taken'' (text_of_all running.outcomes) (take part.0 (text_of outcome)) running.wrote part.2;
      state = changes ∙ ap (λ s. state_after s outcome) running.state ∙ sym (state_more old running.outcomes outcome);
    }

-- a command was done, and its reply is written whole
pub done_whole : (given mid new taken taken' taken'' : Option (List ℕ)) (old state state' : CacheState) (number after accepted refused accepted' refused' : ℕ) (read : CommandRead) (told : Reply) (out slice : List ℕ) →
    (running : Running false given mid taken taken' old state number accepted refused) → (reads : ReadsCommand state mid new number after read) →
    ReadMayCome state after read (outcome_from told out state') → ChangesByEdit told state state' → slice ≡ out → Appends taken' taken'' (text_of_reply told slice) →
    accepted' ≡ accepted + accepted_by told → refused' ≡ refused + refused_by told → Running read.body.last given new taken taken'' old state' after accepted' refused'
done_whole given mid new taken taken' taken'' old state state' number after accepted refused accepted' refused' read told out slice running reads may changes same wrote counts_accepted counts_refused =
    running_more given mid new taken taken' taken'' old state state' number after accepted refused accepted' refused' read (outcome_from told out state') running reads
    (may reads.command (describes state mid new number after read reads)) (left_by told out state state' changes)
    (subst (λ t. Appends taken' taken'' t) (ap (text_of_reply told) same ∙ text_by told out state') wrote)
    (counts_accepted ∙ ap (λ n. accepted + n) (accepted_one told out state')) (counts_refused ∙ ap (λ n. refused + n) (refused_one told out state'))

-- a command was done, and its reply is written in part
pub done_in_part : (given mid new taken taken' taken'' : Option (List ℕ)) (pending : List ℕ) (old state state' : CacheState) (number after accepted refused : ℕ) (read : CommandRead) (told : Reply) (out slice : List ℕ) →
    (running : Running false given mid taken taken' old state number accepted refused) → (reads : ReadsCommand state mid (prepend_known pending new) number after read) →
    ReadMayCome state after read (outcome_from told out state') → ChangesByEdit told state state' → slice ≡ out → WritesPart taken' taken'' (text_of_reply told slice) →
    StoppedInWrite (record { held = old; given = given; taken = taken }) (record { held = state'; given = new; taken = taken'' })
done_in_part given mid new taken taken' taken'' pending old state state' number after accepted refused read told out slice running reads may changes same part =
    stopped_in_write given mid new taken taken' taken'' pending old state state' number after accepted refused read (outcome_from told out state') running reads
    (may reads.command (describes state mid (prepend_known pending new) number after read reads)) (left_by told out state state' changes)
    (subst (λ t. WritesPart taken' taken'' t) (ap (text_of_reply told) same ∙ text_by told out state') part)

-- of the lines that came, those commands are given whole that were done
whole_commands : (given mid new taken taken' : Option (List ℕ)) (old state : CacheState) (number accepted refused max : ℕ) (fault : ReadingFault) →
    (running : Running false given mid taken taken' old state number accepted refused) → (reads : StopsReading mid new number max fault) →
    (whole : WholeLines (running.bytes ++ reads.taken) 0 reads.after) → running.commands ≡ whole_commands_in whole.lines
whole_commands given mid new taken taken' old state number accepted refused max fault running reads whole =
    let lines : lines_of (running.bytes ++ reads.taken) ≡ whole.lines = ap lines_of whole.same ∙ lines_of-text whole.lines whole.good in
    let commands = running.cut reads.taken (λ bad. absurd (false≢true bad)) in
    sym (append-nil running.commands) ∙ ap (λ cs. running.commands ++ cs) (sym reads.none) ∙ sym (running.ended refl (commands_from (number + 1) reads.taken)) ∙
    ap ended_of (sym commands) ∙ ap (λ ls. ended_of (commands_in false 1 ls)) lines

-- the same, at an equal limit
pub stops_reading_same : (old new : Option (List ℕ)) (number max first : ℕ) (fault : ReadingFault) → max ≡ first → StopsReading old new number max fault → StopsReading old new number first fault
stops_reading_same old new number max first fault same stops = subst (λ m. StopsReading old new number m fault) same stops

-- a read failed, or the limit was passed
pub stopped_reading : (fault : ReadingFault) (given mid new taken taken' : Option (List ℕ)) (pending : List ℕ) (old state : CacheState) (number accepted refused max : ℕ) →
    (running : Running false given mid taken taken' old state number accepted refused) → (reads : StopsReading mid (prepend_known pending new) number max fault) →
    (fault ≡ ReadFailed → pending ≡ []) → Stopped max (record { held = old; given = given; taken = taken }) (record { held = state; given = new; taken = taken' }) (run_fault fault)
stopped_reading ReadFailed given mid new taken taken' pending old state number accepted refused max running reads used =
    let bytes = running.bytes ++ reads.taken in
    let whole = whole_append running.bytes reads.taken 0 number reads.after (running.whole refl) reads.whole in
    let took = Consumes-trans given mid reads.mid running.bytes reads.taken running.gave reads.took in
    let gave = gave_ahead given new pending (bytes ++ reads.stops.0) (Consumes-trans given reads.mid (prepend_known pending new) bytes reads.stops.0 took reads.stops.2) in
    let lines : whole_lines_of (bytes ++ reads.stops.0) ≡ whole.lines = ap (λ b. whole_lines_of (b ++ reads.stops.0)) whole.same ∙ whole_lines_of-text whole.lines reads.stops.0 whole.good reads.stops.1 in
    let commands = whole_commands given mid (prepend_known pending new) taken taken' old state number accepted refused max ReadFailed running reads whole in
    record {
      script = bytes ++ reads.stops.0;
      outcomes = running.outcomes;
      gave = subst (λ t. Consumes given new t) (ap (λ p. (bytes ++ reads.stops.0) ++ p) (used refl) ∙ append-nil (bytes ++ reads.stops.0)) gave;
      within = within_limit (bytes ++ reads.stops.0) (reads.after + length (lines_of reads.stops.0)) max
          (counts_append bytes reads.stops.0 0 reads.after _ whole (part_counts reads.stops.0 reads.after reads.stops.1 reads.stops.3)) reads.stops.4;
      runs = subst (λ cs. Runs old cs running.outcomes) (commands ∙ ap whole_commands_in (sym lines)) running.runs;
      wrote = running.wrote;
      state = running.state;
    }
stopped_reading TooManyLines given mid new taken taken' pending old state number accepted refused max running reads used =
    let bytes = running.bytes ++ reads.taken in
    let over = reads.stops.0 in
    let whole = whole_append running.bytes reads.taken 0 number reads.after (running.whole refl) reads.whole in
    let took = Consumes-trans given mid reads.mid running.bytes reads.taken running.gave reads.took in
    let gave = gave_ahead given new pending (bytes ++ (over ++ reads.stops.1)) (Consumes-trans given reads.mid (prepend_known pending new) bytes (over ++ reads.stops.1) took reads.stops.2) in
    let count : reads.after ≡ length whole.lines = omega (arith, whole.count) in
    let commands = whole_commands given mid (prepend_known pending new) taken taken' old state number accepted refused max TooManyLines running reads whole in
    record {
      lines = whole.lines;
      over = over;
      ahead = reads.stops.1 ++ pending;
      outcomes = running.outcomes;
      gave = subst (λ t. Consumes given new t) (append_assoc bytes (over ++ reads.stops.1) pending ∙ ap (λ t. bytes ++ t) (append_assoc over reads.stops.1 pending) ∙ ap (λ b. b ++ (over ++ (reads.stops.1 ++ pending))) whole.same) gave;
      within = whole.good;
      past = subst (λ n. IsPast max n over) count reads.stops.3;
      runs = subst (λ cs. Runs old cs running.outcomes) commands running.runs;
      wrote = running.wrote;
      state = running.state;
    }

-- the same, of the fault that the run tells
pub stopped_by : (told : Fault) (fault : ReadingFault) (given mid new taken taken' : Option (List ℕ)) (pending : List ℕ) (old state : CacheState) (number accepted refused max : ℕ) → told ≡ run_fault fault →
    (running : Running false given mid taken taken' old state number accepted refused) → (reads : StopsReading mid (prepend_known pending new) number max fault) →
    (fault ≡ ReadFailed → pending ≡ []) → Stopped max (record { held = old; given = given; taken = taken }) (record { held = state; given = new; taken = taken' }) told
stopped_by told fault given mid new taken taken' pending old state number accepted refused max same running reads used =
    subst (λ f. Stopped max (record { held = old; given = given; taken = taken }) (record { held = state; given = new; taken = taken' }) f) (sym same) (stopped_reading fault given mid new taken taken' pending old state number accepted refused max running reads used)
