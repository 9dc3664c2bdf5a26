-- What the line of a command asks for.
use Rattle.std.proofs.Common.{◌≡◌, ◌∙◌, ℕ, ◌&&◌, List, [], Bool, true, false, Option, None, Some, is_none, is_some, is_ok, IfErr, Result, Ok, Err, inl, inr, refl, sym, ap, subst}
use Rattle.std.specs.Option.{option_map}
use Rattle.ctl_store.specs.declared.refusal.Refusal.{Refusal}
use Rattle.ctl_store.specs.declared.refusal.Refusal.TheVariants as refusal
use Rattle.ctl_store.specs.Named.{at_name}
use Rattle.ctl_store.specs.State.{StanzaList}
use Rattle.ctl_stanza.specs.Lines.{text_of_lines}
use Rattle.ctl_session.specs.State.{CacheState}
use Rattle.ctl_session.specs.Outcome.{Outcome, Refused}
use Rattle.ctl_session.specs.Effect.{DoesWhatIsAsked, MayCome, put_into}
use Rattle.ctl_session.specs.Script.{Command, name_of}
use Rattle.ctl_session.specs.Words.{words_of, behind_name}
use Rattle.ctl_session.specs.Request.{Request as RequestText, Put, IsWhole, command_named, names_command, refused_at, request_by, request_in, request_named, request_of, request_of_line, request_unless, takes_memory}
use Rattle.ctl_session.specs.Patterns.{AsksPattern}
use Rattle.ctl_session.specs.Asked.{AsksForNoList, IsRefusedWithAnyBody, ReadsLine, ReadsRequest}
use Rattle.ctl_session.specs.declared.command_name.CommandName.{CommandName}
use Rattle.ctl_session.specs.declared.request.Request.{Request}

-- a whole command asks for what its line asks for
pub whole_asks : (command : Command) → IsWhole command → request_of command ≡ refused_at command.number (request_of_line command.line)
whole_asks command whole = ap (λ refused. request_unless refused command.number command.line) whole

-- and it takes memory, if its name is a command's
pub whole_takes : (command : Command) → IsWhole command → names_command command.line ≡ true → takes_memory command ≡ true
whole_takes command whole named = ap (λ refused. is_none refused && names_command command.line) whole ∙ named

-- a whole command whose line asks for this does it
pub whole_does : (cache : CacheState) (command : Command) (line : List ℕ) (asked : Result RequestText Refusal) (outcome : Outcome) → command.line ≡ line → IsWhole command →
    request_of_line line ≡ asked → DoesWhatIsAsked cache command (refused_at command.number asked) outcome → MayCome cache command outcome
whole_does cache command line asked outcome same whole asks does =
    inl (subst (λ r. DoesWhatIsAsked cache command r outcome)
    (sym (whole_asks command whole ∙ ap (λ l. refused_at command.number (request_of_line l)) same ∙ ap (refused_at command.number) asks)) does)

-- lines of a body are kept only where its line asks for something
pub kept_if_asked : (request : Result Request Refusal) (text : List ℕ) (is_kept : Bool) → is_kept ≡ is_ok request → (is_kept ≡ false → text ≡ []) → IfErr request (λ _. text ≡ [])
kept_if_asked (Ok request) text is_kept same kept = tt
kept_if_asked (Err cause) text is_kept same kept = kept same

-- ---- refusals

-- the refusal of the definition
pub refused_as_defined : (cache : CacheState) (line : List ℕ) (cause : Refusal) → request_of_line line ≡ Err cause → IsRefusedWithAnyBody cache line cause
refused_as_defined cache line cause asks = λ command same whole. whole_does cache command line (Err cause) (Refused command.number cause) same whole asks refl

-- out of memory
pub refused_for_memory : (cache : CacheState) (line : List ℕ) → names_command line ≡ true → IsRefusedWithAnyBody cache line refusal.Memory
refused_for_memory cache line named = λ command same whole. inr (inl (whole_takes command whole (ap names_command same ∙ named), refl))

pattern_at : (number : ℕ) (asked : Result RequestText Refusal) → AsksPattern asked → AsksPattern (refused_at number asked)
pattern_at number (Ok request) asks = asks
pattern_at number (Err cause) asks = asks

-- a pattern that can't be built
refused_for_pattern : (cache : CacheState) (line : List ℕ) → AsksPattern (request_of_line line) → IsRefusedWithAnyBody cache line refusal.Pattern
refused_for_pattern cache line asks = λ command same whole. inr (inr (
  subst AsksPattern (sym (whole_asks command whole)) (pattern_at command.number (request_of_line command.line) (subst (λ l. AsksPattern (request_of_line l)) (sym same) asks)),
  refl,
))

no_list : (cache : CacheState) (number : ℕ) (name text : List ℕ) (list : Option StanzaList) → option_map (λ l. l.kind) list ≡ None →
    Refused number refusal.NoList ≡ put_into cache number name text list
no_list cache number name text None none = refl
no_list cache number name text (Some list) bad = absurd (cc bad)

-- a list that isn't there
refused_for_no_list : (cache : CacheState) (line : List ℕ) → AsksForNoList cache (request_of_line line) → IsRefusedWithAnyBody cache line refusal.NoList
refused_for_no_list cache line asks = λ command same whole.
    whole_does cache command line (Ok (Put asks.0)) (Refused command.number refusal.NoList) same whole asks.1
    (no_list cache command.number asks.0 (text_of_lines command.body) (at_name asks.0 cache.store.lists) asks.2)

-- what the words of a line were read to is what the line was read to
pub reads_line : (cache : CacheState) (line : List ℕ) (read : Result Request Refusal) (asked : Result RequestText Refusal) → names_command line ≡ true →
    request_of_line line ≡ asked → ReadsRequest cache read asked → ReadsLine cache line read
reads_line cache line (Ok request) asked named same reads = (same ∙ reads.0, reads.1)
reads_line cache line (Err cause) asked named same (inl asks) = refused_as_defined cache line cause (same ∙ asks)
reads_line cache line (Err cause) asked named same (inr (inl memory)) =
    subst (IsRefusedWithAnyBody cache line) (sym memory) (refused_for_memory cache line named)
reads_line cache line (Err cause) asked named same (inr (inr (inl pattern))) =
    subst (IsRefusedWithAnyBody cache line) (sym pattern.0) (refused_for_pattern cache line (subst AsksPattern (sym same) pattern.1))
reads_line cache line (Err cause) asked named same (inr (inr (inr no_list))) =
    subst (IsRefusedWithAnyBody cache line) (sym no_list.0) (refused_for_no_list cache line (subst (AsksForNoList cache) (sym same) no_list.1))

-- what a line asks for, by what was read of it: its command, and its words
pub line_by : (line : List ℕ) (command : CommandName) (words : List (List ℕ)) → command_named (name_of line) ≡ Some command →
    words_of (behind_name line) ≡ Some words → request_of_line line ≡ request_by command words
line_by line command words named behind =
    ap (λ c. request_named c (words_of (behind_name line))) named ∙ ap (request_in command) behind

-- its words, where a quote lacks its end
pub line_unquoted : (line : List ℕ) (command : CommandName) → command_named (name_of line) ≡ Some command → words_of (behind_name line) ≡ None →
    request_of_line line ≡ Err refusal.Usage
line_unquoted line command named behind =
    ap (λ c. request_named c (words_of (behind_name line))) named ∙ ap (request_in command) behind

-- and a name that is none of a command's
pub line_unknown : (line : List ℕ) → command_named (name_of line) ≡ None → request_of_line line ≡ Err refusal.Command
line_unknown line named = ap (λ c. request_named c (words_of (behind_name line))) named

pub is_named : (line : List ℕ) (command : CommandName) → command_named (name_of line) ≡ Some command → names_command line ≡ true
is_named line command named = ap is_some named

-- a line that asks for something has the name of a command
named_by : (command : Option CommandName) (words : Option (List (List ℕ))) (request : RequestText) → request_named command words ≡ Ok request → is_some command ≡ true
named_by (Some command) words request asks = refl
named_by None words request bad = absurd (cc bad)

pub asks_named : (line : List ℕ) (request : RequestText) → request_of_line line ≡ Ok request → names_command line ≡ true
asks_named line request asks = named_by (command_named (name_of line)) (words_of (behind_name line)) request asks
