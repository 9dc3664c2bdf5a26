-- What the replies of the code mean.
use Rattle.std.proofs.Common.{◌≡◌, ◌∙◌, ℕ, ◌+◌, List, [], ◌∷◌, true, false, Bool, length, Option, None, Some, Ok, Err, inl, inr, refl, ap, sym, subst, if◌then◌else◌}
use Rattle.std.proofs.lemmas.Bool.{cases_Bool}
use Rattle.ctl_stanza.specs.Lines.{text_of_lines}
use Rattle.ctl_store.specs.declared.refusal.Refusal.{Refusal}
use Rattle.ctl_session.specs.State.{CacheState}
use Rattle.ctl_session.specs.Script.{Command, first_long, fits}
use Rattle.ctl_session.specs.Request.{IsWhole, lines_refused, refusal_of_lines, request_unless}
use Rattle.ctl_session.specs.Asked.{ReadsLine, request_text}
use Rattle.ctl_session.specs.Outcome.{Outcome, Refused, state_after, text_of, accepted_in, refused_in}
use Rattle.ctl_session.specs.Effect.{DoesWhatIsAsked, MayCome}
use Rattle.ctl_session.specs.Reading.{Describes}
use Rattle.ctl_session.specs.Replies.{MayDo, ReadMayCome, ChangesByEdit, accepted_by, outcome_from, refused_by, text_of_reply}
use Rattle.ctl_session.specs.declared.refusal_at.RefusalAt.{RefusalAt}
use Rattle.ctl_session.specs.declared.reply.Reply.{Reply}
use Rattle.ctl_session.specs.declared.reply.Reply.TheVariants as reply
use Rattle.ctl_session.specs.declared.request.Request.{Request}
use Rattle.ctl_session.specs.declared.script.CommandRead.{CommandRead}
use Rattle.ctl_session.proofs.RequestLemmas.{whole_does, whole_takes, asks_named}

-- where no line is too long, the first one isn't
first_fits : (number : ℕ) (line : List ℕ) (lines : List (List ℕ)) → first_long number (line ∷ lines) ≡ None → fits line ≡ true
first_fits number line lines none = elim (cases_Bool (fits line)) [
  | inl short ↦ short
  | inr long ↦ let bad : Some number ≡ None = sym (ap (λ b. if b then first_long (number + 1) lines else Some number) long) ∙ none in absurd (cc bad)
]

none_long : (long : Option ℕ) (ended : Bool) (last : ℕ) → lines_refused long ended last ≡ None → long ≡ None
none_long None ended last none = refl
none_long (Some line) ended last none = absurd (cc none)

-- the first line of a whole command fits
pub whole_fits : (command : Command) → IsWhole command → fits command.line ≡ true
whole_fits command whole = first_fits command.number command.line command.body (none_long _ command.ended (command.number + length command.body) whole)

-- the last line plays a part only where the body has no end
lines_told : (long : Option ℕ) (ended : Bool) (last last' : ℕ) → (ended ≡ false → last ≡ last') → lines_refused long ended last ≡ lines_refused long ended last'
lines_told (Some line) ended last last' same = refl
lines_told None true last last' same = refl
lines_told None false last last' same = ap (lines_refused None false) (same refl)

-- what was read tells the refusal of a command's lines
pub lines_read : (cache : CacheState) (last_line : ℕ) (read : CommandRead) (command : Command) → Describes cache last_line read command →
    lines_refused read.body.too_long read.body.ended last_line ≡ refusal_of_lines command
lines_read cache last_line read command describes =
    ap (λ long. lines_refused long read.body.ended last_line) describes.long ∙ ap (λ ended. lines_refused (first_long command.number (command.line ∷ command.body)) ended last_line) describes.ended ∙
    lines_told (first_long command.number (command.line ∷ command.body)) command.ended last_line (command.number + length command.body) describes.end

-- a command that is refused by its lines comes to that
pub lines_may : (cache : CacheState) (last_line : ℕ) (read : CommandRead) (refused : RefusalAt) → lines_refused read.body.too_long read.body.ended last_line ≡ Some refused →
    ReadMayCome cache last_line read (Refused refused.line refused.cause)
lines_may cache last_line read refused told = λ command describes.
    let lines : refusal_of_lines command ≡ Some refused = sym (lines_read cache last_line read command describes) ∙ told in
    inl (subst (λ r. DoesWhatIsAsked cache command r (Refused refused.line refused.cause)) (sym (ap (λ r. request_unless r command.number command.line) lines)) refl)

-- a whole command that asks for this may come to what this may do
pub request_may : (cache : CacheState) (last_line : ℕ) (read : CommandRead) (request : Request) (outcome : Outcome) → lines_refused read.body.too_long read.body.ended last_line ≡ None →
    read.request ≡ Ok request → ((text : List ℕ) → (read.body.dropped ≡ false → read.body.text.items ≡ text) → MayDo cache read.number text request outcome) →
    ReadMayCome cache last_line read outcome
request_may cache last_line read request outcome calm asks may = λ command describes.
    let whole : IsWhole command = sym (lines_read cache last_line read command describes) ∙ calm in
    let line : ReadsLine cache command.line (Ok request) = subst (ReadsLine cache command.line) asks (describes.asks (whole_fits command whole)) in
    let may_do : MayDo cache command.number (text_of_lines command.body) request outcome =
    subst (λ n. MayDo cache n (text_of_lines command.body) request outcome) describes.at
    (may (text_of_lines command.body) (λ kept. describes.text kept (none_long read.body.too_long read.body.ended last_line calm))) in
    elim (may_do line.1) [
      | inl does ↦ whole_does cache command command.line (Ok (request_text request)) outcome refl whole line.0 does
      | inr memory ↦ inr (inl (whole_takes command whole (asks_named command.line (request_text request) line.0), memory))
    ]

-- a whole command whose line is refused may come to that
pub refusal_may : (cache : CacheState) (last_line : ℕ) (read : CommandRead) (cause : Refusal) → lines_refused read.body.too_long read.body.ended last_line ≡ None →
    read.request ≡ Err cause → ReadMayCome cache last_line read (Refused read.number cause)
refusal_may cache last_line read cause calm asks = λ command describes.
    let whole : IsWhole command = sym (lines_read cache last_line read command describes) ∙ calm in
    let line : ReadsLine cache command.line (Err cause) = subst (ReadsLine cache command.line) asks (describes.asks (whole_fits command whole)) in
    subst (λ n. MayCome cache command (Refused n cause)) (sym describes.at) (line command refl whole)

-- what a command leaves is the state after its outcome
pub left_by : (told : Reply) (out : List ℕ) (old new : CacheState) → ChangesByEdit told old new → new ≡ state_after old (outcome_from told out new)
left_by (reply.Refused refused) out old new same = same
left_by reply.Answered out old new same = same
left_by reply.Changed out old new changed = refl

-- its text, and how it counts
pub text_by : (told : Reply) (out : List ℕ) (new : CacheState) → text_of_reply told out ≡ text_of (outcome_from told out new)
text_by (reply.Refused refused) out new = refl
text_by reply.Answered out new = refl
text_by reply.Changed out new = refl

pub accepted_one : (told : Reply) (out : List ℕ) (new : CacheState) → accepted_by told ≡ accepted_in (outcome_from told out new ∷ [])
accepted_one (reply.Refused refused) out new = refl
accepted_one reply.Answered out new = refl
accepted_one reply.Changed out new = refl

pub refused_one : (told : Reply) (out : List ℕ) (new : CacheState) → refused_by told ≡ refused_in (outcome_from told out new ∷ [])
refused_one (reply.Refused refused) out new = refl
refused_one reply.Answered out new = refl
refused_one reply.Changed out new = refl
