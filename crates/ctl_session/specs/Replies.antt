-- What the replies of the code mean.
use Rattle.std.specs.Prelude.{◌≡◌, ◌≢◌, ◌⊎◌, ℕ, List, [], Result, Ok, Err}
use Rattle.ctl_stanza.specs.declared.fault.TextFault.{TextFault}
use Rattle.ctl_stanza.specs.declared.fault.Cause.TheVariants as causes
use Rattle.ctl_store.specs.declared.refusal.Refusal.TheVariants as refusal
use Rattle.ctl_session.specs.State.{CacheState}
use Rattle.ctl_session.specs.Effect.{refusal_by, Does, MayCome}
use Rattle.ctl_session.specs.Asked.{IsFor, request_text}
use Rattle.ctl_session.specs.Reading.{Describes}
use Rattle.ctl_session.specs.Script.{Command}
use Rattle.ctl_session.specs.Outcome.{Outcome, Refused as RefusedOutcome, Answered as AnsweredOutcome, Changed as ChangedOutcome, text_of}
use Rattle.ctl_session.specs.declared.reply.Reply.{Reply}
use Rattle.ctl_session.specs.declared.reply.Reply.TheVariants.{Refused, Answered, Changed}
use Rattle.ctl_session.specs.declared.refusal_at.RefusalAt.{RefusalAt}
use Rattle.ctl_session.specs.declared.request.Request.{Request}
use Rattle.ctl_session.specs.declared.script.CommandRead.{CommandRead}
use Rattle.ctl_session.specs.declared.load_fault.LoadFault.{LoadFault}

-- with the text in the buffer and the cache that was left
abbrev pub outcome_from : Reply → List ℕ → CacheState → Outcome
outcome_from (Refused refused) out new = RefusedOutcome refused.line refused.cause
outcome_from Answered out new = AnsweredOutcome out
outcome_from Changed out new = ChangedOutcome new

-- the text of a reply, with that in the buffer
abbrev pub text_of_reply : Reply → List ℕ → List ℕ
text_of_reply (Refused refused) out = text_of (RefusedOutcome refused.line refused.cause)
text_of_reply Answered out = out
text_of_reply Changed out = []

-- how many commands a reply adds to those that are accepted, and to those that are refused
abbrev pub accepted_by : Reply → ℕ
accepted_by (Refused refused) = 0
accepted_by Answered = 1
accepted_by Changed = 1

abbrev pub refused_by : Reply → ℕ
refused_by (Refused refused) = 1
refused_by Answered = 0
refused_by Changed = 0

-- what an edit came to, which left this cache
abbrev pub outcome_of_edit : Result Unit RefusalAt → CacheState → Outcome
outcome_of_edit (Ok done) new = ChangedOutcome new
outcome_of_edit (Err refused) new = RefusedOutcome refused.line refused.cause

-- an edit came to this outcome, or to out of memory, told at the line of its command
abbrev pub CameTo : ℕ → Result Unit RefusalAt → CacheState → Outcome → Type 0
CameTo number result new outcome =
    (outcome_of_edit result new ≡ outcome) ⊎ (outcome_of_edit result new ≡ RefusedOutcome number refusal.Memory)

-- what the load of a list came to, which left this cache
abbrev pub outcome_of_load : Result Unit LoadFault → CacheState → Outcome
outcome_of_load (Ok done) new = ChangedOutcome new
outcome_of_load (Err fault) new = RefusedOutcome fault.line fault.cause

-- a load came to this outcome, or to out of memory
abbrev pub LoadCameTo : Result Unit LoadFault → CacheState → Outcome → Type 0
LoadCameTo result new outcome =
    (outcome_of_load result new ≡ outcome) ⊎ (outcome_of_load result new ≡ RefusedOutcome 0 refusal.Memory)

-- a refusal tells the fault of a body's text, or that memory ran out, at the line of the command
abbrev pub IsRefusalOf : TextFault → ℕ → RefusalAt → Type 0
IsRefusalOf fault number refused =
    ((fault.cause ≢ causes.Memory) × (refused ≡ record { line = fault.line; cause = refusal_by fault.cause }))
    ⊎ (refused ≡ record { line = number; cause = refusal.Memory })

-- with the text of its body a command of this line does what the request asks for, if that is for the cache; or it is refused for
-- out of memory
abbrev pub MayDo : CacheState → ℕ → List ℕ → Request → Outcome → Type 0
MayDo cache number text request outcome =
    IsFor cache request → Does cache number text (request_text request) outcome ⊎ (outcome ≡ RefusedOutcome number refusal.Memory)

-- whichever command was read so, it may come to this outcome
abbrev pub ReadMayCome : CacheState → ℕ → CommandRead → Outcome → Type 0
ReadMayCome cache last_line read outcome =
    (command : Command) → Describes cache last_line read command → MayCome cache command outcome

-- only an accepted edit changes what is held
abbrev pub ChangesByEdit : Reply → CacheState → CacheState → Type 0
ChangesByEdit (Refused refused) old new = new ≡ old
ChangesByEdit Answered old new = new ≡ old
ChangesByEdit Changed old new = Unit {0}
