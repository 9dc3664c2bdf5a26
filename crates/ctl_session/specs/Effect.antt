-- What each command does.
use Rattle.std.specs.Prelude.{◌≡◌, ◌⊎◌, ℕ, ◌+◌, List, [], ◌∷◌, Option, None, Some, true, Result, Ok, Err, Vec, if◌then◌else◌}
use Rattle.std.specs.declared.alloc.Global.{Global}
use Rattle.ctl_relation.specs.Names.{is_name}
use Rattle.ctl_stanza.specs.Lines.{text_of_lines}
use Rattle.ctl_stanza.specs.Content.{Content}
use Rattle.ctl_stanza.specs.Text.{read_text}
use Rattle.ctl_stanza.specs.declared.list_kind.ListKind.{ListKind}
use Rattle.ctl_stanza.specs.declared.fault.TextFault.{TextFault}
use Rattle.ctl_stanza.specs.declared.fault.Cause.{Cause}
use Rattle.ctl_stanza.specs.declared.fault.Cause.TheVariants as causes
use Rattle.ctl_store.specs.declared.list_class.ListClass.{ListClass}
use Rattle.ctl_store.specs.declared.list_class.ListClass.TheVariants.{Plain}
use Rattle.ctl_store.specs.declared.refusal.Refusal.{Refusal}
use Rattle.ctl_store.specs.declared.refusal.Refusal.TheVariants as refusal
use Rattle.ctl_store.specs.Edits.{Edit}
use Rattle.ctl_store.specs.Edits as edit
use Rattle.ctl_store.specs.Named.{at_name}
use Rattle.ctl_store.specs.Prefs.{read_prefs_text}
use Rattle.ctl_store.specs.State.{StanzaList}
use Rattle.ctl_store.specs.Step.{after, refusal_of}
use Rattle.ctl_query.specs.Anew.{answer_anew}
use Rattle.ctl_query.specs.Holdings.{holdings_of}
use Rattle.ctl_session.specs.State.{CacheState}
use Rattle.ctl_session.specs.Script.{Command}
use Rattle.ctl_session.specs.Request.{Request, AddList, Put, Prefs, Change, Ask, request_of, takes_memory}
use Rattle.ctl_session.specs.Patterns.{AsksPattern}
use Rattle.ctl_session.specs.Outcome.{Outcome, Refused, Answered, Changed}
use Rattle.ctl_session.specs.declared.refusal_at.RefusalAt.{RefusalAt}

-- the refusal of a body, by the cause of its text's fault
abbrev pub refusal_by : Cause → Refusal
refusal_by causes.TooLong = refusal.TooLong
refusal_by causes.Line = refusal.Line
refusal_by causes.FieldTwice = refusal.FieldTwice
refusal_by causes.Missing = refusal.Missing
refusal_by causes.Name = refusal.Name
refusal_by causes.Version = refusal.Version
refusal_by causes.Relation = refusal.Relation
refusal_by causes.Priority = refusal.Priority
refusal_by causes.Form = refusal.Form
refusal_by causes.Memory = refusal.Memory

-- ---- edits

abbrev pub edited_unless : CacheState → ℕ → Edit → Option Refusal → Outcome
edited_unless cache number edit None = Changed (record cache { store = after cache.store edit })
edited_unless cache number edit (Some cause) = Refused number cause

-- an edit makes what it makes of the store, or the command is refused at its line
abbrev pub edited : CacheState → ℕ → Edit → Outcome
edited cache number edit = edited_unless cache number edit (refusal_of cache.limits cache.store edit)

-- the edit of a body that was read; a fault of its text is told at the fault's line
abbrev pub edited_by_body : {A : Type 0} → CacheState → ℕ → (A → Edit) → Result A TextFault → Outcome
edited_by_body cache number edit (Ok read) = edited cache number (edit read)
edited_by_body cache number edit (Err fault) = Refused fault.line (refusal_by fault.cause)

-- what was read of a text, as the contents of its stanzas
abbrev pub contents_of : {A : Type 0} → Result (Vec A Global) TextFault → Result (List A) TextFault
contents_of (Ok read) = Ok read.items
contents_of (Err fault) = Err fault

-- a new list with the stanzas of a text whose lines count from the line behind the command's
abbrev pub list_added : CacheState → ℕ → List ℕ → ListKind → ListClass → List ℕ → Outcome
list_added cache number name kind class text =
    edited_by_body cache number (edit.AddList name kind class) (read_text kind (number + 1) text)

-- A list that is loaded is added as by `add-list`, but that the lines of its text count from 1, and that line 0 is told where
-- the text has no fault.
abbrev pub loaded : CacheState → List ℕ → ListKind → List ℕ → Outcome
loaded cache name kind text = if is_name name then list_added cache 0 name kind Plain text else Refused 0 refusal.Name

-- the same of what was read of the text
abbrev pub read_loaded : CacheState → List ℕ → ListKind → Result (List Content) TextFault → Outcome
read_loaded cache name kind read =
    if is_name name then edited_by_body cache 0 (edit.AddList name kind Plain) read else Refused 0 refusal.Name

-- the body of `put` is one stanza
abbrev pub stanza_put : CacheState → ℕ → List ℕ → Result (List Content) TextFault → Outcome
stanza_put cache number name (Err fault) = Refused fault.line (refusal_by fault.cause)
stanza_put cache number name (Ok []) = Refused number refusal.OneStanza
stanza_put cache number name (Ok (stanza ∷ [])) = edited cache number (edit.Put name stanza)
stanza_put cache number name (Ok (stanza ∷ second ∷ stanzas)) = Refused number refusal.OneStanza

-- A stanza for a list is read as those of the list's kind are, so a list that is not there is told before the body.
abbrev pub put_into : CacheState → ℕ → List ℕ → List ℕ → Option StanzaList → Outcome
put_into cache number name text None = Refused number refusal.NoList
put_into cache number name text (Some list) = stanza_put cache number name (read_text list.kind (number + 1) text)

abbrev pub put_in_list : CacheState → ℕ → List ℕ → List ℕ → Outcome
put_in_list cache number name text = put_into cache number name text (at_name name cache.store.lists)

-- the pin settings of a text take the place of all
abbrev pub prefs_set : CacheState → ℕ → List ℕ → Outcome
prefs_set cache number text = edited_by_body cache number edit.Prefs (read_prefs_text (number + 1) text)

-- ---- commands

-- what a command of this line does that asks for this, with the text of its body
abbrev pub Does : CacheState → ℕ → List ℕ → Request → Outcome → Type 0
Does cache number text (AddList name kind class) outcome = outcome ≡ list_added cache number name kind class text
Does cache number text (Put name) outcome = outcome ≡ put_in_list cache number name text
Does cache number text Prefs outcome = outcome ≡ prefs_set cache number text
Does cache number text (Change edit) outcome = outcome ≡ edited cache number edit
Does cache number text (Ask query) outcome = outcome ≡ Answered (answer_anew (holdings_of cache.store) query)

abbrev pub DoesWhatIsAsked : CacheState → Command → Result Request RefusalAt → Outcome → Type 0
DoesWhatIsAsked cache command (Err refused) outcome = outcome ≡ Refused refused.line refused.cause
DoesWhatIsAsked cache command (Ok request) outcome = Does cache command.number (text_of_lines command.body) request outcome

-- what a command comes to, where no growth is refused and each pattern of `--rx` can be built
abbrev pub ComesTo : CacheState → Command → Outcome → Type 0
ComesTo cache command outcome = DoesWhatIsAsked cache command (request_of command) outcome

-- a command comes to no two outcomes: its text and what it leaves are settled
abbrev pub HasOneOutcome : CacheState → Command → Type 0
HasOneOutcome cache command = (first second : Outcome) → ComesTo cache command first → ComesTo cache command second → first ≡ second

-- What a command may come to: where a growth was refused, one that takes memory may be refused for that; and where `regex`
-- can't build a pattern of `--rx`, a command that asks with one is refused for it.
abbrev pub MayCome : CacheState → Command → Outcome → Type 0
MayCome cache command outcome =
    ComesTo cache command outcome
    ⊎ (((takes_memory command ≡ true) × (outcome ≡ Refused command.number refusal.Memory))
    ⊎ (AsksPattern (request_of command) × (outcome ≡ Refused command.number refusal.Pattern)))
