-- A list that is loaded from a source.
use Rattle.std.specs.Prelude.{◌≡◌, ◌≢◌, ℕ, ◌^◌, ◌<◌, ◌≤◌, ◌++◌, List, Option, Bool, true, false, Result, Ok, Err, Vec, IfErr, length}
use Rattle.std.specs.declared.alloc.Global.{Global}
use Rattle.std.specs.Io.KnownBytes.{Consumes, IsAtEnd}
use Rattle.ctl_stanza.specs.declared.list_kind.ListKind.{ListKind}
use Rattle.ctl_stanza.specs.declared.fault.TextFault.{TextFault}
use Rattle.ctl_stanza.specs.declared.fault.Cause.TheVariants as causes
use Rattle.ctl_stanza.specs.Content.{Content}
use Rattle.ctl_stanza.specs.Faults.{IsMemoryAtZero}
use Rattle.ctl_stanza.specs.InParts.{Reading, IsReading}
use Rattle.ctl_stanza.specs.Text.{read_text, Reads}
use Rattle.ctl_session.specs.State.{CacheState}
use Rattle.ctl_session.specs.Effect.{loaded}
use Rattle.ctl_session.specs.Replies.{LoadCameTo}
use Rattle.ctl_session.specs.declared.load_fault.LoadFault.{LoadFault}
use Rattle.ctl_session.specs.declared.source_fault.SourceFault.{SourceFault}
use Rattle.ctl_session.specs.declared.source_fault.SourceFault.TheVariants.{Read, TooLong, Refused}

-- so much of a text was read: a reader goes on behind it, or it has a fault, whatever comes behind
abbrev pub ReadsSoFar : ListKind → List ℕ → Result Reading TextFault → Type 0
ReadsSoFar kind text (Ok reading) = IsReading kind 1 text reading
ReadsSoFar kind text (Err told) =
    IsMemoryAtZero told × (told.cause ≢ causes.Memory → (more : List ℕ) → read_text kind 1 (text ++ more) ≡ Err told)

-- What was read is what a text is read to, or memory ran out, which is told at line 0.
abbrev pub ReadsAs : Result (Vec Content Global) TextFault → Result (List Content) TextFault → Type 0
ReadsAs read text = Reads read text × IfErr read IsMemoryAtZero

-- all that a source gave is a text of so many bytes at most, of which this holds
pub record GivesText (given given' : Option (List ℕ)) (Holds : List ℕ → Type 0) : Type 0 where
  pub text : List ℕ
  pub gave : Consumes given given' text
  pub end : IsAtEnd given'
  pub within : length text < 2 ^ 32
  pub holds : Holds text

-- the stanzas of such a text were read
abbrev pub ReadsList : ListKind → Option (List ℕ) → Option (List ℕ) → Result (Vec Content Global) TextFault → Type 0
ReadsList kind given given' read = GivesText given given' (λ text. ReadsAs read (read_text kind 1 text))

-- a source gave more bytes than a text may have
pub record GaveTooMuch (given given' : Option (List ℕ)) : Type 0 where
  pub bytes : List ℕ
  pub gave : Consumes given given' bytes
  pub more : 2 ^ 32 ≤ length bytes

-- why a source wasn't read to its end
abbrev pub StopsInList : Option (List ℕ) → Option (List ℕ) → SourceFault → Type 0
StopsInList given given' Read = Unit {0}
StopsInList given given' TooLong = GaveTooMuch given given'
StopsInList given given' (Refused fault) = ⊥

-- the load of such a text came to this
abbrev pub LoadsText : Option (List ℕ) → Option (List ℕ) → Result Unit LoadFault → CacheState → CacheState → List ℕ → ListKind → Type 0
LoadsText given given' result old new name kind = GivesText given given' (λ text. LoadCameTo result new (loaded old name kind text))

-- what a load from a source came to
abbrev pub LoadedFrom : Option (List ℕ) → Option (List ℕ) → Result Unit SourceFault → CacheState → CacheState → List ℕ → ListKind → Type 0
LoadedFrom given given' (Ok done) old new name kind = LoadsText given given' (Ok done) old new name kind
LoadedFrom given given' (Err Read) old new name kind = Unit {0}
LoadedFrom given given' (Err TooLong) old new name kind = GaveTooMuch given given'
LoadedFrom given given' (Err (Refused fault)) old new name kind = LoadsText given given' (Err fault) old new name kind

-- a read of a source failed
abbrev pub is_failed_load : {T : Type 0} → Result T SourceFault → Bool
is_failed_load (Ok done) = false
is_failed_load (Err Read) = true
is_failed_load (Err TooLong) = false
is_failed_load (Err (Refused fault)) = false
