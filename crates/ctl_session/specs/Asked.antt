-- What was read of the words of a command.
use Rattle.std.specs.Prelude.{◌≡◌, ◌⊎◌, List, ℕ, Option, None, Some, Result, Ok, Err}
use Rattle.std.specs.Option.{option_map}
use Rattle.ctl_stanza.specs.declared.list_kind.ListKind.{ListKind}
use Rattle.ctl_store.specs.Edits.{edit_of}
use Rattle.ctl_store.specs.Named.{at_name}
use Rattle.ctl_store.specs.declared.refusal.Refusal.{Refusal}
use Rattle.ctl_store.specs.declared.refusal.Refusal.TheVariants as refusal
use Rattle.ctl_query.specs.QueryRead.{query_text}
use Rattle.ctl_session.specs.State.{CacheState}
use Rattle.ctl_session.specs.Script.{Command}
use Rattle.ctl_session.specs.Request.{Request as RequestText, AddList as AddListText, Put as PutText, Prefs as PrefsText}
use Rattle.ctl_session.specs.Request.{Change as ChangeText, Ask as AskText}
use Rattle.ctl_session.specs.Request.{IsWhole, request_of_line}
use Rattle.ctl_session.specs.Patterns.{AsksPattern}
use Rattle.ctl_session.specs.Outcome.{Refused}
use Rattle.ctl_session.specs.Effect.{MayCome}
use Rattle.ctl_session.specs.declared.request.Request.{Request}
use Rattle.ctl_session.specs.declared.request.Request.TheVariants.{AddList, Put, Prefs, Change, Ask}

-- the request that the code has read
abbrev pub request_text : Request → RequestText
request_text (AddList list) = AddListText list.name list.kind list.class
request_text (Put list kind) = PutText list
request_text Prefs = PrefsText
request_text (Change edit) = ChangeText (edit_of edit)
request_text (Ask query) = AskText (query_text query)

-- the kind of the list of a name, if there is one
abbrev pub kind_in : CacheState → List ℕ → Option ListKind
kind_in cache name = option_map (λ list. list.kind) (at_name name cache.store.lists)

-- A request is for a cache: where it is a stanza for a list, the list is there, and the kind that is known is the list's.
abbrev pub IsFor : CacheState → Request → Type 0
IsFor cache (AddList list) = Unit {0}
IsFor cache (Put list kind) = kind_in cache list ≡ Some kind
IsFor cache Prefs = Unit {0}
IsFor cache (Change edit) = Unit {0}
IsFor cache (Ask query) = Unit {0}

-- a stanza is asked to be put into a list that isn't there
abbrev pub AsksForNoList : CacheState → Result RequestText Refusal → Type 0
AsksForNoList cache asked = (name : List ℕ) × (asked ≡ Ok (PutText name)) × (kind_in cache name ≡ None)

-- The request of the definition was read, or it is refused as the definition says, or memory ran out. One that asks with a
-- pattern of `--rx` may also be refused for it, where `regex` can't build it; a `put` is refused where its list isn't there.
abbrev pub ReadsRequest : CacheState → Result Request Refusal → Result RequestText Refusal → Type 0
ReadsRequest cache (Ok request) asked = (asked ≡ Ok (request_text request)) × IsFor cache request
ReadsRequest cache (Err cause) asked = (asked ≡ Err cause) ⊎ ((cause ≡ refusal.Memory)
    ⊎ (((cause ≡ refusal.Pattern) × AsksPattern asked) ⊎ ((cause ≡ refusal.NoList) × AsksForNoList cache asked)))

-- the same, whatever the cache
abbrev pub ReadsForAny : Result Request Refusal → Result RequestText Refusal → Type 0
ReadsForAny read asked = (cache : CacheState) → ReadsRequest cache read asked

-- whatever body a whole command of this line has, it may come to this refusal, at its line
abbrev pub IsRefusedWithAnyBody : CacheState → List ℕ → Refusal → Type 0
IsRefusedWithAnyBody cache line cause =
    (command : Command) → command.line ≡ line → IsWhole command → MayCome cache command (Refused command.number cause)

-- The line of a command was read over a cache: it asks for this, or the command is refused, and its body plays no part.
abbrev pub ReadsLine : CacheState → List ℕ → Result Request Refusal → Type 0
ReadsLine cache line (Ok request) = (request_of_line line ≡ Ok (request_text request)) × IsFor cache request
ReadsLine cache line (Err cause) = IsRefusedWithAnyBody cache line cause
