-- A command comes to one outcome.
use Rattle.std.proofs.Common.{◌≡◌, ◌∙◌, ℕ, List, Result, Ok, Err, sym}
use Rattle.ctl_stanza.specs.Lines.{text_of_lines}
use Rattle.ctl_session.specs.State.{CacheState}
use Rattle.ctl_session.specs.Script.{Command}
use Rattle.ctl_session.specs.Request.{Request, AddList, Put, Prefs, Change, Ask, request_of}
use Rattle.ctl_session.specs.Outcome.{Outcome}
use Rattle.ctl_session.specs.Effect.{Does, DoesWhatIsAsked, ComesTo}
use Rattle.ctl_session.specs.declared.refusal_at.RefusalAt.{RefusalAt}

does_one : (cache : CacheState) (number : ℕ) (text : List ℕ) (request : Request) (first second : Outcome) → Does cache number text request first → Does cache number text request second → first ≡ second
does_one cache number text (AddList name kind class) first second a b = a ∙ sym b
does_one cache number text (Put name) first second a b = a ∙ sym b
does_one cache number text Prefs first second a b = a ∙ sym b
does_one cache number text (Change edit) first second a b = a ∙ sym b
does_one cache number text (Ask query) first second a b = a ∙ sym b

does_one_asked : (state : CacheState) (command : Command) (asked : Result Request RefusalAt) (first second : Outcome) → DoesWhatIsAsked state command asked first → DoesWhatIsAsked state command asked second → first ≡ second
does_one_asked state command (Err refused) first second a b = a ∙ sym b
does_one_asked state command (Ok request) first second a b = does_one state command.number (text_of_lines command.body) request first second a b

pub comes_to_one : (state : CacheState) (command : Command) (first second : Outcome) → ComesTo state command first → ComesTo state command second → first ≡ second
comes_to_one state command first second a b = does_one_asked state command (request_of command) first second a b
