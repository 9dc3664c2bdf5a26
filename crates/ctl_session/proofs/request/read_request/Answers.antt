use Rattle.std.proofs.Common.{◌≡◌, ◌∙◌, Some, sym, ap, rules}
use Rattle.ctl_session.specs.Script.{name_of}
use Rattle.ctl_session.specs.State.{cache_state}
use Rattle.ctl_session.specs.Request.{command_named, request_by}
use Rattle.ctl_session.specs.Words.{words_of, behind_name}
use Rattle.ctl_session.proofs.RequestLemmas.{reads_line, is_named, line_by}
use Rattle.ctl_session.proofs.request.read_request.Goals as goal

pub returns-in-Ok-Some : goal.returns-in-Ok-Some
returns-in-Ok-Some c =
    let line = c.args.line.now in
    let command = c.in-Some.command in
    let words = c.in-Ok-Some.words.items in
    let named : command_named (name_of line) ≡ Some command = sym c.requires ∙ c.in-Some.is in
    let behind : words_of (behind_name line) ≡ Some words = search rules in
    reads_line (cache_state c.args.cache.now) line c.request_by.result (request_by command words) (is_named line command named) (line_by line command words named behind) c.request_by.ensures
