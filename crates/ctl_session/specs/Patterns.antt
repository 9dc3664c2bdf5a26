-- Commands that ask with a pattern of `--rx`.
use Rattle.std.specs.Prelude.{◌≡◌, Bool, true, false, Result, Ok, Err}
use Rattle.ctl_query.specs.QueryRead.{has_expression}
use Rattle.ctl_session.specs.Request.{Request, AddList, Put, Prefs, Change, Ask}

-- whether a request has a pattern
abbrev pub has_pattern : Request → Bool
has_pattern (AddList name kind class) = false
has_pattern (Put name) = false
has_pattern Prefs = false
has_pattern (Change edit) = false
has_pattern (Ask query) = has_expression query

-- A request with a pattern is asked for.
abbrev pub AsksPattern : {E : Type 0} → Result Request E → Type 0
AsksPattern (Ok request) = has_pattern request ≡ true
AsksPattern (Err cause) = ⊥
