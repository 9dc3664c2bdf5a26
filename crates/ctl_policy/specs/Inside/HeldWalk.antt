-- How the rows of a name are walked.
use Rattle.std.specs.Prelude.{ℕ, ℤ, Bool, true, false, ◌&&◌, int_lt, List, [], ◌∷◌, Option, None, Some, Vec, option_map, if◌then◌else◌}
use Rattle.std.proofs.Common.{Global}
use Rattle.std.specs.List.{AllByRecursion}
use Rattle.std.specs.Option.{option_map_or}
use Rattle.std.specs.Ordering.{is_lt}
use Rattle.ctl_relation.specs.Version.{Triple, triple_of}
use Rattle.ctl_stanza.specs.Content.{Content}
use Rattle.ctl_store.specs.declared.stanza_key.StanzaKey.{StanzaKey}
use Rattle.ctl_store.specs.Step.{is_status}
use Rattle.ctl_store.specs.Keys.{AreHeld, stanza_at, key_cmp}
use Rattle.ctl_policy.specs.Rows.{Lists, Row, lead_of}
use Rattle.ctl_policy.specs.Priority.{World, row_priority}
use Rattle.ctl_policy.specs.Candidate.{Choice, may_be_taken}
use Rattle.ctl_policy.specs.declared.form.Form.{Form}
use Rattle.ctl_policy.specs.declared.form.Form.TheVariants.{Empty, One, Many}

-- each stanza of each row stands in the lists
abbrev pub AreHeldIn : Lists → List (List ℕ × Vec StanzaKey Global) → Type 0
AreHeldIn lists es = AllByRecursion (λ (e : List ℕ × Vec StanzaKey Global). AreHeld e.1.items lists) es

abbrev pub IsHeldForm : Lists → Form → Type 0
IsHeldForm lists Empty = Unit {0}
IsHeldForm lists (One version key) = AreHeld (key ∷ []) lists
IsHeldForm lists (Many row_map) = AreHeldIn lists row_map.entries

-- whether a row of a priority is taken instead of a newer one: where its priority is greater
abbrev pub wins : ℤ → Choice → Bool
wins priority None = true
wins priority (Some newer) = int_lt newer.0 priority

-- whether an older row may win, where none has a priority above this one, if it is known
abbrev pub may_win : Option ℤ → Choice → Bool
may_win None newer = true
may_win (Some bound) newer = wins bound newer

-- what is chosen, once an older row was considered
abbrev pub considered : ℤ → Triple → Option StanzaKey → Option Triple → Choice → Choice
considered priority version lead installed newer =
    if wins priority newer && may_be_taken priority version installed
    then Some (priority, lead)
    else newer

-- what the order of versions sees of one, if there is one
abbrev pub triple_if_any : Option (List ℕ) → Option Triple
triple_if_any version = option_map triple_of version

-- none chosen, once the row of one stanza was considered
abbrev pub considered_alone : List ℕ → World → List ℕ → StanzaKey → Option Triple → Choice
considered_alone name w version key installed = considered (row_priority name w (key ∷ [])) (triple_of version) (Some key) installed None

-- what is chosen, once an older row of a name was considered
abbrev pub considered_row : (List StanzaKey → ℤ) → Option Triple → Choice → Row → Choice
considered_row priority installed newer row = considered (priority row.1) row.0 (lead_of row.1) installed newer

-- what is chosen, once these older rows were considered, the newest first
abbrev pub carried : (List StanzaKey → ℤ) → Option Triple → Choice → List Row → Choice
carried priority installed newer [] = newer
carried priority installed newer (row ∷ rows) = carried priority installed (considered_row priority installed newer row) rows

-- ---- the first stanza of the status list

-- whether a stanza of the status list stands under a key
abbrev pub is_status_key : Lists → StanzaKey → Bool
is_status_key lists k = option_map_or (λ (x : Content). is_status x.kind) (stanza_at k lists) false

-- the first such key of a row
abbrev pub first_status : Lists → List StanzaKey → Option StanzaKey
first_status lists [] = None
first_status lists (k ∷ keys) = if is_status_key lists k then Some k else first_status lists keys

-- the lower of two keys
abbrev pub lower : Option StanzaKey → Option StanzaKey → Option StanzaKey
lower None other = other
lower (Some k) None = Some k
lower (Some k) (Some other) = if is_lt (key_cmp other k) then Some other else Some k

-- the lowest of such keys of rows, and of one key
abbrev pub lowest_status : Lists → Option StanzaKey → List (List ℕ × Vec StanzaKey Global) → Option StanzaKey
lowest_status lists found [] = found
lowest_status lists found (e ∷ es) = lowest_status lists (lower found (first_status lists e.1.items)) es

abbrev pub status_key : Lists → Form → Option StanzaKey
status_key lists Empty = None
status_key lists (One version key) = first_status lists (key ∷ [])
status_key lists (Many row_map) = lowest_status lists None row_map.entries
