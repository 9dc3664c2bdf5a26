-- What is wrong with the lines of a stanza, and with a stanza as a whole, as a function. Laws says in plain words what a
-- fault is, and `told_fault_is_least` that this tells the least one.
use Rattle.std.specs.Prelude.{◌≡◌, ◌≢◌, ℕ, ◌+◌, ◌==◌, ◌&&◌, ◌||◌, not, nat_lt, Bool, true, false, suc, length, List, [], ◌∷◌, ◌++◌, take, Option, Some, None, is_none, Result, Ok, Err, if◌then◌else◌}
use Rattle.std.specs.List.{list_any}
use Rattle.ctl_relation.specs.declared.field_kind.FieldKind.{FieldKind}
use Rattle.ctl_relation.specs.declared.relation_fault.RelationFault.{RelationFault}
use Rattle.ctl_relation.specs.Parts.{AtomParts}
use Rattle.ctl_relation.specs.Reading.{relations_of}
use Rattle.ctl_relation.specs.Version.{fault_of}
use Rattle.ctl_relation.specs.Names.{is_name}
use Rattle.ctl_stanza.specs.declared.line_kind.LineKind.{LineKind}
use Rattle.ctl_stanza.specs.declared.line_kind.LineKind.TheVariants.{Blank, Field, Continuation, Faulty}
use Rattle.ctl_stanza.specs.declared.list_kind.ListKind.{ListKind}
use Rattle.ctl_stanza.specs.declared.repeats.Repeats.{Repeats}
use Rattle.ctl_stanza.specs.declared.repeats.Repeats.TheVariants.{Never}
use Rattle.ctl_stanza.specs.declared.fault.TextFault.{TextFault}
use Rattle.ctl_stanza.specs.declared.fault.Cause.{Cause}
use Rattle.ctl_stanza.specs.declared.fault.Cause.TheVariants as causes
use Rattle.ctl_stanza.specs.Lines.{max_line, is_too_long}
use Rattle.ctl_stanza.specs.LineKind.{kind_of}
use Rattle.ctl_stanza.specs.Fields.{FieldText, fields_of_lines, value_of, body_named, is_same_name, may_repeat, package_name, version_name}
use Rattle.ctl_stanza.specs.RelationFields.{relation_kind}
use Rattle.ctl_stanza.specs.Status.{liveness, is_live_by}

-- the number of a cause, by which the causes of one line are ordered
abbrev pub number_of : Cause → ℕ
number_of causes.TooLong = 4
number_of causes.Line = 5
number_of causes.FieldTwice = 6
number_of causes.Missing = 7
number_of causes.Name = 8
number_of causes.Version = 9
number_of causes.Relation = 10
number_of causes.Priority = 18
number_of causes.Form = 23
number_of causes.Memory = 22

-- out of memory is told at line 0
abbrev pub IsMemoryAtZero : TextFault → Type 0
IsMemoryAtZero fault = fault.cause ≡ causes.Memory → fault.line ≡ 0

-- A fault that is told is this one, unless memory ran out.
abbrev pub Tells : Option TextFault → TextFault → Type 0
Tells fault told = told.cause ≢ causes.Memory → fault ≡ Some told

-- the same of a cause
abbrev pub TellsCause : Option Cause → Cause → Type 0
TellsCause cause told = told ≢ causes.Memory → cause ≡ Some told

-- ---- faulty lines

-- the name in a line of this kind, if it is a field line
abbrev pub name_in : LineKind → List ℕ → List (List ℕ)
name_in (Field n) line = take n line ∷ []
name_in Blank line = []
name_in Continuation line = []
name_in Faulty line = []

-- the names that lines give, in order
abbrev pub names_of : List (List ℕ) → List (List ℕ)
names_of [] = []
names_of (line ∷ lines) = name_in (kind_of line) line ++ names_of lines

abbrev pub has_name : List (List ℕ) → List ℕ → Bool
has_name names name = list_any (λ other. is_same_name name other) names

-- whether a line of this kind gives this name
abbrev pub gives_name : LineKind → List ℕ → List ℕ → Bool
gives_name (Field n) line name = is_same_name name (take n line)
gives_name Blank line name = false
gives_name Continuation line name = false
gives_name Faulty line name = false

-- the bytes of the body that is begun, by one line more: a field line begins a new one, a continuation line adds to it
abbrev pub body_step : ℕ → List ℕ → LineKind → ℕ
body_step len line (Field n) = length (value_of n line)
body_step len line Continuation = len + (1 + length line)
body_step len line Blank = len
body_step len line Faulty = len

abbrev pub body_len_from : ℕ → List (List ℕ) → ℕ
body_len_from len [] = len
body_len_from len (line ∷ lines) = body_len_from (body_step len line (kind_of line)) lines

-- the bytes of the body that the last of these lines belongs to
abbrev pub body_len : List (List ℕ) → ℕ
body_len before = body_len_from 0 before

-- the cause of a field line, by whether its name was given and whether it may stand more than once
abbrev pub repeat_cause : Bool → Bool → Option Cause
repeat_cause given allowed = if given && not allowed then Some causes.FieldTwice else None

-- the cause of a continuation line, by whether a line stands before it, and by the bytes of the body with it
abbrev pub continuation_cause : Bool → ℕ → Option Cause
continuation_cause is_first len = if is_first then Some causes.Line else (if nat_lt max_line len then Some causes.TooLong else None)

-- The cause of a line within the limit, by which names were given before it, whether it is the first of its stanza, and
-- the bytes of the body before it.
abbrev pub cause_with : Repeats → (List ℕ → Bool) → Bool → ℕ → List ℕ → LineKind → Option Cause
cause_with repeats given is_first len line (Field n) = repeat_cause (given (take n line)) (may_repeat repeats (take n line))
cause_with repeats given is_first len line Blank = None
cause_with repeats given is_first len line Continuation = continuation_cause is_first (len + (1 + length line))
cause_with repeats given is_first len line Faulty = Some causes.Line

-- the same of any line
abbrev pub cause_by : Repeats → (List ℕ → Bool) → Bool → ℕ → List ℕ → LineKind → Option Cause
cause_by repeats given is_first len line kind =
    if is_too_long line then Some causes.TooLong else cause_with repeats given is_first len line kind

-- the cause of a line, by the lines before it in its stanza
abbrev pub cause_of : Repeats → List (List ℕ) → List ℕ → Option Cause
cause_of repeats before line =
    cause_by repeats (has_name (names_of before)) (length before == 0) (body_len before) line (kind_of line)

abbrev pub fault_or : ℕ → Option Cause → Option TextFault → Option TextFault
fault_or n None later = later
fault_or n (Some cause) later = Some (record { line = n; cause = cause })

-- the first faulty line after those before, where it counts from n
abbrev pub first_fault : Repeats → ℕ → List (List ℕ) → List (List ℕ) → Option TextFault
first_fault repeats n before [] = None
first_fault repeats n before (line ∷ lines) =
    fault_or n (cause_of repeats before line) (first_fault repeats (suc n) (before ++ line ∷ []) lines)

-- ---- faults of a stanza without a faulty line

abbrev pub is_empty_body : Option (List ℕ) → Bool
is_empty_body None = true
is_empty_body (Some body) = length body == 0

-- A stanza whose state can't be told lacks it; of one that isn't live no version is asked for.
abbrev pub lacks_state : Option Bool → Bool
lacks_state None = true
lacks_state (Some live) = false

-- A stanza has a package, in a status list a state, and where it is live a version.
abbrev pub is_missing : ListKind → List FieldText → Bool
is_missing kind fields =
    is_empty_body (body_named package_name fields)
    || (lacks_state (liveness kind fields) || (is_live_by kind fields && is_empty_body (body_named version_name fields)))

abbrev pub is_read : Result (List (List AtomParts)) RelationFault → Bool
is_read (Ok groups) = true
is_read (Err fault) = false

-- what is wrong with the body of a relation field, if it is one
abbrev pub relation_cause : List ℕ → Option FieldKind → Option Cause
relation_cause body None = None
relation_cause body (Some kind) = if is_read (relations_of kind body) then None else Some causes.Relation

-- what is wrong with a field of a live stanza that isn't Package
abbrev pub live_cause : List ℕ → List ℕ → Option Cause
live_cause name body =
    if is_same_name name version_name then (if is_none (fault_of body) then None else Some causes.Version)
    else relation_cause body (relation_kind name)

-- what is wrong with a field by itself; of a stanza that isn't live only Package is checked
abbrev pub field_cause : Bool → List ℕ → List ℕ → Option Cause
field_cause live name body =
    if is_same_name name package_name then (if is_name body then None else Some causes.Name)
    else (if live then live_cause name body else None)

-- the first field that is wrong, where lines count from n
abbrev pub first_wrong : Bool → ℕ → List FieldText → Option TextFault
first_wrong live n [] = None
first_wrong live n (field ∷ fields) =
    fault_or (n + field.line) (field_cause live field.name field.body) (first_wrong live n fields)

abbrev pub whole_fault : ListKind → ℕ → List FieldText → Option TextFault
whole_fault kind n fields =
    if is_missing kind fields then Some (record { line = n; cause = causes.Missing })
    else first_wrong (is_live_by kind fields) n fields

abbrev pub or_else : {A : Type 0} → Option A → Option A → Option A
or_else None later = later
or_else (Some first) later = Some first

-- the fault of a stanza: that of its first faulty line, or else what it lacks, or its first wrong field
abbrev pub stanza_fault : ListKind → ℕ → List (List ℕ) → Option TextFault
stanza_fault kind n lines = or_else (first_fault Never n [] lines) (whole_fault kind n (fields_of_lines lines))
