-- What a command asks for, by its words.
use Rattle.std.specs.Prelude.{ℕ, ℤ, ◌+◌, ◌≡◌, ◌&&◌, List, [], ◌∷◌, length, codes}
use Rattle.std.specs.Prelude.{is_none, is_some, Bool, true, false, Option, None, Some, Result, Ok, Err, if◌then◌else◌}
use Rattle.std.specs.Option.{option_map}
use Rattle.std.specs.Str.{bytes_eq}
use Rattle.ctl_relation.specs.Names.{is_name}
use Rattle.ctl_relation.specs.Version.{fault_of}
use Rattle.ctl_stanza.specs.declared.list_kind.ListKind.{ListKind}
use Rattle.ctl_stanza.specs.declared.list_kind.ListKind.TheVariants.{Packages, Status}
use Rattle.ctl_store.specs.declared.list_class.ListClass.{ListClass}
use Rattle.ctl_store.specs.declared.list_class.ListClass.TheVariants.{Plain, NotAutomatic, ButAutomatic}
use Rattle.ctl_store.specs.declared.selector.Selector.{Selector}
use Rattle.ctl_store.specs.declared.selector.Selector.TheVariants as selector
use Rattle.ctl_store.specs.declared.refusal.Refusal.{Refusal}
use Rattle.ctl_store.specs.declared.refusal.Refusal.TheVariants as refusal
use Rattle.ctl_store.specs.Edits.{Edit}
use Rattle.ctl_store.specs.Edits as edit
use Rattle.ctl_store.specs.PinVersions.{is_pin_version}
use Rattle.ctl_store.specs.Priority.{priority_of}
use Rattle.ctl_session.specs.Script.{Command, first_long, name_of}
use Rattle.ctl_session.specs.Words.{words_of, behind_name}
use Rattle.ctl_query.specs.Query.{Query, query_name_of, query_behind}
use Rattle.ctl_session.specs.declared.refusal_at.RefusalAt.{RefusalAt}
use Rattle.ctl_session.specs.declared.command_name.CommandName.{CommandName}
use Rattle.ctl_session.specs.declared.command_name.CommandName.TheVariants as command

-- what a command asks for
pub data Request : Type 0 where
  -- a new last list of this name, kind and class, with the stanzas of the body
  AddList : List ℕ → ListKind → ListClass → Request
  -- the stanza of the body for the list of this name
  Put : List ℕ → Request
  -- the pin settings of the body
  Prefs : Request
  -- an edit that needs no body
  Change : Edit → Request
  -- a query
  Ask : Query → Request

-- ---- tests of words

-- what is read where a word has to be a name, and where one has to be a version
abbrev pub if_name : {A : Type 0} → List ℕ → Result A Refusal → Result A Refusal
if_name word read = if is_name word then read else Err refusal.Name

abbrev pub if_version : {A : Type 0} → List ℕ → Result A Refusal → Result A Refusal
if_version word read = if is_none (fault_of word) then read else Err refusal.Version

-- ---- the words of each command

-- `packages` and `status`
abbrev pub kind_of_word : List ℕ → Option ListKind
kind_of_word word =
    if bytes_eq word (codes "packages") then Some Packages
    else (if bytes_eq word (codes "status") then Some Status else None)

-- `notauto` and `butauto`, behind `packages` alone
abbrev pub class_of_words : List ℕ → List ℕ → Option ListClass
class_of_words kind class =
    if bytes_eq kind (codes "packages")
    then (if bytes_eq class (codes "notauto") then Some NotAutomatic
    else (if bytes_eq class (codes "butauto") then Some ButAutomatic else None))
    else None

abbrev pub add_plain_list : List ℕ → Option ListKind → Result Request Refusal
add_plain_list name None = Err refusal.Usage
add_plain_list name (Some kind) = if_name name (Ok (AddList name kind Plain))

abbrev pub add_packages : List ℕ → Option ListClass → Result Request Refusal
add_packages name None = Err refusal.Usage
add_packages name (Some class) = if_name name (Ok (AddList name Packages class))

-- `add-list NAME packages [notauto|butauto]` or `add-list NAME status`
abbrev pub add_list_request : List (List ℕ) → Result Request Refusal
add_list_request [] = Err refusal.Usage
add_list_request (name ∷ []) = Err refusal.Usage
add_list_request (name ∷ kind ∷ []) = add_plain_list name (kind_of_word kind)
add_list_request (name ∷ kind ∷ class ∷ []) = add_packages name (class_of_words kind class)
add_list_request (name ∷ kind ∷ class ∷ word ∷ words) = Err refusal.Usage

-- one word, which is a name
abbrev pub read_name : {A : Type 0} → (List ℕ → A) → List (List ℕ) → Result A Refusal
read_name value [] = Err refusal.Usage
read_name value (name ∷ []) = if_name name (Ok (value name))
read_name value (name ∷ word ∷ words) = Err refusal.Usage

-- `put NAME`
abbrev pub put_request : List (List ℕ) → Result Request Refusal
put_request words = read_name Put words

-- `prefs`
abbrev pub prefs_request : List (List ℕ) → Result Request Refusal
prefs_request [] = Ok Prefs
prefs_request (word ∷ words) = Err refusal.Usage

-- ---- the words of edits that need no body

-- `drop-list NAME`, `unmark PKG`
abbrev pub drop_list_edit : List (List ℕ) → Result Edit Refusal
drop_list_edit words = read_name edit.DropList words

abbrev pub unmark_edit : List (List ℕ) → Result Edit Refusal
unmark_edit words = read_name edit.Unmark words

-- `remove NAME PKG VERSION`
abbrev pub remove_edit : List (List ℕ) → Result Edit Refusal
remove_edit [] = Err refusal.Usage
remove_edit (list ∷ []) = Err refusal.Usage
remove_edit (list ∷ name ∷ []) = Err refusal.Usage
remove_edit (list ∷ name ∷ version ∷ []) = if_name list (if_name name (if_version version (Ok (edit.Remove list name version))))
remove_edit (list ∷ name ∷ version ∷ word ∷ words) = Err refusal.Usage

-- the word `none` is no version
abbrev pub marked : List ℕ → List ℕ → Result Edit Refusal
marked name version =
    if bytes_eq version (codes "none") then Ok (edit.Mark name None)
    else if_version version (Ok (edit.Mark name (Some version)))

-- `mark PKG VERSION` or `mark PKG none`
abbrev pub mark_edit : List (List ℕ) → Result Edit Refusal
mark_edit [] = Err refusal.Usage
mark_edit (name ∷ []) = Err refusal.Usage
mark_edit (name ∷ version ∷ []) = if_name name (marked name version)
mark_edit (name ∷ version ∷ word ∷ words) = Err refusal.Usage

-- `PKG version V`
abbrev pub version_selector : List ℕ → List ℕ → Result Selector Refusal
version_selector name version =
    if bytes_eq name (codes "*") then Err refusal.Usage
    else (if is_name name
    then (if is_pin_version version then Ok (selector.Version name version) else Err refusal.Version)
    else Err refusal.Name)

-- `PKG release LIST`, or with `*` for all packages
abbrev pub release_selector : List ℕ → List ℕ → Result Selector Refusal
release_selector name list =
    if bytes_eq name (codes "*")
    then (if is_name list then Ok (selector.Release None list) else Err refusal.Name)
    else (if is_name name
    then (if is_name list then Ok (selector.Release (Some name) list) else Err refusal.Name)
    else Err refusal.Name)

-- the selector that three words give
abbrev pub selector_of : List ℕ → List ℕ → List ℕ → Result Selector Refusal
selector_of name form value =
    if bytes_eq form (codes "version") then version_selector name value
    else (if bytes_eq form (codes "release") then release_selector name value else Err refusal.Usage)

abbrev pub pin_of : Result Selector Refusal → Option ℤ → Result Edit Refusal
pin_of (Err cause) priority = Err cause
pin_of (Ok selector) None = Err refusal.Priority
pin_of (Ok selector) (Some priority) = Ok (edit.Pin selector priority)

-- `pin` with a selector and a priority
abbrev pub pin_edit : List (List ℕ) → Result Edit Refusal
pin_edit [] = Err refusal.Usage
pin_edit (name ∷ []) = Err refusal.Usage
pin_edit (name ∷ form ∷ []) = Err refusal.Usage
pin_edit (name ∷ form ∷ value ∷ []) = Err refusal.Usage
pin_edit (name ∷ form ∷ value ∷ priority ∷ []) = pin_of (selector_of name form value) (priority_of priority)
pin_edit (name ∷ form ∷ value ∷ priority ∷ word ∷ words) = Err refusal.Usage

abbrev pub unpin_of : Result Selector Refusal → Result Edit Refusal
unpin_of (Err cause) = Err cause
unpin_of (Ok selector) = Ok (edit.Unpin selector)

-- `unpin` with a selector
abbrev pub unpin_edit : List (List ℕ) → Result Edit Refusal
unpin_edit [] = Err refusal.Usage
unpin_edit (name ∷ []) = Err refusal.Usage
unpin_edit (name ∷ form ∷ []) = Err refusal.Usage
unpin_edit (name ∷ form ∷ value ∷ []) = unpin_of (selector_of name form value)
unpin_edit (name ∷ form ∷ value ∷ word ∷ words) = Err refusal.Usage

-- `target NAME` or `target none`
abbrev pub target_edit : List (List ℕ) → Result Edit Refusal
target_edit [] = Err refusal.Usage
target_edit (name ∷ []) =
    if bytes_eq name (codes "none") then Ok (edit.Target None)
    else if_name name (Ok (edit.Target (Some name)))
target_edit (name ∷ word ∷ words) = Err refusal.Usage

-- ---- commands by their names

-- the commands that are no queries, by their names
abbrev pub commands : List (List ℕ × CommandName)
commands =
    (codes "add-list", command.AddList) ∷
    (codes "drop-list", command.DropList) ∷
    (codes "put", command.Put) ∷
    (codes "remove", command.Remove) ∷
    (codes "mark", command.Mark) ∷
    (codes "unmark", command.Unmark) ∷
    (codes "pin", command.Pin) ∷
    (codes "unpin", command.Unpin) ∷
    (codes "target", command.Target) ∷
    (codes "prefs", command.Prefs) ∷ []

-- the command of a name among these, or else a query, if there is one of the name
abbrev pub named_in : List (List ℕ × CommandName) → List ℕ → Option CommandName
named_in [] name = option_map (λ query. command.Query query) (query_name_of name)
named_in (entry ∷ entries) name = if bytes_eq name entry.0 then Some entry.1 else named_in entries name

-- the command of a name, if there is one
abbrev pub command_named : List ℕ → Option CommandName
command_named name = named_in commands name

-- a body comes after a line that names this command
abbrev pub has_body : Option CommandName → Bool
has_body None = false
has_body (Some command.AddList) = true
has_body (Some command.DropList) = false
has_body (Some command.Put) = true
has_body (Some command.Remove) = false
has_body (Some command.Mark) = false
has_body (Some command.Unmark) = false
has_body (Some command.Pin) = false
has_body (Some command.Unpin) = false
has_body (Some command.Target) = false
has_body (Some command.Prefs) = true
has_body (Some (command.Query query)) = false

-- an edit, and a query, as what a command asks for
abbrev pub changing : Result Edit Refusal → Result Request Refusal
changing (Ok edit) = Ok (Change edit)
changing (Err cause) = Err cause

abbrev pub asking : Result Query Refusal → Result Request Refusal
asking (Ok query) = Ok (Ask query)
asking (Err cause) = Err cause

-- what a command asks for by the words behind its name
abbrev pub request_by : CommandName → List (List ℕ) → Result Request Refusal
request_by command.AddList words = add_list_request words
request_by command.DropList words = changing (drop_list_edit words)
request_by command.Put words = put_request words
request_by command.Remove words = changing (remove_edit words)
request_by command.Mark words = changing (mark_edit words)
request_by command.Unmark words = changing (unmark_edit words)
request_by command.Pin words = changing (pin_edit words)
request_by command.Unpin words = changing (unpin_edit words)
request_by command.Target words = changing (target_edit words)
request_by command.Prefs words = prefs_request words
request_by (command.Query query) words = asking (query_behind query words)

-- ---- commands

-- A quote without its end leaves no words.
abbrev pub request_in : CommandName → Option (List (List ℕ)) → Result Request Refusal
request_in command None = Err refusal.Usage
request_in command (Some words) = request_by command words

abbrev pub request_named : Option CommandName → Option (List (List ℕ)) → Result Request Refusal
request_named None words = Err refusal.Command
request_named (Some command) words = request_in command words

-- What a line asks for, or the first of these refusals: a name that is no command's, words that are not the command's, and,
-- word by word from the left, a bad name, version or priority.
abbrev pub request_of_line : List ℕ → Result Request Refusal
request_of_line line = request_named (command_named (name_of line)) (words_of (behind_name line))

-- the name of a line is that of a command
abbrev pub names_command : List ℕ → Bool
names_command line = is_some (command_named (name_of line))

-- Why lines are refused whatever a command's words are: the first of them that is too long, or else a body without its end,
-- which is told at the last line of the input.
abbrev pub lines_refused : Option ℕ → Bool → ℕ → Option RefusalAt
lines_refused (Some line) ended last = Some (record { line = line; cause = refusal.TooLong })
lines_refused None true last = None
lines_refused None false last = Some (record { line = last; cause = refusal.Unended })

-- the same of those of a command
abbrev pub refusal_of_lines : Command → Option RefusalAt
refusal_of_lines command =
    lines_refused (first_long command.number (command.line ∷ command.body)) command.ended (command.number + length command.body)

-- a command has its end, and none of its lines is too long
abbrev pub IsWhole : Command → Type 0
IsWhole command = refusal_of_lines command ≡ None

-- A command takes memory only where it is whole, and its name is a command's: the refusals of those that are not take none.
abbrev pub takes_memory : Command → Bool
takes_memory command = is_none (refusal_of_lines command) && names_command command.line

-- a refusal of a line names it
abbrev pub refused_at : ℕ → Result Request Refusal → Result Request RefusalAt
refused_at number (Ok request) = Ok request
refused_at number (Err cause) = Err (record { line = number; cause = cause })

abbrev pub request_unless : Option RefusalAt → ℕ → List ℕ → Result Request RefusalAt
request_unless (Some refused) number line = Err refused
request_unless None number line = refused_at number (request_of_line line)

-- What a command asks for, or its first refusal: that of its lines, and then that of its words, which names the line of the
-- command.
abbrev pub request_of : Command → Result Request RefusalAt
request_of command = request_unless (refusal_of_lines command) command.number command.line
