-- The stanzas of a text, or its fault, as a function. Runs and Laws say in plain words what they are; `stanzas_are_runs`
-- and `told_fault_is_least` that this gives them.
use Rattle.std.specs.Prelude.{◌≡◌, ◌≢◌, ℕ, ◌+◌, Bool, true, suc, length, List, [], ◌∷◌, ◌++◌, Option, Some, None, Result, Ok, Err, Vec, if◌then◌else◌}
use Rattle.std.specs.declared.alloc.Global.{Global}
use Rattle.ctl_stanza.specs.declared.list_kind.ListKind.{ListKind}
use Rattle.ctl_stanza.specs.declared.repeats.Repeats.TheVariants.{Never}
use Rattle.ctl_stanza.specs.declared.fault.TextFault.{TextFault}
use Rattle.ctl_stanza.specs.declared.fault.Cause.TheVariants as causes
use Rattle.ctl_stanza.specs.Lines.{lines_of, is_blank}
use Rattle.ctl_stanza.specs.Content.{Content, content_of}
use Rattle.ctl_stanza.specs.Faults.{first_fault, stanza_fault}

-- lines that lie together in a text, with the number of the first one
pub record Piece : Type 0 where
  pub first : ℕ
  pub lines : List (List ℕ)

abbrev pub piece : ℕ → List (List ℕ) → Piece
piece n lines = record { first = n; lines = lines }

-- a line before the first piece
abbrev pub onto_piece : ℕ → List ℕ → List Piece → List Piece
onto_piece n line [] = piece n (line ∷ []) ∷ []
onto_piece n line (next ∷ pieces) = piece n (line ∷ next.lines) ∷ pieces

-- a line that isn't blank stands in one piece with the line after it, if that isn't blank either
abbrev pub join_piece : ℕ → List ℕ → List (List ℕ) → List Piece → List Piece
join_piece n line [] pieces = piece n (line ∷ []) ∷ pieces
join_piece n line (next ∷ lines) pieces =
    if is_blank next then piece n (line ∷ []) ∷ pieces
    else onto_piece n line pieces

-- The pieces of a text: each blank line, and the maximal runs of other lines, which are the stanzas.
-- The lines count from n.
abbrev pub pieces_of : ℕ → List (List ℕ) → List Piece
pieces_of n [] = []
pieces_of n (line ∷ lines) =
    if is_blank line then piece n (line ∷ []) ∷ pieces_of (suc n) lines
    else join_piece n line lines (pieces_of (suc n) lines)

-- these lines are the first piece of all, and the others follow it
abbrev pub IsFirstPiece : List (List ℕ) → List (List ℕ) → List (List ℕ) → Type 0
IsFirstPiece all lines others = (n : ℕ) → pieces_of n all ≡ piece n lines ∷ pieces_of (n + length lines) others

-- whether a piece is a blank line
abbrev pub is_gap : List (List ℕ) → Bool
is_gap [] = true
is_gap (line ∷ lines) = is_blank line

-- A blank line can only be too long.
abbrev pub piece_fault : ListKind → Piece → Option TextFault
piece_fault kind one =
    if is_gap one.lines then first_fault Never one.first [] one.lines
    else stanza_fault kind one.first one.lines

-- the stanza that a piece is
abbrev pub piece_content : ListKind → List (List ℕ) → List Content
piece_content kind lines = if is_gap lines then [] else content_of kind lines ∷ []

abbrev pub with_contents : {A : Type 0} → List A → Result (List A) TextFault → Result (List A) TextFault
with_contents front (Ok contents) = Ok (front ++ contents)
with_contents front (Err fault) = Err fault

abbrev pub or_fault : {A : Type 0} → Option TextFault → Result (List A) TextFault → Result (List A) TextFault
or_fault None others = others
or_fault (Some fault) others = Err fault

-- the stanzas of all pieces, or the fault of the first piece that has one
abbrev pub read_pieces : ListKind → List Piece → Result (List Content) TextFault
read_pieces kind [] = Ok []
read_pieces kind (first ∷ others) =
    or_fault (piece_fault kind first) (with_contents (piece_content kind first.lines) (read_pieces kind others))

-- what a text is read to, where its lines count from n
abbrev pub read_text : ListKind → ℕ → List ℕ → Result (List Content) TextFault
read_text kind n text = read_pieces kind (pieces_of n (lines_of text))

-- What was returned is what reading gives, unless memory ran out.
abbrev pub Reads : {A : Type 0} → Result (Vec A Global) TextFault → Result (List A) TextFault → Type 0
Reads (Ok contents) read = read ≡ Ok contents.items
Reads (Err fault) read = fault.cause ≢ causes.Memory → read ≡ Err fault

-- A fault that is told is what reading gives, unless memory ran out.
abbrev pub TellsFault : {A : Type 0} → Result (List A) TextFault → TextFault → Type 0
TellsFault read told = told.cause ≢ causes.Memory → read ≡ Err told
