-- A text read in parts.
use Rattle.std.specs.Prelude.{◌≡◌, ◌≢◌, ◌+◌, ◌<◌, ◌≤◌, ℕ, List, [], ◌∷◌, ◌++◌, length, take, Result, Ok, Err}
use Rattle.ctl_relation.specs.Bytes.{newline}
use Rattle.ctl_stanza.specs.declared.list_kind.ListKind.{ListKind}
use Rattle.ctl_stanza.specs.declared.fault.TextFault.{TextFault}
use Rattle.ctl_stanza.specs.declared.fault.Cause.TheVariants as causes
use Rattle.ctl_stanza.specs.Content.{Content}
use Rattle.ctl_stanza.specs.Lines.{lines_of}
use Rattle.ctl_stanza.specs.Text.{read_text, with_contents}

-- what was read first, and then what is behind it; the fault of the first part comes first
abbrev pub joined : {A : Type 0} → Result (List A) TextFault → Result (List A) TextFault → Result (List A) TextFault
joined (Ok contents) others = with_contents contents others
joined (Err fault) others = Err fault

-- a text with an empty line behind it, and then another
abbrev pub with_gap : List ℕ → List ℕ → List ℕ
with_gap front behind = front ++ newline ∷ newline ∷ behind

-- A text that is cut behind an empty line reads as its two parts.
abbrev pub ReadsInParts : Type 0
ReadsInParts = (kind : ListKind) (n : ℕ) (front behind : List ℕ)
    → read_text kind n (with_gap front behind)
    ≡ joined (read_text kind n (with_gap front [])) (read_text kind (n + length (lines_of (with_gap front []))) behind)

-- ---- a text that is read piece by piece

-- what a reader has: the stanzas so far, and what is left behind them, whose lines count from a number
pub record Reading : Type 0 where
  pub kind : ListKind
  pub stanzas : List Content
  pub line : ℕ
  pub rest : List ℕ

-- what is read where this comes behind what a reader was given
abbrev pub read_on : Reading → List ℕ → Result (List Content) TextFault
read_on reading more = with_contents reading.stanzas (read_text reading.kind reading.line (reading.rest ++ more))

-- A text was read so far: whatever comes behind it, the stanzas so far come first, and then those of what is left.
pub record IsReading (kind : ListKind) (n : ℕ) (text : List ℕ) (reading : Reading) : Type 0 where
  pub reads : (more : List ℕ) → read_text kind n (text ++ more) ≡ read_on reading more

-- a newline is the last byte
pub record EndsWithNewline (text : List ℕ) : Type 0 where
  pub front : List ℕ
  pub whole : text ≡ front ++ newline ∷ []

-- an empty line comes last
pub record EndsWithGap (text : List ℕ) : Type 0 where
  pub front : List ℕ
  pub whole : text ≡ front ++ newline ∷ newline ∷ []

-- behind a place of a text, before which another stands, no empty line ends
abbrev pub HasNoGapFrom : List ℕ → List ℕ → ℕ → Type 0
HasNoGapFrom before text place = (i : ℕ) → place ≤ i → i < length text → EndsWithGap (before ++ take (i + 1) text) → ⊥

-- What was read of a text is read of it with its next piece, too.
abbrev pub ReadsOn : List ℕ → Reading → Reading → Type 0
ReadsOn piece old new = (kind : ListKind) (n : ℕ) (text : List ℕ) → IsReading kind n text old → IsReading kind n (text ++ piece) new

-- A fault that is told is that of the text with its next piece, whatever comes behind, unless memory ran out.
abbrev pub TellsOfPiece : List ℕ → Reading → TextFault → Type 0
TellsOfPiece piece old told =
    told.cause ≢ causes.Memory
    → (kind : ListKind) (n : ℕ) (text more : List ℕ) → IsReading kind n text old → read_text kind n (text ++ (piece ++ more)) ≡ Err told
