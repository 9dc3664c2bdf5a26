-- The words of grep-dctrl(1), one by one. A wrong one is refused as bad arguments.
use Rattle.std.specs.Prelude.{ℕ, ◌==◌, ◌||◌, Bool, true, false, not, List, [], ◌∷◌, ◌++◌, drop, nat_eq}
use Rattle.std.specs.Prelude.{codes, Option, None, Some, Result, Ok, Err, if◌then◌else◌}
use Rattle.std.specs.List.{starts_with}
use Rattle.std.specs.Str.{bytes_eq}
use Rattle.ctl_relation.specs.Bytes.{hyphen}
use Rattle.ctl_relation.specs.declared.operator.Operator.TheVariants as operator
use Rattle.ctl_store.specs.declared.refusal.Refusal.{Refusal}
use Rattle.ctl_store.specs.declared.refusal.Refusal.TheVariants as refusal
use Rattle.ctl_filter.specs.declared.token.Token.{Token}
use Rattle.ctl_filter.specs.declared.token.Token.TheVariants as token
use Rattle.ctl_filter.specs.declared.piece.Manner.{Manner}
use Rattle.ctl_filter.specs.declared.piece.Manner.TheVariants as manner
use Rattle.ctl_filter.specs.declared.piece.Piece.{Piece}
use Rattle.ctl_filter.specs.declared.piece.Piece.TheVariants as piece

-- ---- words that stand alone

abbrev pub sign_named : List ℕ → Option Token
sign_named word =
    if bytes_eq word (codes "!") then Some token.Bang else (
    if bytes_eq word (codes "(") then Some token.Open else (
    if bytes_eq word (codes ")") then Some token.Close else (
    if bytes_eq word (codes "-a") then Some token.And else (
    if bytes_eq word (codes "-o") then Some token.Or else None))))

abbrev pub manner_named : List ℕ → Option Manner
manner_named word =
    if bytes_eq word (codes "--rx") then Some manner.Rx else (
    if bytes_eq word (codes "--eq") then Some (manner.Compare operator.Equal) else (
    if bytes_eq word (codes "--lt") then Some (manner.Compare operator.Earlier) else (
    if bytes_eq word (codes "--le") then Some (manner.Compare operator.EarlierOrEqual) else (
    if bytes_eq word (codes "--gt") then Some (manner.Compare operator.Later) else (
    if bytes_eq word (codes "--ge") then Some (manner.Compare operator.LaterOrEqual) else None)))))

-- ---- pieces, read so far and behind them

-- the pieces of a word, and whether it took the next word
abbrev pub WordPieces : Type 0
WordPieces = Result (List Piece × Bool) Refusal

-- pieces before those of a word
abbrev pub onto_word : List Piece → WordPieces → WordPieces
onto_word front (Ok read) = Ok (front ++ read.0, read.1)
onto_word front (Err cause) = Err cause

abbrev pub onto_pieces : List Piece → Result (List Piece) Refusal → Result (List Piece) Refusal
onto_pieces front (Ok pieces) = Ok (front ++ pieces)
onto_pieces front (Err cause) = Err cause

-- ---- clusters of letters

abbrev pub letter_F : ℕ
letter_F = 70

abbrev pub letter_P : ℕ
letter_P = 80

abbrev pub letter_X : ℕ
letter_X = 88

abbrev pub letter_c : ℕ
letter_c = 99

abbrev pub letter_d : ℕ
letter_d = 100

abbrev pub letter_i : ℕ
letter_i = 105

abbrev pub letter_n : ℕ
letter_n = 110

abbrev pub letter_s : ℕ
letter_s = 115

abbrev pub letter_v : ℕ
letter_v = 118

-- `F` and `s` have an argument
abbrev pub takes_argument : ℕ → Bool
takes_argument c = c == letter_F || c == letter_s

abbrev pub argument_piece : ℕ → List ℕ → Piece
argument_piece c word = if c == letter_F then piece.Fields word else piece.Shown word

-- The argument is the rest of the word or, where that is empty, the next word.
abbrev pub argument_given : ℕ → List ℕ → List (List ℕ) → WordPieces
argument_given c (b ∷ letters) words = Ok (argument_piece c (b ∷ letters) ∷ [], false)
argument_given c [] (word ∷ words) = Ok (argument_piece c word ∷ [], true)
argument_given c [] [] = Err refusal.Usage

-- the other letters: `P`, `X`, `i` of an atom, and `v`, `c`, `n`, `d`
abbrev pub letter_piece : ℕ → Result Piece Refusal
letter_piece c =
    if c == letter_P then Ok (piece.Fields (codes "Package")) else (
    if c == letter_X then Ok (piece.Manner manner.Exact) else (
    if c == letter_i then Ok piece.AnyCase else (
    if c == letter_v || (c == letter_c || (c == letter_n || c == letter_d)) then Ok (piece.Letter c) else Err refusal.Usage)))

abbrev pub behind_letter : Result Piece Refusal → WordPieces → WordPieces
behind_letter (Ok p) read = onto_word (p ∷ []) read
behind_letter (Err cause) read = Err cause

-- the letters of a cluster in turn, with the words behind it
abbrev pub cluster : List (List ℕ) → List ℕ → WordPieces
cluster words [] = Ok ([], false)
cluster words (c ∷ letters) =
    if takes_argument c then argument_given c letters words
    else behind_letter (letter_piece c) (cluster words letters)

-- ---- words

-- a word that begins with no `-`, or is `-` alone, is a pattern
abbrev pub is_pattern : List ℕ → Bool
is_pattern [] = true
is_pattern (b ∷ []) = true
is_pattern (b ∷ c ∷ word) = not (b == hyphen)

abbrev pub alone : Piece → WordPieces
alone p = Ok (p ∷ [], false)

abbrev pub alone_if : Option Manner → WordPieces
alone_if (Some m) = alone (piece.Manner m)
alone_if None = Err refusal.Usage

-- a word that begins with `--`
abbrev pub long_word : List ℕ → WordPieces
long_word word =
    if starts_with nat_eq word (codes "--pattern=") then alone (piece.Pattern (drop 10 word))
    else alone_if (manner_named word)

abbrev pub word_by : Option Token → List ℕ → List (List ℕ) → WordPieces
word_by (Some t) word words = alone (piece.Sign t)
word_by None word words =
    if is_pattern word then alone (piece.Pattern word)
    else if starts_with nat_eq word (codes "--") then long_word word
    else cluster words (drop 1 word)

-- a word, with the words behind it
abbrev pub word_pieces : List ℕ → List (List ℕ) → WordPieces
word_pieces word words = word_by (sign_named word) word words

-- the pieces of a word before those of the words behind it, of which it took the first or not
abbrev pub behind_word : WordPieces → (Bool → Result (List Piece) Refusal) → Result (List Piece) Refusal
behind_word (Ok read) behind = onto_pieces read.0 (behind read.1)
behind_word (Err cause) behind = Err cause

-- what words say, the first of which may be taken as an argument
abbrev pub pieces_from : Bool → List (List ℕ) → Result (List Piece) Refusal
pieces_from taken [] = Ok []
pieces_from taken (word ∷ words) =
    if taken then pieces_from false words
    else behind_word (word_pieces word words) (λ next. pieces_from next words)

-- what the words of a filter say
abbrev pub pieces_of : List (List ℕ) → Result (List Piece) Refusal
pieces_of words = pieces_from false words
