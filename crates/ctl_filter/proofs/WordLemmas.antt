-- Words that are read from the left.
use Rattle.std.proofs.Common.{◌≡◌, ◌∙◌, ℕ, Bool, false, cond, List, [], ◌∷◌, ◌++◌, Result, Ok, Err, refl, sym, ap, append_assoc}
use Rattle.ctl_store.specs.declared.refusal.Refusal.{Refusal}
use Rattle.ctl_filter.specs.declared.piece.Piece.{Piece}
use Rattle.ctl_filter.specs.declared.token.Token.{Token}
use Rattle.ctl_filter.specs.Filter.{Atom}
use Rattle.ctl_filter.specs.Atoms.{Parts, onto_parts}
use Rattle.ctl_filter.specs.Words.{WordPieces, onto_word, onto_pieces, behind_word, takes_argument, argument_given, letter_piece, behind_letter, cluster}

pub word-moved : (front more : List Piece) (read : WordPieces) → onto_word (front ++ more) read ≡ onto_word front (onto_word more read)
word-moved front more (Ok read) = ap (λ ps. Ok (ps, read.1)) (append_assoc front more read.0)
word-moved front more (Err cause) = refl

pub pieces-moved : (front more : List Piece) (read : Result (List Piece) Refusal) → onto_pieces (front ++ more) read ≡ onto_pieces front (onto_pieces more read)
pieces-moved front more (Ok pieces) = ap (λ ps. Ok ps) (append_assoc front more pieces)
pieces-moved front more (Err cause) = refl

-- a word of which these pieces are read, behind others, and what the words behind it say
pub word-read : (front new : List Piece) (next : Bool) (read : WordPieces) (behind : Bool → Result (List Piece) Refusal)
    → onto_word front read ≡ Ok (new, next) → onto_pieces front (behind_word read behind) ≡ onto_pieces new (behind next)
word-read front new next (Ok read) behind e =
    sym (pieces-moved front read.0 (behind read.1)) ∙ both (cc)
  where
    both : ◌≡◌ {A = List Piece × Bool} (front ++ read.0, read.1) (new, next) → onto_pieces (front ++ read.0) (behind read.1) ≡ onto_pieces new (behind next)
    both same = ap (λ (r : List Piece × Bool). onto_pieces r.0 (behind r.1)) same
word-read front new next (Err cause) behind e = absurd (cc)

pub word-refused : (front : List Piece) (cause : Refusal) (read : WordPieces) (behind : Bool → Result (List Piece) Refusal)
    → onto_word front read ≡ Err cause → onto_pieces front (behind_word read behind) ≡ Err cause
word-refused front cause (Ok read) behind e = absurd (cc)
word-refused front cause (Err other) behind e = cc

pub parts-moved : (ts us : List Token) (xs ys : List Atom) (parts : Result Parts Refusal) → onto_parts (ts ++ us) (xs ++ ys) parts ≡ onto_parts ts xs (onto_parts us ys parts)
parts-moved ts us xs ys (Ok parts) = λ i. Ok (record { tokens = append_assoc ts us parts.tokens i; atoms = append_assoc xs ys parts.atoms i })
parts-moved ts us xs ys (Err cause) = refl

-- one letter more
pub one-letter : (front : List Piece) (p : Piece) (words : List (List ℕ)) (c : ℕ) (letters : List ℕ) → takes_argument c ≡ false → letter_piece c ≡ Ok p
    → onto_word front (cluster words (c ∷ letters)) ≡ onto_word (front ++ p ∷ []) (cluster words letters)
one-letter front p words c letters none is =
    (λ i. onto_word front (cond (none i) (argument_given c letters words) (behind_letter (is i) (cluster words letters))))
    ∙ sym (word-moved front (p ∷ []) (cluster words letters))
