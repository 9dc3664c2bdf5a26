-- Atoms by their words: modifiers in any order, at most one manner, and a pattern. The laws cite this.
use Rattle.std.specs.Prelude.{◌≡◌, ℕ, ◌+◌, ◌&&◌, ◌||◌, nat_le, Bool, true, false, List, [], ◌∷◌, ◌++◌}
use Rattle.std.specs.Prelude.{map, flat_map, length, codes, Option, None, Some, is_ok, Err, if◌then◌else◌}
use Rattle.std.specs.List.{list_all, list_any}
use Rattle.ctl_relation.specs.Bytes.{hyphen}
use Rattle.ctl_relation.specs.declared.operator.Operator.TheVariants as operator
use Rattle.ctl_store.specs.declared.refusal.Refusal.TheVariants as refusal
use Rattle.ctl_filter.specs.declared.token.Token.TheVariants as token
use Rattle.ctl_filter.specs.declared.piece.Manner.{Manner}
use Rattle.ctl_filter.specs.declared.piece.Manner.TheVariants as manner
use Rattle.ctl_filter.specs.declared.piece.Piece.{Piece}
use Rattle.ctl_filter.specs.declared.piece.Piece.TheVariants as piece
use Rattle.ctl_filter.specs.Names.{names_in, are_field_names}
use Rattle.ctl_filter.specs.Filter.{Atom}
use Rattle.ctl_filter.specs.Atoms.{no_modifiers, test_by, onto_parts, parts_from}
use Rattle.ctl_filter.specs.Words.{sign_named, is_pattern, takes_argument, letter_piece, onto_pieces, pieces_of}

-- a modifier of an atom
pub data Modifier : Type 0 where
  -- `-F FIELDS`; `-P` is `-F Package`
  InFields : List ℕ → Modifier
  -- `-i`
  InAnyCase : Modifier
  -- `-X`, `--rx` and the comparisons
  By : Manner → Modifier

-- its words
abbrev pub words_of : Modifier → List (List ℕ)
words_of (InFields fields) = codes "-F" ∷ fields ∷ []
words_of InAnyCase = codes "-i" ∷ []
words_of (By manner.Exact) = codes "-X" ∷ []
words_of (By manner.Rx) = codes "--rx" ∷ []
words_of (By (manner.Compare operator.Equal)) = codes "--eq" ∷ []
words_of (By (manner.Compare operator.Earlier)) = codes "--lt" ∷ []
words_of (By (manner.Compare operator.EarlierOrEqual)) = codes "--le" ∷ []
words_of (By (manner.Compare operator.Later)) = codes "--gt" ∷ []
words_of (By (manner.Compare operator.LaterOrEqual)) = codes "--ge" ∷ []

abbrev pub piece_of : Modifier → Piece
piece_of (InFields fields) = piece.Fields fields
piece_of InAnyCase = piece.AnyCase
piece_of (By m) = piece.Manner m

abbrev pub is_fields : Modifier → Bool
is_fields (InFields fields) = true
is_fields InAnyCase = false
is_fields (By m) = false

abbrev pub names_asked : Modifier → List (List ℕ)
names_asked (InFields fields) = names_in fields
names_asked InAnyCase = []
names_asked (By m) = []

abbrev pub is_any_case : Modifier → Bool
is_any_case (InFields fields) = false
is_any_case InAnyCase = true
is_any_case (By m) = false

abbrev pub manners_of : Modifier → List Manner
manners_of (InFields fields) = []
manners_of InAnyCase = []
manners_of (By m) = m ∷ []

-- the fields of all `-F` and `-P`, one after another, if there is one
abbrev pub fields_asked : List Modifier → Option (List (List ℕ))
fields_asked modifiers = if list_any is_fields modifiers then Some (flat_map names_asked modifiers) else None

abbrev pub only_manner : List Manner → Option Manner
only_manner [] = None
only_manner (m ∷ ms) = Some m

-- The atom of a pattern behind modifiers, whose order is that of the fields' names alone.
abbrev pub atom_asked : List Modifier → List ℕ → Atom
atom_asked modifiers pattern = record {
  fields = fields_asked modifiers;
  test = test_by (only_manner (flat_map manners_of modifiers)) (list_any is_any_case modifiers) pattern;
}

abbrev pub are_named : Modifier → Bool
are_named modifier = are_field_names (names_asked modifier)

-- fields are named by names, and at most one manner is given
abbrev pub are_modifiers : List Modifier → Bool
are_modifiers modifiers = list_all are_named modifiers && nat_le (length (flat_map manners_of modifiers)) 1

-- Behind any modifiers a pattern makes an atom, or their filter is bad; and further pieces are read as before.
abbrev pub AtomsAreAsked : Type 0
AtomsAreAsked = (n : ℕ) (modifiers : List Modifier) (pattern : List ℕ) (pieces : List Piece)
    → parts_from n no_modifiers (map piece_of modifiers ++ piece.Pattern pattern ∷ pieces)
    ≡ (if are_modifiers modifiers
    then onto_parts (token.Atom n ∷ []) (atom_asked modifiers pattern ∷ []) (parts_from (n + 1) no_modifiers pieces)
    else Err refusal.Filter)

-- the words of modifiers say these pieces, whatever follows
abbrev pub ModifiersAreSpelled : Type 0
ModifiersAreSpelled = (modifiers : List Modifier) (words : List (List ℕ))
    → pieces_of (flat_map words_of modifiers ++ words) ≡ onto_pieces (map piece_of modifiers) (pieces_of words)

-- a word that is no sign and no option is a pattern, and so is what stands behind `--pattern=`
pub record PatternsAreWords : Type 0 where
  pub word : (word : List ℕ) (words : List (List ℕ)) → sign_named word ≡ None → is_pattern word ≡ true
      → pieces_of (word ∷ words) ≡ onto_pieces (piece.Pattern word ∷ []) (pieces_of words)
  pub behind : (pattern : List ℕ) (words : List (List ℕ))
      → pieces_of ((codes "--pattern=" ++ pattern) ∷ words) ≡ onto_pieces (piece.Pattern pattern ∷ []) (pieces_of words)

-- the letters that stand alone, and those with an argument
abbrev pub stands_alone : ℕ → Bool
stands_alone c = is_ok (letter_piece c)

abbrev pub is_cluster_letter : ℕ → Bool
is_cluster_letter c = takes_argument c || stands_alone c

-- A cluster says what its letters say one by one; and what is behind a letter with an argument is that, as the next word is.
pub record ClustersAreLetters : Type 0 where
  pub letters : (c d : ℕ) (letters : List ℕ) (words : List (List ℕ)) → stands_alone c ≡ true → is_cluster_letter d ≡ true
      → pieces_of ((hyphen ∷ c ∷ d ∷ letters) ∷ words) ≡ pieces_of ((hyphen ∷ c ∷ []) ∷ (hyphen ∷ d ∷ letters) ∷ words)
  pub argument : (c b : ℕ) (letters : List ℕ) (words : List (List ℕ)) → takes_argument c ≡ true
      → pieces_of ((hyphen ∷ c ∷ b ∷ letters) ∷ words) ≡ pieces_of ((hyphen ∷ c ∷ []) ∷ (b ∷ letters) ∷ words)
