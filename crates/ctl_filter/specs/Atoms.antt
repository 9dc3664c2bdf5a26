-- What words say is parted into the tokens of an expression, its atoms, and what is shown. What is wrong is a bad filter.
use Rattle.std.specs.Prelude.{ℕ, ◌+◌, ◌&&◌, ◌==◌, Bool, true, false, not, List, [], ◌∷◌, ◌++◌}
use Rattle.std.specs.Prelude.{flat_map, length, Option, None, Some, is_none, Result, Ok, Err, if◌then◌else◌}
use Rattle.std.specs.List.{list_any}
use Rattle.ctl_store.specs.declared.refusal.Refusal.{Refusal}
use Rattle.ctl_store.specs.declared.refusal.Refusal.TheVariants as refusal
use Rattle.ctl_filter.specs.declared.token.Token.{Token}
use Rattle.ctl_filter.specs.declared.token.Token.TheVariants as token
use Rattle.ctl_filter.specs.declared.piece.Manner.{Manner}
use Rattle.ctl_filter.specs.declared.piece.Manner.TheVariants as manner
use Rattle.ctl_filter.specs.declared.piece.Piece.{Piece}
use Rattle.ctl_filter.specs.declared.piece.Piece.TheVariants as piece
use Rattle.ctl_filter.specs.Names.{names_in, are_field_names, description, is_description}
use Rattle.ctl_filter.specs.Filter.{Atom, Test, Substring, Exact, Expression, Compare}

-- ---- an atom: modifiers, and the pattern behind them

pub record Modifiers : Type 0 where
  pub fields : Option (List (List ℕ))
  pub any_case : Bool
  pub manner : Option Manner

abbrev pub no_modifiers : Modifiers
no_modifiers = record { fields = None; any_case = false; manner = None }

abbrev pub is_bare : Modifiers → Bool
is_bare modifiers = is_none modifiers.fields && (not modifiers.any_case && is_none modifiers.manner)

-- further fields are added to those before
abbrev pub more_fields : Option (List (List ℕ)) → List (List ℕ) → List (List ℕ)
more_fields None names = names
more_fields (Some fields) names = fields ++ names

abbrev pub with_fields : Modifiers → List (List ℕ) → Modifiers
with_fields modifiers names = record modifiers { fields = Some (more_fields modifiers.fields names) }

abbrev pub test_by : Option Manner → Bool → List ℕ → Test
test_by None any_case pattern = Substring any_case pattern
test_by (Some manner.Exact) any_case pattern = Exact any_case pattern
test_by (Some manner.Rx) any_case pattern = Expression any_case pattern
test_by (Some (manner.Compare operator)) any_case pattern = Compare operator pattern

abbrev pub atom_with : Modifiers → List ℕ → Atom
atom_with modifiers pattern = record { fields = modifiers.fields; test = test_by modifiers.manner modifiers.any_case pattern }

-- ---- tokens and atoms

-- the words of an expression, where each atom stands as its number, and the atoms
pub record Parts : Type 0 where
  pub tokens : List Token
  pub atoms : List Atom

abbrev pub onto_parts : List Token → List Atom → Result Parts Refusal → Result Parts Refusal
onto_parts tokens atoms (Ok parts) = Ok (record { tokens = tokens ++ parts.tokens; atoms = atoms ++ parts.atoms })
onto_parts tokens atoms (Err cause) = Err cause

-- Of pieces, behind so many atoms and the modifiers of the next: each modifier stands before a pattern, and of `-X`, `--rx`
-- and the comparisons an atom has one at most.
abbrev pub parts_from : ℕ → Modifiers → List Piece → Result Parts Refusal
parts_from n modifiers [] = if is_bare modifiers then Ok (record { tokens = []; atoms = [] }) else Err refusal.Filter
parts_from n modifiers (piece.Sign t ∷ pieces) =
    if is_bare modifiers then onto_parts (t ∷ []) [] (parts_from n modifiers pieces) else Err refusal.Filter
parts_from n modifiers (piece.Pattern p ∷ pieces) =
    onto_parts (token.Atom n ∷ []) (atom_with modifiers p ∷ []) (parts_from (n + 1) no_modifiers pieces)
parts_from n modifiers (piece.Fields text ∷ pieces) =
    if are_field_names (names_in text) then parts_from n (with_fields modifiers (names_in text)) pieces else Err refusal.Filter
parts_from n modifiers (piece.AnyCase ∷ pieces) = parts_from n (record modifiers { any_case = true }) pieces
parts_from n modifiers (piece.Manner m ∷ pieces) =
    if is_none modifiers.manner then parts_from n (record modifiers { manner = Some m }) pieces else Err refusal.Filter
parts_from n modifiers (piece.Letter c ∷ pieces) = parts_from n modifiers pieces
parts_from n modifiers (piece.Shown text ∷ pieces) = parts_from n modifiers pieces

abbrev pub parts_of : List Piece → Result Parts Refusal
parts_of pieces = parts_from 0 no_modifiers pieces

-- ---- what is shown

abbrev pub is_letter : ℕ → Piece → Bool
is_letter c (piece.Letter d) = d == c
is_letter c (piece.Sign t) = false
is_letter c (piece.Pattern p) = false
is_letter c (piece.Fields text) = false
is_letter c piece.AnyCase = false
is_letter c (piece.Manner m) = false
is_letter c (piece.Shown text) = false

-- whether an option is given, by its letter
abbrev pub is_given : ℕ → List Piece → Bool
is_given c pieces = list_any (is_letter c) pieces

abbrev pub names_of_shown : Piece → List (List ℕ)
names_of_shown (piece.Shown text) = names_in text
names_of_shown (piece.Letter d) = []
names_of_shown (piece.Sign t) = []
names_of_shown (piece.Pattern p) = []
names_of_shown (piece.Fields text) = []
names_of_shown piece.AnyCase = []
names_of_shown (piece.Manner m) = []

-- the fields of each `-s`, one after another
abbrev pub names_shown : List Piece → List (List ℕ)
names_shown pieces = flat_map names_of_shown pieces

-- `-d` adds Description where it isn't named
abbrev pub with_description : Bool → List (List ℕ) → List (List ℕ)
with_description first_line_alone names =
    if first_line_alone && not (list_any is_description names) then names ++ description ∷ [] else names

-- where no field is named, the whole stanza is shown
abbrev pub if_any : List (List ℕ) → Option (List (List ℕ))
if_any names = if length names == 0 then None else Some names

abbrev pub fields_shown : Bool → List (List ℕ) → Option (List (List ℕ))
fields_shown first_line_alone names = if_any (with_description first_line_alone names)
