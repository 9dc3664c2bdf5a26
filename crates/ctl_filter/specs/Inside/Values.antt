-- How the code holds what it has read.
use Rattle.std.specs.Prelude.{◌≡◌, ℕ, List, map, length, Result}
use Rattle.std.specs.Borrow.{Bor}
use Rattle.std.specs.Option.{option_map}
use Rattle.ctl_stanza.specs.Content.{Content}
use Rattle.ctl_store.specs.Entries.{Entry}
use Rattle.ctl_store.specs.declared.refusal.Refusal.{Refusal}
use Rattle.ctl_filter.specs.declared.piece.Piece.{Piece}
use Rattle.ctl_filter.specs.declared.gathering.Modifiers.{Modifiers as HeldModifiers}
use Rattle.ctl_filter.specs.declared.gathering.AskedAtom.{AskedAtom}
use Rattle.ctl_filter.specs.declared.gathering.Gathered.{Gathered}
use Rattle.ctl_filter.specs.declared.atom.Test.{Test as HeldTest}
use Rattle.ctl_filter.specs.declared.atom.Test.TheVariants as held
use Rattle.ctl_filter.specs.declared.atom.Atom.{Atom as HeldAtom}
use Rattle.ctl_filter.specs.declared.query.Shown.{Shown as HeldShown}
use Rattle.ctl_filter.specs.Filter.{Test, Substring, Exact, Expression, Compare, Atom}
use Rattle.ctl_filter.specs.Words.{letter_c, letter_v}
use Rattle.ctl_filter.specs.Atoms.{Modifiers, Parts, atom_with, parts_from, onto_parts, is_given}
use Rattle.ctl_filter.specs.declared.parsing.Options.{Options}
use Rattle.ctl_filter.specs.Query.{Shown, shown_by}
use Rattle.ctl_filter.specs.Inside.Views.{expression_bytes, expression_ignores_case}

-- ---- while words are read

abbrev pub modifiers_of : HeldModifiers → Modifiers
modifiers_of m = record { fields = option_map (λ names. names.items) m.fields; any_case = m.any_case; manner = m.manner }

abbrev pub asked_atom : AskedAtom → Atom
asked_atom atom = atom_with (modifiers_of atom.modifiers) atom.pattern

-- what comes of what was gathered, and the pieces behind it
abbrev pub resumed : Gathered → List Piece → Result Parts Refusal
resumed g pieces =
    onto_parts g.tokens.items (map asked_atom g.atoms.items) (parts_from (length g.atoms.items) (modifiers_of g.modifiers) pieces)

-- ---- atoms

abbrev pub test_of : HeldTest → Test
test_of (held.Substring any_case pattern) = Substring any_case pattern
test_of (held.Exact any_case pattern) = Exact any_case pattern
-- of an expression, what `regex` was given
test_of (held.Expression expression) = Expression (expression_ignores_case expression.value) (expression_bytes expression.value)
test_of (held.Compare operator pattern) = Compare operator pattern.value

abbrev pub atom_of : HeldAtom → Atom
atom_of atom = record { fields = option_map (λ names. names.items) atom.fields; test = test_of atom.test }

-- ---- what is shown

abbrev pub shown_of : HeldShown → Shown
shown_of shown = record {
  bodies_alone = shown.bodies_alone;
  first_line_alone = shown.first_line_alone;
  fields = option_map (λ names. names.items) shown.fields;
}

-- the stanzas of entries
abbrev pub without_keys : List Entry → List Content
without_keys entries = map (λ (e : Entry). e.1) entries

-- an entry that is lent
abbrev pub lent_entry : Bor (List ℕ) × Bor (List ℕ) → List ℕ × List ℕ
lent_entry entry = (entry.0.now, entry.1.now)

-- the options that pieces give
pub record AreOptionsOf (options : Options) (pieces : List Piece) : Type 0 where
  pub inverted : options.inverted ≡ is_given letter_v pieces
  pub counted : options.counted ≡ is_given letter_c pieces
  pub shown : shown_of options.shown ≡ shown_by pieces
