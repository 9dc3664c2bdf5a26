-- The printed form of what was read is in the grammar.
use Rattle.std.proofs.Common.{◌≡◌, ℕ, Option, Some, None, List, [], ◌∷◌, ◌++◌, refl, sym, subst, append_assoc, append-nil, arith, inl}
use Rattle.std.specs.List.{All, flat_map}
use Rattle.std.proofs.lemmas.List.Elements.{All-cons}
use Rattle.ctl_relation.specs.declared.operator.Operator.{Operator}
use Rattle.ctl_relation.specs.declared.operator.Operator.TheVariants.{Earlier, EarlierOrEqual, Equal, LaterOrEqual, Later}
use Rattle.ctl_relation.specs.declared.field_kind.FieldKind.{FieldKind}
use Rattle.ctl_relation.specs.Bytes.{space, bar}
use Rattle.ctl_relation.specs.Grammar.{IsWhitespace, IsSpelled, QualifierText, BoundText, AtomText, PaddedAtom, GroupText, PiecesText, given_groups, RelationsText}
use Rattle.ctl_relation.specs.Parts.{AtomParts}
use Rattle.ctl_relation.specs.Printed.{operator_text, qualifier_text, bound_text, atom_text, alternative_text, group_text}
use Rattle.ctl_relation.specs.ReadAgain.{AtomsReadAgain, GroupsReadAgain}

operator_spelled : (op : Operator) → IsSpelled op (operator_text op)
operator_spelled Earlier = refl
operator_spelled EarlierOrEqual = inl refl
operator_spelled Equal = refl
operator_spelled LaterOrEqual = inl refl
operator_spelled Later = refl

qualifier_printed : (text : List ℕ) (q : Option (List ℕ)) → QualifierText text q → QualifierText (qualifier_text q) q
qualifier_printed text None h = refl
qualifier_printed text (Some q) h = (refl, h.1, h.2)

bound_printed : (kind : FieldKind) (text : List ℕ) (bound : Option (Operator × List ℕ)) → BoundText kind text bound → BoundText kind (bound_text bound) bound
bound_printed kind text None h = refl
bound_printed kind text (Some bound) h = record {
  before = space ∷ [];
  inside = [];
  spelled = operator_text bound.0;
  between = space ∷ [];
  behind = [];
  blanks = (refl, refl, refl, refl);
  operator = operator_spelled bound.0;
  in_provides = h.in_provides;
  is_version = h.is_version;
  whole = simp append_assoc;
}

atom_printed : (kind : FieldKind) (text : List ℕ) (atom : AtomParts) → AtomText kind text atom → AtomText kind (atom_text atom) atom
atom_printed kind text atom h = record {
  qualifier_text = qualifier_text atom.qualifier;
  bound_text = bound_text atom.bound;
  name = h.name;
  qualifier = qualifier_printed h.qualifier_text atom.qualifier h.qualifier;
  bound = bound_printed kind h.bound_text atom.bound h.bound;
  whole = append_assoc atom.name (qualifier_text atom.qualifier) (bound_text atom.bound);
}

-- with whitespace round it
padded_printed : (kind : FieldKind) (text before after : List ℕ) (atom : AtomParts) → IsWhitespace before → IsWhitespace after → PaddedAtom kind text atom → PaddedAtom kind (before ++ (atom_text atom ++ after)) atom
padded_printed kind text before after atom b a h = record {
  before = before;
  middle = atom_text atom;
  after = after;
  blanks = (b, a);
  spelled = atom_printed kind h.middle atom h.spelled;
  whole = refl;
}

regroup : (before first other more : List ℕ) → before ++ (first ++ space ∷ bar ∷ space ∷ (other ++ more)) ≡ (before ++ (first ++ space ∷ [])) ++ bar ∷ space ∷ (other ++ more)
regroup before first other more = simp append_assoc

group_printed : (kind : FieldKind) (text before : List ℕ) (group : List AtomParts) → IsWhitespace before → GroupText kind text group → GroupText kind (before ++ group_text group) group
group_printed kind text before [] b h = absurd h
group_printed kind text before (atom ∷ []) b h = padded_printed kind text before [] atom b refl h
group_printed kind text before (atom ∷ other ∷ more) b h = (
  before ++ (atom_text atom ++ space ∷ []),
  space ∷ group_text (other ∷ more),
  padded_printed kind h.0 before (space ∷ []) atom b refl h.2,
  h.3,
  group_printed kind h.1 (space ∷ []) (other ∷ more) refl h.4,
  regroup before (atom_text atom) (atom_text other) (flat_map alternative_text more),
)

abbrev AtomAgain : FieldKind → AtomParts → Type 0
AtomAgain kind atom = RelationsText kind (atom_text atom) ((atom ∷ []) ∷ [])

abbrev GroupAgain : FieldKind → List AtomParts → Type 0
GroupAgain kind group = RelationsText kind (group_text group) (group ∷ [])

one_atom : (kind : FieldKind) (text : List ℕ) (atom : AtomParts) → PaddedAtom kind text atom → AtomAgain kind atom
one_atom kind text atom h =
    let P : List ℕ → Type 0 = λ z. PaddedAtom kind z atom in
    (Some (atom ∷ []) ∷ [], subst P (append-nil (atom_text atom)) (padded_printed kind text [] [] atom refl refl h), refl)

one_group : (kind : FieldKind) (text : List ℕ) (group : List AtomParts) → GroupText kind text group → GroupAgain kind group
one_group kind text group h = (Some group ∷ [], group_printed kind text [] group refl h, refl)

group_atoms : (kind : FieldKind) (text : List ℕ) (group : List AtomParts) → GroupText kind text group → All (AtomAgain kind) group
group_atoms kind text [] h = absurd h
group_atoms kind text (atom ∷ []) h = All-cons (AtomAgain kind) atom [] (one_atom kind text atom h) (λ k d l. absurd (omega arith))
group_atoms kind text (atom ∷ other ∷ more) h = All-cons (AtomAgain kind) atom (other ∷ more) (one_atom kind h.0 atom h.2) (group_atoms kind h.1 (other ∷ more) h.4)

-- what holds of each group of the grammar holds of the groups of a field
pieces_have : (kind : FieldKind) (P : List AtomParts → Type 0) → ((text : List ℕ) (group : List AtomParts) → GroupText kind text group → P group) → (text : List ℕ) (pieces : List (Option (List AtomParts))) → PiecesText kind text pieces → All P (given_groups pieces)
pieces_have kind P f text [] h = absurd h
pieces_have kind P f text (None ∷ []) h = λ k d l. absurd (omega arith)
pieces_have kind P f text (Some group ∷ []) h = All-cons P group [] (f text group h) (λ k d l. absurd (omega arith))
pieces_have kind P f text (None ∷ other ∷ more) h = pieces_have kind P f h.1 (other ∷ more) h.3
pieces_have kind P f text (Some group ∷ other ∷ more) h = All-cons P group (given_groups (other ∷ more)) (f h.0 group h.2) (pieces_have kind P f h.1 (other ∷ more) h.3)

pub fields_have : (kind : FieldKind) (P : List AtomParts → Type 0) → ((text : List ℕ) (group : List AtomParts) → GroupText kind text group → P group) → (body : List ℕ) (groups : List (List AtomParts)) → RelationsText kind body groups → All P groups
fields_have kind P f body groups h = let Q : List (List AtomParts) → Type 0 = All P in subst Q (sym h.2) (pieces_have kind P f body h.0 h.1)

pub atoms_read_again : AtomsReadAgain
atoms_read_again kind body groups h = fields_have kind (λ group. All (AtomAgain kind) group) (group_atoms kind) body groups h

pub groups_read_again : GroupsReadAgain
groups_read_again kind body groups h = fields_have kind (GroupAgain kind) (one_group kind) body groups h
