-- Each entry of Provides is one atom.
use Rattle.std.proofs.Common.{◌≡◌, ℕ, Bool, true, false, cond, List, [], ◌∷◌, Option, Some, None, Result, Ok, Err, refl, sym, subst, unwrap_or}
use Rattle.std.specs.List.{All}
use Rattle.std.proofs.lemmas.List.Elements.{All-nil, All-cons}
use Rattle.ctl_relation.specs.declared.field_kind.FieldKind.TheVariants.{Provides}
use Rattle.ctl_relation.specs.declared.relation_fault.RelationFault.{RelationFault}
use Rattle.ctl_relation.specs.FieldKind.{has_alternatives}
use Rattle.ctl_relation.specs.Grammar.{GroupText, PiecesText, given_groups, RelationsText}
use Rattle.ctl_relation.specs.Parts.{AtomParts}
use Rattle.ctl_relation.specs.Reading.{relations_of, groups_or_none, groups_read}
use Rattle.ctl_stanza.specs.RelationFields.{name_of}
use Rattle.ctl_stanza.specs.Content.{Content, body_of, is_live, provides_of}
use Rattle.ctl_stanza.specs.Sound.{IsOneAtom}

one-group : (text : List ℕ) (group : List AtomParts) → GroupText Provides text group → IsOneAtom group
one-group text [] h = absurd h
one-group text (atom ∷ []) h = refl
one-group text (atom ∷ other ∷ more) h = let alternatives : has_alternatives Provides ≡ true = h.3 in absurd (cc)

one-pieces : (text : List ℕ) (pieces : List (Option (List AtomParts))) → PiecesText Provides text pieces → All IsOneAtom (given_groups pieces)
one-pieces text [] h = absurd h
one-pieces text (None ∷ []) h = All-nil IsOneAtom
one-pieces text (Some group ∷ []) h = All-cons IsOneAtom group [] (one-group text group h) (All-nil IsOneAtom)
one-pieces text (None ∷ other ∷ more) h = one-pieces h.1 (other ∷ more) h.3
one-pieces text (Some group ∷ other ∷ more) h = All-cons IsOneAtom group (given_groups (other ∷ more)) (one-group h.0 group h.2) (one-pieces h.1 (other ∷ more) h.3)

one-field : (body : List ℕ) (groups : List (List AtomParts)) → RelationsText Provides body groups → All IsOneAtom groups
one-field body groups h = subst (All IsOneAtom) (sym h.2) (one-pieces body h.0 h.1)

-- what is read is in the grammar
abbrev Found : Type 0
Found = (body : List ℕ) (groups : List (List AtomParts)) → relations_of Provides body ≡ Ok groups → RelationsText Provides body groups

one-read : Found → (body : List ℕ) (r : Result (List (List AtomParts)) RelationFault) → relations_of Provides body ≡ r → All IsOneAtom (groups_or_none r)
one-read found body (Ok groups) e = one-field body groups (found body groups e)
one-read found body (Err fault) e = All-nil IsOneAtom

pub one_atom_each : Found → (content : Content) → All IsOneAtom (provides_of content)
one_atom_each found content = by (is_live content) (unwrap_or (body_of content (name_of Provides)) [])
  where
    by : (live : Bool) (body : List ℕ) → All IsOneAtom (cond live (groups_read Provides body) [])
    by true body = one-read found body (relations_of Provides body) refl
    by false body = All-nil IsOneAtom
