-- The atoms of leads that name a name: by them it is told of each lead which of its atoms do.
use Rattle.std.proofs.Common.{◌≡◌, ◌∙◌, ℕ, zero, suc, ◌+◌, Bool, true, false, cond, not, nat_lt, List, [], ◌∷◌, ◌++◌, length, map, slice_get, flat_map, Option, None, Some, refl, sym, ap, option_map, arith}
use Rattle.std.specs.List.{All, list_any}
use Rattle.std.specs.Prelude.{IfSome}
use Rattle.std.proofs.lemmas.List.Elements.{All-head, All-tail}
use Rattle.std.proofs.lemmas.Slice.Eq.{bytes_eq-Decides}
use Rattle.std.specs.List.Sorted.{IsStrictlySortedBy}
use Rattle.std.specs.Option.{option_map_or, option_and_then, option_to_list, is_some}
use Rattle.std.specs.Ordering.{is_eq}
use Rattle.std.specs.Str.{bytes_eq}
use Rattle.std.proofs.lemmas.Bool.Decides.{nat_tests}
use Rattle.std.proofs.lemmas.Grind.{flat_map-append}
use Rattle.std.proofs.lemmas.List.{map-append}
use Rattle.ctl_relation.specs.declared.field_kind.FieldKind.{FieldKind}
use Rattle.ctl_relation.specs.Parts.{AtomParts}
use Rattle.ctl_stanza.specs.Content.{Content, package_of, groups_of}
use Rattle.ctl_store.specs.Entries.{Entry}
use Rattle.ctl_store.specs.Store.{Held}
use Rattle.ctl_index.specs.declared.keys.AtomKey.{AtomKey}
use Rattle.ctl_index.specs.HeldCache.{standing}
use Rattle.ctl_index.specs.Names.{naming_fields, keyed_group, keyed_groups, namers_named}
use Rattle.ctl_policy.specs.Priority.{world_of}
use Rattle.ctl_query.specs.declared.lead_atoms.LeadAtom.{LeadAtom}
use Rattle.ctl_query.specs.declared.lead_atoms.ListedAtom.{ListedAtom}
use Rattle.ctl_query.specs.Inside.ListedAtoms.{IsKept, IsKeptIn}
use Rattle.ctl_query.specs.Inside.Namings.{Naming, naming_in, namings_at}
use Rattle.ctl_query.specs.Leads.{lead_atom_cmp, line_at, is_at, atom_of, leads_named}
use Rattle.ctl_query.specs.Packages.{is_none_of, of_rows}
use Rattle.ctl_query.specs.ReverseDepends.{naming_in_group, naming_in_field, naming_in_lead}
use Rattle.ctl_query.specs.ShowPackage.{naming_line, line_if_naming}
use Rattle.ctl_filter.specs.Texts.{line, joined}
use Rattle.ctl_query.proofs.AtomLemmas.{IsTail, tail_whole, tail_head, tail_next, atoms_in, atoms_from, outside_silent, named_is_naming, some_is}
use Rattle.ctl_query.proofs.AtomOrderLemmas.{atoms_sorted, of_two}
use Rattle.ctl_query.proofs.LeadLemmas.{told_of_leads, leads_held}

-- the atoms of a lead that name a name, each with the package of the lead
abbrev pub namings_of : List ℕ → Content → List Naming
namings_of name lead = map (λ (further : Bool). (package_of lead, further)) (naming_in_lead name lead)

-- ---- where an atom has the name

-- whether a further alternative follows it
abbrev further_if_named : List ℕ → ℕ → List AtomParts → AtomParts → Option Bool
further_if_named name i group atom = cond (bytes_eq atom.name name) (Some (nat_lt (i + 1) (length group))) None

abbrev further_in : List ℕ → ℕ → List AtomParts → Option Bool
further_in name i group = option_and_then (further_if_named name i group) (slice_get group i)

abbrev naming_if_named : List ℕ → LeadAtom → Content → Option Naming
naming_if_named name a lead = option_map (λ further. (package_of lead, further)) (option_and_then (further_in name a.atom) (slice_get (groups_of a.field lead) a.group))

abbrev pub namings_named : List Entry → List ℕ → LeadAtom → List Naming
namings_named leads name a = option_to_list (option_and_then (λ (e : Entry). naming_if_named name a e.1) (slice_get leads a.place))

one_named : (leads : List Entry) (name : List ℕ) (listed : ListedAtom) → IsKept leads name listed → namings_at leads listed.at ≡ namings_named leads name listed.at
one_named leads name listed kept = by (slice_get leads listed.at.place) kept
  where
    a : LeadAtom
    a = listed.at

    at_atom : (group : List AtomParts) (o : Option AtomParts) → option_map (λ (atom : AtomParts). atom.name) o ≡ Some name → Some (nat_lt (a.atom + 1) (length group)) ≡ option_and_then (further_if_named name a.atom group) o
    at_atom group None h = absurd cc
    at_atom group (Some atom) h = sym (ap (λ b. cond b (Some (nat_lt (a.atom + 1) (length group))) None) ((bytes_eq-Decides atom.name name).1 (some_is atom.name name h)))

    at_group : (e : Entry) (o : Option (List AtomParts)) → option_map (λ (atom : AtomParts). atom.name) (option_and_then (λ (group : List AtomParts). slice_get group a.atom) o) ≡ Some name →
        option_to_list {X = Naming} (option_map (λ (f : Bool). (package_of e.1, f)) (option_map (λ (group : List AtomParts). nat_lt (a.atom + 1) (length group)) o))
        ≡ option_to_list (option_map (λ (f : Bool). (package_of e.1, f)) (option_and_then (further_in name a.atom) o))
    at_group e None h = refl
    at_group e (Some group) h = ap (λ (o : Option Bool). option_to_list {X = Naming} (option_map (λ (f : Bool). (package_of e.1, f)) o)) (at_atom group (slice_get group a.atom) h)

    by : (o : Option Entry) → IfSome o (λ (e : Entry). IsKeptIn e.1 name listed) → option_to_list (option_and_then (λ (e : Entry). naming_in a e.1) o) ≡ option_to_list (option_and_then (λ (e : Entry). naming_if_named name a e.1) o)
    by None h = refl
    by (Some e) h = at_group e (slice_get (groups_of a.field e.1) a.group) h.0

-- atoms that have the name tell what they do, whether that is looked at or not
pub all_named : (leads : List Entry) (name : List ℕ) (atoms : List ListedAtom) → All (IsKept leads name) atoms → flat_map (λ (listed : ListedAtom). namings_at leads listed.at) atoms ≡ flat_map (λ (listed : ListedAtom). namings_named leads name listed.at) atoms
all_named leads name [] all = refl
all_named leads name (x ∷ xs) all = λ i. one_named leads name x (All-head (IsKept leads name) x xs all) i ++ all_named leads name xs (All-tail (IsKept leads name) x xs all) i

-- ---- whether a further alternative follows

got_where : {X : Type 0} (xs : List X) (i : ℕ) → nat_lt i (length xs) ≡ is_some (slice_get xs i)
got_where [] i = grind (arith, nat_tests)
got_where (x ∷ xs) zero = grind (arith, nat_tests)
got_where (x ∷ xs) (suc i) = (let z : nat_lt (suc i) (length (x ∷ xs)) ≡ nat_lt i (length xs) = grind (arith, nat_tests) in z) ∙ got_where xs i

first_there : {X : Type 0} (xs : List X) → is_some (slice_get xs 0) ≡ not (is_none_of xs)
first_there [] = refl
first_there (x ∷ xs) = refl

is_followed : {X : Type 0} (all : List X) (n : ℕ) (x : X) (others : List X) → IsTail all n (x ∷ others) → nat_lt (n + 1) (length all) ≡ not (is_none_of others)
is_followed all n x others tail = got_where all (n + 1) ∙ ap is_some (tail 1) ∙ first_there others

-- ---- lead by lead

map_flat : {X Y Z : Type 0} (g : Y → Z) (f : X → List Y) (xs : List X) → map g (flat_map f xs) ≡ flat_map (λ x. map g (f x)) xs
map_flat g f [] = refl
map_flat g f (x ∷ xs) = map-append g (f x) (flat_map f xs) ∙ ap (λ ys. map g (f x) ++ ys) (map_flat g f xs)

module _ (leads : List Entry) (name : List ℕ) (i : ℕ) (e : Entry) (at : slice_get leads i ≡ Some e) where
  abbrev tagged : List Bool → List Naming
  tagged found = map (λ (further : Bool). (package_of e.1, further)) found

  abbrev told : List (AtomKey × AtomParts) → List Naming
  told ys = flat_map (namings_named leads name) (map (λ (y : AtomKey × AtomParts). atom_of y.0 i) ys)

  told_append : (xs ys : List (AtomKey × AtomParts)) → told (xs ++ ys) ≡ told xs ++ told ys
  told_append xs ys =
      ap (flat_map (namings_named leads name)) (map-append (λ (y : AtomKey × AtomParts). atom_of y.0 i) xs ys)
      ∙ flat_map-append (namings_named leads name) (map (λ (y : AtomKey × AtomParts). atom_of y.0 i) xs) (map (λ (y : AtomKey × AtomParts). atom_of y.0 i) ys)

  abbrev of_further : Option Bool → List Naming
  of_further further = option_to_list {X = Naming} (option_map (λ (f : Bool). (package_of e.1, f)) further)

  of_atom : (a : LeadAtom) (group : List AtomParts) (atom : AtomParts) → slice_get leads a.place ≡ Some e → slice_get (groups_of a.field e.1) a.group ≡ Some group → slice_get group a.atom ≡ Some atom →
      namings_named leads name a ≡ of_further (further_if_named name a.atom group atom)
  of_atom a group atom there is has =
      ap (λ (o : Option Entry). option_to_list (option_and_then (λ (d : Entry). naming_if_named name a d.1) o)) there
      ∙ ap (λ (o : Option (List AtomParts)). of_further (option_and_then (further_in name a.atom) o)) is
      ∙ ap (λ (o : Option AtomParts). of_further (option_and_then (further_if_named name a.atom group) o)) has

  in_group : (field : FieldKind) (g : ℕ) (group : List AtomParts) → slice_get (groups_of field e.1) g ≡ Some group → (n : ℕ) (atoms : List AtomParts) → IsTail group n atoms →
      told (keyed_group e.0 field g n atoms) ≡ tagged (naming_in_group name atoms)
  unfolding naming_in_group
  in_group field g group is n [] tail = refl
  in_group field g group is n (atom ∷ atoms) tail =
      let a : LeadAtom = record { place = i; field = field; group = g; atom = n } in
      ap (λ ys. ys ++ told (keyed_group e.0 field g (suc n) atoms)) (of_atom a group atom at is (tail_head group n atom atoms tail))
      ∙ ap (λ ys. of_further (further_if_named name n group atom) ++ ys) (in_group field g group is (suc n) atoms (tail_next group n atom atoms tail))
      ∙ by (bytes_eq atom.name name) (is_followed group n atom atoms tail)
    where
      by : (b : Bool) → nat_lt (n + 1) (length group) ≡ not (is_none_of atoms) →
          of_further (cond b (Some (nat_lt (n + 1) (length group))) None) ++ tagged (naming_in_group name atoms) ≡ tagged (cond b (not (is_none_of atoms) ∷ naming_in_group name atoms) (naming_in_group name atoms))
      by true same = ap (λ (f : Bool). (package_of e.1, f) ∷ tagged (naming_in_group name atoms)) same
      by false same = refl

  in_groups : (field : FieldKind) (n : ℕ) (groups : List (List AtomParts)) → IsTail (groups_of field e.1) n groups → told (keyed_groups e.0 field n groups) ≡ flat_map (λ group. tagged (naming_in_group name group)) groups
  in_groups field n [] tail = refl
  in_groups field n (group ∷ groups) tail =
      told_append (keyed_group e.0 field n 0 group) (keyed_groups e.0 field (suc n) groups)
      ∙ (λ j. in_group field n group (tail_head (groups_of field e.1) n group groups tail) 0 group (tail_whole group) j ++ in_groups field (suc n) groups (tail_next (groups_of field e.1) n group groups tail) j)

  in_field : (field : FieldKind) → told (keyed_groups e.0 field 0 (groups_of field e.1)) ≡ tagged (naming_in_field name e.1 field)
  in_field field = in_groups field 0 (groups_of field e.1) (tail_whole (groups_of field e.1)) ∙ sym (map_flat (λ (further : Bool). (package_of e.1, further)) (naming_in_group name) (groups_of field e.1))

  in_fields : (fields : List FieldKind) → told (flat_map (λ field. keyed_groups e.0 field 0 (groups_of field e.1)) fields) ≡ flat_map (λ field. tagged (naming_in_field name e.1 field)) fields
  in_fields [] = refl
  in_fields (field ∷ fields) =
      told_append (keyed_groups e.0 field 0 (groups_of field e.1)) (flat_map (λ f. keyed_groups e.0 f 0 (groups_of f e.1)) fields)
      ∙ (λ j. in_field field j ++ in_fields fields j)

  in_entry : flat_map (namings_named leads name) (atoms_in i e) ≡ namings_of name e.1
  unfolding naming_in_lead
  in_entry = in_fields naming_fields ∙ sym (map_flat (λ (further : Bool). (package_of e.1, further)) (naming_in_field name e.1) naming_fields)

told_from : (leads : List Entry) (name : List ℕ) (i : ℕ) (rest : List Entry) → IsTail leads i rest → flat_map (namings_named leads name) (atoms_from i rest) ≡ flat_map (λ (e : Entry). namings_of name e.1) rest
told_from leads name i [] tail = refl
told_from leads name i (e ∷ es) tail =
    flat_map-append (namings_named leads name) (atoms_in i e) (atoms_from (suc i) es)
    ∙ (λ j. in_entry leads name i e (tail_head leads i e es tail) j ++ told_from leads name (suc i) es (tail_next leads i e es tail) j)

-- ---- what prints nothing names nothing

some_text : (xs : List ℕ) (b : ℕ) → (xs ++ b ∷ [] ≡ []) → ⊥
some_text [] b h = cc
some_text (x ∷ xs) b h = cc

no_line : (parts : List (List ℕ)) → line parts ≡ [] → ⊥
unfolding line
no_line parts h = some_text (joined parts) _ h

quiet : (leads : List Entry) (name : List ℕ) (a : LeadAtom) → line_at leads name a ≡ [] → namings_named leads name a ≡ []
quiet leads name a none = by (slice_get leads a.place) none
  where
    at_name : (e : Entry) (group : List AtomParts) (atom : AtomParts) (b : Bool) → bytes_eq atom.name name ≡ b → line_if_naming name e.1 a.field atom ≡ [] →
        option_to_list {X = Naming} (option_map (λ (f : Bool). (package_of e.1, f)) (further_if_named name a.atom group atom)) ≡ []
    at_name e group atom true is h = absurd (let z : naming_line e.1 a.field atom ≡ [] = rw is at h in no_line _ z)
    at_name e group atom false is h = rw is refl

    at_atom : (e : Entry) (group : List AtomParts) (o : Option AtomParts) → option_map_or (line_if_naming name e.1 a.field) o [] ≡ [] →
        option_to_list {X = Naming} (option_map (λ (f : Bool). (package_of e.1, f)) (option_and_then (further_if_named name a.atom group) o)) ≡ []
    at_atom e group None h = refl
    at_atom e group (Some atom) h = at_name e group atom (bytes_eq atom.name name) refl h

    at_group : (e : Entry) (o : Option (List AtomParts)) → option_map_or (line_if_naming name e.1 a.field) (option_and_then (λ (group : List AtomParts). slice_get group a.atom) o) [] ≡ [] →
        option_to_list {X = Naming} (option_map (λ (f : Bool). (package_of e.1, f)) (option_and_then (further_in name a.atom) o)) ≡ []
    at_group e None h = refl
    at_group e (Some group) h = at_atom e group (slice_get group a.atom) h

    by : (o : Option Entry) → option_map_or (λ (e : Entry). option_map_or (line_if_naming name e.1 a.field) (option_and_then (λ (group : List AtomParts). slice_get group a.atom) (slice_get (groups_of a.field e.1) a.group)) []) o [] ≡ [] →
        option_to_list (option_and_then (λ (e : Entry). naming_if_named name a e.1) o) ≡ []
    by None h = refl
    by (Some e) h = at_group e (slice_get (groups_of a.field e.1) a.group) h

-- The atoms of the leads of packages that name a name tell of all these packages which name it.
pub atoms_tell : (store : Held) (name : List ℕ) (askers : List (List ℕ)) (leads : List Entry) → leads ≡ flat_map (leads_named (world_of store)) askers → (atoms : List LeadAtom) → IsStrictlySortedBy lead_atom_cmp atoms
    → ((a : LeadAtom) → list_any (λ b. is_eq (lead_atom_cmp a b)) atoms ≡ list_any (λ (k : AtomKey). is_at leads k a) (namers_named name (standing store)))
    → flat_map (namings_named leads name) atoms ≡ flat_map (of_rows (world_of store) (namings_of name)) askers
atoms_tell store name askers leads are atoms sorted members =
    of_two (namings_named leads name) (atoms_from 0 leads) atoms (atoms_sorted 0 leads) sorted
    (λ a out. quiet leads name a (outside_silent leads name a out))
    (λ a out. quiet leads name a (named_is_naming store leads name (leads_held store askers leads are) a (sym (members a) ∙ out)))
    ∙ told_from leads name 0 leads (tail_whole leads)
    ∙ ap (flat_map (λ (e : Entry). namings_of name e.1)) are
    ∙ sym (told_of_leads (world_of store) (namings_of name) askers)
