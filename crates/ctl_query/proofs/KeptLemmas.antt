-- What is kept of the atoms that name a name is what stands in the leads.
use Rattle.std.proofs.Common.{◌≡◌, ◌∙◌, ℕ, suc, Bool, true, false, cond, ◌&&◌, ◌||◌, List, [], ◌∷◌, map, slice_get, Option, None, Some, refl, sym, ap}
use Rattle.std.specs.Prelude.{IfSome}
use Rattle.std.specs.List.{All, AllByRecursion, list_any, filter}
use Rattle.std.specs.List.Sorted.{IsPermutation}
use Rattle.std.specs.Option.{option_map, option_map_or}
use Rattle.std.specs.Str.{bytes_eq}
use Rattle.std.proofs.lemmas.List.Elements.{All-from_recursion}
use Rattle.std.proofs.lemmas.List.Folds.{list_any-append}
use Rattle.std.proofs.lemmas.List.Sorted.{All-permutation, list_any-IsPermutation}
use Rattle.std.proofs.lemmas.Slice.Eq.{bytes_eq-Decides}
use Rattle.ctl_relation.specs.declared.field_kind.FieldKind.{FieldKind}
use Rattle.ctl_relation.specs.Parts.{AtomParts}
use Rattle.ctl_stanza.specs.Content.{Content, groups_of}
use Rattle.ctl_store.specs.Entries.{Entry, AreAt}
use Rattle.ctl_store.specs.Keys.{KeyedList, stanza_at}
use Rattle.ctl_store.specs.Store.{Held, keyed_of}
use Rattle.ctl_index.specs.declared.keys.AtomKey.{AtomKey}
use Rattle.ctl_index.specs.HeldCache.{standing}
use Rattle.ctl_index.specs.Names.{naming_fields, keyed_group, keyed_groups, keyed_atoms, is_named, namers_of, namers_named, AllButName, KeptNamer, with_name, is_qualifier_kept, is_bound_kept, kept_of, kept_namers_of, kept_namers_named}
use Rattle.ctl_query.specs.declared.lead_atoms.LeadAtom.{LeadAtom}
use Rattle.ctl_query.specs.Leads.{atom_in, atom_of, line_in}
use Rattle.ctl_query.specs.ShowPackage.{line_if_naming, naming_line}
use Rattle.ctl_query.specs.LeadTable.{AreEnough}
use Rattle.ctl_query.specs.Inside.ListedAtoms.{listed_at, IsKeptIn, IsKeptOf}
use Rattle.ctl_query.proofs.AtomLemmas.{IsTail, tail_whole, tail_head, tail_next, atom_is, all_at, some_is}
use Rattle.ctl_query.proofs.AtomOrderLemmas.{all_append}
use Rattle.ctl_query.proofs.LeadLemmas.{all_of_each, leads_held}

-- ---- the keys are those of the atoms that name the name

any_of : (p : AtomKey → Bool) (name : List ℕ) (ys : List (AtomKey × AtomParts))
    → list_any (λ (n : KeptNamer). p n.0) (map (λ (y : AtomKey × AtomParts). (y.0, kept_of y.1)) (filter (is_named name) ys)) ≡ list_any p (map (λ (y : AtomKey × AtomParts). y.0) (filter (is_named name) ys))
any_of p name [] = refl
any_of p name (y ∷ ys) = by (is_named name y) (any_of p name ys)
  where
    kept : List KeptNamer
    kept = map (λ (y : AtomKey × AtomParts). (y.0, kept_of y.1)) (filter (is_named name) ys)

    keys : List AtomKey
    keys = map (λ (y : AtomKey × AtomParts). y.0) (filter (is_named name) ys)

    by : (b : Bool) → list_any (λ (n : KeptNamer). p n.0) kept ≡ list_any p keys
        → list_any (λ (n : KeptNamer). p n.0) (map (λ (y : AtomKey × AtomParts). (y.0, kept_of y.1)) (cond b (y ∷ filter (is_named name) ys) (filter (is_named name) ys)))
        ≡ list_any p (map (λ (y : AtomKey × AtomParts). y.0) (cond b (y ∷ filter (is_named name) ys) (filter (is_named name) ys)))
    by true rest = ap (λ t. p y.0 || t) rest
    by false rest = rest

any_in : (p : AtomKey → Bool) (name : List ℕ) (es : List Entry) → list_any (λ (n : KeptNamer). p n.0) (kept_namers_named name es) ≡ list_any p (namers_named name es)
any_in p name [] = refl
any_in p name (e ∷ es) =
    list_any-append (λ (n : KeptNamer). p n.0) (kept_namers_of name e) (kept_namers_named name es)
    ∙ (λ i. any_of p name (keyed_atoms e) i || any_in p name es i)
    ∙ sym (list_any-append p (namers_of name e) (namers_named name es))

-- Whether a key is one of atoms that are lent in any order, each with what is kept of it.
pub any_named : (p : AtomKey → Bool) (name : List ℕ) (es : List Entry) (namers : List KeptNamer) → IsPermutation (kept_namers_named name es) namers → list_any (λ (n : KeptNamer). p n.0) namers ≡ list_any p (namers_named name es)
any_named p name es namers same = sym (list_any-IsPermutation (λ (n : KeptNamer). p n.0) (kept_namers_named name es) namers same) ∙ any_in p name es

-- ---- each atom of a stanza stands where its key says

abbrev Stands : Entry → AtomKey × AtomParts → Type 0
Stands d y = (y.0.stanza ≡ d.0) × ((i : ℕ) → atom_in (atom_of y.0 i) d.1 ≡ Some y.1)

module _ (d : Entry) where
  group_stands : (field : FieldKind) (g : ℕ) (group : List AtomParts) → slice_get (groups_of field d.1) g ≡ Some group → (n : ℕ) (atoms : List AtomParts) → IsTail group n atoms → AllByRecursion (Stands d) (keyed_group d.0 field g n atoms)
  group_stands field g group is n [] tail = tt
  group_stands field g group is n (atom ∷ atoms) tail = (
    (refl, λ i. atom_is (record { place = i; field = field; group = g; atom = n }) d.1 group atom is (tail_head group n atom atoms tail)),
    group_stands field g group is (suc n) atoms (tail_next group n atom atoms tail),
  )

  groups_stand : (field : FieldKind) (n : ℕ) (groups : List (List AtomParts)) → IsTail (groups_of field d.1) n groups → AllByRecursion (Stands d) (keyed_groups d.0 field n groups)
  groups_stand field n [] tail = tt
  groups_stand field n (group ∷ groups) tail =
      all_append (Stands d) (keyed_group d.0 field n 0 group) (keyed_groups d.0 field (suc n) groups)
      (group_stands field n group (tail_head (groups_of field d.1) n group groups tail) 0 group (tail_whole group))
      (groups_stand field (suc n) groups (tail_next (groups_of field d.1) n group groups tail))

  atoms_stand : AllByRecursion (Stands d) (keyed_atoms d)
  atoms_stand = all_of_each (Stands d) (λ field. keyed_groups d.0 field 0 (groups_of field d.1)) (λ field. groups_stand field 0 (groups_of field d.1) (tail_whole (groups_of field d.1))) naming_fields

-- ---- and so it is kept

module _ (lists : List (List ℕ × KeyedList)) (leads : List Entry) (held : AllByRecursion (λ (e : Entry). stanza_at e.0 lists ≡ Some e.1) leads) (name : List ℕ) where
  is_kept : (d : Entry) → stanza_at d.0 lists ≡ Some d.1 → (y : AtomKey × AtomParts) → Stands d y → bytes_eq y.1.name name ≡ true → IsKeptOf leads name (y.0, kept_of y.1)
  is_kept d at y stands named i key = by (slice_get leads i) refl key
    where
      named_there : (e : Entry) → e.1 ≡ d.1 → option_map (λ (atom : AtomParts). atom.name) (atom_in (atom_of y.0 i) e.1) ≡ Some name
      named_there e same = ap (λ (o : Option AtomParts). option_map (λ (atom : AtomParts). atom.name) o) (ap (atom_in (atom_of y.0 i)) same ∙ stands.1 i) ∙ ap Some ((bytes_eq-Decides y.1.name name).0 named)

      told : (e : Entry) → e.1 ≡ d.1 → (kept : Bool) → IfSome (cond kept (Some (y.1.qualifier, y.1.bound)) None) (λ (rest : AllButName). atom_in (atom_of y.0 i) e.1 ≡ Some (with_name name rest))
      told e same true = ap (atom_in (atom_of y.0 i)) same ∙ stands.1 i ∙ (λ j. Some (record { name = (bytes_eq-Decides y.1.name name).0 named j; qualifier = y.1.qualifier; bound = y.1.bound }))
      told e same false = tt

      by : (o : Option Entry) → slice_get leads i ≡ o → option_map (λ (e : Entry). e.0) o ≡ Some y.0.stanza → IfSome o (λ (e : Entry). IsKeptIn e.1 name (listed_at (y.0, kept_of y.1) i))
      by None is k = tt
      by (Some e) is k =
          let same : e.1 ≡ d.1 =
          some_is e.1 d.1 (sym (all_at (λ (e : Entry). stanza_at e.0 lists ≡ Some e.1) leads i e held is) ∙ ap (λ s. stanza_at s lists) (some_is e.0 y.0.stanza k ∙ stands.0) ∙ at) in
          (named_there e same, told e same (is_qualifier_kept y.1.qualifier && is_bound_kept y.1.bound))

  are_kept : (d : Entry) → stanza_at d.0 lists ≡ Some d.1 → (ys : List (AtomKey × AtomParts)) → AllByRecursion (Stands d) ys → AllByRecursion (IsKeptOf leads name) (map (λ (y : AtomKey × AtomParts). (y.0, kept_of y.1)) (filter (is_named name) ys))
  are_kept d at [] stand = tt
  are_kept d at (y ∷ ys) stand = by (is_named name y) refl (are_kept d at ys stand.1)
    where
      by : (b : Bool) → is_named name y ≡ b → AllByRecursion (IsKeptOf leads name) (map (λ (y : AtomKey × AtomParts). (y.0, kept_of y.1)) (filter (is_named name) ys))
          → AllByRecursion (IsKeptOf leads name) (map (λ (y : AtomKey × AtomParts). (y.0, kept_of y.1)) (cond b (y ∷ filter (is_named name) ys) (filter (is_named name) ys)))
      by true named rest = (is_kept d at y stand.0 named, rest)
      by false named rest = rest

  all_kept : (es : List Entry) → AllByRecursion (λ (e : Entry). stanza_at e.0 lists ≡ Some e.1) es → AllByRecursion (IsKeptOf leads name) (kept_namers_named name es)
  all_kept [] at = tt
  all_kept (e ∷ es) at = all_append (IsKeptOf leads name) (kept_namers_of name e) (kept_namers_named name es) (are_kept e at.0 (keyed_atoms e) (atoms_stand e)) (all_kept es at.1)

-- What is kept of the atoms that name a name, lent in any order, is the atoms of enough leads.
pub namers_are_kept : (store : Held) → AreAt (standing store) (keyed_of store).lists → (name : List ℕ) (leads : List Entry) → AreEnough store name leads → (namers : List KeptNamer) → IsPermutation (kept_namers_named name (standing store)) namers → All (IsKeptOf leads name) namers
namers_are_kept store at name leads enough namers same =
    All-permutation (IsKeptOf leads name) (kept_namers_named name (standing store)) namers same
    (All-from_recursion (IsKeptOf leads name) (kept_namers_named name (standing store)) (all_kept (keyed_of store).lists leads (leads_held store enough.0 leads enough.1) name (standing store) at))

-- The line of an atom that has the name.
pub named_line : (name : List ℕ) (lead : Content) (a : LeadAtom) (atom : AtomParts) → atom_in a lead ≡ Some atom → option_map (λ (it : AtomParts). it.name) (atom_in a lead) ≡ Some name → line_in name a lead ≡ naming_line lead a.field atom
named_line name lead a atom is named =
    ap (λ (o : Option AtomParts). option_map_or (line_if_naming name lead a.field) o []) is
    ∙ ap (λ b. cond b (naming_line lead a.field atom) []) ((bytes_eq-Decides atom.name name).1 (some_is atom.name name (sym (ap (λ (o : Option AtomParts). option_map (λ (it : AtomParts). it.name) o) is) ∙ named)))
