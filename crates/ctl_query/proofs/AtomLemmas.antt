-- The atoms of leads: what they print in order, and that what the atoms with a name don't stand for prints nothing.
use Rattle.std.proofs.Common.{◌≡◌, ◌∙◌, ℕ, zero, suc, ◌+◌, Bool, true, false, cond, ◌&&◌, ◌||◌, List, [], ◌∷◌, ◌++◌, map, slice_get, flat_map, Option, None, Some, refl, sym, ap, subst, option_map, arith}
use Rattle.std.specs.List.{AllByRecursion, list_any, filter}
use Rattle.std.specs.Option.{option_map_or, option_and_then}
use Rattle.std.specs.Ordering.{is_eq}
use Rattle.std.specs.Str.{bytes_eq}
use Rattle.std.proofs.lemmas.Grind.{flat_map-append}
use Rattle.std.proofs.lemmas.List.{map-append}
use Rattle.std.proofs.lemmas.List.Folds.{list_any-append}
use Rattle.ctl_relation.specs.declared.field_kind.FieldKind.{FieldKind}
use Rattle.ctl_relation.specs.declared.field_kind.FieldKind.TheVariants.{PreDepends, Depends, Conflicts, Breaks, Recommends, Suggests, Replaces, Enhances, Provides}
use Rattle.ctl_relation.specs.FieldKind.{field_place, is_provides}
use Rattle.ctl_relation.specs.Parts.{AtomParts}
use Rattle.ctl_stanza.specs.Content.{Content, groups_of, relations_of_kind}
use Rattle.ctl_store.specs.declared.stanza_key.StanzaKey.{StanzaKey}
use Rattle.ctl_store.specs.Entries.{Entry}
use Rattle.ctl_store.specs.Followed.{under}
use Rattle.ctl_store.specs.Store.{Held, keyed_of}
use Rattle.ctl_store.specs.Keys.{key_is, stanza_at}
use Rattle.ctl_index.specs.declared.keys.AtomKey.{AtomKey}
use Rattle.ctl_index.specs.HeldCache.{standing}
use Rattle.ctl_index.specs.Names.{naming_fields, keyed_group, keyed_groups, keyed_atoms, namers_named}
use Rattle.ctl_query.specs.declared.lead_atoms.LeadAtom.{LeadAtom}
use Rattle.ctl_query.specs.Leads.{lead_atom_cmp, atom_in, line_in, line_at, is_key_of, is_at, atom_of}
use Rattle.ctl_query.specs.ShowPackage.{line_if_naming, naming_in, naming_lines}
use Rattle.ctl_query.proofs.EntryLemmas.{stanza_under}
use Rattle.ctl_query.proofs.LeadAtomLemmas.{nat_itself, tie_is}

-- all atoms of a lead at a place, in order
abbrev pub atoms_in : ℕ → Entry → List LeadAtom
atoms_in i e = map (λ (y : AtomKey × AtomParts). atom_of y.0 i) (keyed_atoms e)

-- all atoms of leads from a place on
abbrev pub atoms_from : ℕ → List Entry → List LeadAtom
atoms_from i [] = []
atoms_from i (e ∷ es) = atoms_in i e ++ atoms_from (suc i) es

-- ---- a list from a place on

abbrev pub IsTail : {X : Type 0} → List X → ℕ → List X → Type 0
IsTail all i rest = (j : ℕ) → slice_get all (i + j) ≡ slice_get rest j

pub tail_whole : {X : Type 0} (all : List X) → IsTail all 0 all
tail_whole all j = ap (slice_get all) (let z : 0 + j ≡ j = omega arith in z)

pub tail_head : {X : Type 0} (all : List X) (i : ℕ) (x : X) (xs : List X) → IsTail all i (x ∷ xs) → slice_get all i ≡ Some x
tail_head all i x xs h = ap (slice_get all) (let z : i ≡ i + 0 = omega arith in z) ∙ h 0

pub tail_next : {X : Type 0} (all : List X) (i : ℕ) (x : X) (xs : List X) → IsTail all i (x ∷ xs) → IsTail all (suc i) xs
tail_next all i x xs h j = ap (slice_get all) (let z : suc i + j ≡ i + suc j = omega arith in z) ∙ h (suc j)

-- ---- what all atoms print

pub atom_is : (a : LeadAtom) (x : Content) (group : List AtomParts) (atom : AtomParts) → slice_get (groups_of a.field x) a.group ≡ Some group → slice_get group a.atom ≡ Some atom → atom_in a x ≡ Some atom
atom_is a x group atom at is = ap (option_and_then (λ (g : List AtomParts). slice_get g a.atom)) at ∙ is

line_is : (leads : List Entry) (name : List ℕ) (a : LeadAtom) (e : Entry) (atom : AtomParts) → slice_get leads a.place ≡ Some e → atom_in a e.1 ≡ Some atom → line_at leads name a ≡ line_if_naming name e.1 a.field atom
line_is leads name a e atom at is = ap (λ (o : Option Entry). option_map_or (λ (d : Entry). line_in name a d.1) o []) at ∙ ap (λ (o : Option AtomParts). option_map_or (line_if_naming name e.1 a.field) o []) is

module _ (leads : List Entry) (name : List ℕ) (i : ℕ) (e : Entry) (at : slice_get leads i ≡ Some e) where
  abbrev text : List (AtomKey × AtomParts) → List ℕ
  text ys = flat_map (line_at leads name) (map (λ (y : AtomKey × AtomParts). atom_of y.0 i) ys)

  text_append : (xs ys : List (AtomKey × AtomParts)) → text (xs ++ ys) ≡ text xs ++ text ys
  text_append xs ys =
      ap (flat_map (line_at leads name)) (map-append (λ (y : AtomKey × AtomParts). atom_of y.0 i) xs ys)
      ∙ flat_map-append (line_at leads name) (map (λ (y : AtomKey × AtomParts). atom_of y.0 i) xs) (map (λ (y : AtomKey × AtomParts). atom_of y.0 i) ys)

  group_text : (field : FieldKind) (g : ℕ) (group : List AtomParts) → slice_get (groups_of field e.1) g ≡ Some group → (n : ℕ) (atoms : List AtomParts) → IsTail group n atoms →
      text (keyed_group e.0 field g n atoms) ≡ flat_map (line_if_naming name e.1 field) atoms
  group_text field g group is n [] tail = refl
  group_text field g group is n (atom ∷ atoms) tail =
      let a : LeadAtom = record { place = i; field = field; group = g; atom = n } in
      let first : line_at leads name a ≡ line_if_naming name e.1 field atom = line_is leads name a e atom at (atom_is a e.1 group atom is (tail_head group n atom atoms tail)) in
      (λ j. first j ++ group_text field g group is (suc n) atoms (tail_next group n atom atoms tail) j)

  groups_text : (field : FieldKind) (n : ℕ) (groups : List (List AtomParts)) → IsTail (groups_of field e.1) n groups → text (keyed_groups e.0 field n groups) ≡ flat_map (flat_map (line_if_naming name e.1 field)) groups
  groups_text field n [] tail = refl
  groups_text field n (group ∷ groups) tail =
      text_append (keyed_group e.0 field n 0 group) (keyed_groups e.0 field (suc n) groups)
      ∙ (λ j. group_text field n group (tail_head (groups_of field e.1) n group groups tail) 0 group (tail_whole group) j ++ groups_text field (suc n) groups (tail_next (groups_of field e.1) n group groups tail) j)

  fields_text : (fields : List FieldKind) → text (flat_map (λ field. keyed_groups e.0 field 0 (groups_of field e.1)) fields) ≡ flat_map (naming_in name e.1) fields
  fields_text [] = refl
  fields_text (field ∷ fields) =
      text_append (keyed_groups e.0 field 0 (groups_of field e.1)) (flat_map (λ f. keyed_groups e.0 f 0 (groups_of f e.1)) fields)
      ∙ (λ j. groups_text field 0 (groups_of field e.1) (tail_whole (groups_of field e.1)) j ++ fields_text fields j)

  entry_text : flat_map (line_at leads name) (atoms_in i e) ≡ naming_lines name e.1
  unfolding naming_lines
  entry_text = fields_text naming_fields

text_from : (leads : List Entry) (name : List ℕ) (i : ℕ) (rest : List Entry) → IsTail leads i rest → flat_map (line_at leads name) (atoms_from i rest) ≡ flat_map (λ (e : Entry). naming_lines name e.1) rest
text_from leads name i [] tail = refl
text_from leads name i (e ∷ es) tail =
    flat_map-append (line_at leads name) (atoms_in i e) (atoms_from (suc i) es)
    ∙ (λ j. entry_text leads name i e (tail_head leads i e es tail) j ++ text_from leads name (suc i) es (tail_next leads i e es tail) j)

-- All atoms of leads in order print the naming lines of the leads.
pub text_of_all : (leads : List Entry) (name : List ℕ) → flat_map (line_at leads name) (atoms_from 0 leads) ≡ flat_map (λ (e : Entry). naming_lines name e.1) leads
text_of_all leads name = text_from leads name 0 leads (tail_whole leads)

-- ---- an atom that is there is among those under keys

none_some : {X : Type 0} (x : X) → ◌≡◌ {A = Option X} None (Some x) → ⊥
none_some x h = cc

pub some_is : {X : Type 0} (x y : X) → ◌≡◌ {A = Option X} (Some x) (Some y) → x ≡ y
some_is {X} x y h = ap (λ (o : Option X). option_map_or (λ z. z) o x) h

true_false : true ≡ false → ⊥
true_false h = cc

or_first : (a b : Bool) → a ≡ true → (a || b) ≡ true
or_first true b h = refl
or_first false b h = absurd (true_false (sym h))

or_then : (a b : Bool) → b ≡ true → (a || b) ≡ true
or_then true b h = refl
or_then false b h = h

any_flat : {X Y : Type 0} (p : Y → Bool) (f : X → List Y) (xs : List X) → list_any p (flat_map f xs) ≡ list_any (λ x. list_any p (f x)) xs
any_flat p f [] = refl
any_flat p f (x ∷ xs) = list_any-append p (f x) (flat_map f xs) ∙ ap (λ b. list_any p (f x) || b) (any_flat p f xs)

pub any_map : {X Y : Type 0} (p : Y → Bool) (f : X → Y) (xs : List X) → list_any p (map f xs) ≡ list_any (λ x. p (f x)) xs
any_map p f [] = refl
any_map p f (x ∷ xs) = ap (λ b. p (f x) || b) (any_map p f xs)

any_filter : {X : Type 0} (p q : X → Bool) (xs : List X) → list_any p (filter q xs) ≡ list_any (λ x. q x && p x) xs
any_filter p q [] = refl
any_filter p q (x ∷ xs) = by (q x) (any_filter p q xs)
  where
    by : (b : Bool) → list_any p (filter q xs) ≡ list_any (λ y. q y && p y) xs → list_any p (cond b (x ∷ filter q xs) (filter q xs)) ≡ ((b && p x) || list_any (λ y. q y && p y) xs)
    by true rest = ap (λ b. p x || b) rest
    by false rest = rest

any_field : (V : FieldKind → Bool) (field : FieldKind) → is_provides field ≡ false → V field ≡ true → list_any V naming_fields ≡ true
any_field V PreDepends out h = or_first _ _ h
any_field V Depends out h = or_then (V PreDepends) _ (or_first _ _ h)
any_field V Conflicts out h = or_then (V PreDepends) _ (or_then (V Depends) _ (or_first _ _ h))
any_field V Breaks out h = or_then (V PreDepends) _ (or_then (V Depends) _ (or_then (V Conflicts) _ (or_first _ _ h)))
any_field V Recommends out h = or_then (V PreDepends) _ (or_then (V Depends) _ (or_then (V Conflicts) _ (or_then (V Breaks) _ (or_first _ _ h))))
any_field V Suggests out h = or_then (V PreDepends) _ (or_then (V Depends) _ (or_then (V Conflicts) _ (or_then (V Breaks) _ (or_then (V Recommends) _ (or_first _ _ h)))))
any_field V Replaces out h = or_then (V PreDepends) _ (or_then (V Depends) _ (or_then (V Conflicts) _ (or_then (V Breaks) _ (or_then (V Recommends) _ (or_then (V Suggests) _ (or_first _ _ h))))))
any_field V Enhances out h = or_then (V PreDepends) _ (or_then (V Depends) _ (or_then (V Conflicts) _ (or_then (V Breaks) _ (or_then (V Recommends) _ (or_then (V Suggests) _ (or_then (V Replaces) _ (or_first _ _ h)))))))
any_field V Provides out h = absurd (true_false out)

not_provides : (b : Bool) (groups : List (List AtomParts)) (g : ℕ) (group : List AtomParts) → slice_get (cond b [] groups) g ≡ Some group → b ≡ false
not_provides true groups g group h = absurd (none_some group h)
not_provides false groups g group h = refl

module _ (d : Entry) (a : LeadAtom) (atom : AtomParts) (p : AtomKey × AtomParts → Bool) (passes : p (record { stanza = d.0; field = a.field; group = a.group; atom = a.atom }, atom) ≡ true) where
  in_group : (n : ℕ) (atoms : List AtomParts) (j : ℕ) → a.atom ≡ n + j → slice_get atoms j ≡ Some atom → list_any p (keyed_group d.0 a.field a.group n atoms) ≡ true
  in_group n [] j at is = absurd (none_some atom is)
  in_group n (x ∷ xs) zero at is =
      let same : n ≡ a.atom = omega (arith, at) in
      or_first _ _ ((λ i. p (record { stanza = d.0; field = a.field; group = a.group; atom = same i }, some_is x atom is i)) ∙ passes)
  in_group n (x ∷ xs) (suc j) at is = or_then _ _ (in_group (suc n) xs j (let z : a.atom ≡ suc n + j = omega (arith, at) in z) is)

  in_groups : (n : ℕ) (groups : List (List AtomParts)) (j : ℕ) (group : List AtomParts) → a.group ≡ n + j → slice_get groups j ≡ Some group → slice_get group a.atom ≡ Some atom → list_any p (keyed_groups d.0 a.field n groups) ≡ true
  in_groups n [] j group at is there = absurd (none_some group is)
  in_groups n (x ∷ xs) zero group at is there =
      let same : n ≡ a.group = omega (arith, at) in
      let start : a.atom ≡ 0 + a.atom = omega arith in
      list_any-append p (keyed_group d.0 a.field n 0 x) (keyed_groups d.0 a.field (suc n) xs)
      ∙ or_first _ _ ((λ i. list_any p (keyed_group d.0 a.field (same i) 0 (some_is x group is i))) ∙ in_group 0 group a.atom start there)
  in_groups n (x ∷ xs) (suc j) group at is there =
      list_any-append p (keyed_group d.0 a.field n 0 x) (keyed_groups d.0 a.field (suc n) xs)
      ∙ or_then _ _ (in_groups (suc n) xs j group (let z : a.group ≡ suc n + j = omega (arith, at) in z) is there)

  in_entry : atom_in a d.1 ≡ Some atom → list_any p (keyed_atoms d) ≡ true
  in_entry is = by (slice_get (groups_of a.field d.1) a.group) refl is
    where
      by : (o : Option (List AtomParts)) → slice_get (groups_of a.field d.1) a.group ≡ o → option_and_then (λ (g : List AtomParts). slice_get g a.atom) o ≡ Some atom → list_any p (keyed_atoms d) ≡ true
      by None at there = absurd (none_some atom there)
      by (Some group) at there =
          any_flat p (λ field. keyed_groups d.0 field 0 (groups_of field d.1)) naming_fields
          ∙ any_field (λ field. list_any p (keyed_groups d.0 field 0 (groups_of field d.1))) a.field (not_provides (is_provides a.field) (relations_of_kind a.field d.1) a.group group at)
          (in_groups 0 (groups_of a.field d.1) a.group group (let z : a.group ≡ 0 + a.group = omega arith in z) at there)

-- ---- what the atoms that name a name don't stand for

pub all_at : {X : Type 0} (P : X → Type 0) (xs : List X) (i : ℕ) (x : X) → AllByRecursion P xs → slice_get xs i ≡ Some x → P x
all_at P [] i x all at = absurd (none_some x at)
all_at P (y ∷ ys) zero x all at = subst P (some_is y x at) all.0
all_at P (y ∷ ys) (suc i) x all at = all_at P ys i x all.1 at

module _ (name : List ℕ) (a : LeadAtom) (atom : AtomParts) (named : bytes_eq atom.name name ≡ true) (q : StanzaKey) where
  abbrev stands : AtomKey → Bool
  stands k = is_key_of a k q

  abbrev passing : AtomKey × AtomParts → Bool
  passing y = bytes_eq y.1.name name && stands y.0

  abbrev kept : Entry → List AtomKey
  kept d = map (λ (y : AtomKey × AtomParts). y.0) (filter (λ (y : AtomKey × AtomParts). bytes_eq y.1.name name) (keyed_atoms d))

  kept_any : (d : Entry) → list_any stands (kept d) ≡ list_any passing (keyed_atoms d)
  kept_any d =
      any_map stands (λ (y : AtomKey × AtomParts). y.0) (filter (λ (y : AtomKey × AtomParts). bytes_eq y.1.name name) (keyed_atoms d))
      ∙ any_filter (λ (y : AtomKey × AtomParts). stands y.0) (λ (y : AtomKey × AtomParts). bytes_eq y.1.name name) (keyed_atoms d)

  own_passes : (d : Entry) → key_is q d.0 ≡ true → passing (record { stanza = d.0; field = a.field; group = a.group; atom = a.atom }, atom) ≡ true
  own_passes d is = λ i. named i && (is i && (nat_itself (field_place a.field) i && (nat_itself a.group i && nat_itself a.atom i)))

  in_entries : (x : Content) → atom_in a x ≡ Some atom → (es : List Entry) → under q es ≡ Some x → list_any stands (namers_named name es) ≡ true
  in_entries x there [] at = absurd (none_some x at)
  in_entries x there (d ∷ es) at = list_any-append stands (kept d) (namers_named name es) ∙ by (key_is q d.0) refl (in_entries x there es) at
    where
      by : (b : Bool) → key_is q d.0 ≡ b → (under q es ≡ Some x → list_any stands (namers_named name es) ≡ true) → cond b (Some d.1) (under q es) ≡ Some x → (list_any stands (kept d) || list_any stands (namers_named name es)) ≡ true
      by true is rest h =
          or_first _ _ (kept_any d ∙ in_entry d a atom passing (own_passes d is) (ap (atom_in a) (some_is d.1 x h) ∙ there))
      by false is rest h = or_then _ _ (rest h)

-- Of leads that stand in a store nothing is printed at an atom that no key of the atoms with the name stands for.
pub named_is_naming : (store : Held) (leads : List Entry) (name : List ℕ) → AllByRecursion (λ (e : Entry). stanza_at e.0 (keyed_of store).lists ≡ Some e.1) leads → (a : LeadAtom) →
    list_any (λ (k : AtomKey). is_at leads k a) (namers_named name (standing store)) ≡ false → line_at leads name a ≡ []
named_is_naming store leads name at a none = by (slice_get leads a.place) refl none
  where
    at_name : (e : Entry) (atom : AtomParts) (b : Bool) → bytes_eq atom.name name ≡ b → stanza_at e.0 (keyed_of store).lists ≡ Some e.1 → atom_in a e.1 ≡ Some atom →
        list_any (λ (k : AtomKey). is_key_of a k e.0) (namers_named name (standing store)) ≡ false → line_if_naming name e.1 a.field atom ≡ []
    at_name e atom true is held there h =
        absurd (true_false (sym (in_entries name a atom is e.0 e.1 there (standing store) (sym (stanza_under e.0 (keyed_of store).lists) ∙ held)) ∙ h))
    at_name e atom false is held there h = rw is refl

    at_atom : (e : Entry) (o : Option AtomParts) → atom_in a e.1 ≡ o → stanza_at e.0 (keyed_of store).lists ≡ Some e.1 →
        list_any (λ (k : AtomKey). is_key_of a k e.0) (namers_named name (standing store)) ≡ false → option_map_or (line_if_naming name e.1 a.field) o [] ≡ []
    at_atom e None there held h = refl
    at_atom e (Some atom) there held h = at_name e atom (bytes_eq atom.name name) refl held there h

    by : (o : Option Entry) → slice_get leads a.place ≡ o → list_any (λ (k : AtomKey). option_map_or (is_key_of a k) (option_map (λ (e : Entry). e.0) o) false) (namers_named name (standing store)) ≡ false →
        option_map_or (λ (e : Entry). line_in name a e.1) o [] ≡ []
    by None is h = refl
    by (Some e) is h = at_atom e (atom_in a e.1) refl (all_at (λ (d : Entry). stanza_at d.0 (keyed_of store).lists ≡ Some d.1) leads a.place e at is) h

-- ---- what is no atom of the leads

tie_refl : (a : LeadAtom) → is_eq (lead_atom_cmp a a) ≡ true
tie_refl a = tie_is a a ∙ (λ i. nat_itself a.place i && (nat_itself (field_place a.field) i && (nat_itself a.group i && nat_itself a.atom i)))

among_from : (a : LeadAtom) (e : Entry) (atom : AtomParts) → atom_in a e.1 ≡ Some atom → (i : ℕ) (es : List Entry) (j : ℕ) → a.place ≡ i + j → slice_get es j ≡ Some e →
    list_any (λ (b : LeadAtom). is_eq (lead_atom_cmp a b)) (atoms_from i es) ≡ true
among_from a e atom there i [] j at is = absurd (none_some e is)
among_from a e atom there i (d ∷ ds) zero at is =
    let same : i ≡ a.place = omega (arith, at) in
    list_any-append (λ (b : LeadAtom). is_eq (lead_atom_cmp a b)) (atoms_in i d) (atoms_from (suc i) ds)
    ∙ or_first _ _ ((λ k. list_any (λ (b : LeadAtom). is_eq (lead_atom_cmp a b)) (atoms_in (same k) (some_is d e is k)))
    ∙ any_map (λ (b : LeadAtom). is_eq (lead_atom_cmp a b)) (λ (y : AtomKey × AtomParts). atom_of y.0 a.place) (keyed_atoms e)
    ∙ in_entry e a atom (λ (y : AtomKey × AtomParts). is_eq (lead_atom_cmp a (atom_of y.0 a.place))) (tie_refl a) there)
among_from a e atom there i (d ∷ ds) (suc j) at is =
    list_any-append (λ (b : LeadAtom). is_eq (lead_atom_cmp a b)) (atoms_in i d) (atoms_from (suc i) ds)
    ∙ or_then _ _ (among_from a e atom there (suc i) ds j (let z : a.place ≡ suc i + j = omega (arith, at) in z) is)

-- What is none of all atoms of the leads prints nothing.
pub outside_silent : (leads : List Entry) (name : List ℕ) (a : LeadAtom) → list_any (λ (b : LeadAtom). is_eq (lead_atom_cmp a b)) (atoms_from 0 leads) ≡ false → line_at leads name a ≡ []
outside_silent leads name a none = by (slice_get leads a.place) refl
  where
    at_atom : (e : Entry) (o : Option AtomParts) → atom_in a e.1 ≡ o → slice_get leads a.place ≡ Some e → option_map_or (line_if_naming name e.1 a.field) o [] ≡ []
    at_atom e None there is = refl
    at_atom e (Some atom) there is =
        absurd (true_false (sym (among_from a e atom there 0 leads a.place (let z : a.place ≡ 0 + a.place = omega arith in z) is) ∙ none))

    by : (o : Option Entry) → slice_get leads a.place ≡ o → option_map_or (λ (e : Entry). line_in name a e.1) o [] ≡ []
    by None is = refl
    by (Some e) is = at_atom e (atom_in a e.1) refl is
