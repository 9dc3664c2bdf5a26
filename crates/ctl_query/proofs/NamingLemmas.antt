-- Of a package that no atom, no offer and no clause points to there is nothing to tell.
use Rattle.std.proofs.Common.{◌≡◌, ◌∙◌, ℕ, suc, Bool, true, false, cond, ◌||◌, List, [], ◌∷◌, ◌++◌, map, flat_map, Option, Some, refl, sym, ap}
use Rattle.std.specs.List.{AllByRecursion, list_any, filter}
use Rattle.std.specs.Option.{option_map_or}
use Rattle.std.specs.Str.{bytes_eq}
use Rattle.std.proofs.lemmas.List.Folds.{list_any-append}
use Rattle.ctl_relation.specs.declared.field_kind.FieldKind.{FieldKind}
use Rattle.ctl_relation.specs.Parts.{AtomParts}
use Rattle.ctl_stanza.specs.Content.{Content, package_of, groups_of}
use Rattle.ctl_store.specs.declared.stanza_key.StanzaKey.{StanzaKey}
use Rattle.ctl_store.specs.Entries.{Entry, AreAt}
use Rattle.ctl_store.specs.Store.{Held, keyed_of}
use Rattle.ctl_store.specs.Keys.{stanza_at}
use Rattle.ctl_index.specs.declared.keys.AtomKey.{AtomKey}
use Rattle.ctl_index.specs.HeldCache.{standing}
use Rattle.ctl_index.specs.Names.{naming_fields, keyed_group, keyed_groups, keyed_atoms, namers_named}
use Rattle.ctl_query.specs.Interest.{is_of_package, names_it}
use Rattle.ctl_query.specs.ReverseDepends.{naming_in_group, naming_in_field, naming_in_lead}
use Rattle.ctl_query.specs.ShowPackage.{line_if_naming, naming_in, naming_lines}
use Rattle.ctl_query.proofs.KnownLemmas.{left_false, right_false}
use Rattle.ctl_query.proofs.SilentLemmas.{IsSilent}

pub flat_none : {X A : Type 0} (f : X → List A) (xs : List X) → AllByRecursion (λ x. f x ≡ []) xs → flat_map f xs ≡ []
flat_none f [] h = refl
flat_none f (x ∷ xs) h = ap (λ ys. ys ++ flat_map f xs) h.0 ∙ flat_none f xs h.1

pub all_turned : {X : Type 0} (P Q : X → Type 0) (xs : List X) → ((x : X) → P x → Q x) → AllByRecursion P xs → AllByRecursion Q xs
all_turned P Q [] f h = tt
all_turned P Q (x ∷ xs) f h = (f x h.0, all_turned P Q xs f h.1)

-- the stanza of a key is of a package exactly if that of its entry is
pub of_entry : (store : Held) (asker : List ℕ) (e : Entry) → stanza_at e.0 (keyed_of store).lists ≡ Some e.1 → bytes_eq asker (package_of e.1) ≡ true → is_of_package store asker e.0 ≡ true
of_entry store asker e at is = ap (λ (o : Option Content). option_map_or (λ stanza. bytes_eq asker (package_of stanza)) o false) at ∙ is

pub true_or : (a b : Bool) → a ≡ true → (a || b) ≡ false → ⊥
true_or true b e h = cc
true_or false b e h = cc

-- ---- atoms

-- no atom has the name
abbrev pub IsUnnamed : List ℕ → List AtomParts → Type 0
IsUnnamed name atoms = AllByRecursion (λ (atom : AtomParts). bytes_eq atom.name name ≡ false) atoms

abbrev pub AreUnnamed : List ℕ → Content → Type 0
AreUnnamed name lead = AllByRecursion (λ field. AllByRecursion (IsUnnamed name) (groups_of field lead)) naming_fields

module _ (p : StanzaKey → Bool) (name : List ℕ) where
  abbrev kept : List (AtomKey × AtomParts) → List (AtomKey × AtomParts)
  kept atoms = filter (λ (y : AtomKey × AtomParts). bytes_eq y.1.name name) atoms

  abbrev any : List (AtomKey × AtomParts) → Bool
  any atoms = list_any (λ (key : AtomKey). p key.stanza) (map (λ (y : AtomKey × AtomParts). y.0) atoms)

  abbrev hits : List (AtomKey × AtomParts) → Bool
  hits atoms = any (kept atoms)

  hits_append : (xs ys : List (AtomKey × AtomParts)) → hits (xs ++ ys) ≡ (hits xs || hits ys)
  hits_append [] ys = refl
  hits_append (x ∷ xs) ys = by (bytes_eq x.1.name name) (hits_append xs ys)
    where
      or_moved : (a b c d : Bool) → d ≡ (b || c) → (a || d) ≡ ((a || b) || c)
      or_moved true b c d h = refl
      or_moved false b c d h = h

      by : (b : Bool) → hits (xs ++ ys) ≡ (hits xs || hits ys) → any (cond b (x ∷ kept (xs ++ ys)) (kept (xs ++ ys))) ≡ (any (cond b (x ∷ kept xs) (kept xs)) || hits ys)
      by true rest = or_moved (p x.0.stanza) (hits xs) (hits ys) (hits (xs ++ ys)) rest
      by false rest = rest

  in_group : (key : StanzaKey) (field : FieldKind) (n m : ℕ) (atoms : List AtomParts) → p key ≡ true → hits (keyed_group key field n m atoms) ≡ false → IsUnnamed name atoms
  in_group key field n m [] is none = tt
  in_group key field n m (atom ∷ atoms) is none = by (bytes_eq atom.name name) refl (λ later. in_group key field n (suc m) atoms is later) none
    where
      by : (b : Bool) → bytes_eq atom.name name ≡ b → (hits (keyed_group key field n (suc m) atoms) ≡ false → IsUnnamed name atoms) →
          any (cond b ((record { stanza = key; field = field; group = n; atom = m }, atom) ∷ kept (keyed_group key field n (suc m) atoms)) (kept (keyed_group key field n (suc m) atoms))) ≡ false →
          IsUnnamed name (atom ∷ atoms)
      by true e rest h = absurd (true_or (p key) (hits (keyed_group key field n (suc m) atoms)) is h)
      by false e rest h = (e, rest h)

  in_groups : (key : StanzaKey) (field : FieldKind) (n : ℕ) (groups : List (List AtomParts)) → p key ≡ true → hits (keyed_groups key field n groups) ≡ false → AllByRecursion (IsUnnamed name) groups
  in_groups key field n [] is none = tt
  in_groups key field n (group ∷ groups) is none =
      let parts = sym (hits_append (keyed_group key field n 0 group) (keyed_groups key field (suc n) groups)) ∙ none in
      (in_group key field n 0 group is (left_false _ _ parts), in_groups key field (suc n) groups is (right_false _ _ parts))

  in_fields : (e : Entry) (fields : List FieldKind) → p e.0 ≡ true → hits (flat_map (λ field. keyed_groups e.0 field 0 (groups_of field e.1)) fields) ≡ false →
      AllByRecursion (λ field. AllByRecursion (IsUnnamed name) (groups_of field e.1)) fields
  in_fields e [] is none = tt
  in_fields e (field ∷ fields) is none =
      let parts = sym (hits_append (keyed_groups e.0 field 0 (groups_of field e.1)) (flat_map (λ field. keyed_groups e.0 field 0 (groups_of field e.1)) fields)) ∙ none in
      (in_groups e.0 field 0 (groups_of field e.1) is (left_false _ _ parts), in_fields e fields is (right_false _ _ parts))

  in_entries : (es : List Entry) → list_any (λ (key : AtomKey). p key.stanza) (namers_named name es) ≡ false → AllByRecursion (λ (e : Entry). p e.0 ≡ true → AreUnnamed name e.1) es
  in_entries [] none = tt
  in_entries (e ∷ es) none =
      let parts = sym (list_any-append (λ (key : AtomKey). p key.stanza) (map (λ (y : AtomKey × AtomParts). y.0) (filter (λ (y : AtomKey × AtomParts). bytes_eq y.1.name name) (keyed_atoms e))) (namers_named name es)) ∙ none in
      ((λ is. in_fields e naming_fields is (left_false _ _ parts)), in_entries es (right_false _ _ parts))

-- what is told of stanzas without such an atom
module _ {A : Type 0} (store : Held) (text : Content → List A) (asker : List ℕ) (P : Content → Type 0) (silent : (x : Content) → P x → text x ≡ []) where
  pub silent_entries : (es : List Entry) → AreAt es (keyed_of store).lists → AllByRecursion (λ (e : Entry). is_of_package store asker e.0 ≡ true → P e.1) es → IsSilent text asker es
  silent_entries [] at h = tt
  silent_entries (e ∷ es) at h = ((λ is. silent e.1 (h.0 (of_entry store asker e at.0 is))), silent_entries es at.1 h.1)

in_group_none : (name : List ℕ) (atoms : List AtomParts) → IsUnnamed name atoms → naming_in_group name atoms ≡ []
unfolding naming_in_group
in_group_none name [] h = refl
in_group_none name (atom ∷ atoms) h = rw h.0 (in_group_none name atoms h.1)

in_lead_none : (name : List ℕ) (lead : Content) → AreUnnamed name lead → naming_in_lead name lead ≡ []
unfolding naming_in_lead
in_lead_none name lead h =
    flat_none (naming_in_field name lead) naming_fields
    (all_turned (λ (field : FieldKind). AllByRecursion (IsUnnamed name) (groups_of field lead)) (λ (field : FieldKind). naming_in_field name lead field ≡ []) naming_fields
    (λ field none. flat_none (naming_in_group name) (groups_of field lead) (all_turned (IsUnnamed name) (λ (group : List AtomParts). naming_in_group name group ≡ []) (groups_of field lead) (in_group_none name) none)) h)

line_none : (name : List ℕ) (lead : Content) (field : FieldKind) (atom : AtomParts) → bytes_eq atom.name name ≡ false → line_if_naming name lead field atom ≡ []
line_none name lead field atom e = rw e refl

lines_none : (name : List ℕ) (lead : Content) → AreUnnamed name lead → naming_lines name lead ≡ []
unfolding naming_lines
lines_none name lead h =
    flat_none (naming_in name lead) naming_fields
    (all_turned (λ (field : FieldKind). AllByRecursion (IsUnnamed name) (groups_of field lead)) (λ (field : FieldKind). naming_in name lead field ≡ []) naming_fields
    (λ field none. flat_none (flat_map (line_if_naming name lead field)) (groups_of field lead) (all_turned (IsUnnamed name) (λ (group : List AtomParts). flat_map (line_if_naming name lead field) group ≡ []) (groups_of field lead)
    (λ group unnamed. flat_none (line_if_naming name lead field) group (all_turned (λ (atom : AtomParts). bytes_eq atom.name name ≡ false) (λ (atom : AtomParts). line_if_naming name lead field atom ≡ []) group (line_none name lead field) unnamed)) none)) h)

-- Nothing is told of who names a name by a package no stanza of which does.
pub naming_silent : (store : Held) (name asker : List ℕ) → AreAt (standing store) (keyed_of store).lists → names_it store name asker ≡ false → IsSilent (naming_in_lead name) asker (standing store)
naming_silent store name asker at none = silent_entries store (naming_in_lead name) asker (AreUnnamed name) (in_lead_none name) (standing store) at (in_entries (is_of_package store asker) name (standing store) none)

pub naming_lines_silent : (store : Held) (name asker : List ℕ) → AreAt (standing store) (keyed_of store).lists → names_it store name asker ≡ false → IsSilent (naming_lines name) asker (standing store)
naming_lines_silent store name asker at none = silent_entries store (naming_lines name) asker (AreUnnamed name) (lines_none name) (standing store) at (in_entries (is_of_package store asker) name (standing store) none)
