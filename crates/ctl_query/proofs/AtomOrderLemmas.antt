-- The order of the atoms of leads.
use Rattle.std.proofs.Common.{◌≡◌, ◌∙◌, ℕ, suc, ◌≤◌, ◌<◌, Bool, true, false, ◌&&◌, List, [], ◌∷◌, ◌++◌, map, flat_map, get_or, refl, sym, ap, arith}
use Rattle.std.specs.List.{AllByRecursion, filter, list_any}
use Rattle.std.specs.List.Sorted.{IsStrictlySortedBy}
use Rattle.std.specs.Cmp.{IsTotalOrder, Equal-is, nat_cmp_is, nat_cmp_total}
use Rattle.std.specs.Ordering.{is_eq, nat_cmp, ordering_then}
use Rattle.std.specs.declared.cmp.Ordering.{Ordering}
use Rattle.std.specs.declared.cmp.Ordering.TheVariants.{Less, Equal}
use Rattle.std.proofs.lemmas.Cmp.{on_total, then_total}
use Rattle.std.proofs.lemmas.List.Kept.{IsStrictlySortedBy-filter}
use Rattle.std.proofs.lemmas.Map.Lookups.{CmpEqualImpliesEq, btree_set_from_contains, exact_pairs, exact_unsigned}
use Rattle.ctl_relation.specs.declared.field_kind.FieldKind.{FieldKind}
use Rattle.ctl_relation.specs.declared.field_kind.FieldKind.TheVariants.{PreDepends, Depends, Conflicts, Breaks, Recommends, Suggests, Replaces, Enhances, Provides}
use Rattle.ctl_relation.specs.FieldKind.{field_place, nine_fields}
use Rattle.ctl_relation.specs.Parts.{AtomParts}
use Rattle.ctl_stanza.specs.Content.{groups_of}
use Rattle.ctl_store.specs.declared.stanza_key.StanzaKey.{StanzaKey}
use Rattle.ctl_store.specs.Entries.{Entry}
use Rattle.ctl_index.specs.declared.keys.AtomKey.{AtomKey}
use Rattle.ctl_index.specs.Names.{naming_fields, keyed_group, keyed_groups, keyed_atoms}
use Rattle.ctl_query.specs.declared.lead_atoms.LeadAtom.{LeadAtom}
use Rattle.ctl_query.specs.Leads.{lead_atom_cmp, atom_of}
use Rattle.ctl_query.proofs.AtomLemmas.{atoms_in, atoms_from}
use Rattle.ctl_query.proofs.InterestLemmas.{skip, and_false, turned}

-- ---- atoms that compare alike are one

abbrev field_at : ℕ → FieldKind
field_at n = get_or nine_fields n Provides

field_at-place : (f : FieldKind) → field_at (field_place f) ≡ f
field_at-place PreDepends = refl
field_at-place Depends = refl
field_at-place Conflicts = refl
field_at-place Breaks = refl
field_at-place Recommends = refl
field_at-place Suggests = refl
field_at-place Replaces = refl
field_at-place Enhances = refl
field_at-place Provides = refl

pub lead_atoms_total : IsTotalOrder lead_atom_cmp
lead_atoms_total =
    then_total (on_total (λ (a : LeadAtom). a.place) nat_cmp_total)
    (then_total (on_total (λ (a : LeadAtom). field_place a.field) nat_cmp_total)
    (then_total (on_total (λ (a : LeadAtom). a.group) nat_cmp_total) (on_total (λ (a : LeadAtom). a.atom) nat_cmp_total)))

abbrev Parts : Type 0
Parts = ℕ × (ℕ × (ℕ × ℕ))

abbrev parts : LeadAtom → Parts
parts a = (a.place, (field_place a.field, (a.group, a.atom)))

abbrev of_parts : Parts → LeadAtom
of_parts p = record { place = p.0; field = field_at p.1.0; group = p.1.1.0; atom = p.1.1.1 }

own_parts : (a : LeadAtom) → of_parts (parts a) ≡ a
own_parts a = λ i. record { place = a.place; field = field_at-place a.field i; group = a.group; atom = a.atom }

-- the form that `btree_set_from_contains` wants
pub lead_atoms_exact_cmp : CmpEqualImpliesEq lead_atom_cmp
lead_atoms_exact_cmp a b h =
    sym (own_parts a)
    ∙ ap of_parts (exact_pairs nat_cmp _ exact_unsigned (exact_pairs nat_cmp _ exact_unsigned (exact_pairs nat_cmp nat_cmp exact_unsigned exact_unsigned)) (parts a) (parts b) h)
    ∙ own_parts b

pub lead_atoms_exact : (a b : LeadAtom) → is_eq (lead_atom_cmp a b) ≡ true → a ≡ b
lead_atoms_exact a b h = lead_atoms_exact_cmp a b ((Equal-is (lead_atom_cmp a b)).0 h)

-- ---- atoms in order that tell one text

abbrev is_in : List LeadAtom → LeadAtom → Bool
is_in xs a = list_any (λ b. is_eq (lead_atom_cmp a b)) xs

in_at : (p : LeadAtom → Bool) (x : LeadAtom) (xs : List LeadAtom) (q : LeadAtom) → is_in (filter p xs) q ≡ (p q && is_in xs q) →
    (b : Bool) → p x ≡ b → (s : Bool) → is_eq (lead_atom_cmp q x) ≡ s → is_in (filter p (x ∷ xs)) q ≡ (p q && is_in (x ∷ xs) q)
in_at p x xs q rest true e true s = let same : p q ≡ true = ap p (lead_atoms_exact q x s) ∙ e in rw (e, s, same) refl
in_at p x xs q rest true e false s = rw (e, s) rest
in_at p x xs q rest false e true s = let same : p q ≡ false = ap p (lead_atoms_exact q x s) ∙ e in rw (e, s) (rest ∙ ap (λ b. b && is_in xs q) same ∙ ap (λ b. b && true) (sym same))
in_at p x xs q rest false e false s = rw (e, s) rest

in_filter : (p : LeadAtom → Bool) (xs : List LeadAtom) (q : LeadAtom) → is_in (filter p xs) q ≡ (p q && is_in xs q)
in_filter p [] q = and_false (p q)
in_filter p (x ∷ xs) q = in_at p x xs q (in_filter p xs q) (p x) refl (is_eq (lead_atom_cmp q x)) refl

-- atoms in order of which each is in the other list
pub one_in_order : (xs ys : List LeadAtom) → IsStrictlySortedBy lead_atom_cmp xs → IsStrictlySortedBy lead_atom_cmp ys →
    ((q : LeadAtom) → list_any (λ b. is_eq (lead_atom_cmp q b)) xs ≡ list_any (λ b. is_eq (lead_atom_cmp q b)) ys) → xs ≡ ys
one_in_order xs ys sx sy same = btree_set_from_contains lead_atoms_total (record { keys = xs }) (record { keys = ys }) sx sy same lead_atoms_exact_cmp

-- Two lists of atoms in order have one text, if what stands in one of them alone has none.
pub of_two : {A : Type 0} (f : LeadAtom → List A) (all some : List LeadAtom) → IsStrictlySortedBy lead_atom_cmp all → IsStrictlySortedBy lead_atom_cmp some →
    ((a : LeadAtom) → list_any (λ b. is_eq (lead_atom_cmp a b)) all ≡ false → f a ≡ []) → ((a : LeadAtom) → list_any (λ b. is_eq (lead_atom_cmp a b)) some ≡ false → f a ≡ []) →
    flat_map f some ≡ flat_map f all
of_two f all some sa ss outside none =
    skip f (is_in all) outside some
    ∙ ap (flat_map f) (one_in_order (filter (is_in all) some) (filter (is_in some) all)
    (IsStrictlySortedBy-filter lead_atom_cmp (is_in all) some ss) (IsStrictlySortedBy-filter lead_atom_cmp (is_in some) all sa)
    (λ q. in_filter (is_in all) some q ∙ turned (is_in all q) (is_in some q) ∙ sym (in_filter (is_in some) all q)))
    ∙ sym (skip f (is_in some) none all)

-- ---- lists in order, one behind another

all_in : {X : Type 0} (P Q : X → Type 0) → ((x : X) → P x → Q x) → (xs : List X) → AllByRecursion P xs → AllByRecursion Q xs
all_in P Q so [] h = tt
all_in P Q so (x ∷ xs) h = (so x h.0, all_in P Q so xs h.1)

pub all_append : {X : Type 0} (P : X → Type 0) (xs ys : List X) → AllByRecursion P xs → AllByRecursion P ys → AllByRecursion P (xs ++ ys)
all_append P [] ys h k = k
all_append P (x ∷ xs) ys h k = (h.0, all_append P xs ys h.1 k)

all_map : {X K : Type 0} (P : K → Type 0) (h : X → K) (xs : List X) → AllByRecursion (λ x. P (h x)) xs → AllByRecursion P (map h xs)
all_map P h [] a = tt
all_map P h (x ∷ xs) a = (a.0, all_map P h xs a.1)

pub sorted_map : {X K : Type 0} (c : K → K → Ordering) (h : X → K) (xs : List X) → IsStrictlySortedBy (λ x y. c (h x) (h y)) xs → IsStrictlySortedBy c (map h xs)
unfolding IsStrictlySortedBy
sorted_map c h [] s = tt
sorted_map c h (x ∷ xs) s = (all_map (λ k. c (h x) k ≡ Less) h xs s.0, sorted_map c h xs s.1)

-- each of the first below each of the second
pub sorted_joined : {X : Type 0} (c : X → X → Ordering) (P Q : X → Type 0) → ((x y : X) → P x → Q y → c x y ≡ Less) → (xs ys : List X) →
    AllByRecursion P xs → AllByRecursion Q ys → IsStrictlySortedBy c xs → IsStrictlySortedBy c ys → IsStrictlySortedBy c (xs ++ ys)
unfolding IsStrictlySortedBy
sorted_joined c P Q below [] ys p q sx sy = sy
sorted_joined c P Q below (x ∷ xs) ys p q sx sy =
    (all_append (λ y. c x y ≡ Less) xs ys sx.0 (all_in Q (λ y. c x y ≡ Less) (λ y. below x y p.0) ys q), sorted_joined c P Q below xs ys p.1 q sx.1 sy)

-- ---- what decides

less_first : (m n : ℕ) (o : Ordering) → m < n → ordering_then (nat_cmp m n) o ≡ Less
less_first m n o h = ap (λ r. ordering_then r o) (sym (nat_cmp_is m n Less h))

less_next : (m n : ℕ) (o : Ordering) → m ≡ n → o ≡ Less → ordering_then (nat_cmp m n) o ≡ Less
less_next m n o h l = ap (λ r. ordering_then r o) (sym (nat_cmp_is m n Equal h)) ∙ l

-- the parts of an atom that are known, and the least that the next one is
abbrev FromPlace : ℕ → LeadAtom → Type 0
FromPlace i a = i ≤ a.place

abbrev FromField : ℕ → ℕ → LeadAtom → Type 0
FromField i f a = (i ≡ a.place) × (f ≤ field_place a.field)

abbrev FromGroup : ℕ → ℕ → ℕ → LeadAtom → Type 0
FromGroup i f g a = (i ≡ a.place) × (f ≡ field_place a.field) × (g ≤ a.group)

abbrev FromAtom : ℕ → ℕ → ℕ → ℕ → LeadAtom → Type 0
FromAtom i f g n a = (i ≡ a.place) × (f ≡ field_place a.field) × (g ≡ a.group) × (n ≤ a.atom)

below_place : (i : ℕ) (a b : LeadAtom) → FromField i 0 a → FromPlace (suc i) b → lead_atom_cmp a b ≡ Less
below_place i a b h k = less_first a.place b.place _ (omega (arith, h.0, k))

below_field : (i f : ℕ) (a b : LeadAtom) → FromGroup i f 0 a → FromField i (suc f) b → lead_atom_cmp a b ≡ Less
below_field i f a b h k = less_next a.place b.place _ (sym h.0 ∙ k.0) (less_first (field_place a.field) (field_place b.field) _ (omega (arith, h.1, k.1)))

below_group : (i f g : ℕ) (a b : LeadAtom) → FromAtom i f g 0 a → FromGroup i f (suc g) b → lead_atom_cmp a b ≡ Less
below_group i f g a b h k =
    less_next a.place b.place _ (sym h.0 ∙ k.0) (less_next (field_place a.field) (field_place b.field) _ (sym h.1 ∙ k.1) (less_first a.group b.group _ (omega (arith, h.2, k.2))))

below_atom : (i f g n : ℕ) (a b : LeadAtom) → i ≡ a.place → f ≡ field_place a.field → g ≡ a.group → n ≡ a.atom → FromAtom i f g (suc n) b → lead_atom_cmp a b ≡ Less
below_atom i f g n a b ia fa ga na k =
    less_next a.place b.place _ (sym ia ∙ k.0) (less_next (field_place a.field) (field_place b.field) _ (sym fa ∙ k.1)
    (less_next a.group b.group _ (sym ga ∙ k.2) (sym (nat_cmp_is a.atom b.atom Less (omega (arith, na, k.3))))))

-- ---- a group, a field, a lead and all of them

abbrev Keyed : Type 0
Keyed = AtomKey × AtomParts

abbrev at : ℕ → Keyed → LeadAtom
at i y = atom_of y.0 i

abbrev keyed_cmp : ℕ → Keyed → Keyed → Ordering
keyed_cmp i x y = lead_atom_cmp (at i x) (at i y)

group_from : (i : ℕ) (key : StanzaKey) (f : FieldKind) (g n : ℕ) (atoms : List AtomParts) → AllByRecursion (λ (y : Keyed). FromAtom i (field_place f) g n (at i y)) (keyed_group key f g n atoms)
group_from i key f g n [] = tt
group_from i key f g n (atom ∷ atoms) = (
  (refl, refl, refl, omega arith),
  all_in (λ (y : Keyed). FromAtom i (field_place f) g (suc n) (at i y)) (λ (y : Keyed). FromAtom i (field_place f) g n (at i y)) (λ y h. (h.0, h.1, h.2, omega (arith, h.3)))
      (keyed_group key f g (suc n) atoms) (group_from i key f g (suc n) atoms),
)

group_sorted : (i : ℕ) (key : StanzaKey) (f : FieldKind) (g n : ℕ) (atoms : List AtomParts) → IsStrictlySortedBy (keyed_cmp i) (keyed_group key f g n atoms)
unfolding IsStrictlySortedBy
group_sorted i key f g n [] = tt
group_sorted i key f g n (atom ∷ atoms) =
    let first : Keyed = (record { stanza = key; field = f; group = g; atom = n }, atom) in (
      all_in (λ (y : Keyed). FromAtom i (field_place f) g (suc n) (at i y)) (λ (y : Keyed). keyed_cmp i first y ≡ Less) (λ y h. below_atom i (field_place f) g n (at i first) (at i y) refl refl refl refl h)
          (keyed_group key f g (suc n) atoms) (group_from i key f g (suc n) atoms),
      group_sorted i key f g (suc n) atoms,
    )

groups_from : (i : ℕ) (key : StanzaKey) (f : FieldKind) (g : ℕ) (groups : List (List AtomParts)) → AllByRecursion (λ (y : Keyed). FromGroup i (field_place f) g (at i y)) (keyed_groups key f g groups)
groups_from i key f g [] = tt
groups_from i key f g (group ∷ groups) =
    all_append (λ (y : Keyed). FromGroup i (field_place f) g (at i y)) (keyed_group key f g 0 group) (keyed_groups key f (suc g) groups)
    (all_in (λ (y : Keyed). FromAtom i (field_place f) g 0 (at i y)) (λ (y : Keyed). FromGroup i (field_place f) g (at i y)) (λ y h. (h.0, h.1, omega (arith, h.2)))
    (keyed_group key f g 0 group) (group_from i key f g 0 group))
    (all_in (λ (y : Keyed). FromGroup i (field_place f) (suc g) (at i y)) (λ (y : Keyed). FromGroup i (field_place f) g (at i y)) (λ y h. (h.0, h.1, omega (arith, h.2)))
    (keyed_groups key f (suc g) groups) (groups_from i key f (suc g) groups))

groups_sorted : (i : ℕ) (key : StanzaKey) (f : FieldKind) (g : ℕ) (groups : List (List AtomParts)) → IsStrictlySortedBy (keyed_cmp i) (keyed_groups key f g groups)
unfolding IsStrictlySortedBy
groups_sorted i key f g [] = tt
groups_sorted i key f g (group ∷ groups) =
    sorted_joined (keyed_cmp i) (λ (y : Keyed). FromAtom i (field_place f) g 0 (at i y)) (λ (y : Keyed). FromGroup i (field_place f) (suc g) (at i y))
    (λ x y h k. below_group i (field_place f) g (at i x) (at i y) h k) (keyed_group key f g 0 group) (keyed_groups key f (suc g) groups)
    (group_from i key f g 0 group) (groups_from i key f (suc g) groups) (group_sorted i key f g 0 group) (groups_sorted i key f (suc g) groups)

-- fields that stand at the places from n on
abbrev AreNumbered : ℕ → List FieldKind → Type 0
AreNumbered n [] = Unit {0}
AreNumbered n (f ∷ fs) = (n ≡ field_place f) × AreNumbered (suc n) fs

abbrev keyed_field : Entry → FieldKind → List Keyed
keyed_field e f = keyed_groups e.0 f 0 (groups_of f e.1)

-- those of a field at a place
field_at_place : (i n : ℕ) (e : Entry) (f : FieldKind) → n ≡ field_place f → AllByRecursion (λ (y : Keyed). FromGroup i n 0 (at i y)) (keyed_field e f)
field_at_place i n e f is =
    all_in (λ (y : Keyed). FromGroup i (field_place f) 0 (at i y)) (λ (y : Keyed). FromGroup i n 0 (at i y)) (λ y h. (h.0, is ∙ h.1, h.2))
    (keyed_field e f) (groups_from i e.0 f 0 (groups_of f e.1))

fields_from : (i n : ℕ) (e : Entry) (fs : List FieldKind) → AreNumbered n fs → AllByRecursion (λ (y : Keyed). FromField i n (at i y)) (flat_map (keyed_field e) fs)
fields_from i n e [] is = tt
fields_from i n e (f ∷ fs) is =
    all_append (λ (y : Keyed). FromField i n (at i y)) (keyed_field e f) (flat_map (keyed_field e) fs)
    (all_in (λ (y : Keyed). FromGroup i n 0 (at i y)) (λ (y : Keyed). FromField i n (at i y)) (λ y h. (h.0, omega (arith, h.1))) (keyed_field e f) (field_at_place i n e f is.0))
    (all_in (λ (y : Keyed). FromField i (suc n) (at i y)) (λ (y : Keyed). FromField i n (at i y)) (λ y h. (h.0, omega (arith, h.1)))
    (flat_map (keyed_field e) fs) (fields_from i (suc n) e fs is.1))

fields_sorted : (i n : ℕ) (e : Entry) (fs : List FieldKind) → AreNumbered n fs → IsStrictlySortedBy (keyed_cmp i) (flat_map (keyed_field e) fs)
unfolding IsStrictlySortedBy
fields_sorted i n e [] is = tt
fields_sorted i n e (f ∷ fs) is =
    sorted_joined (keyed_cmp i) (λ (y : Keyed). FromGroup i n 0 (at i y)) (λ (y : Keyed). FromField i (suc n) (at i y))
    (λ x y h k. below_field i n (at i x) (at i y) h k) (keyed_field e f) (flat_map (keyed_field e) fs)
    (field_at_place i n e f is.0) (fields_from i (suc n) e fs is.1) (groups_sorted i e.0 f 0 (groups_of f e.1)) (fields_sorted i (suc n) e fs is.1)

naming_numbered : AreNumbered 0 naming_fields
naming_numbered = (refl, (refl, (refl, (refl, (refl, (refl, (refl, (refl, tt))))))))

-- each atom of a lead stands at its place
in_from : (i : ℕ) (e : Entry) → AllByRecursion (FromField i 0) (atoms_in i e)
in_from i e = all_map (FromField i 0) (at i) (keyed_atoms e) (fields_from i 0 e naming_fields naming_numbered)

pub in_sorted : (i : ℕ) (e : Entry) → IsStrictlySortedBy lead_atom_cmp (atoms_in i e)
in_sorted i e = sorted_map lead_atom_cmp (at i) (keyed_atoms e) (fields_sorted i 0 e naming_fields naming_numbered)

atoms_behind : (i : ℕ) (leads : List Entry) → AllByRecursion (FromPlace i) (atoms_from i leads)
atoms_behind i [] = tt
atoms_behind i (e ∷ es) =
    all_append (FromPlace i) (atoms_in i e) (atoms_from (suc i) es)
    (all_in (FromField i 0) (FromPlace i) (λ a h. omega (arith, h.0)) (atoms_in i e) (in_from i e))
    (all_in (FromPlace (suc i)) (FromPlace i) (λ a h. omega (arith, h)) (atoms_from (suc i) es) (atoms_behind (suc i) es))

-- The atoms of leads, lead by lead, are in their order, each once.
pub atoms_sorted : (i : ℕ) (leads : List Entry) → IsStrictlySortedBy lead_atom_cmp (atoms_from i leads)
unfolding IsStrictlySortedBy
atoms_sorted i [] = tt
atoms_sorted i (e ∷ es) =
    sorted_joined lead_atom_cmp (FromField i 0) (FromPlace (suc i)) (below_place i) (atoms_in i e) (atoms_from (suc i) es)
    (in_from i e) (atoms_behind (suc i) es) (in_sorted i e) (atoms_sorted (suc i) es)
