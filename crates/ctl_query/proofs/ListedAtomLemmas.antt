-- Atoms that are listed by their keys, and put in order, each once.
use Rattle.std.proofs.Common.{◌≡◌, ◌∙◌, ℕ, zero, suc, ◌+◌, ◌<◌, Bool, true, false, cond, ◌&&◌, ◌||◌, nat_eq, List, [], ◌∷◌, ◌++◌, Bor, length, take, get_or, flat_map, Some, refl, sym, ap, arith}
use Rattle.std.specs.Cmp.{Equal-is, alike_right}
use Rattle.std.specs.List.{All, list_any, dedup, dedup_from}
use Rattle.std.specs.List.Sorted.{IsStrictlySortedBy}
use Rattle.std.specs.Ordering.{is_eq, is_lt, ordering_reverse}
use Rattle.std.specs.Option.{option_map_or}
use Rattle.std.proofs.lemmas.Bool.Decides.{nat_tests}
use Rattle.std.proofs.lemmas.List.{map-append, take_more}
use Rattle.std.proofs.lemmas.List.Elements.{All-push}
use Rattle.std.proofs.lemmas.List.Folds.{list_any-append}
use Rattle.std.proofs.lemmas.Map.Keys.{sorted_from_all_adjacent}
use Rattle.std.specs.declared.cmp.Ordering.{Ordering}
use Rattle.std.specs.declared.cmp.Ordering.TheVariants.{Less, Equal, Greater}
use Rattle.ctl_relation.specs.FieldKind.{field_place}
use Rattle.ctl_relation.specs.declared.field_kind.FieldKind.TheVariants.{PreDepends}
use Rattle.ctl_stanza.specs.Content.{Content}
use Rattle.ctl_store.specs.declared.stanza_key.StanzaKey.{StanzaKey}
use Rattle.ctl_store.specs.Entries.{Entry}
use Rattle.ctl_store.specs.Keys.{key_cmp, key_is}
use Rattle.ctl_index.specs.declared.keys.AtomKey.{AtomKey}
use Rattle.ctl_index.specs.Names.{KeptNamer}
use Rattle.ctl_query.specs.declared.lead_atoms.LeadAtom.{LeadAtom}
use Rattle.ctl_query.specs.declared.lead_atoms.ListedAtom.{ListedAtom}
use Rattle.ctl_query.specs.Leads.{lead_atom_cmp, atom_of, is_key_of, is_at, is_listed, key_at}
use Rattle.ctl_query.specs.LeadTable.{lent_leads}
use Rattle.ctl_query.specs.Inside.ListedAtoms.{places_in, listed_at, IsKept, IsKeptOf}
use Rattle.ctl_query.proofs.AtomLemmas.{any_map}
use Rattle.ctl_query.proofs.AtomOrderLemmas.{lead_atoms_total}
use Rattle.ctl_query.proofs.LeadAtomLemmas.{nat_itself, tie_is, key_tie}
use Rattle.ctl_query.proofs.LeadTableLemmas.{lent-push, lent_taken}
use Rattle.ctl_query.proofs.RisingLemmas.{less_where}

turned : (o : Ordering) → is_eq (ordering_reverse o) ≡ is_eq o
turned Less = refl
turned Equal = refl
turned Greater = refl

-- atoms are the same where neither stands before the other
pub same_is : (a b : LeadAtom) → (nat_eq a.place b.place && (nat_eq (field_place a.field) (field_place b.field) && (nat_eq a.group b.group && nat_eq a.atom b.atom))) ≡ is_eq (lead_atom_cmp a b)
same_is a b = sym (ap is_eq (lead_atoms_total.antisymm a b) ∙ turned (lead_atom_cmp b a) ∙ tie_is b a)

abbrev pub same_place : ListedAtom → ListedAtom → Bool
same_place a b = nat_eq a.at.place b.at.place && (nat_eq (field_place a.at.field) (field_place b.at.field) && (nat_eq a.at.group b.at.group && nat_eq a.at.atom b.at.atom))

pub same_place_is : (a b : ListedAtom) → same_place a b ≡ is_eq (lead_atom_cmp a.at b.at)
same_place_is a b = same_is a.at b.at

module _ (a : LeadAtom) where
  abbrev is_it : ListedAtom → Bool
  is_it b = is_eq (lead_atom_cmp a b.at)

  alike : (b c : ListedAtom) → same_place b c ≡ true → is_it b ≡ is_it c
  alike b c e = ap is_eq (alike_right lead_atoms_total b.at c.at a ((Equal-is (lead_atom_cmp b.at c.at)).0 (sym (same_place_is b c) ∙ e)))

  told_twice : (p q r : Bool) → q ≡ p → (p || r) ≡ (p || (q || r))
  told_twice true q r e = refl
  told_twice false q r e = ap (λ t. t || r) (sym e)

  behind : (b : ListedAtom) (atoms : List ListedAtom) → list_any is_it (dedup_from same_place b atoms) ≡ (is_it b || list_any is_it atoms)
  behind b [] = refl
  behind b (c ∷ atoms) = by (same_place c b) refl (behind b atoms) (behind c atoms)
    where
      by : (t : Bool) → same_place c b ≡ t → list_any is_it (dedup_from same_place b atoms) ≡ (is_it b || list_any is_it atoms) → list_any is_it (dedup_from same_place c atoms) ≡ (is_it c || list_any is_it atoms)
          → list_any is_it (cond t (dedup_from same_place b atoms) (b ∷ dedup_from same_place c atoms)) ≡ (is_it b || (is_it c || list_any is_it atoms))
      by true e first other = first ∙ told_twice (is_it b) (is_it c) (list_any is_it atoms) (alike c b e)
      by false e first other = ap (λ t. is_it b || t) other

  once : (atoms : List ListedAtom) → list_any is_it (dedup same_place atoms) ≡ list_any is_it atoms
  once [] = refl
  once (b ∷ atoms) = behind b atoms

  in_places : (atoms : List ListedAtom) → is_listed (places_in atoms) a ≡ list_any is_it atoms
  in_places atoms = any_map (λ b. is_eq (lead_atom_cmp a b)) (λ (listed : ListedAtom). listed.at) atoms

  -- what goes, since it is there twice, is there still
  pub kept_once : (atoms : List ListedAtom) → is_listed (places_in (dedup same_place atoms)) a ≡ is_listed (places_in atoms) a
  kept_once atoms = in_places (dedup same_place atoms) ∙ once atoms ∙ sym (in_places atoms)

-- what is told of where atoms stand
pub of_places : {A : Type 0} (f : LeadAtom → List A) (atoms : List ListedAtom) → flat_map (λ (listed : ListedAtom). f listed.at) atoms ≡ flat_map f (places_in atoms)
of_places f [] = refl
of_places f (x ∷ atoms) = ap (λ ys. f x.at ++ ys) (of_places f atoms)

-- ---- by a key that is compared with that of each lead

or_none : (b : Bool) → (b || false) ≡ b
or_none true = refl
or_none false = refl

or_turned : (a b : Bool) → (a || b) ≡ (b || a)
or_turned true b = sym (by b)
  where
    by : (c : Bool) → (c || true) ≡ true
    by true = refl
    by false = refl
or_turned false b = sym (or_none b)

or_moved : (a b c : Bool) → (a || (b || c)) ≡ ((a || b) || c)
or_moved true b c = refl
or_moved false b c = refl

pub any_moved : (a b c : Bool) → (b || (a || c)) ≡ ((a || b) || c)
any_moved a b c = or_moved b a c ∙ ap (λ t. t || c) (or_turned b a)

and_none : (b : Bool) → (b && false) ≡ false
and_none true = refl
and_none false = refl

nat_turned : (m n : ℕ) → nat_eq m n ≡ nat_eq n m
nat_turned m n = grind (arith, nat_tests)

module _ (old : List ListedAtom) (n : KeptNamer) (i : ℕ) (q : StanzaKey) (a : LeadAtom) where
  pub pushed : is_eq (key_cmp q n.0.stanza) ≡ true → is_listed (places_in (old ++ listed_at n i ∷ [])) a ≡ ((nat_eq a.place i && is_key_of a n.0 q) || is_listed (places_in old) a)
  pushed e =
      let k = n.0 in
      let same : key_is q k.stanza ≡ true = sym (key_tie q k.stanza) ∙ e in
      ap (λ (atoms : List LeadAtom). is_listed atoms a) (map-append (λ (listed : ListedAtom). listed.at) old (listed_at n i ∷ []))
      ∙ list_any-append (λ b. is_eq (lead_atom_cmp a b)) (places_in old) (atom_of k i ∷ [])
      ∙ or_turned (is_listed (places_in old) a) (is_eq (lead_atom_cmp a (atom_of k i)) || false)
      ∙ ap (λ t. t || is_listed (places_in old) a)
      (or_none (is_eq (lead_atom_cmp a (atom_of k i))) ∙ tie_is a (atom_of k i)
      ∙ (λ j. nat_turned i a.place j && (sym same j && (nat_turned (field_place k.field) (field_place a.field) j && (nat_turned k.group a.group j && nat_turned k.atom a.atom j)))))

  pub not_pushed : is_eq (key_cmp q n.0.stanza) ≡ false → is_listed (places_in old) a ≡ ((nat_eq a.place i && is_key_of a n.0 q) || is_listed (places_in old) a)
  not_pushed e =
      let k = n.0 in
      let other : key_is q k.stanza ≡ false = sym (key_tie q k.stanza) ∙ e in
      let rest = nat_eq (field_place a.field) (field_place k.field) && (nat_eq a.group k.group && nat_eq a.atom k.atom) in
      ap (λ t. t || is_listed (places_in old) a) (sym (ap (λ t. nat_eq a.place i && (t && rest)) other ∙ and_none (nat_eq a.place i)))

-- what is kept of an atom is so where it is listed
pub kept_pushed : (old : List ListedAtom) (n : KeptNamer) (i : ℕ) (leads : List Entry) (name : List ℕ) → key_at leads i ≡ Some n.0.stanza → IsKeptOf leads name n → All (IsKept leads name) old → All (IsKept leads name) (old ++ listed_at n i ∷ [])
kept_pushed old n i leads name at of all = All-push (IsKept leads name) old (listed_at n i) all (of i at)

-- the key of one lead more
one_more : (f : StanzaKey → Bool) (leads : List Entry) (e : Entry) (n : ℕ) →
    option_map_or f (key_at (leads ++ e ∷ []) n) false ≡ ((nat_eq n (length leads) && f e.0) || option_map_or f (key_at leads n) false)
one_more f [] e zero = sym (ap (λ t. (t && f e.0) || false) (nat_itself 0) ∙ or_none (f e.0))
one_more f [] e (suc n) = let z : nat_eq (suc n) 0 ≡ false = grind (arith, nat_tests) in sym (ap (λ t. (t && f e.0) || false) z)
one_more f (x ∷ xs) e zero = let z : nat_eq 0 (length (x ∷ xs)) ≡ false = grind (arith, nat_tests) in sym (ap (λ t. (t && f e.0) || f x.0) z)
one_more f (x ∷ xs) e (suc n) =
    let z : nat_eq n (length xs) ≡ nat_eq (suc n) (length (x ∷ xs)) = grind (arith, nat_tests) in
    one_more f xs e n ∙ ap (λ t. (t && f e.0) || option_map_or f (key_at xs n) false) z

pub at_more : (leads : List (StanzaKey × Bor Content)) (i : ℕ) (d : StanzaKey × Bor Content) → i < length leads → (k : AtomKey) (a : LeadAtom) (old : Bool) →
    ((nat_eq a.place i && is_key_of a k (get_or leads i d).0) || (is_at (lent_leads (take i leads)) k a || old)) ≡ (is_at (lent_leads (take (i + 1) leads)) k a || old)
at_more leads i d l k a old =
    let x = get_or leads i d in
    let long : i ≡ length (lent_leads (take i leads)) = omega (arith, lent_taken i leads (omega (arith, l))) in
    or_moved (nat_eq a.place i && is_key_of a k x.0) (is_at (lent_leads (take i leads)) k a) old
    ∙ ap (λ t. t || old)
    (ap (λ (m : ℕ). (nat_eq a.place m && is_key_of a k x.0) || is_at (lent_leads (take i leads)) k a) long
    ∙ sym (ap (λ xs. is_at (lent_leads xs) k a) (take_more leads i d l)
    ∙ ap (λ es. is_at es k a) (lent-push (take i leads) x)
    ∙ one_more (is_key_of a k) (lent_leads (take i leads)) (x.0, x.1.now) a.place))

pub lent_key : (leads : List (StanzaKey × Bor Content)) (i : ℕ) (d : StanzaKey × Bor Content) → i < length leads → key_at (lent_leads leads) i ≡ Some (get_or leads i d).0
lent_key [] i d l = absurd (omega (arith, l))
lent_key (x ∷ xs) zero d l = refl
lent_key (x ∷ xs) (suc i) d l = lent_key xs i d (omega (arith, l))

-- ---- those that stand in order as they are

at_read : (atoms : List ListedAtom) (i : ℕ) (d : ListedAtom) → get_or (places_in atoms) i d.at ≡ (get_or atoms i d).at
at_read [] i d = refl
at_read (a ∷ atoms) zero d = refl
at_read (a ∷ atoms) (suc i) d = at_read atoms i d

places_long : (atoms : List ListedAtom) → length (places_in atoms) ≡ length atoms
places_long [] = refl
places_long (a ∷ atoms) = ap suc (places_long atoms)

pub in_order_from : (atoms : List ListedAtom) → ((k : ℕ) (d : ListedAtom) → k + 1 < length atoms → is_lt (lead_atom_cmp (get_or atoms k d).at (get_or atoms (k + 1) d).at) ≡ true) → IsStrictlySortedBy lead_atom_cmp (places_in atoms)
in_order_from [] each = sorted_from_all_adjacent lead_atoms_total [] (record { place = 0; field = PreDepends; group = 0; atom = 0 }) (λ k l. absurd (omega (arith, l)))
in_order_from (a ∷ atoms) each = sorted_from_all_adjacent lead_atoms_total (places_in (a ∷ atoms)) a.at (λ k l.
    (λ i. lead_atom_cmp (at_read (a ∷ atoms) k a i) (at_read (a ∷ atoms) (k + 1) a i)) ∙ less_where _ (each k a (omega (arith, l, places_long (a ∷ atoms)))))

pub atom_read : (atoms : List ListedAtom) (i : ℕ) (a d : ListedAtom) → i < length atoms → a ≡ get_or atoms i a → a ≡ get_or atoms i d
atom_read [] i a d l e = absurd (omega (arith, l))
atom_read (b ∷ atoms) zero a d l e = e
atom_read (b ∷ atoms) (suc i) a d l e = atom_read atoms i a d (omega (arith, l)) e
