-- Of a package of which each clause is met there is nothing to tell.
use Rattle.std.proofs.Common.{◌≡◌, ◌∙◌, ℕ, ◌+◌, suc, Bool, true, false, cond, ◌||◌, List, [], ◌∷◌, ◌++◌, flat_map, nat_eq, Option, Some, None, zero, length, take, drop, append_assoc, refl, sym, ap, arith}
use Rattle.std.specs.Prelude.{slice_get}
use Rattle.std.specs.List.{AllByRecursion, list_any, filter}
use Rattle.std.specs.Option.{option_map, option_map_or, option_and_then}
use Rattle.std.proofs.Math.Seq.{take-append_seam}
use Rattle.std.proofs.lemmas.List.{append-nil}
use Rattle.ctl_relation.specs.declared.field_kind.FieldKind.{FieldKind}
use Rattle.ctl_relation.specs.declared.field_kind.FieldKind.TheVariants.{PreDepends, Depends, Recommends, Suggests}
use Rattle.ctl_relation.specs.Met.{met_pairs}
use Rattle.ctl_relation.specs.Parts.{AtomParts}
use Rattle.ctl_stanza.specs.Content.{Content, groups_of}
use Rattle.ctl_store.specs.declared.stanza_key.StanzaKey.{StanzaKey}
use Rattle.ctl_store.specs.Entries.{Entry, AreAt}
use Rattle.ctl_store.specs.Followed.{under}
use Rattle.ctl_store.specs.Store.{Held, keyed_of}
use Rattle.ctl_index.specs.declared.keys.ClauseKey.{ClauseKey}
use Rattle.ctl_index.specs.Clauses.{clause_fields, is_clause_field, clause_of, clause_at, number_at, is_unmet, group_keys, clauses_of, clauses, unmet_clauses}
use Rattle.ctl_index.specs.HeldCache.{standing}
use Rattle.ctl_index.specs.Offers.{contents, offers_among}
use Rattle.ctl_policy.specs.Priority.{world_of}
use Rattle.ctl_query.specs.Interest.{is_of_package, has_unmet}
use Rattle.ctl_query.specs.Packages.{stanzas_of}
use Rattle.ctl_query.specs.Unmet.{fields_considered, line_if_unmet, unmet_in_field, clause_lines, unmet_heading, under as under_heading, unmet_lead}
use Rattle.ctl_query.specs.Unmet.{is_unmet as is_unmet_in}
use Rattle.ctl_query.proofs.EntryLemmas.{contents_are, own_under}
use Rattle.ctl_query.proofs.KnownLemmas.{left_false, right_false}
use Rattle.ctl_query.proofs.NamingLemmas.{flat_none, all_turned, of_entry}
use Rattle.ctl_query.proofs.SilentLemmas.{IsSilent}

abbrev clause : StanzaKey → FieldKind → ℕ → ClauseKey
clause key field n = record { stanza = key; field = field; group = n }

-- whether a number that was found is 0
abbrev is_zero : Option ℕ → Bool
is_zero n = option_map_or (λ n. nat_eq n 0) n false

-- the pairs that meet a clause
abbrev number : List Entry → List AtomParts → ℕ
number es atoms = met_pairs atoms (offers_among (contents es))

numbered : (es : List Entry) (o : Option (List AtomParts)) (atoms : List AtomParts) → o ≡ Some atoms → is_zero (option_map (number es) o) ≡ nat_eq (number es atoms) 0
numbered es o atoms e = ap (λ o. is_zero (option_map (number es) o)) e

-- ---- a clause of a stanza under its key

-- the clause under a key is this group of the field
pub clause_found : (es : List Entry) (key : StanzaKey) (x : Content) (field : FieldKind) (n : ℕ) (atoms : List AtomParts) → under key es ≡ Some x → is_clause_field field ≡ true → slice_get (groups_of field x) n ≡ Some atoms →
    clause_at (clause key field n) es ≡ Some atoms
clause_found es key x field n atoms there is at =
    ap (option_and_then (clause_of (clause key field n))) there ∙ ap (λ b. cond b (slice_get (groups_of field x) n) None) is ∙ at

-- the number under the key of a clause tells whether it is met
pub number_tells : (store : Held) (key : ClauseKey) (atoms : List AtomParts) (n : ℕ) → clause_at key (standing store) ≡ Some atoms → Some n ≡ number_at key (standing store) → nat_eq n 0 ≡ is_unmet_in (world_of store) atoms
unfolding is_unmet_in
number_tells store key atoms n at is =
    ap is_zero is ∙ numbered (standing store) (clause_at key (standing store)) atoms at
    ∙ ap (λ xs. nat_eq (met_pairs atoms (offers_among xs)) 0) (contents_are (keyed_of store).lists)

-- ---- all clauses of a package

module _ (es : List Entry) (p : StanzaKey → Bool) where
  abbrev hit : ClauseKey → Bool
  hit key = p key.stanza

  hits_append : (xs ys : List ClauseKey) → list_any hit (filter (is_unmet es) (xs ++ ys)) ≡ (list_any hit (filter (is_unmet es) xs) || list_any hit (filter (is_unmet es) ys))
  hits_append [] ys = refl
  hits_append (x ∷ xs) ys = by (is_unmet es x) (hits_append xs ys)
    where
      or_moved : (a b c d : Bool) → d ≡ (b || c) → (a || d) ≡ ((a || b) || c)
      or_moved true b c d h = refl
      or_moved false b c d h = h

      by : (b : Bool) → list_any hit (filter (is_unmet es) (xs ++ ys)) ≡ (list_any hit (filter (is_unmet es) xs) || list_any hit (filter (is_unmet es) ys)) →
          list_any hit (cond b (x ∷ filter (is_unmet es) (xs ++ ys)) (filter (is_unmet es) (xs ++ ys))) ≡ (list_any hit (cond b (x ∷ filter (is_unmet es) xs) (filter (is_unmet es) xs)) || list_any hit (filter (is_unmet es) ys))
      by true rest = or_moved (p x.stanza) (list_any hit (filter (is_unmet es) xs)) (list_any hit (filter (is_unmet es) ys)) (list_any hit (filter (is_unmet es) (xs ++ ys))) rest
      by false rest = rest

  -- one clause that is not taken is met
  one_met : (key : ClauseKey) (later : List ClauseKey) (b : Bool) → is_unmet es key ≡ b → p key.stanza ≡ true → list_any hit (cond b (key ∷ later) later) ≡ false → is_unmet es key ≡ false
  one_met key later true e is none = absurd (let first : p key.stanza ≡ false = left_false (p key.stanza) (list_any hit later) none in let z : true ≡ false = sym is ∙ first in let w : ⊥ = cc in w)
  one_met key later false e is none = e

  abbrev IsMet : List AtomParts → Type 0
  IsMet atoms = nat_eq (number es atoms) 0 ≡ false

  in_groups : (key : StanzaKey) (x : Content) (field : FieldKind) (n : ℕ) (groups : List (List AtomParts)) → under key es ≡ Some x → is_clause_field field ≡ true → p key ≡ true →
      ((i : ℕ) → slice_get (groups_of field x) (n + i) ≡ slice_get groups i) → list_any hit (filter (is_unmet es) (group_keys key field n groups)) ≡ false → AllByRecursion IsMet groups
  in_groups key x field n [] there is of at none = tt
  in_groups key x field n (group ∷ groups) there is of at none =
      let parts = sym (hits_append (clause key field n ∷ []) (group_keys key field (suc n) groups)) ∙ none in
      let own : slice_get (groups_of field x) n ≡ Some group = ap (slice_get (groups_of field x)) (let z : n ≡ n + 0 = omega arith in z) ∙ at 0 in
      let found = clause_found es key x field n group there is own in
      let unmet = one_met (clause key field n) [] (is_unmet es (clause key field n)) refl of (left_false _ _ parts) in (
        sym (numbered es (clause_at (clause key field n) es) group found) ∙ unmet,
        in_groups key x field (suc n) groups there is of (λ i. ap (slice_get (groups_of field x)) (let z : suc n + i ≡ n + suc i = omega arith in z) ∙ at (suc i)) (right_false _ _ parts),
      )

  in_fields : (key : StanzaKey) (x : Content) (fields : List FieldKind) → under key es ≡ Some x → AllByRecursion (λ field. is_clause_field field ≡ true) fields → p key ≡ true →
      list_any hit (filter (is_unmet es) (flat_map (λ field. group_keys key field 0 (groups_of field x)) fields)) ≡ false → AllByRecursion (λ field. AllByRecursion IsMet (groups_of field x)) fields
  in_fields key x [] there are of none = tt
  in_fields key x (field ∷ fields) there are of none =
      let parts = sym (hits_append (group_keys key field 0 (groups_of field x)) (flat_map (λ field. group_keys key field 0 (groups_of field x)) fields)) ∙ none in
      (in_groups key x field 0 (groups_of field x) there are.0 of (λ i. ap (slice_get (groups_of field x)) (let z : 0 + i ≡ i = omega arith in z)) (left_false _ _ parts), in_fields key x fields there are.1 of (right_false _ _ parts))

  abbrev pub AreMet : Content → Type 0
  AreMet x = AllByRecursion (λ field. AllByRecursion IsMet (groups_of field x)) clause_fields

  in_entries : (some : List Entry) → AllByRecursion (λ (e : Entry). under e.0 es ≡ Some e.1) some → list_any hit (filter (is_unmet es) (clauses some)) ≡ false →
      AllByRecursion (λ (e : Entry). p e.0 ≡ true → AreMet e.1) some
  in_entries [] own none = tt
  in_entries (e ∷ some) own none =
      let parts = sym (hits_append (clauses_of e) (clauses some)) ∙ none in
      ((λ of. in_fields e.0 e.1 clause_fields own.0 (refl, (refl, (refl, (refl, tt)))) of (left_false _ _ parts)), in_entries some own.1 (right_false _ _ parts))

-- ---- their lines

module _ (store : Held) (p : StanzaKey → Bool) where
  line_none : (field : FieldKind) (atoms : List AtomParts) → nat_eq (number (standing store) atoms) 0 ≡ false → line_if_unmet (world_of store) field atoms ≡ []
  unfolding is_unmet_in
  line_none field atoms e =
      let is : nat_eq (met_pairs atoms (offers_among (stanzas_of (world_of store)))) 0 ≡ false = sym (ap (λ xs. nat_eq (met_pairs atoms (offers_among xs)) 0) (contents_are (keyed_of store).lists)) ∙ e in
      rw is refl

  field_none : (x : Content) (field : FieldKind) → AllByRecursion (λ (atoms : List AtomParts). nat_eq (number (standing store) atoms) 0 ≡ false) (groups_of field x) → unmet_in_field (world_of store) x field ≡ []
  field_none x field h =
      flat_none (line_if_unmet (world_of store) field) (groups_of field x)
      (all_turned (λ (atoms : List AtomParts). nat_eq (number (standing store) atoms) 0 ≡ false) (λ atoms. line_if_unmet (world_of store) field atoms ≡ []) (groups_of field x) (line_none field) h)

  lead_none : (important : Bool) (x : Content) → AreMet (standing store) p x → unmet_lead (world_of store) important x ≡ []
  unfolding unmet_lead clause_lines
  lead_none true x h = ap (under_heading (unmet_heading x)) (flat_none (unmet_in_field (world_of store) x) (fields_considered true) (field_none x PreDepends h.0, (field_none x Depends h.1.0, tt)))
  lead_none false x h =
      ap (under_heading (unmet_heading x)) (flat_none (unmet_in_field (world_of store) x) (fields_considered false)
      (field_none x PreDepends h.0, (field_none x Depends h.1.0, (field_none x Recommends h.1.1.0, (field_none x Suggests h.1.1.1.0, tt)))))

silent_from : (store : Held) (important : Bool) (asker : List ℕ) (es : List Entry) → AreAt es (keyed_of store).lists →
    AllByRecursion (λ (e : Entry). is_of_package store asker e.0 ≡ true → AreMet (standing store) (is_of_package store asker) e.1) es → IsSilent (unmet_lead (world_of store) important) asker es
silent_from store important asker [] at h = tt
silent_from store important asker (e ∷ es) at h = ((λ is. lead_none store (is_of_package store asker) important e.1 (h.0 (of_entry store asker e at.0 is))), silent_from store important asker es at.1 h.1)

-- Nothing is told of a package none of whose clauses is one that no offer meets.
pub unmet_silent : (store : Held) (important : Bool) (asker : List ℕ) → AreAt (standing store) (keyed_of store).lists → has_unmet store asker ≡ false → IsSilent (unmet_lead (world_of store) important) asker (standing store)
unfolding unmet_clauses
unmet_silent store important asker at none =
    silent_from store important asker (standing store) at (in_entries (standing store) (is_of_package store asker) (standing store) (own_under (keyed_of store).lists at) none)

-- ---- a clause that is passed

-- what is left of a list from a place on begins with what stands there
pub at_place : {A : Type 0} (xs its rest : List A) (n : ℕ) (x : A) → its ≡ drop n xs → its ≡ x ∷ rest → slice_get xs n ≡ Some x
at_place [] its rest zero x e f = absurd (let z : x ∷ rest ≡ [] = sym f ∙ e in let w : ⊥ = cc in w)
at_place [] its rest (suc n) x e f = absurd (let z : x ∷ rest ≡ [] = sym f ∙ e in let w : ⊥ = cc in w)
at_place (y ∷ xs) its rest zero x e f = let z : y ∷ xs ≡ x ∷ rest = sym e ∙ f in let same : y ≡ x = cc in ap (λ v. Some v) same
at_place (y ∷ xs) its rest (suc n) x e f = at_place xs its rest n x e f

pub behind_place : {A : Type 0} (xs its rest : List A) (n : ℕ) (x : A) → its ≡ drop n xs → its ≡ x ∷ rest → rest ≡ drop (n + 1) xs
behind_place [] its rest zero x e f = absurd (let z : x ∷ rest ≡ [] = sym f ∙ e in let w : ⊥ = cc in w)
behind_place [] its rest (suc n) x e f = absurd (let z : x ∷ rest ≡ [] = sym f ∙ e in let w : ⊥ = cc in w)
behind_place (y ∷ xs) its rest zero x e f = let z : x ∷ rest ≡ y ∷ xs = sym f ∙ e in let same : rest ≡ xs = cc in same
behind_place (y ∷ xs) its rest (suc n) x e f =
    let more : suc (n + 1) ≡ suc n + 1 = omega arith in
    behind_place xs its rest n x e f ∙ ap (λ m. drop m (y ∷ xs)) more

-- what is told of one more, and of those that are left
pub one_passed : {A : Type 0} (f : A → List ℕ) (its rest : List A) (x : A) (out new all : List ℕ) → its ≡ x ∷ rest → new ≡ out ++ f x → out ++ flat_map f its ≡ all → new ++ flat_map f rest ≡ all
one_passed f its rest x out new all are grown before =
    ap (λ text. text ++ flat_map f rest) grown ∙ append_assoc out (f x) (flat_map f rest) ∙ ap (λ xs. out ++ flat_map f xs) (sym are) ∙ before

-- ---- a heading with nothing under it

none_behind : (xs text : List ℕ) → length (xs ++ text) ≡ length xs → text ≡ []
none_behind [] [] h = refl
none_behind [] (b ∷ text) h = absurd (let z : ⊥ = cc in z)
none_behind (x ∷ xs) text h = none_behind xs text (let z : length (xs ++ text) ≡ length xs = cc in z)

pub taken_off : (before heading text old : List ℕ) (start headed : ℕ) → length before ≡ start → length (before ++ heading) ≡ headed → old ≡ (before ++ heading) ++ text → length old ≡ headed →
    take start old ≡ before ++ under_heading heading text
taken_off before heading text old start headed s h e l =
    let none : text ≡ [] = none_behind (before ++ heading) text (ap length (sym e) ∙ l ∙ sym h) in
    ap (λ n. take n old) (sym s) ∙ ap (take (length before)) (e ∙ append_assoc before heading text) ∙ take-append_seam before (heading ++ text)
    ∙ sym (ap (λ t. before ++ under_heading heading t) none ∙ append-nil before)

pub left_there : (before heading text old : List ℕ) (headed : ℕ) → length (before ++ heading) ≡ headed → old ≡ (before ++ heading) ++ text → (length old ≡ headed → ⊥) → old ≡ before ++ under_heading heading text
left_there before heading [] old headed h e l = absurd (l (ap length (e ∙ append-nil (before ++ heading)) ∙ h))
left_there before heading (b ∷ text) old headed h e l = e ∙ append_assoc before heading (b ∷ text)
