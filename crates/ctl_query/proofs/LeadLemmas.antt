-- The leads of all rows: what is told of rows is told of them, and each stands under its key.
use Rattle.std.proofs.Common.{◌≡◌, ◌∙◌, ℕ, false, List, [], ◌∷◌, ◌++◌, map, flat_map, Option, None, Some, refl, sym, ap, subst, append-nil, append_assoc}
use Rattle.std.specs.List.{AllByRecursion}
use Rattle.std.specs.Option.{option_map_or}
use Rattle.std.proofs.lemmas.Grind.{flat_map-append}
use Rattle.ctl_stanza.specs.Content.{Content}
use Rattle.ctl_store.specs.declared.stanza_key.StanzaKey.{StanzaKey}
use Rattle.ctl_store.specs.Entries.{Entry, AreAt}
use Rattle.ctl_store.specs.Store.{Held, keyed_of}
use Rattle.ctl_store.specs.Keys.{stanza_at}
use Rattle.ctl_index.specs.Names.{known_names}
use Rattle.ctl_policy.specs.Rows.{Row, rows_named, newest_first, keys_of_row, is_any_row}
use Rattle.ctl_policy.specs.Priority.{World, world_of}
use Rattle.ctl_query.specs.Packages.{stanzas_of, names_known, has_row, of_rows, told_of_row, rows_of, packages_of}
use Rattle.ctl_index.specs.LeadKeys.{lead_key}
use Rattle.ctl_query.specs.Leads.{keyed_lead, keyed_stanza, leads_named, leads_of}
use Rattle.ctl_query.proofs.AtomOrderLemmas.{all_append}
use Rattle.ctl_query.proofs.InterestLemmas.{skip}

-- a `flat_map` after another
twice : {A B C : Type 0} (f : B → List C) (g : A → List B) (xs : List A) → flat_map f (flat_map g xs) ≡ flat_map (λ x. flat_map f (g x)) xs
twice f g [] = refl
twice f g (x ∷ xs) = flat_map-append f (g x) (flat_map g xs) ∙ ap (λ ys. flat_map f (g x) ++ ys) (twice f g xs)

-- by functions with the same values
pub alike : {A B : Type 0} (f g : A → List B) → ((x : A) → f x ≡ g x) → (xs : List A) → flat_map f xs ≡ flat_map g xs
alike f g same [] = refl
alike f g same (x ∷ xs) = λ i. same x i ++ alike f g same xs i

pub all_of_each : {A B : Type 0} (P : B → Type 0) (f : A → List B) → ((x : A) → AllByRecursion P (f x)) → (xs : List A) → AllByRecursion P (flat_map f xs)
all_of_each P f each [] = tt
all_of_each P f each (x ∷ xs) = all_append P (f x) (flat_map f xs) (each x) (all_of_each P f each xs)

module _ (world : World) where
  -- ---- what is told of rows

  module _ {A : Type 0} (text : Content → List A) where
    told_by_lead : (row : List StanzaKey) → told_of_row world text row ≡ flat_map (λ (e : Entry). text e.1) (keyed_lead world row)
    told_by_lead [] = refl
    told_by_lead (key ∷ keys) = by (stanza_at key world.lists)
      where
        by : (found : Option Content) → option_map_or text found [] ≡ flat_map (λ (e : Entry). text e.1) (option_map_or (λ (x : Content). (key, x) ∷ []) found [])
        by None = refl
        by (Some x) = sym (append-nil (text x))

    -- what is told of rows is told of their leads, one after another
    pub told_by_leads : (rows : List (List StanzaKey)) → flat_map (told_of_row world text) rows ≡ flat_map (λ (e : Entry). text e.1) (flat_map (keyed_lead world) rows)
    told_by_leads rows = alike _ _ told_by_lead rows ∙ sym (twice (λ (e : Entry). text e.1) (keyed_lead world) rows)

    -- a text in which the leads are told, tells of the rows; and so does one under a heading
    pub as_told : (before now : List A) (rows : List (List StanzaKey)) → now ≡ before ++ flat_map (λ (e : Entry). text e.1) (flat_map (keyed_lead world) rows)
        → now ≡ before ++ flat_map (told_of_row world text) rows
    as_told before now rows told = told ∙ ap (λ xs. before ++ xs) (sym (told_by_leads rows))

    pub as_told_under : (before heading now : List A) (rows : List (List StanzaKey)) → now ≡ (before ++ heading) ++ flat_map (λ (e : Entry). text e.1) (flat_map (keyed_lead world) rows)
        → now ≡ before ++ (heading ++ flat_map (told_of_row world text) rows)
    as_told_under before heading now rows told = as_told (before ++ heading) now rows told ∙ append_assoc before heading (flat_map (told_of_row world text) rows)

    -- and so it is with the rows of names
    pub told_of_leads : (names : List (List ℕ)) → flat_map (of_rows world text) names ≡ flat_map (λ (e : Entry). text e.1) (flat_map (leads_named world) names)
    told_of_leads names = alike _ _ (λ name. told_by_leads (rows_of world name)) names ∙ sym (twice (λ (e : Entry). text e.1) (leads_named world) names)

  -- ---- where they stand

  lead_at : (row : List StanzaKey) → AreAt (keyed_lead world row) world.lists
  lead_at [] = tt
  lead_at (key ∷ keys) = by (stanza_at key world.lists) refl
    where
      by : (found : Option Content) → stanza_at key world.lists ≡ found → AreAt (option_map_or (λ (x : Content). (key, x) ∷ []) found []) world.lists
      by None e = tt
      by (Some x) e = (e, tt)

  -- each lead is the stanza of its key
  pub leads_of_rows_at : (rows : List (List StanzaKey)) → AreAt (flat_map (keyed_lead world) rows) world.lists
  leads_of_rows_at rows = all_of_each _ (keyed_lead world) lead_at rows

  pub leads_at : (names : List (List ℕ)) → AreAt (flat_map (leads_named world) names) world.lists
  leads_at names = all_of_each _ (leads_named world) (λ name. leads_of_rows_at (rows_of world name)) names

  -- ---- of the rows of all names

  no_lead : (rows : List Row) → is_any_row rows ≡ false → flat_map (keyed_lead world) (map keys_of_row rows) ≡ []
  no_lead [] h = refl
  no_lead (row ∷ rows) h = absurd (let z : ⊥ = cc in z)

  -- a name without a row has no lead
  no_leads : (name : List ℕ) → has_row world name ≡ false → leads_named world name ≡ []
  unfolding rows_of
  no_leads name h = no_lead (newest_first (rows_named name world.lists)) h

  leads_by_name : (names : List (List ℕ)) → flat_map (flat_map (keyed_lead world)) (map (λ (name : List ℕ). map keys_of_row (newest_first (rows_named name world.lists))) names) ≡ flat_map (leads_named world) names
  unfolding rows_of
  leads_by_name [] = refl
  leads_by_name (name ∷ names) = ap (λ es. leads_named world name ++ es) (leads_by_name names)

  -- the leads of the rows of all known names are those of the packages
  pub leads_of_known : flat_map (flat_map (keyed_lead world)) (map (λ (name : List ℕ). map keys_of_row (newest_first (rows_named name world.lists))) (known_names (stanzas_of world))) ≡ leads_of world
  unfolding leads_of packages_of
  leads_of_known = leads_by_name (names_known world) ∙ skip (leads_named world) (has_row world) no_leads (names_known world)

  -- ---- by their keys

  row_by_key : (row : List StanzaKey) → flat_map (keyed_stanza world) (lead_key row) ≡ keyed_lead world row
  row_by_key [] = refl
  row_by_key (key ∷ keys) = append-nil (keyed_stanza world key)

  rows_by_keys : (rows : List (List StanzaKey)) → flat_map (keyed_stanza world) (flat_map lead_key rows) ≡ flat_map (keyed_lead world) rows
  rows_by_keys rows = twice (keyed_stanza world) lead_key rows ∙ alike _ _ row_by_key rows

  -- the leads of rows are the stanzas under the keys of these leads
  pub leads_by_keys : (rows : List (List (List StanzaKey))) → flat_map (keyed_stanza world) (flat_map (flat_map lead_key) rows) ≡ flat_map (flat_map (keyed_lead world)) rows
  leads_by_keys rows = twice (keyed_stanza world) (flat_map lead_key) rows ∙ alike _ _ rows_by_keys rows

-- leads of packages stand in the store
pub leads_held : (store : Held) (names : List (List ℕ)) (leads : List Entry) → leads ≡ flat_map (leads_named (world_of store)) names → AreAt leads (keyed_of store).lists
leads_held store names leads are = subst (λ (es : List Entry). AreAt es (keyed_of store).lists) (sym are) (leads_at (world_of store) names)
