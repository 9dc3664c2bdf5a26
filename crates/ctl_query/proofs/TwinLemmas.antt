-- What is told of stanzas under other keys: the same, where the keys alone differ.
use Rattle.std.proofs.Common.{◌≡◌, ◌∙◌, ℕ, ℤ, pos, Bool, true, false, cond, ◌&&◌, ◌||◌, T, int_lt, List, [], ◌∷◌, ◌++◌, map, filter, reverse, Option, None, Some, is_some, option_map, unwrap_or, refl, sym, ap, subst}
use Rattle.std.specs.FinMap as fin
use Rattle.std.specs.FinMap.Entries.{below_all}
use Rattle.std.specs.Map.{keys_of as names_of}
use Rattle.std.specs.Option.{option_map_or}
use Rattle.std.specs.Ordering.{is_eq, is_lt}
use Rattle.std.specs.Str.{bytes_eq}
use Rattle.std.proofs.lemmas.List.{reverse-append}
use Rattle.ctl_relation.specs.Version.{Triple, triple_of, version_cmp}
use Rattle.ctl_stanza.specs.Content.{Content, version_of}
use Rattle.ctl_store.specs.declared.selector.Selector.{Selector}
use Rattle.ctl_store.specs.declared.selector.Selector.TheVariants.{Version, Release}
use Rattle.ctl_store.specs.declared.stanza_key.StanzaKey.{StanzaKey}
use Rattle.ctl_store.specs.State.{StanzaList}
use Rattle.ctl_store.specs.Named.{at_name}
use Rattle.ctl_store.specs.Keys.{stanza_lists, stanza_at, holder_of}
use Rattle.ctl_store.specs.Entries.{Entry, entries_of}
use Rattle.ctl_policy.specs.Keys.{some_keys, or_none}
use Rattle.ctl_policy.specs.Rows.{Lists, Rows, Row, is_in_row, keys_with, rows_named, newest_first, keys_of_row, is_any_row, AreRowsOf, lead_of, lead_at, version_under, is_called, is_source, sources_of}
use Rattle.ctl_policy.specs.Priority.{World, Settings, list_priority, priority_of_list, matches_row, matches_text, specific_pin, priority_found, source_priorities, greatest, row_priority}
use Rattle.ctl_policy.specs.Candidate.{is_status_of, status_version, wanted_version, installed_of, version_if_row, may_be_taken, Choice, better, best_of, choice_of, lead_of_choice, candidate_of}
use Rattle.ctl_query.proofs.AnewLemmas.{entry_moved}
use Rattle.ctl_query.proofs.ClassLemmas.{AreClasses}

-- The stanzas of some lists stand in others under other keys, and all else of the lists is the same.
pub record IsMoved (f : StanzaKey → StanzaKey) (old new : Lists) : Type 0 where
  pub entries : entries_of new ≡ map (entry_moved f) (entries_of old)
  pub stanza : (key : StanzaKey) → stanza_at (f key) new ≡ stanza_at key old
  pub holder : (key : StanzaKey) → holder_of (f key) new ≡ holder_of key old
  pub lists : stanza_lists new ≡ stanza_lists old

-- rows that are those of a name are shown as the definition shows them
abbrev pub AreShown : Type 0
AreShown = (rows : Rows) → (name : List ℕ) → (lists : Lists) → AreRowsOf rows name lists → newest_first rows ≡ newest_first (rows_named name lists)

if_cases : {A B : Type 0} (f : A → B) (b : Bool) (x y : A) → f (cond b x y) ≡ cond b (f x) (f y)
if_cases f true x y = refl
if_cases f false x y = refl

map_append : {A B : Type 0} (g : A → B) (xs ys : List A) → map g (xs ++ ys) ≡ map g xs ++ map g ys
map_append g [] ys = refl
map_append g (x ∷ xs) ys = ap (λ l. g x ∷ l) (map_append g xs ys)

map_reverse : {A B : Type 0} (g : A → B) (xs : List A) → map g (reverse xs) ≡ reverse (map g xs)
map_reverse g [] = refl
map_reverse g (x ∷ xs) =
    ap (map g) (reverse-append (x ∷ []) xs) ∙ map_append g (reverse xs) (x ∷ []) ∙ ap (λ l. l ++ g x ∷ []) (map_reverse g xs) ∙ sym (reverse-append (g x ∷ []) (map g xs))

-- ---- keys

module _ (f : StanzaKey → StanzaKey) where
  keys_with_moved : (p : Content → Bool) (es : List Entry) → keys_with p (map (entry_moved f) es) ≡ map f (keys_with p es)
  keys_with_moved p [] = refl
  keys_with_moved p (e ∷ es) = (λ i. cond (p e.1) (f e.0 ∷ keys_with_moved p es i) (keys_with_moved p es i)) ∙ sym (if_cases (map f) (p e.1) (e.0 ∷ keys_with p es) (keys_with p es))

  some_keys_moved : (keys : List StanzaKey) → some_keys (map f keys) ≡ option_map (map f) (some_keys keys)
  some_keys_moved [] = refl
  some_keys_moved (key ∷ keys) = refl

  pub lead_moved : (keys : List StanzaKey) → lead_of (map f keys) ≡ option_map f (lead_of keys)
  lead_moved [] = refl
  lead_moved (key ∷ keys) = refl

  lead_at_moved : (row : Option (List StanzaKey)) → lead_of (or_none (option_map (map f) row)) ≡ option_map f (lead_of (or_none row))
  lead_at_moved None = refl
  lead_at_moved (Some keys) = lead_moved keys

  -- ---- rows

  abbrev entry_of_rows : List ℕ × List StanzaKey → List ℕ × List StanzaKey
  entry_of_rows e = (e.0, map f e.1)

  abbrev pub row_moved : Row → Row
  row_moved row = (row.0, map f row.1)

  below_moved : (v : List ℕ) (es : List (List ℕ × List StanzaKey)) → below_all version_cmp v (map entry_of_rows es) ≡ below_all version_cmp v es
  below_moved v [] = refl
  below_moved v (e ∷ es) = ap (λ b. is_lt (version_cmp v e.0) && b) (below_moved v es)

  sorted_moved : (es : List (List ℕ × List StanzaKey)) → fin.is_sorted version_cmp (map entry_of_rows es) ≡ fin.is_sorted version_cmp es
  sorted_moved [] = refl
  sorted_moved (e ∷ es) = λ i. below_moved e.0 es i && sorted_moved es i

  find_moved : (v : List ℕ) (es : List (List ℕ × List StanzaKey)) → fin.find version_cmp v (map entry_of_rows es) ≡ option_map (map f) (fin.find version_cmp v es)
  find_moved v [] = refl
  find_moved v (e ∷ es) = ap (cond (is_eq (version_cmp v e.0)) (Some (map f e.1))) (find_moved v es) ∙ sym (if_cases (option_map (map f)) (is_eq (version_cmp v e.0)) (Some e.1) (fin.find version_cmp v es))

  rows_moved : Rows → Rows
  rows_moved rows = fin.from_sorted (map entry_of_rows (fin.entries rows))

  is_sorted_moved : (rows : Rows) → T (fin.is_sorted version_cmp (map entry_of_rows (fin.entries rows)))
  is_sorted_moved rows = subst T (sym (sorted_moved (fin.entries rows))) (fin.entries_sorted rows)

  get_rows_moved : (rows : Rows) (v : List ℕ) → fin.get (rows_moved rows) v ≡ option_map (map f) (fin.get rows v)
  unfolding rows_moved
  get_rows_moved rows v =
      fin.get-from_sorted version_cmp (map entry_of_rows (fin.entries rows)) v (is_sorted_moved rows)
      ∙ find_moved v (fin.entries rows) ∙ ap (option_map (map f)) (sym (fin.get-entries rows v))

  shown_moved : (es : List (List ℕ × List StanzaKey)) → map (λ (row : List ℕ × List StanzaKey). (triple_of row.0, row.1)) (map entry_of_rows es) ≡ map row_moved (map (λ (row : List ℕ × List StanzaKey). (triple_of row.0, row.1)) es)
  shown_moved [] = refl
  shown_moved (e ∷ es) = ap (λ l. (triple_of e.0, map f e.1) ∷ l) (shown_moved es)

  newest_rows_moved : (rows : Rows) → newest_first (rows_moved rows) ≡ map row_moved (newest_first rows)
  unfolding rows_moved
  newest_rows_moved rows =
      ap (λ es. reverse (map (λ (row : List ℕ × List StanzaKey). (triple_of row.0, row.1)) es)) (fin.entries-from_sorted version_cmp (map entry_of_rows (fin.entries rows)) (is_sorted_moved rows))
      ∙ ap reverse (shown_moved (fin.entries rows)) ∙ sym (map_reverse row_moved (map (λ (row : List ℕ × List StanzaKey). (triple_of row.0, row.1)) (fin.entries rows)))

  pub keys_moved : (rows : List Row) → map keys_of_row (map row_moved rows) ≡ map (map f) (map keys_of_row rows)
  keys_moved [] = refl
  keys_moved (row ∷ rows) = ap (λ l. map f row.1 ∷ l) (keys_moved rows)

  any_moved : (rows : List Row) → is_any_row (map row_moved rows) ≡ is_any_row rows
  any_moved [] = refl
  any_moved (row ∷ rows) = refl

  -- ---- the choice

  abbrev taken_moved : ℤ × Option StanzaKey → ℤ × Option StanzaKey
  taken_moved c = (c.0, option_map f c.1)

  better_moved : (newer : ℤ × Option StanzaKey) (older : Choice) → better (taken_moved newer) (option_map taken_moved older) ≡ option_map taken_moved (better newer older)
  better_moved newer None = refl
  better_moved newer (Some older) = sym (if_cases (option_map taken_moved) (int_lt newer.0 older.0) (Some older) (Some newer))

  best_moved : (p q : List StanzaKey → ℤ) → ((keys : List StanzaKey) → q (map f keys) ≡ p keys) → (installed : Option Triple) (rows : List Row) →
      best_of q installed (map row_moved rows) ≡ option_map taken_moved (best_of p installed rows)
  best_moved p q h installed [] = refl
  best_moved p q h installed (row ∷ rows) =
      let rest = best_moved p q h installed rows in
      (λ i. cond (may_be_taken (h row.1 i) row.0 installed) (better (h row.1 i, lead_moved row.1 i) (rest i)) (rest i))
      ∙ ap (λ c. cond (may_be_taken (p row.1) row.0 installed) c (option_map taken_moved (best_of p installed rows))) (better_moved (p row.1, lead_of row.1) (best_of p installed rows))
      ∙ sym (if_cases (option_map taken_moved) (may_be_taken (p row.1) row.0 installed) (better (p row.1, lead_of row.1) (best_of p installed rows)) (best_of p installed rows))

  lead_of_choice_moved : (choice : Choice) → lead_of_choice (option_map taken_moved choice) ≡ option_map f (lead_of_choice choice)
  lead_of_choice_moved None = refl
  lead_of_choice_moved (Some c) = refl

  some_moved : (key : Option StanzaKey) → is_some (option_map f key) ≡ is_some key
  some_moved None = refl
  some_moved (Some key) = refl

  same_version : (v : List ℕ) (row : Option (List StanzaKey)) → option_map (λ (keys : List StanzaKey). triple_of v) (option_map (map f) row) ≡ option_map (λ (keys : List StanzaKey). triple_of v) row
  same_version v None = refl
  same_version v (Some keys) = refl

module _ (classes : AreClasses) (shown : AreShown) (f : StanzaKey → StanzaKey) (w : World) (ls : Lists) (m : IsMoved f w.lists ls) where
  abbrev pub other_world : World
  other_world = record w { lists = ls }

  -- ---- lists

  names_in : (lists : Lists) → map (λ (l : List ℕ × StanzaList). l.0) (stanza_lists lists) ≡ names_of lists
  names_in [] = refl
  names_in (l ∷ lists) = ap (λ names. l.0 ∷ names) (names_in lists)

  pub same_names : names_of ls ≡ names_of w.lists
  same_names = sym (names_in ls) ∙ ap (map (λ (l : List ℕ × StanzaList). l.0)) m.lists ∙ names_in w.lists

  pub same_list_priority : (list : List ℕ) → list_priority list other_world ≡ list_priority list w
  same_list_priority list = ap (λ lists. option_map (λ (l : StanzaList). priority_of_list list w l) (at_name list lists)) m.lists

  -- ---- what is told of a key

  pub same_version_under : (key : Option StanzaKey) → version_under ls (option_map f key) ≡ version_under w.lists key
  same_version_under None = refl
  same_version_under (Some key) = ap (λ (x : Option Content). option_map_or version_of x None) (m.stanza key)

  pub same_is_source : (list : List ℕ) (keys : List StanzaKey) → is_source list ls (map f keys) ≡ is_source list w.lists keys
  same_is_source list [] = refl
  same_is_source list (key ∷ keys) = λ i. is_called list (m.holder key i) || same_is_source list keys i

  pub same_sources : (keys : List StanzaKey) → sources_of (map f keys) ls ≡ sources_of keys w.lists
  same_sources keys = λ i. filter (λ (list : List ℕ). same_is_source list keys i) (same_names i)

  same_lead_version : (keys : List StanzaKey) → version_under ls (lead_of (map f keys)) ≡ version_under w.lists (lead_of keys)
  same_lead_version keys = ap (version_under ls) (lead_moved f keys) ∙ same_version_under (lead_of keys)

  same_match : (name : List ℕ) (keys : List StanzaKey) (s : Selector) → matches_row name ls (map f keys) s ≡ matches_row name w.lists keys s
  same_match name keys (Version own version) = ap (λ v. bytes_eq own name && matches_text version v) (same_lead_version keys)
  same_match name keys (Release None list) = refl
  same_match name keys (Release (Some own) list) = ap (λ b. bytes_eq own name && b) (same_is_source list keys)

  pub same_specific_pin : (name : List ℕ) (keys : List StanzaKey) (settings : Settings) → specific_pin name ls (map f keys) settings ≡ specific_pin name w.lists keys settings
  same_specific_pin name keys [] = refl
  same_specific_pin name keys (s ∷ settings) = λ i. cond (same_match name keys s.0 i) (Some s.1) (same_specific_pin name keys settings i)

  same_found : (list : Option (List ℕ)) → priority_found other_world list ≡ priority_found w list
  same_found None = refl
  same_found (Some list) = ap (λ p. unwrap_or p (pos 0)) (same_list_priority list)

  same_source_priorities : (keys : List StanzaKey) → source_priorities other_world (map f keys) ≡ source_priorities w keys
  same_source_priorities [] = refl
  same_source_priorities (key ∷ keys) = λ i. (ap (priority_found other_world) (m.holder key) ∙ same_found (holder_of key w.lists)) i ∷ same_source_priorities keys i

  pub same_row_priority : (name : List ℕ) (keys : List StanzaKey) → row_priority name other_world (map f keys) ≡ row_priority name w keys
  same_row_priority name keys = λ i. unwrap_or (same_specific_pin name keys w.pins i) (greatest (same_source_priorities keys i))

  -- ---- rows

  get_moved : (name v : List ℕ) → fin.get (rows_named name ls) v ≡ option_map (map f) (fin.get (rows_named name w.lists) v)
  get_moved name v =
      classes name v ls ∙ ap (λ es. some_keys (keys_with (is_in_row name v) es)) m.entries ∙ ap some_keys (keys_with_moved f (is_in_row name v) (entries_of w.lists))
      ∙ some_keys_moved f (keys_with (is_in_row name v) (entries_of w.lists)) ∙ ap (option_map (map f)) (sym (classes name v w.lists))

  pub newest_moved : (name : List ℕ) → newest_first (rows_named name ls) ≡ map (row_moved f) (newest_first (rows_named name w.lists))
  newest_moved name =
      sym (shown (rows_moved f (rows_named name w.lists)) name ls (λ v. get_rows_moved f (rows_named name w.lists) v ∙ sym (get_moved name v)))
      ∙ newest_rows_moved f (rows_named name w.lists)

  pub same_any_row : (name : List ℕ) → is_any_row (newest_first (rows_named name ls)) ≡ is_any_row (newest_first (rows_named name w.lists))
  same_any_row name = ap is_any_row (newest_moved name) ∙ any_moved f (newest_first (rows_named name w.lists))

  pub lead_moved_at : (name v : List ℕ) → lead_at (rows_named name ls) v ≡ option_map f (lead_at (rows_named name w.lists) v)
  lead_moved_at name v = ap (λ row. lead_of (or_none row)) (get_moved name v) ∙ lead_at_moved f (fin.get (rows_named name w.lists) v)

  -- ---- what is chosen

  same_status_version : (name : List ℕ) → status_version name ls ≡ status_version name w.lists
  same_status_version name =
      ap (λ es. version_under ls (lead_of (keys_with (is_status_of name) es))) m.entries
      ∙ ap (λ keys. version_under ls (lead_of keys)) (keys_with_moved f (is_status_of name) (entries_of w.lists))
      ∙ same_lead_version (keys_with (is_status_of name) (entries_of w.lists))

  same_wanted : (name : List ℕ) → wanted_version name other_world ≡ wanted_version name w
  same_wanted name = ap (unwrap_or (fin.get w.marks name)) (same_status_version name)

  lead_if : (name : List ℕ) (wanted : Option (List ℕ)) → option_map_or (lead_at (rows_named name ls)) wanted None ≡ option_map f (option_map_or (lead_at (rows_named name w.lists)) wanted None)
  lead_if name None = refl
  lead_if name (Some v) = lead_moved_at name v

  pub installed_moved : (name : List ℕ) → installed_of name other_world ≡ option_map f (installed_of name w)
  installed_moved name = ap (λ (wanted : Option (List ℕ)). option_map_or (lead_at (rows_named name ls)) wanted None) (same_wanted name) ∙ lead_if name (wanted_version name w)

  pub same_is_installed : (name : List ℕ) → is_some (installed_of name other_world) ≡ is_some (installed_of name w)
  same_is_installed name = ap is_some (installed_moved name) ∙ some_moved f (installed_of name w)

  same_version_if : (name : List ℕ) (wanted : Option (List ℕ)) → version_if_row (rows_named name ls) wanted ≡ version_if_row (rows_named name w.lists) wanted
  same_version_if name None = refl
  same_version_if name (Some v) = ap (option_map (λ (keys : List StanzaKey). triple_of v)) (get_moved name v) ∙ same_version f v (fin.get (rows_named name w.lists) v)

  choice_moved : (name : List ℕ) → choice_of name other_world ≡ option_map (taken_moved f) (choice_of name w)
  choice_moved name =
      (λ i. best_of (row_priority name other_world) ((ap (version_if_row (rows_named name ls)) (same_wanted name) ∙ same_version_if name (wanted_version name w)) i) (newest_moved name i))
      ∙ best_moved f (row_priority name w) (row_priority name other_world) (same_row_priority name) (version_if_row (rows_named name w.lists) (wanted_version name w)) (newest_first (rows_named name w.lists))

  pub candidate_moved : (name : List ℕ) → candidate_of name other_world ≡ option_map f (candidate_of name w)
  candidate_moved name = ap lead_of_choice (choice_moved name) ∙ lead_of_choice_moved f (choice_of name w)
