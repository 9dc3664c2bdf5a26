-- The rows of all names are those of each known name.
use Rattle.std.proofs.Common.{◌≡◌, ℕ, false, cond, List, [], ◌∷◌, map, Some, refl, ap, sym, ◌∙◌}
use Rattle.std.specs.Cmp.Lexicographic.{slice_cmp, nat_list_eq_equiv}
use Rattle.std.specs.List.{AllByRecursion}
use Rattle.std.specs.List.Sorted.{IsStrictlySortedBy}
use Rattle.std.specs.Ordering.{nat_cmp, is_eq}
use Rattle.std.specs.Str.{bytes_eq}
use Rattle.std.specs.declared.cmp.Ordering.TheVariants.{Less}
use Rattle.std.specs.Option.{option_map_or}
use Rattle.std.proofs.lemmas.Map.Text.{is_eq-slice_cmp}
use Rattle.std.proofs.lemmas.Slice.Eq.{bytes_eq-Decides}
use Rattle.ctl_store.specs.declared.stanza_key.StanzaKey.{StanzaKey}
use Rattle.ctl_store.specs.Keys.{AreHeld}
use Rattle.ctl_policy.specs.Rows.{Lists, rows_named, newest_first, keys_of_row}
use Rattle.ctl_index.specs.Inside.TablesByName.{NameMap, at_name, named_own, no_rows, rows_under}
use Rattle.ctl_index.specs.Inside.TablesViews.{entry_rows}
use Rattle.ctl_index.specs.Inside.NameMap.{NamedEntry, entry_names, found_in}
use Rattle.ctl_index.specs.declared.named.Named.{Named}

-- the rows of a name, newest first, each by the keys of its stanzas
abbrev pub rows_told : Lists → List ℕ → List (List StanzaKey)
rows_told lists name = map keys_of_row (newest_first (rows_named name lists))

-- a table has the value of an entry under its name
abbrev pub IsFound : NameMap → NamedEntry → Type 0
IsFound m e = at_name m e.0 ≡ Some e.1

-- the rows of an entry are those under its name
pub of_entry : (m : NameMap) (e : NamedEntry) → IsFound m e → rows_under m e.0 ≡ (named_own e.1).rows
of_entry m e found = ap (λ o. (option_map_or named_own o no_rows).rows) found

-- ---- entries in order are found under their names

-- a name behind another in order is another
behind : (n : List ℕ) (v : Named) (others : List NamedEntry) (es : List NamedEntry) → AllByRecursion (λ name. slice_cmp nat_cmp n name ≡ Less) (entry_names es)
    → AllByRecursion (λ (e : NamedEntry). found_in others e.0 ≡ Some e.1) es → AllByRecursion (λ (e : NamedEntry). found_in ((n, v) ∷ others) e.0 ≡ Some e.1) es
behind n v others [] below found = tt
behind n v others (e ∷ es) below found =
    let other : bytes_eq e.0 n ≡ false = nat_list_eq_equiv.symm e.0 n ∙ sym (is_eq-slice_cmp n e.0) ∙ ap is_eq below.0 in
    (ap (λ b. cond b (Some v) (found_in others e.0)) other ∙ found.0, behind n v others es below.1 found.1)

each_found : (es : List NamedEntry) → IsStrictlySortedBy (slice_cmp nat_cmp) (entry_names es) → AllByRecursion (λ (e : NamedEntry). found_in es e.0 ≡ Some e.1) es
unfolding IsStrictlySortedBy
each_found [] sorted = tt
each_found (e ∷ es) sorted =
    (ap (λ b. cond b (Some e.1) (found_in es e.0)) ((bytes_eq-Decides e.0 e.0).1 refl), behind e.0 e.1 es es sorted.0 (each_found es sorted.1))

in_table : (m : NameMap) (all es : List NamedEntry) → ((q : List ℕ) → found_in all q ≡ at_name m q) → AllByRecursion (λ (e : NamedEntry). found_in all e.0 ≡ Some e.1) es → AllByRecursion (IsFound m) es
in_table m all [] found each = tt
in_table m all (e ∷ es) found each = (sym (found e.0) ∙ each.0, in_table m all es found each.1)

pub entries_found : (m : NameMap) (es : List NamedEntry) → IsStrictlySortedBy (slice_cmp nat_cmp) (entry_names es) → ((q : List ℕ) → found_in es q ≡ at_name m q) → AllByRecursion (IsFound m) es
entries_found m es sorted found = in_table m es es found (each_found es sorted)

-- ---- the rows

-- where the rows under each name are shown as those of the definition, so are those of the entries
pub rows_along : (m : NameMap) (lists : Lists) → ((name : List ℕ) → newest_first (rows_under m name) ≡ newest_first (rows_named name lists))
    → (es : List NamedEntry) → AllByRecursion (IsFound m) es → map entry_rows es ≡ map (rows_told lists) (entry_names es)
rows_along m lists shown [] found = refl
rows_along m lists shown (e ∷ es) found =
    let own = ap newest_first (sym (of_entry m e found.0)) ∙ shown e.0 in
    (λ i. map keys_of_row (own i) ∷ rows_along m lists shown es found.1 i)

-- the stanzas of all rows stand in the store
pub all_held : (lists : Lists) → ((name : List ℕ) → AllByRecursion (λ row. AreHeld row lists) (rows_told lists name))
    → (names : List (List ℕ)) → AllByRecursion (λ rows. AllByRecursion (λ row. AreHeld row lists) rows) (map (rows_told lists) names)
all_held lists held [] = tt
all_held lists held (name ∷ names) = (held name, all_held lists held names)
