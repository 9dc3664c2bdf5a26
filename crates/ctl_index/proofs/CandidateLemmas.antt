-- The names that have rows, with what is chosen of each, as they stand in the order of names.
use Rattle.std.proofs.Common.{◌≡◌, ℕ, Bool, true, false, cond, List, [], ◌∷◌, map, Option, None, Some, is_some, if◌then◌else◌, refl, ap, sym, ◌∙◌, nat_cmp}
use Rattle.std.specs.Cmp.Lexicographic.{slice_cmp}
use Rattle.std.specs.FinMap as fin
use Rattle.std.specs.List.{AllByRecursion, list_any}
use Rattle.std.specs.List.Sorted.{IsStrictlySortedBy}
use Rattle.std.specs.Map.{lookup}
use Rattle.std.specs.Option.{option_map_or}
use Rattle.std.specs.Str.{bytes_eq}
use Rattle.std.specs.declared.cmp.Ordering.TheVariants.{Less}
use Rattle.std.proofs.lemmas.Map.Made.{is_some-lookup}
use Rattle.std.proofs.lemmas.Slice.Eq.{bytes_eq-Decides}
use Rattle.ctl_policy.specs.declared.chosen.Chosen.{Chosen}
use Rattle.ctl_policy.specs.Chosen.{if_rows, kept_of, choice_in, no_choice, AreChosen}
use Rattle.ctl_policy.specs.Priority.{World}
use Rattle.ctl_policy.specs.Rows.{Row, Rows, Lists, AreRowsOf, rows_named, newest_first, is_any_row, has_row}
use Rattle.ctl_index.specs.Inside.NameMap.{NamedEntry, entry_names, found_in}
use Rattle.ctl_index.specs.Inside.TablesByName.{NameMap, at_name, rows_under, chosen_under, named_own, no_rows}
use Rattle.ctl_index.specs.Inside.TablesViews.{has_rows, with_rows, entry_chosen}
use Rattle.ctl_index.specs.declared.named.Named.{Named}
use Rattle.ctl_index.proofs.AllRowsLemmas.{IsFound}
use Rattle.ctl_index.proofs.RowLemmas.{any_row}

-- ---- an entry more

pub shows_rows : (e : NamedEntry) (es : List NamedEntry) → has_rows e.1 ≡ true → with_rows (e ∷ es) ≡ e ∷ with_rows es
shows_rows e es h = ap (λ b. cond b (e ∷ with_rows es) (with_rows es)) h

pub passes_rows : (e : NamedEntry) (es : List NamedEntry) → has_rows e.1 ≡ false → with_rows (e ∷ es) ≡ with_rows es
passes_rows e es h = ap (λ b. cond b (e ∷ with_rows es) (with_rows es)) h

-- ---- in order

below_rows : (n : List ℕ) (es : List NamedEntry) → AllByRecursion (λ m. slice_cmp nat_cmp n m ≡ Less) (entry_names es) → AllByRecursion (λ m. slice_cmp nat_cmp n m ≡ Less) (entry_names (with_rows es))
below_rows n [] h = tt
below_rows n (e ∷ es) h = by (has_rows e.1) (below_rows n es h.1)
  where
    by : (b : Bool) → AllByRecursion (λ m. slice_cmp nat_cmp n m ≡ Less) (entry_names (with_rows es)) → AllByRecursion (λ m. slice_cmp nat_cmp n m ≡ Less) (entry_names (cond b (e ∷ with_rows es) (with_rows es)))
    by true rest = (h.0, rest)
    by false rest = rest

pub rows_sorted : (es : List NamedEntry) → IsStrictlySortedBy (slice_cmp nat_cmp) (entry_names es) → IsStrictlySortedBy (slice_cmp nat_cmp) (entry_names (with_rows es))
unfolding IsStrictlySortedBy
rows_sorted [] h = tt
rows_sorted (e ∷ es) h = by (has_rows e.1) (rows_sorted es h.1)
  where
    by : (b : Bool) → IsStrictlySortedBy (slice_cmp nat_cmp) (entry_names (with_rows es)) → IsStrictlySortedBy (slice_cmp nat_cmp) (entry_names (cond b (e ∷ with_rows es) (with_rows es)))
    by true rest = (below_rows e.0 es h.0, rest)
    by false rest = rest

-- the names of what is told are those of the entries
pub told_names : (es : List NamedEntry) → map (λ (e : List ℕ × Chosen). e.0) (map entry_chosen es) ≡ entry_names es
told_names [] = refl
told_names (e ∷ es) = ap (λ names. e.0 ∷ names) (told_names es)

-- ---- what is told of a name

-- what an entry tells: what is chosen, where there is a row
abbrev told : Option Named → Option Chosen
told None = None
told (Some v) = if has_rows v then Some (named_own v).chosen else None

module _ (m : NameMap) (q : List ℕ) where
  -- the rest of the entries tells it as well, or has none of this name
  abbrev left : List NamedEntry → Option Chosen
  left es = if is_some (found_in es q) then told (at_name m q) else None

  looked : (es : List NamedEntry) → AllByRecursion (IsFound m) es → lookup (bytes_eq q) (map entry_chosen (with_rows es)) ≡ left es
  looked [] found = refl
  looked (e ∷ es) found = by (bytes_eq q e.0) refl (has_rows e.1) refl (looked es found.1)
    where
      at : bytes_eq q e.0 ≡ true → at_name m q ≡ Some e.1
      at is = ap (at_name m) ((bytes_eq-Decides q e.0).0 is) ∙ found.0

      hidden : has_rows e.1 ≡ false → bytes_eq q e.0 ≡ true → told (at_name m q) ≡ None
      hidden none is = ap told (at is) ∙ ap (λ b. if b then Some (named_own e.1).chosen else None) none

      either : (b : Bool) (o : Option Chosen) → o ≡ None → (if b then o else None) ≡ None
      either true o h = h
      either false o h = refl

      by : (s : Bool) → bytes_eq q e.0 ≡ s → (b : Bool) → has_rows e.1 ≡ b → lookup (bytes_eq q) (map entry_chosen (with_rows es)) ≡ left es
          → lookup (bytes_eq q) (map entry_chosen (cond b (e ∷ with_rows es) (with_rows es))) ≡ (if is_some (cond s (Some e.1) (found_in es q)) then told (at_name m q) else None)
      by true is true some rest =
          ap (λ s. cond s (Some (named_own e.1).chosen) (lookup (bytes_eq q) (map entry_chosen (with_rows es)))) is
          ∙ sym (ap told (at is) ∙ ap (λ b. if b then Some (named_own e.1).chosen else None) some)
      by true is false none rest = rest ∙ either (is_some (found_in es q)) (told (at_name m q)) (hidden none is) ∙ sym (hidden none is)
      by false is true some rest = ap (λ s. cond s (Some (named_own e.1).chosen) (lookup (bytes_eq q) (map entry_chosen (with_rows es)))) is ∙ rest
      by false is false none rest = rest

  all_looked : (es : List NamedEntry) → AllByRecursion (IsFound m) es → found_in es q ≡ at_name m q → lookup (bytes_eq q) (map entry_chosen (with_rows es)) ≡ told (at_name m q)
  all_looked es found is = looked es found ∙ ap (λ o. if is_some o then told (at_name m q) else None) is ∙ by (at_name m q)
    where
      by : (o : Option Named) → (if is_some o then told o else None) ≡ told o
      by None = refl
      by (Some v) = refl

-- ---- what is kept of a name

-- something is kept of a name where it has a row
pub some_kept : (name : List ℕ) (w : World) → is_some (kept_of name w) ≡ has_row name w.lists
some_kept name w = by (newest_first (rows_named name w.lists))
  where
    by : (rows : List Row) → is_some (if_rows rows (choice_in name w)) ≡ is_any_row rows
    by [] = refl
    by (row ∷ rows) = refl

module _ (alike : (rows : Rows) → (name : List ℕ) → (lists : Lists) → AreRowsOf rows name lists → newest_first rows ≡ newest_first (rows_named name lists)) (none : newest_first fin.empty ≡ []) where
  told_rows : (o : Option Named) → told o ≡ if_rows (newest_first (option_map_or named_own o no_rows).rows) (option_map_or named_own o no_rows).chosen
  told_rows None = sym (ap (λ rows. if_rows rows no_choice) none)
  told_rows (Some v) = ap (λ b. if b then Some (named_own v).chosen else None) (any_row (named_own v).rows) ∙ by (newest_first (named_own v).rows)
    where
      by : (rows : List Row) → (if is_any_row rows then Some (named_own v).chosen else None) ≡ if_rows rows (named_own v).chosen
      by [] = refl
      by (row ∷ rows) = refl

  module _ (m : NameMap) (w : World) (rows : (q : List ℕ) → AreRowsOf (rows_under m q) q w.lists) (chosen : AreChosen (chosen_under m) w) (es : List NamedEntry) (found : AllByRecursion (IsFound m) es) where
    -- what is told of each name is what is to be kept of it
    pub told_kept : (q : List ℕ) → found_in es q ≡ at_name m q → lookup (bytes_eq q) (map entry_chosen (with_rows es)) ≡ kept_of q w
    told_kept q is = all_looked m q es found is ∙ told_rows (at_name m q) ∙ (λ i. if_rows (alike (rows_under m q) q w.lists (rows q) i) (chosen q i))

    -- and the names are those that have a row
    pub told_any : (q : List ℕ) → found_in es q ≡ at_name m q → list_any (bytes_eq q) (entry_names (with_rows es)) ≡ has_row q w.lists
    told_any q is =
        ap (list_any (bytes_eq q)) (sym (told_names (with_rows es)))
        ∙ sym (is_some-lookup (bytes_eq q) (map entry_chosen (with_rows es)))
        ∙ ap is_some (told_kept q is) ∙ some_kept q w
