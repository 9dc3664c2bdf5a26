-- What the atoms of leads tell, package by package, are the lines of `rdepends`.
use Rattle.std.proofs.Common.{◌≡◌, ◌∙◌, ℕ, Bool, true, false, cond, not, ◌&&◌, List, [], ◌∷◌, ◌++◌, map, flat_map, Option, None, Some, IfSome, refl, sym, ap, append-nil}
use Rattle.std.specs.Cmp.Lexicographic.{slice_cmp}
use Rattle.std.specs.List.{AllByRecursion, list_all}
use Rattle.std.specs.List.Sorted.{IsStrictlySortedBy}
use Rattle.std.specs.Option.{option_map_or}
use Rattle.std.specs.Ordering.{nat_cmp, is_eq}
use Rattle.std.specs.declared.cmp.Ordering.TheVariants.{Less}
use Rattle.std.specs.Str.{bytes_eq}
use Rattle.std.proofs.lemmas.List.{map-append}
use Rattle.std.proofs.lemmas.List.Kept.{IsStrictlySortedBy-filter}
use Rattle.std.proofs.lemmas.Map.Text.{is_eq-slice_cmp}
use Rattle.std.proofs.lemmas.Slice.Eq.{bytes_eq-Decides}
use Rattle.ctl_stanza.specs.Content.{package_of}
use Rattle.ctl_store.specs.declared.stanza_key.StanzaKey.{StanzaKey}
use Rattle.ctl_store.specs.Entries.{Entry, entries_of, AreAt}
use Rattle.ctl_index.specs.Names.{known_names}
use Rattle.ctl_policy.specs.Keys.{some_keys}
use Rattle.ctl_policy.specs.Priority.{World}
use Rattle.ctl_policy.specs.Rows.{Row, is_in_row, keys_with, keys_of_row, rows_named, newest_first}
use Rattle.ctl_query.specs.Inside.Namings.{Naming, line_of, lines_behind}
use Rattle.ctl_query.specs.Packages.{told, told_of_row, of_rows, rows_of, packages_of, names_known, has_row, is_installed}
use Rattle.ctl_query.specs.ReverseDepends.{naming_in_lead, naming, asker_line, asking_line}
use Rattle.ctl_query.proofs.ClassLemmas.{AreClasses, each_class}
use Rattle.ctl_query.proofs.LeadLemmas.{alike}
use Rattle.ctl_query.proofs.NamingAtomLemmas.{namings_of}
use Rattle.ctl_query.proofs.NamingLemmas.{all_turned}
use Rattle.ctl_query.proofs.OrderLemmas.{in_order_sorted}
use Rattle.ctl_query.proofs.SilentLemmas.{of_name}

and_true : (b : Bool) → b ≡ (b && true)
and_true true = refl
and_true false = refl

and_moved : (a b c : Bool) → ((a && b) && c) ≡ (a && (b && c))
and_moved true b c = refl
and_moved false b c = refl

-- each with its package
abbrev own : List ℕ → List Bool → List Naming
own asker found = map (λ (further : Bool). (asker, further)) found

-- ---- the leads of a package are of it

module _ (world : World) (name asker : List ℕ) where
  abbrev IsOwn : List StanzaKey → Type 0
  IsOwn keys = told_of_row world (namings_of name) keys ≡ own asker (told_of_row world (naming_in_lead name) keys)

  of_keys : (version : List ℕ) (es : List Entry) → AreAt es world.lists → IsOwn (keys_with (is_in_row asker version) es)
  of_keys version [] at = refl
  of_keys version (e ∷ es) at = by (is_in_row asker version e.1) refl (of_keys version es at.1)
    where
      by : (b : Bool) → is_in_row asker version e.1 ≡ b → IsOwn (keys_with (is_in_row asker version) es) → IsOwn (cond b (e.0 ∷ keys_with (is_in_row asker version) es) (keys_with (is_in_row asker version) es))
      by true is rest =
          ap (told (namings_of name)) at.0
          ∙ ap (λ p. own p (naming_in_lead name e.1)) (sym ((bytes_eq-Decides asker (package_of e.1)).0 (of_name asker version e.1 is)))
          ∙ sym (ap (λ o. own asker (told (naming_in_lead name) o)) at.0)
      by false is rest = rest

  if_some : (keys : List StanzaKey) → IsOwn keys → IfSome (some_keys keys) IsOwn
  if_some [] h = tt
  if_some (key ∷ keys) h = h

  of_all : (rows : List Row) → AllByRecursion (λ (row : Row). IsOwn row.1) rows → flat_map (told_of_row world (namings_of name)) (map keys_of_row rows) ≡ own asker (flat_map (told_of_row world (naming_in_lead name)) (map keys_of_row rows))
  of_all [] h = refl
  of_all (row ∷ rows) h =
      (λ i. h.0 i ++ of_all rows h.1 i)
      ∙ sym (map-append (λ (further : Bool). (asker, further)) (told_of_row world (naming_in_lead name) row.1) (flat_map (told_of_row world (naming_in_lead name)) (map keys_of_row rows)))

  of_package : AreClasses → AreAt (entries_of world.lists) world.lists → of_rows world (namings_of name) asker ≡ own asker (naming world name asker)
  unfolding rows_of naming
  of_package classes at =
      of_all (newest_first (rows_named asker world.lists))
      (each_class classes IsOwn asker world.lists (λ version. if_some (keys_with (is_in_row asker version) (entries_of world.lists)) (of_keys version (entries_of world.lists) at)))

-- ---- those of a package together

itself : (p : List ℕ) → bytes_eq p p ≡ true
itself p = (bytes_eq-Decides p p).1 refl

module _ (world : World) (installed : Bool) where
  abbrev lines : Option Naming → List Naming → List ℕ
  lines found namings = lines_behind world installed found namings

  abbrev before : Option Naming → List ℕ
  before found = option_map_or (line_of world installed) found []

  abbrev asked : List ℕ → List Bool → List ℕ
  asked p found = cond (installed && not (is_installed world p)) [] (asker_line p found)

  none_asked : (p : List ℕ) → asked p [] ≡ []
  none_asked p = by (installed && not (is_installed world p))
    where
      by : (b : Bool) → ◌≡◌ {A = List ℕ} (cond b [] []) []
      by true = refl
      by false = refl

  same_package : (p : List ℕ) (all : Bool) (found : List Bool) (rest : List Naming) → lines (Some (p, all)) (own p found ++ rest) ≡ lines (Some (p, all && list_all (λ b. b) found)) rest
  unfolding lines_behind
  same_package p all [] rest = ap (λ b. lines (Some (p, b)) rest) (and_true all)
  same_package p all (f ∷ found) rest =
      rw (itself p) (same_package p (all && f) found rest ∙ ap (λ b. lines (Some (p, b)) rest) (and_moved all f (list_all (λ b. b) found)))

  -- what was found before is of none of these packages
  abbrev IsApart : Option Naming → List (List ℕ) → Type 0
  IsApart None ps = Unit {0}
  IsApart (Some found) ps = AllByRecursion (λ p. bytes_eq found.0 p ≡ false) ps

  apart_rest : (found : Option Naming) (p : List ℕ) (ps : List (List ℕ)) → IsApart found (p ∷ ps) → IsApart found ps
  apart_rest None p ps h = tt
  apart_rest (Some found) p ps h = h.1

  other_package : (found : Option Naming) (p : List ℕ) (ps : List (List ℕ)) (f : Bool) (rest : List Naming) → IsApart found (p ∷ ps) → lines found ((p, f) ∷ rest) ≡ before found ++ lines (Some (p, f)) rest
  unfolding lines_behind
  other_package None p ps f rest apart = refl
  other_package (Some found) p ps f rest apart = rw apart.0 refl

  module _ (p : List ℕ) (ps : List (List ℕ)) (below : AllByRecursion (λ q. bytes_eq p q ≡ false) ps) (text : List ℕ) (items : List Naming) (rest : (found : Option Naming) → IsApart found ps → lines found items ≡ before found ++ text) where
    at_package : (found : Option Naming) → IsApart found (p ∷ ps) → (fs : List Bool) → lines found (own p fs ++ items) ≡ before found ++ (asked p fs ++ text)
    at_package found apart [] = rest found (apart_rest found p ps apart) ∙ ap (λ t. before found ++ (t ++ text)) (sym (none_asked p))
    at_package found apart (f ∷ fs) =
        other_package found p ps f (own p fs ++ items) apart
        ∙ ap (λ t. before found ++ t) (same_package p f fs items ∙ rest (Some (p, f && list_all (λ b. b) fs)) below)

  other_name : (p q : List ℕ) → slice_cmp nat_cmp p q ≡ Less → bytes_eq p q ≡ false
  other_name p q h = sym (is_eq-slice_cmp p q) ∙ ap is_eq h

  module _ (name : List ℕ) where
    told_in_order : (ps : List (List ℕ)) → IsStrictlySortedBy (slice_cmp nat_cmp) ps → (found : Option Naming) → IsApart found ps →
        lines found (flat_map (λ p. own p (naming world name p)) ps) ≡ before found ++ flat_map (asking_line world installed name) ps
    unfolding lines_behind IsStrictlySortedBy asking_line
    told_in_order [] sorted found apart = sym (append-nil (before found))
    told_in_order (p ∷ ps) sorted found apart =
        at_package p ps (all_turned (λ q. slice_cmp nat_cmp p q ≡ Less) (λ q. bytes_eq p q ≡ false) ps (other_name p) sorted.0)
        (flat_map (asking_line world installed name) ps) (flat_map (λ q. own q (naming world name q)) ps) (told_in_order ps sorted.1) found apart (naming world name p)

    -- What the leads of packages tell, one after another, are the lines of these packages.
    pub lines_of_packages : AreClasses → AreAt (entries_of world.lists) world.lists → (ps : List (List ℕ)) → IsStrictlySortedBy (slice_cmp nat_cmp) ps →
        lines None (flat_map (of_rows world (namings_of name)) ps) ≡ flat_map (asking_line world installed name) ps
    lines_of_packages classes at ps sorted = ap (lines None) (alike _ _ (λ p. of_package world name p classes at) ps) ∙ told_in_order ps sorted None tt

-- packages are in order
pub packages_sorted : (world : World) → IsStrictlySortedBy (slice_cmp nat_cmp) (packages_of world)
unfolding packages_of known_names
packages_sorted world = IsStrictlySortedBy-filter (slice_cmp nat_cmp) (has_row world) (names_known world) (in_order_sorted _)
