-- The names that have a row, in order, are the packages.
use Rattle.std.proofs.Common.{◌≡◌, ◌∙◌, ℕ, Bool, true, false, cond, ◌||◌, ◌&&◌, List, [], ◌∷◌, filter, None, refl, sym, ap}
use Rattle.std.specs.Cmp.Lexicographic.{slice_cmp}
use Rattle.std.specs.List.{AllByRecursion}
use Rattle.std.specs.List.Sorted.{IsStrictlySortedBy}
use Rattle.std.specs.Ordering.{nat_cmp}
use Rattle.std.specs.declared.cmp.Ordering.TheVariants.{Less}
use Rattle.std.specs.Str.{bytes_eq}
use Rattle.std.proofs.lemmas.Slice.Eq.{bytes_eq-Decides}
use Rattle.std.specs.Cmp.Lexicographic.{nat_list_eq_equiv}
use Rattle.ctl_stanza.specs.Content.{Content, is_live, package_of}
use Rattle.ctl_store.specs.Entries.{Entry, entries_of}
use Rattle.ctl_index.specs.Names.{known_names, is_package}
use Rattle.ctl_index.specs.Offers.{contents}
use Rattle.ctl_policy.specs.Rows.{is_of_version, is_in_row, keys_with, rows_named, newest_first}
use Rattle.ctl_policy.specs.Priority.{World}
use Rattle.ctl_query.specs.NameSet.{is_among}
use Rattle.ctl_query.specs.Packages.{stanzas_of, names_known, has_row, packages_of}
use Rattle.ctl_query.proofs.ClassLemmas.{AreClasses, each_class}
use Rattle.ctl_query.proofs.KnownLemmas.{left_false, right_false, none_some, no_row, row_known}
use Rattle.ctl_query.specs.PackageNames.{begins_with}
use Rattle.ctl_query.proofs.EntryLemmas.{contents_are}
use Rattle.ctl_query.proofs.OrderLemmas.{in_order_sorted, one_in_order}

-- whether a name is among those that pass, and one more
one_more : (passes first is_first kept all : Bool) → (is_first ≡ true → passes ≡ first) → kept ≡ (passes && all) → cond first (is_first || kept) kept ≡ (passes && (is_first || all))
one_more true true true kept all h e = refl
one_more false true true kept all h e = absurd (let z = h refl in cc z)
one_more true false true kept all h e = absurd (let z = h refl in cc z)
one_more false false true kept all h e = e
one_more true true false kept all h e = e
one_more true false false kept all h e = e
one_more false true false kept all h e = e
one_more false false false kept all h e = e

module _ (p : List ℕ → Bool) where
  -- those of some names that pass are in the same order
  all_filter : (P : List ℕ → Type 0) (names : List (List ℕ)) → AllByRecursion P names → AllByRecursion P (filter p names)
  all_filter P [] h = tt
  all_filter P (name ∷ names) h = by (p name) (all_filter P names h.1)
    where
      by : (b : Bool) → AllByRecursion P (filter p names) → AllByRecursion P (cond b (name ∷ filter p names) (filter p names))
      by true rest = (h.0, rest)
      by false rest = rest

  filter_sorted : (names : List (List ℕ)) → IsStrictlySortedBy (slice_cmp nat_cmp) names → IsStrictlySortedBy (slice_cmp nat_cmp) (filter p names)
  unfolding IsStrictlySortedBy
  filter_sorted [] h = tt
  filter_sorted (name ∷ names) h = by (p name) (all_filter (λ other. slice_cmp nat_cmp name other ≡ Less) names h.0) (filter_sorted names h.1)
    where
      by : (b : Bool) → AllByRecursion (λ other. slice_cmp nat_cmp name other ≡ Less) (filter p names) → IsStrictlySortedBy (slice_cmp nat_cmp) (filter p names) →
          IsStrictlySortedBy (slice_cmp nat_cmp) (cond b (name ∷ filter p names) (filter p names))
      by true below rest = (below, rest)
      by false below rest = rest

  split : (name : List ℕ) (b : Bool) (xs ys : List (List ℕ)) → is_among (cond b xs ys) name ≡ cond b (is_among xs name) (is_among ys name)
  split name true xs ys = refl
  split name false xs ys = refl

  -- a name is among those that pass where it passes and is among all
  filter_among : (name : List ℕ) (names : List (List ℕ)) → is_among (filter p names) name ≡ (p name && is_among names name)
  filter_among name [] = none (p name)
    where
      none : (b : Bool) → false ≡ (b && false)
      none true = refl
      none false = refl
  filter_among name (other ∷ names) =
      split name (p other) (other ∷ filter p names) (filter p names)
      ∙ one_more (p name) (p other) (bytes_eq name other) (is_among (filter p names) name) (is_among names name) (λ e. ap p ((bytes_eq-Decides name other).0 e)) (filter_among name names)

known_sorted : (world : World) → IsStrictlySortedBy (slice_cmp nat_cmp) (names_known world)
unfolding known_names
known_sorted world = in_order_sorted _

-- a name with a row is known, so to be known is nothing more
with_row : (row known : Bool) → (row ≡ true → known ≡ true) → row ≡ (row && known)
with_row true known h = sym (h refl)
with_row false known h = refl

pub are_packages : AreClasses → (world : World) (names : List (List ℕ)) → IsStrictlySortedBy (slice_cmp nat_cmp) names → ((name : List ℕ) → is_among names name ≡ has_row world name) → names ≡ packages_of world
unfolding packages_of
are_packages classes world names sorted members =
    one_in_order names (filter (has_row world) (names_known world)) sorted (filter_sorted (has_row world) (names_known world) (known_sorted world))
    (λ name. members name ∙ with_row (has_row world name) (is_among (names_known world) name) (row_known classes world name) ∙ sym (filter_among (has_row world) name (names_known world)))

-- ---- packages that begin with a prefix

-- what is in a row of a name is a live stanza of this package
live_of : (name version : List ℕ) (x : Content) → is_in_row name version x ≡ true → (is_live x && bytes_eq name (package_of x)) ≡ true
live_of name version x h = by (bytes_eq (package_of x) name) (is_live x) refl refl
  where
    by : (b d : Bool) → bytes_eq (package_of x) name ≡ b → is_live x ≡ d → (is_live x && bytes_eq name (package_of x)) ≡ true
    by true true e live = rw live (nat_list_eq_equiv.symm name (package_of x) ∙ e)
    by true false e live = absurd (let z : is_of_version version None ≡ true = (rw (e, live) at h) in let w : ⊥ = cc in w)
    by false d e live = absurd (let z : is_of_version version None ≡ true = (rw e at h) in let w : ⊥ = cc in w)

none_in_row : (name version : List ℕ) (es : List Entry) → is_package (contents es) name ≡ false → keys_with (is_in_row name version) es ≡ []
none_in_row name version [] out = refl
none_in_row name version (e ∷ es) out = by (is_in_row name version e.1) refl (left_false _ _ out) (none_in_row name version es (right_false _ _ out))
  where
    by : (b : Bool) → is_in_row name version e.1 ≡ b → (is_live e.1 && bytes_eq name (package_of e.1)) ≡ false → keys_with (is_in_row name version) es ≡ [] →
        cond b (e.0 ∷ keys_with (is_in_row name version) es) (keys_with (is_in_row name version) es) ≡ []
    by true is out rest = absurd (let z : true ≡ false = sym (live_of name version e.1 is) ∙ out in let w : ⊥ = cc in w)
    by false is out rest = rest

-- a name with a row is the package of a live stanza
row_is_package : AreClasses → (world : World) (name : List ℕ) → has_row world name ≡ true → is_package (stanzas_of world) name ≡ true
row_is_package classes world name row = by (is_package (stanzas_of world) name) refl
  where
    by : (b : Bool) → is_package (stanzas_of world) name ≡ b → is_package (stanzas_of world) name ≡ true
    by true e = e
    by false e =
        let out : is_package (contents (entries_of world.lists)) name ≡ false = ap (λ xs. is_package xs name) (contents_are world.lists) ∙ e in
        let none = no_row (newest_first (rows_named name world.lists)) (each_class classes (λ keys. ⊥) name world.lists (λ version. none_some _ (none_in_row name version (entries_of world.lists) out))) in
        absurd (let z : true ≡ false = sym row ∙ none in let w : ⊥ = cc in w)

packages_among : AreClasses → (world : World) (name : List ℕ) → is_among (packages_of world) name ≡ has_row world name
unfolding packages_of
packages_among classes world name = filter_among (has_row world) name (names_known world) ∙ sym (with_row (has_row world name) (is_among (names_known world) name) (row_known classes world name))

pub packages_sorted : (world : World) → IsStrictlySortedBy (slice_cmp nat_cmp) (packages_of world)
unfolding packages_of
packages_sorted world = filter_sorted (has_row world) (names_known world) (known_sorted world)

-- Those with a row of the packages of live stanzas that begin with a prefix are the packages that do.
pub begun_packages : AreClasses → (world : World) (prefix : List ℕ) (names : List (List ℕ)) → IsStrictlySortedBy (slice_cmp nat_cmp) names →
    ((name : List ℕ) → is_among names name ≡ (begins_with prefix name && is_package (stanzas_of world) name)) → filter (has_row world) names ≡ filter (begins_with prefix) (packages_of world)
begun_packages classes world prefix names sorted members =
    one_in_order (filter (has_row world) names) (filter (begins_with prefix) (packages_of world)) (filter_sorted (has_row world) names sorted) (filter_sorted (begins_with prefix) (packages_of world) (packages_sorted world))
    (λ name. filter_among (has_row world) name names ∙ ap (λ b. has_row world name && b) (members name)
    ∙ by (has_row world name) (begins_with prefix name) (is_package (stanzas_of world) name) (row_is_package classes world name)
    ∙ ap (λ b. begins_with prefix name && b) (sym (packages_among classes world name)) ∙ sym (filter_among (begins_with prefix) name (packages_of world)))
  where
    by : (row begins live : Bool) → (row ≡ true → live ≡ true) → (row && (begins && live)) ≡ (begins && row)
    by true begins live h = ap (λ b. begins && b) (h refl)
    by false true live h = refl
    by false false live h = refl

-- Those of names from a prefix on that begin with it are the known names that do.
pub begun_names : (world : World) (prefix : List ℕ) (names : List (List ℕ)) → IsStrictlySortedBy (slice_cmp nat_cmp) names →
    ((name : List ℕ) → begins_with prefix name ≡ true → is_among names name ≡ is_among (names_known world) name) → filter (begins_with prefix) names ≡ filter (begins_with prefix) (names_known world)
begun_names world prefix names sorted members =
    one_in_order (filter (begins_with prefix) names) (filter (begins_with prefix) (names_known world)) (filter_sorted (begins_with prefix) names sorted)
    (filter_sorted (begins_with prefix) (names_known world) (known_sorted world))
    (λ name. filter_among (begins_with prefix) name names ∙ by (begins_with prefix name) (is_among names name) (is_among (names_known world) name) (members name)
    ∙ sym (filter_among (begins_with prefix) name (names_known world)))
  where
    by : (begins one other : Bool) → (begins ≡ true → one ≡ other) → (begins && one) ≡ (begins && other)
    by true one other h = h refl
    by false one other h = refl
