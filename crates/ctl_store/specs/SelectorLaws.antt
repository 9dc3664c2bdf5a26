-- Selectors that are the same are equal, and tie in their order.
use Rattle.std.specs.Prelude.{◌≡◌, ℕ, ◌&&◌, List, Option, Some, None}
use Rattle.std.proofs.Common.{refl, ap, arith}
use Rattle.std.specs.Bool.{Decides}
use Rattle.std.specs.Option.{option_cmp}
use Rattle.std.specs.Cmp.{IsEquivalence, IsTotalOrder, nat_cmp_total, on_total, then_total, decided}
use Rattle.std.specs.Cmp.Lexicographic.{slice_cmp, nat_list_cmp_total, options_total}
use Rattle.std.specs.Ordering.{nat_cmp, ordering_then, is_eq}
use Rattle.std.specs.declared.cmp.Ordering.{Ordering}
use Rattle.std.specs.declared.cmp.Ordering.TheVariants.{Less, Equal, Greater}
use Rattle.std.proofs.lemmas.Map.Text.{is_eq-slice_cmp}
use Rattle.std.proofs.lemmas.Slice.Eq.{bytes_eq-Decides}
use Rattle.ctl_store.specs.declared.selector.Selector.{Selector}
use Rattle.ctl_store.specs.declared.selector.Selector.TheVariants.{Version, Release}
use Rattle.ctl_store.specs.Pins.{package_eq, selector_eq, package_for, asked_of}

pub package_eq-Decides : (a b : Option (List ℕ)) → Decides (package_eq a b) (a ≡ b)
package_eq-Decides None None = (λ e. refl, λ e. refl)
package_eq-Decides None (Some b) = (λ e. cc, λ e. cc)
package_eq-Decides (Some a) None = (λ e. cc, λ e. cc)
package_eq-Decides (Some a) (Some b) = (
  λ e. ap (λ (x : List ℕ). Some x) ((bytes_eq-Decides a b).0 e),
  λ e. (bytes_eq-Decides a b).1 (cc),
)

pub selector_eq-Decides : (s t : Selector) → Decides (selector_eq s t) (s ≡ t)
selector_eq-Decides (Version a v) (Version b w) = (λ e. grind (arith, bytes_eq-Decides), λ e. grind (arith, bytes_eq-Decides))
selector_eq-Decides (Version a v) (Release b l) = (λ e. cc, λ e. cc)
selector_eq-Decides (Release a k) (Version b w) = (λ e. cc, λ e. cc)
selector_eq-Decides (Release a k) (Release b l) = (
  λ e. grind (arith, package_eq-Decides, bytes_eq-Decides),
  λ e. grind (arith, package_eq-Decides, bytes_eq-Decides),
)

-- selectors that are the same can stand for each other
pub selector_equiv : IsEquivalence selector_eq
selector_equiv = decided selector_eq selector_eq-Decides

-- ---- their order

-- no package stands before each package
abbrev pub package_cmp : Option (List ℕ) → Option (List ℕ) → Ordering
package_cmp a b = option_cmp (slice_cmp nat_cmp) a b

-- versions before lists
abbrev pub asked_cmp : ℕ × List ℕ → ℕ × List ℕ → Ordering
asked_cmp a b = ordering_then (nat_cmp a.0 b.0) (slice_cmp nat_cmp a.1 b.1)

-- by packages, those of any package first, then by forms, then by versions or lists
abbrev pub selector_cmp : Selector → Selector → Ordering
selector_cmp s t = ordering_then (package_cmp (package_for s) (package_for t)) (asked_cmp (asked_of s) (asked_of t))

pub package_total : IsTotalOrder package_cmp
package_total = options_total nat_list_cmp_total

pub selector_total : IsTotalOrder selector_cmp
selector_total =
    then_total (on_total package_for package_total) (on_total asked_of (
    then_total (on_total (λ (a : ℕ × List ℕ). a.0) nat_cmp_total) (on_total (λ (a : ℕ × List ℕ). a.1) nat_list_cmp_total)
    ))

-- packages tie where they are the same
pub packages_tie : (a b : Option (List ℕ)) → is_eq (package_cmp a b) ≡ package_eq a b
packages_tie None None = refl
packages_tie None (Some b) = refl
packages_tie (Some a) None = refl
packages_tie (Some a) (Some b) = is_eq-slice_cmp a b

tie_both : (o p : Ordering) → is_eq (ordering_then o p) ≡ (is_eq o && is_eq p)
tie_both Less p = refl
tie_both Equal p = refl
tie_both Greater p = refl

-- and selectors
pub selector_ties : (s t : Selector) → selector_eq s t ≡ is_eq (selector_cmp s t)
selector_ties (Version a v) (Version b w) = grind (arith, tie_both, is_eq-slice_cmp)
selector_ties (Version a v) (Release b l) = grind (arith, tie_both)
selector_ties (Release a k) (Version b w) = grind (arith, tie_both)
selector_ties (Release a k) (Release b l) = grind (arith, tie_both, packages_tie, is_eq-slice_cmp)
