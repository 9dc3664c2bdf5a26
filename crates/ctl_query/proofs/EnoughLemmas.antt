-- The packages that the cache's tables name are enough for the answers on all packages.
use Rattle.std.proofs.Common.{◌≡◌, ◌∙◌, ℕ, Bool, true, false, cond, not, ◌&&◌, List, [], flat_map, refl, sym, ap}
use Rattle.std.specs.Cmp.Lexicographic.{slice_cmp}
use Rattle.std.specs.List.Sorted.{IsStrictlySortedBy}
use Rattle.std.specs.Ordering.{nat_cmp}
use Rattle.ctl_store.specs.Entries.{AreAt}
use Rattle.ctl_store.specs.Store.{Held, keyed_of}
use Rattle.ctl_index.specs.HeldCache.{standing}
use Rattle.ctl_policy.specs.Priority.{World, world_of}
use Rattle.ctl_query.specs.Interest.{names_it, provides_it, has_unmet}
use Rattle.ctl_query.specs.NameSet.{is_among}
use Rattle.ctl_query.specs.Packages.{is_installed, packages_of, of_rows, of_all_rows}
use Rattle.ctl_query.specs.ReverseDepends.{naming_in_lead, naming, asker_line, asking_line}
use Rattle.ctl_query.specs.ShowPackage.{naming_lines, providing_lines}
use Rattle.ctl_query.specs.Unmet.{unmet_lead}
use Rattle.ctl_query.proofs.ClassLemmas.{AreClasses}
use Rattle.ctl_query.proofs.InterestLemmas.{of_interest}
use Rattle.ctl_query.proofs.KnownLemmas.{row_known}
use Rattle.ctl_query.proofs.NamingLemmas.{naming_silent, naming_lines_silent}
use Rattle.ctl_query.proofs.OfferingLemmas.{providing_silent}
use Rattle.ctl_query.proofs.UnmetLemmas.{unmet_silent}

-- a package whose leads don't name a name has no line
no_line : (world : World) (installed : Bool) (name asker : List ℕ) → of_rows world (naming_in_lead name) asker ≡ [] → asking_line world installed name asker ≡ []
unfolding asking_line naming
no_line world installed name asker none = by (installed && not (is_installed world asker)) (ap (asker_line asker) none)
  where
    by : (b : Bool) {text : List ℕ} → text ≡ [] → cond b [] text ≡ []
    by true e = refl
    by false e = e

module _ (classes : AreClasses) (store : Held) (at : AreAt (standing store) (keyed_of store).lists) where
  pub askers_are_enough : (installed : Bool) (name : List ℕ) (askers : List (List ℕ)) → IsStrictlySortedBy (slice_cmp nat_cmp) askers → ((asker : List ℕ) → is_among askers asker ≡ names_it store name asker) →
      flat_map (asking_line (world_of store) installed name) askers ≡ flat_map (asking_line (world_of store) installed name) (packages_of (world_of store))
  askers_are_enough installed name askers sorted members =
      of_interest (world_of store) (naming_in_lead name) (asking_line (world_of store) installed name) (no_line (world_of store) installed name)
      classes at (row_known classes (world_of store)) askers sorted (λ x out. naming_silent store name x at (sym (members x) ∙ out))

  pub naming_is_enough : (name : List ℕ) (askers : List (List ℕ)) → IsStrictlySortedBy (slice_cmp nat_cmp) askers → ((asker : List ℕ) → is_among askers asker ≡ names_it store name asker) →
      flat_map (of_rows (world_of store) (naming_lines name)) askers ≡ of_all_rows (world_of store) (naming_lines name)
  naming_is_enough name askers sorted members =
      of_interest (world_of store) (naming_lines name) (of_rows (world_of store) (naming_lines name)) (λ x none. none)
      classes at (row_known classes (world_of store)) askers sorted (λ x out. naming_lines_silent store name x at (sym (members x) ∙ out))

  pub providing_is_enough : (name : List ℕ) (askers : List (List ℕ)) → IsStrictlySortedBy (slice_cmp nat_cmp) askers → ((asker : List ℕ) → is_among askers asker ≡ provides_it store name asker) →
      flat_map (of_rows (world_of store) (providing_lines name)) askers ≡ of_all_rows (world_of store) (providing_lines name)
  providing_is_enough name askers sorted members =
      of_interest (world_of store) (providing_lines name) (of_rows (world_of store) (providing_lines name)) (λ x none. none)
      classes at (row_known classes (world_of store)) askers sorted (λ x out. providing_silent store name x at (sym (members x) ∙ out))

  pub unmet_is_enough : (important : Bool) (names : List (List ℕ)) → IsStrictlySortedBy (slice_cmp nat_cmp) names → ((name : List ℕ) → is_among names name ≡ has_unmet store name) →
      flat_map (of_rows (world_of store) (unmet_lead (world_of store) important)) names ≡ of_all_rows (world_of store) (unmet_lead (world_of store) important)
  unmet_is_enough important names sorted members =
      of_interest (world_of store) (unmet_lead (world_of store) important) (of_rows (world_of store) (unmet_lead (world_of store) important)) (λ x none. none)
      classes at (row_known classes (world_of store)) names sorted (λ x out. unmet_silent store important x at (sym (members x) ∙ out))
