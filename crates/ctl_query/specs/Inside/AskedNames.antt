-- Names that were looked up.
use Rattle.std.specs.Prelude.{◌≡◌, ℕ, List, map}
use Rattle.std.specs.List.{AllByRecursion}
use Rattle.std.specs.List.Sorted.{IsPermutation}
use Rattle.ctl_store.specs.Keys.{AreHeld, AreRising}
use Rattle.ctl_store.specs.Store.{Held, keyed_of}
use Rattle.ctl_index.specs.HeldCache.{standing}
use Rattle.ctl_index.specs.Names.{kept_namers_named}
use Rattle.ctl_policy.specs.Priority.{world_of}
use Rattle.ctl_query.specs.declared.asking.AskedName.{AskedName}
use Rattle.ctl_query.specs.Interest.{offering_named}
use Rattle.ctl_query.specs.Packages.{is_known, rows_of}

-- the names themselves
abbrev pub names_asked : List AskedName → List (List ℕ)
names_asked asked = map (λ (one : AskedName). one.name.now) asked

-- what stands under a name is what was found under it
pub record IsLookedUp (store : Held) (asked : AskedName) : Type 0 where
  pub known : asked.view.is_known ≡ is_known (world_of store) asked.name.now
  pub rows : asked.view.rows ≡ rows_of (world_of store) asked.name.now
  pub held : AllByRecursion (λ row. AreHeld row (keyed_of store).lists) asked.view.rows
  pub rising : AllByRecursion AreRising asked.view.rows
  pub offering : IsPermutation (offering_named store asked.name.now) asked.view.offering
  pub namers : IsPermutation (kept_namers_named asked.name.now (standing store)) asked.view.kept_namers
