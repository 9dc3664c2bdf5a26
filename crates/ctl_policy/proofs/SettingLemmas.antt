-- Edits of settings leave names that they don't touch.
use Rattle.std.proofs.Common.{◌≡◌, ◌⊎◌, inl, inr, ℕ, List, Option, None, Some}
use Rattle.ctl_store.specs.Edits.{Target, Prefs}
use Rattle.ctl_store.specs.Keys.{all_keys, AreRising}
use Rattle.ctl_store.specs.Store.{Held, keyed_of}
use Rattle.ctl_policy.specs.Priority.{World, Settings, world_of, list_priority}
use Rattle.ctl_policy.specs.Laws.{Stays, IsNoSource, IsNoTarget, HoldsNone, with_pins, world_after}
use Rattle.ctl_policy.specs.Touched.{TargetHoldsNone, LeavePins}
use Rattle.ctl_policy.proofs.RestLemmas.{pins_others, target_others}
use Rattle.ctl_policy.proofs.TouchLemmas.{no_source}

no_target : (target : Option (List ℕ)) (q : List ℕ) (w : World) → AreRising (all_keys w.lists) → TargetHoldsNone target q w.lists → IsNoTarget target q w
no_target None q w rising none = tt
no_target (Some list) q w rising none = no_source list q w rising none

pub target_untouched : (old : Held) (target : Option (List ℕ)) (q : List ℕ) → AreRising (all_keys (keyed_of old).lists) → TargetHoldsNone old.target q (keyed_of old).lists → TargetHoldsNone target q (keyed_of old).lists → Stays q (world_of old) (world_after old (Target target))
target_untouched old target q rising before after = target_others (world_of old) target q (no_target old.target q (world_of old) rising before) (no_target target q (world_of old) rising after)

pub prefs_untouched : (old : Held) (pins : Settings) (q : List ℕ) → AreRising (all_keys (keyed_of old).lists) → LeavePins pins q (world_of old) → Stays q (world_of old) (world_after old (Prefs pins))
prefs_untouched old pins q rising leave = pins_others (world_of old) pins q leave.own (λ list. by list (leave.lists list))
  where
    w : World
    w = world_of old

    by : (list : List ℕ) → (list_priority list (with_pins pins w) ≡ list_priority list w) ⊎ HoldsNone list q w.lists → (list_priority list (with_pins pins w) ≡ list_priority list w) ⊎ IsNoSource list q w
    by list (inl e) = inl e
    by list (inr none) = inr (no_source list q w rising none)
