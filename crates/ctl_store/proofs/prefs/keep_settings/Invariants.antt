use Rattle.std.proofs.Common.{◌≡◌, ℕ, List, map, Some, option_copied}
use Rattle.ctl_store.specs.Prefs.{words_of, first_settings, settings_of}
use Rattle.ctl_store.proofs.prefs.keep_settings.Given as goal

abbrev pub invariant-loop-name : goal.invariant-loop-name
invariant-loop-name l =
    (goal.iterator-loop-name).can_next l.name-iterator ×
    (goal.iterator-loop-name).is_finite l.name-iterator ×
    (first_settings l.kept.pins (settings_of (Some l.priority) (option_copied l.pin.version) (option_copied l.pin.list) (map (λ (name : List ℕ). Some name) (words_of l.name-iterator.0.now)))
    ≡ first_settings l.fn.kept.pins (settings_of (Some l.priority) (option_copied l.pin.version) (option_copied l.pin.list) (map (λ (name : List ℕ). Some name) (words_of l.packages))))
