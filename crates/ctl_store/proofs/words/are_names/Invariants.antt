use Rattle.std.proofs.Common.{◌≡◌, ◌==◌, ◌&&◌, ◌||◌, not, length}
use Rattle.std.specs.List.{list_all}
use Rattle.ctl_relation.specs.Names.{is_name}
use Rattle.ctl_store.specs.Prefs.{words_of, are_names}
use Rattle.ctl_store.proofs.words.are_names.Given as goal

abbrev pub invariant-loop-word : goal.invariant-loop-word
invariant-loop-word l =
    (goal.iterator-loop-word).can_next l.word-iterator ×
    (goal.iterator-loop-word).is_finite l.word-iterator ×
    (((l.some || not (length (words_of l.word-iterator.0.now) == 0)) && list_all is_name (words_of l.word-iterator.0.now)) ≡ are_names (words_of l.text))
