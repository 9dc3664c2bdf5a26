use Rattle.std.proofs.Common.{ap, sym, subst, ◌∙◌}
use Rattle.ctl_store.specs.State.{State}
use Rattle.std.proofs.lemmas.Bool.{true≢false}
use Rattle.ctl_index.specs.declared.named.ChosenRows.{ChosenRows}
use Rattle.ctl_index.specs.Inside.TablesByName.{is_bare}
use Rattle.ctl_index.specs.Inside.TablesHeld.{chosen_in}
use Rattle.ctl_index.specs.Inside.TablesIndexed.{IsIndexed}
use Rattle.ctl_index.proofs.NameLemmas.{none_bare}
use Rattle.ctl_index.proofs.RecoverLemmas.{none_standing}
use Rattle.ctl_index.proofs.cache.Cache.with_limits.Goals as goal

pub invariant_of-result : goal.invariant_of-result
invariant_of-result c = λ _.
    let none = none_standing c.with_limits.result (ap (λ (s : State). s.lists) c.with_limits.ensures.state) in (
      subst (λ es. IsIndexed es c.new.result) (sym none) c.new.ensures.indexed,
      c.nothing_is_chosen.ensures c.with_limits.result (chosen_in c.new.result) none (λ q. ap (λ (own : ChosenRows). own.chosen) (c.new.ensures.bare q)),
      λ q e. absurd (true≢false (sym (ap is_bare (c.new.ensures.bare q) ∙ none_bare) ∙ e)),
      tt,
    )
