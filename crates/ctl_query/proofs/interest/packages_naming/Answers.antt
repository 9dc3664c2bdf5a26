use Rattle.std.proofs.Common.{◌∙◌, ◌||◌, sym, ap}
use Rattle.std.specs.List.{list_any}
use Rattle.std.proofs.lemmas.List.Sorted.{list_any-IsPermutation}
use Rattle.ctl_index.specs.declared.keys.AtomKey.{AtomKey}
use Rattle.ctl_index.specs.HeldCache.{standing}
use Rattle.ctl_index.specs.Names.{namers_named}
use Rattle.ctl_query.specs.Interest.{is_of_package}
use Rattle.ctl_query.specs.NameSet.{lent_names, is_among}
use Rattle.ctl_query.proofs.interest.packages_naming.Goals as goal

pub returns-clause-members : goal.returns-clause-members
returns-clause-members c = λ asker.
    c.in_ok-names.ensures.members asker
    ∙ ap (λ keys. list_any (λ (key : AtomKey). is_of_package c.args.asking.now asker key.stanza) keys || is_among (lent_names c.namers.names.items) asker) (sym c.in-None.ensures.steps.0)
    ∙ c.namers.invariant asker
    ∙ sym (list_any-IsPermutation (λ (key : AtomKey). is_of_package c.args.asking.now asker key.stanza) (namers_named c.args.name.now (standing c.args.asking.now)) c.into_iter-key-iterator.result
    (rw c.into_iter-key-iterator.ensures.into_iter_gives c.namers-key-items.ensures.namers))
