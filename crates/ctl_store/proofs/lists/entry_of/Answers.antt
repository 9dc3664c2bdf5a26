use Rattle.std.proofs.Common.{◌∙◌, Some, ap, nat_eq}
use Rattle.std.specs.Map.{lookup}
use Rattle.ctl_store.proofs.ListedLemmas.{entry_is}
use Rattle.ctl_store.proofs.lists.entry_of.Goals as goal

pub returns-in-Some : goal.returns-in-Some
returns-in-Some c =
    let slots = c.args.lists.now.filled in
    (λ j. Some (c.as_slice.ensures j, c.in-Some.list.now)) ∙ c.in-Some.ensures ∙ ap (λ serial. lookup (nat_eq serial) slots) c.from.ensures ∙ entry_is c.args.serial slots c.requires

pub returns-in-None : goal.returns-in-None
returns-in-None c =
    let slots = c.args.lists.now.filled in
    c.in-None.ensures ∙ ap (λ serial. lookup (nat_eq serial) slots) c.from.ensures ∙ entry_is c.args.serial slots c.requires
