use Rattle.std.proofs.lemmas.List.{append-nil}
use Rattle.ctl_store.specs.Store.{keyed_of}
use Rattle.ctl_query.proofs.ListLemmas.{names_shown}
use Rattle.ctl_query.proofs.source_lines.lines_of.Goals as goal

pub returns : goal.returns
returns c =
    let all = rw (c.in-None.ensures.steps.0, c.into_iter-list-iterator.ensures.into_iter_gives, c.lists-list-items.ensures.lists, names_shown (keyed_of c.args.store.now).lists, c.new-lines.ensures.items) at c.lists.invariant in
    rw append-nil at all
