use Rattle.std.proofs.Common.{ℕ, List, unwrap_or, ap, ◌∙◌}
use Rattle.ctl_index.specs.Inside.TablesChosen.{chosen_anew}
use Rattle.ctl_index.proofs.NameLemmas.{on_some}
use Rattle.ctl_index.proofs.choosing.choose_boxed.Goals as goal

pub returns-in-Some-clause-named : goal.returns-in-Some-clause-named
returns-in-Some-clause-named c =
    let h = c.args.store.now in
    let list = c.args.list in
    on_some c.in-Some.is (c.get_mut.follows.holds c.choose_named.new.named) ∙ c.choose_named.ensures ∙ ap (λ (name : List ℕ). chosen_anew h list name c.in-Some.named.now) c.as_slice.ensures.bytes
    ∙ ap (λ o. chosen_anew h list c.args.name.now (unwrap_or o c.args.boxed.now)) c.in-Some.ensures.value
