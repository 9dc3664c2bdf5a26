use Rattle.std.proofs.Common.{◌∙◌, ◌++◌, ◌≡◌, ℕ, List, Bor, ap, sym, subst}
use Rattle.std.specs.Cmp.Lexicographic.{slice_cmp}
use Rattle.std.specs.List.Sorted.{IsStrictlySortedBy}
use Rattle.std.specs.Ordering.{nat_cmp}
use Rattle.ctl_store.specs.Store.{Held}
use Rattle.ctl_policy.specs.Priority.{world_of}
use Rattle.ctl_query.specs.Interest.{is_pinned}
use Rattle.ctl_query.specs.NameSet.{lent_names, is_among}
use Rattle.ctl_query.proofs.PinnedLemmas.{pinned_are_enough}
use Rattle.ctl_query.proofs.policy.append_all_pinned.Goals as goal

pub returns : goal.returns
returns c =
    let same = sym c.deref.ensures.value in
    c.in_ok-append_each_pinned.ensures
    ∙ ap (λ text. c.args.out.now.items ++ text)
    (pinned_are_enough c.rows_are_classes.ensures (world_of c.args.asking.now) (lent_names c.deref.result.now)
    (subst (λ (ns : List (Bor (List ℕ))). IsStrictlySortedBy (slice_cmp nat_cmp) (lent_names ns)) same c.in_ok-names.ensures.order)
    (subst (λ (ns : List (Bor (List ℕ))). (name : List ℕ) → is_among (lent_names ns) name ≡ is_pinned (world_of c.args.asking.now).pins name) same
    (subst (λ (store : Held). (name : List ℕ) → is_among (lent_names c.in_ok-names.names.items) name ≡ is_pinned (world_of store).pins name) c.store.ensures c.in_ok-names.ensures.members)))
