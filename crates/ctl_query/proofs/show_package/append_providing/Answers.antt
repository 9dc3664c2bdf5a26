use Rattle.std.proofs.Common.{◌∙◌, ◌++◌, ◌≡◌, ℕ, List, Bor, ap, sym, subst}
use Rattle.std.specs.Cmp.Lexicographic.{slice_cmp}
use Rattle.std.specs.List.Sorted.{IsStrictlySortedBy}
use Rattle.std.specs.Ordering.{nat_cmp}
use Rattle.std.specs.List.{list_any}
use Rattle.std.proofs.lemmas.List.Sorted.{list_any-IsPermutation}
use Rattle.ctl_query.specs.Interest.{is_provider, offering_named, provides_it}
use Rattle.ctl_query.specs.NameSet.{lent_names, is_among}
use Rattle.ctl_query.proofs.EnoughLemmas.{providing_is_enough}
use Rattle.ctl_query.proofs.show_package.append_providing.Goals as goal

pub returns : goal.returns
returns c =
    let store = c.args.asking.now in
    let same = sym c.deref.ensures.value in
    c.in_ok-append_each_providing.ensures
    ∙ ap (λ text. c.args.out.now.items ++ text)
    (providing_is_enough c.rows_are_classes.ensures store c.stanzas_are_found.ensures c.args.name.now (lent_names c.deref.result.now)
    (subst (λ (ns : List (Bor (List ℕ))). IsStrictlySortedBy (slice_cmp nat_cmp) (lent_names ns)) same c.in_ok-askers.ensures.order)
    (subst (λ (ns : List (Bor (List ℕ))). (asker : List ℕ) → is_among (lent_names ns) asker ≡ provides_it store c.args.name.now asker) same
    (λ asker. c.in_ok-askers.ensures.members asker
    ∙ (λ i. list_any (is_provider (c.store.ensures i) asker) c.args.offering)
    ∙ sym (list_any-IsPermutation (is_provider store asker) (offering_named store c.args.name.now) c.args.offering c.requires.offering))))
