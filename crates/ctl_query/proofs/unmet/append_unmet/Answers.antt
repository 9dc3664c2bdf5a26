use Rattle.std.proofs.Common.{◌∙◌, ◌++◌, ◌≡◌, ℕ, List, Bor, ap, sym, subst}
use Rattle.std.specs.Cmp.Lexicographic.{slice_cmp}
use Rattle.std.specs.List.Sorted.{IsStrictlySortedBy}
use Rattle.std.specs.Ordering.{nat_cmp}
use Rattle.ctl_query.specs.Interest.{has_unmet}
use Rattle.ctl_query.specs.NameSet.{lent_names, is_among}
use Rattle.ctl_query.proofs.EnoughLemmas.{unmet_is_enough}
use Rattle.ctl_query.proofs.unmet.append_unmet.Goals as goal

pub returns : goal.returns
returns c =
    let store = c.args.asking.now in
    let same = sym c.deref.ensures.value in
    c.in_ok-append_each.ensures
    ∙ ap (λ text. c.args.out.now.items ++ text)
    (unmet_is_enough c.rows_are_classes.ensures store c.stanzas_are_found.ensures c.args.important (lent_names c.deref.result.now)
    (subst (λ (ns : List (Bor (List ℕ))). IsStrictlySortedBy (slice_cmp nat_cmp) (lent_names ns)) same c.in_ok-names.ensures.order)
    (subst (λ (ns : List (Bor (List ℕ))). (asker : List ℕ) → is_among (lent_names ns) asker ≡ has_unmet store asker) same c.in_ok-names.ensures.members))
