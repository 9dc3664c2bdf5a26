use Rattle.std.proofs.Common.{◌≡◌, ◌∙◌, ◌∷◌, ◌++◌, List, ℕ, true, append-nil, flat_map, filter, sym, subst, ap}
use Rattle.std.specs.Cmp.Lexicographic.{slice_cmp}
use Rattle.std.specs.List.{AllByRecursion}
use Rattle.std.specs.List.Sorted.{IsStrictlySortedBy}
use Rattle.std.specs.Ordering.{nat_cmp, is_le}
use Rattle.ctl_query.specs.PackageNames.{begins_with, name_line}
use Rattle.ctl_query.proofs.PrefixLemmas.{none_of_sorted, order_left, one_more}
use Rattle.ctl_query.proofs.package_names.append_names.Goals as goal

pub returns-then-not-starts_with : goal.returns-then-not-starts_with
returns-then-not-starts_with c =
    let p = c.args.prefix.now in
    let name = c.in-Some.name.now in
    let rest = c.next.new.self in
    let left : c.names.name-iterator ≡ name ∷ rest = c.in-Some.ensures.steps in
    let from = subst (AllByRecursion (λ (m : List ℕ). is_le (slice_cmp nat_cmp p m) ≡ true)) left c.names.invariant.from in
    let none = none_of_sorted p name rest from.0 (sym c.starts_with.ensures.value ∙ c.if-not-starts_with.true) (subst (IsStrictlySortedBy (slice_cmp nat_cmp)) left c.names.invariant.order) in
    sym (append-nil c.names.out.items)
    ∙ ap (λ (names : List (List ℕ)). c.names.out.items ++ flat_map name_line names) (sym none)
    ∙ ap (λ (names : List (List ℕ)). c.names.out.items ++ flat_map name_line (filter (begins_with p) names)) (sym left)
    ∙ c.names.invariant.text
    ∙ ap (λ (names : List (List ℕ)). c.args.out.now.items ++ flat_map name_line (filter (begins_with p) names)) c.into_iter-name-iterator.ensures.into_iter_gives

pub names-preserved : goal.names-preserved
names-preserved c =
    let p = c.args.prefix.now in
    let name = c.in-Some.name.now in
    let rest = c.next.new.self in
    let left : c.names.name-iterator ≡ name ∷ rest = c.in-Some.ensures.steps in
    let from = subst (AllByRecursion (λ (m : List ℕ). is_le (slice_cmp nat_cmp p m) ≡ true)) left c.names.invariant.from in
    record {
      order = order_left name rest (subst (IsStrictlySortedBy (slice_cmp nat_cmp)) left c.names.invariant.order);
      from = from.1;
      text =
          ap (λ (text : List ℕ). text ++ flat_map name_line (filter (begins_with p) rest)) c.in_ok-append_line.ensures
          ∙ one_more p name rest c.names.out.items (sym c.starts_with.ensures.value ∙ c.if-not-starts_with.false)
          ∙ ap (λ (names : List (List ℕ)). c.names.out.items ++ flat_map name_line (filter (begins_with p) names)) (sym left)
          ∙ c.names.invariant.text;
    }
