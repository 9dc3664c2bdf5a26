use Rattle.std.proofs.Common.{◌≡◌, ◌∷◌, List, false, nat_eq, ap, sym, subst, ◌∙◌}
use Rattle.std.specs.List.{starts_with}
use Rattle.ctl_index.specs.Inside.NameMap.{NamedEntry, entry_names}
use Rattle.ctl_index.specs.Inside.TablesViews.{packages_with, has_own, AreFrom}
use Rattle.ctl_index.proofs.PackageLemmas.{stops, goes_on, passes}
use Rattle.ctl_index.proofs.cache.packages.next_package.Goals as goal

pub returns-then-not-starts_with-clause-none : goal.returns-then-not-starts_with-clause-none
returns-then-not-starts_with-clause-none c =
    let p = c.args.prefix.now in
    let new : List NamedEntry = c.next.new.self in
    let e : NamedEntry = (c.in-Some.name.now, c.in-Some.named.now) in
    let left : c.names.entries ≡ e ∷ new = c.in-Some.ensures.steps in
    let from : AreFrom p (entry_names (e ∷ new)) = subst (λ (es : List NamedEntry). AreFrom p (entry_names es)) left c.names.invariant.from in
    let other : starts_with nat_eq e.0 p ≡ false = sym c.starts_with.ensures.value ∙ c.if-not-starts_with.true in
    sym c.names.invariant.rest ∙ ap (packages_with p) left ∙ (stops p e new from other).0

pub returns-then-not-starts_with-clause-ended : goal.returns-then-not-starts_with-clause-ended
returns-then-not-starts_with-clause-ended c =
    let p = c.args.prefix.now in
    let new : List NamedEntry = c.next.new.self in
    let e : NamedEntry = (c.in-Some.name.now, c.in-Some.named.now) in
    let left : c.names.entries ≡ e ∷ new = c.in-Some.ensures.steps in
    let from : AreFrom p (entry_names (e ∷ new)) = subst (λ (es : List NamedEntry). AreFrom p (entry_names es)) left c.names.invariant.from in
    let other : starts_with nat_eq e.0 p ≡ false = sym c.starts_with.ensures.value ∙ c.if-not-starts_with.true in
    (stops p e new from other).1

pub returns-then-not-starts_with-clause-from : goal.returns-then-not-starts_with-clause-from
returns-then-not-starts_with-clause-from c =
    let p = c.args.prefix.now in
    let new : List NamedEntry = c.next.new.self in
    let e : NamedEntry = (c.in-Some.name.now, c.in-Some.named.now) in
    let left : c.names.entries ≡ e ∷ new = c.in-Some.ensures.steps in
    let from : AreFrom p (entry_names (e ∷ new)) = subst (λ (es : List NamedEntry). AreFrom p (entry_names es)) left c.names.invariant.from in
    goes_on p e new from

pub returns-then-has_own-clause-from : goal.returns-then-has_own-clause-from
returns-then-has_own-clause-from c =
    let p = c.args.prefix.now in
    let new : List NamedEntry = c.next.new.self in
    let e : NamedEntry = (c.in-Some.name.now, c.in-Some.named.now) in
    let left : c.names.entries ≡ e ∷ new = c.in-Some.ensures.steps in
    let from : AreFrom p (entry_names (e ∷ new)) = subst (λ (es : List NamedEntry). AreFrom p (entry_names es)) left c.names.invariant.from in
    goes_on p e new from

pub names-preserved : goal.names-preserved
names-preserved c =
    let p = c.args.prefix.now in
    let new : List NamedEntry = c.next.new.self in
    let e : NamedEntry = (c.in-Some.name.now, c.in-Some.named.now) in
    let left : c.names.entries ≡ e ∷ new = c.in-Some.ensures.steps in
    let from : AreFrom p (entry_names (e ∷ new)) = subst (λ (es : List NamedEntry). AreFrom p (entry_names es)) left c.names.invariant.from in
    let own : has_own e.1 ≡ false = sym c.has_own.ensures ∙ c.if-has_own.false in
    record { rest = sym (passes p e new own) ∙ sym (ap (packages_with p) left) ∙ c.names.invariant.rest; from = goes_on p e new from }
