use Rattle.std.proofs.Common.{ℕ, IsSome, Vec, Global, ap, refl, subst, sym, ◌∙◌}
use Rattle.std.specs.BTreeMap.{WritesThrough}
use Rattle.std.specs.Cmp.Lexicographic.{slice_cmp}
use Rattle.std.specs.Map.{set_value}
use Rattle.std.specs.Ordering.{nat_cmp}
use Rattle.std.proofs.lemmas.Map.Steps.{set_value_same}
use Rattle.ctl_index.specs.declared.named.Named.{Named}
use Rattle.ctl_index.proofs.WrittenLemmas.{of_lent, on_lent}
use Rattle.ctl_index.proofs.long_map.LongMap.get_mut.Goals as goal

pub returns-in-Some : goal.returns-in-Some
returns-in-Some c =
    let t = c.args.self.now.tree in
    let there = c.get_mut.follows in
    let here = c.get_mut-in-Some.follows in (
      (
        refl,
        (λ w. (
          (there.holds (here.lender w)).1,
          on_lent c.get_mut-in-Some.result _ c.get_mut-in-Some.ensures.value (λ some.
              subst (λ (v : Named). WritesThrough (λ (x y : Vec ℕ Global). slice_cmp nat_cmp x.items y.items) (λ (k : Vec ℕ Global). slice_cmp nat_cmp c.args.name.now k.items) t v (there.lender (here.lender w)))
              (of_lent c.get_mut-in-Some.result (here.holds w) (subst IsSome (sym c.get_mut-in-Some.ensures.value) some)) (there.holds (here.lender w))),
        )),
        (there.holds here.lender-at-none).0 ∙ ap (set_value _ t.entries) here.holds-at-none ∙ set_value_same _ t.entries c.in-Some.boxed.now (sym c.in-Some.ensures.value),
      ),
      record { writes_back = tt; value = c.get_mut-in-Some.ensures.value ∙ c.in-Some.ensures.value },
    )
