use Rattle.std.proofs.Common.{rules, IsSome, Some, sym, subst, refl}
use Rattle.ctl_index.proofs.WrittenLemmas.{apart_same, same_long, same_short, short_set, long_set, set_short, set_long, apart_lent, apart_lent_long, of_lent, on_lent}
use Rattle.ctl_index.proofs.name_map.NameMap.get_mut.Goals as goal

pub invariant_of-self-lent : goal.invariant_of-self-lent
invariant_of-self-lent c r =
    let m = c.args.self.now in
    ((λ w. (apart_lent m.short.tree (c.get_mut.follows.lender w).tree m.long.tree (c.get_mut.follows.holds w).0 m.apart, tt)), (apart_same m.short.tree c.get_mut.follows.lender-at-none.tree m.long.tree m.long.tree c.get_mut.follows.holds-at-none refl m.apart, tt))

pub invariant_of-self-lent-in-None : goal.invariant_of-self-lent-in-None
invariant_of-self-lent-in-None c r =
    let m = c.args.self.now in
    ((λ w. (apart_lent_long m.short.tree m.long.tree (c.get_mut-in-None.follows.lender w).tree (c.get_mut-in-None.follows.holds w).0 m.apart, tt)), (apart_same m.short.tree m.short.tree m.long.tree c.get_mut-in-None.follows.lender-at-none.tree refl c.get_mut-in-None.follows.holds-at-none m.apart, tt))

pub returns-in-Some : goal.returns-in-Some
returns-in-Some c =
    let m = c.args.self.now in
    let name = c.args.name.now in
    let short = c.in-Some.ensures.some in (
      (
        refl,
        (λ w. on_lent c.get_mut.result _ c.get_mut.ensures.value (λ there.
            set_short name m.short.tree (c.get_mut.follows.lender w).tree m.long.tree (Some w) short.1 (short_set c.in-Some.short name m.short.tree (c.get_mut.follows.lender w).tree (Some w) short.0 ((of_lent c.get_mut.result (c.get_mut.follows.holds w).1 (subst IsSome (sym c.get_mut.ensures.value) there)).3 there)))),
        (λ q. same_short m.short.tree c.get_mut.follows.lender-at-none.tree m.long.tree c.get_mut.follows.holds-at-none q),
      ),
      record { writes_back = tt; value = search rules },
    )

pub returns-in-None : goal.returns-in-None
returns-in-None c =
    let m = c.args.self.now in
    let name = c.args.name.now in (
      (
        refl,
        (λ w. on_lent c.get_mut-in-None.result _ c.get_mut-in-None.ensures.value (λ there.
            set_long name m.short.tree m.long.tree (c.get_mut-in-None.follows.lender w).tree (Some w) c.in-None.ensures.none (long_set name name m.long.tree (c.get_mut-in-None.follows.lender w).tree (Some w) refl ((of_lent c.get_mut-in-None.result (c.get_mut-in-None.follows.holds w).1 (subst IsSome (sym c.get_mut-in-None.ensures.value) there)).3 there)))),
        (λ q. same_long m.short.tree m.long.tree c.get_mut-in-None.follows.lender-at-none.tree c.get_mut-in-None.follows.holds-at-none q),
      ),
      record { writes_back = tt; value = search rules },
    )
