use Rattle.std.proofs.Common.{◌≡◌, ℕ, List, Some, cond, refl, subst}
use Rattle.std.specs.Str.{bytes_eq}
use Rattle.ctl_index.specs.declared.named.Named.{Named}
use Rattle.ctl_index.proofs.WrittenLemmas.{at_either, short_set, long_set, set_short, set_long, apart_short, apart_long, apart_same, on_either}
use Rattle.ctl_index.proofs.name_map.NameMap.insert.Goals as goal

pub invariant_of-self : goal.invariant_of-self
invariant_of-self c =
    let m = c.args.self.now in
    let name = c.args.name.now in
    let short = c.in-Some.ensures.some in
    record {
      apart = on_either c.insert.result c.insert.ensures.updates c.insert.ensures.err
          (λ wrote. apart_short name m.short.tree c.insert.new.self m.long.tree (Some c.in_ok-boxed-in-Some.boxed) short.1 (short_set c.in-Some.short name m.short.tree c.insert.new.self (Some c.in_ok-boxed-in-Some.boxed) short.0 wrote) m.apart)
          (λ same. apart_same m.short.tree c.insert.new.self m.long.tree m.long.tree same refl m.apart);
    }

pub invariant_of-self-in-None : goal.invariant_of-self-in-None
invariant_of-self-in-None c =
    let m = c.args.self.now in
    let name = c.args.name.now in
    let key = c.in_ok-key-in-None in
    record {
      apart = on_either c.insert-in-None.result c.insert-in-None.ensures.updates c.insert-in-None.ensures.err
          (λ wrote. apart_long name m.short.tree m.long.tree c.insert-in-None.new.self (Some c.in_ok-boxed-in-None.boxed) c.in-None.ensures.none (long_set key.key.items name m.long.tree c.insert-in-None.new.self (Some c.in_ok-boxed-in-None.boxed) key.ensures.items wrote) m.apart)
          (λ same. apart_same m.short.tree m.short.tree m.long.tree c.insert-in-None.new.self refl same m.apart);
    }

pub returns-in_ok-insert-in-Some-clause-ok : goal.returns-in_ok-insert-in-Some-clause-ok
returns-in_ok-insert-in-Some-clause-ok c =
    let m = c.args.self.now in
    let name = c.args.name.now in
    let short = c.in-Some.ensures.some in
    subst (λ (w : Named). (q : List ℕ) → at_either c.insert.new.self m.long.tree q ≡ cond (bytes_eq name q) (Some w) (at_either m.short.tree m.long.tree q)) c.in_ok-boxed-in-Some.ensures
    (set_short name m.short.tree c.insert.new.self m.long.tree (Some c.in_ok-boxed-in-Some.boxed) short.1 (short_set c.in-Some.short name m.short.tree c.insert.new.self (Some c.in_ok-boxed-in-Some.boxed) short.0 c.in_ok-insert-in-Some.ensures.updates))

pub returns-in_ok-insert-in-None-clause-ok : goal.returns-in_ok-insert-in-None-clause-ok
returns-in_ok-insert-in-None-clause-ok c =
    let m = c.args.self.now in
    let name = c.args.name.now in
    let key = c.in_ok-key-in-None in
    subst (λ (w : Named). (q : List ℕ) → at_either m.short.tree c.insert-in-None.new.self q ≡ cond (bytes_eq name q) (Some w) (at_either m.short.tree m.long.tree q)) c.in_ok-boxed-in-None.ensures
    (set_long name m.short.tree m.long.tree c.insert-in-None.new.self (Some c.in_ok-boxed-in-None.boxed) c.in-None.ensures.none (long_set key.key.items name m.long.tree c.insert-in-None.new.self (Some c.in_ok-boxed-in-None.boxed) key.ensures.items c.in_ok-insert-in-None.ensures.updates))
