use Rattle.std.proofs.Common.{None, refl}
use Rattle.ctl_index.proofs.WrittenLemmas.{short_set, long_set, set_short, set_long, apart_long}
use Rattle.ctl_index.proofs.name_map.NameMap.remove.Goals as goal

pub invariant_of-self-in-None : goal.invariant_of-self-in-None
invariant_of-self-in-None c =
    let m = c.args.self.now in
    let name = c.args.name.now in
    record { apart = apart_long name m.short.tree m.long.tree c.remove-in-None.new.self None c.in-None.ensures.none (long_set name name m.long.tree c.remove-in-None.new.self None refl c.remove-in-None.ensures.updates) m.apart }

pub returns-in-Some : goal.returns-in-Some
returns-in-Some c =
    let m = c.args.self.now in
    let name = c.args.name.now in
    let short = c.in-Some.ensures.some in
    set_short name m.short.tree c.remove.new.self m.long.tree None short.1 (short_set c.in-Some.short name m.short.tree c.remove.new.self None short.0 c.remove.ensures.updates)

pub returns-in-None : goal.returns-in-None
returns-in-None c =
    let m = c.args.self.now in
    let name = c.args.name.now in
    set_long name m.short.tree m.long.tree c.remove-in-None.new.self None c.in-None.ensures.none (long_set name name m.long.tree c.remove-in-None.new.self None refl c.remove-in-None.ensures.updates)
