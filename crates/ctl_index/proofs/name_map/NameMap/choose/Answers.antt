use Rattle.ctl_index.specs.Inside.TablesChosen.{chosen_anew}
use Rattle.ctl_index.proofs.WrittenLemmas.{short_at, long_at, mapped_at, mapped_apart}
use Rattle.ctl_index.proofs.name_map.NameMap.choose.Goals as goal

pub choose_short-requires : goal.choose_short-requires
choose_short-requires c = λ q v e. c.requires q v (short_at c.args.self.now.short.tree c.args.self.now.long.tree c.args.self.now.apart q v e)

pub choose_long-requires : goal.choose_long-requires
choose_long-requires c = λ q v e. c.requires q v (long_at c.args.self.now.short.tree c.args.self.now.long.tree c.args.self.now.apart q v e)

pub invariant_of-self : goal.invariant_of-self
invariant_of-self c =
    let m = c.args.self.now in
    record { apart = mapped_apart (chosen_anew c.args.store.now c.args.list) m.short.tree c.choose_short.new.names m.long.tree c.choose_long.new.names c.choose_short.ensures c.choose_long.ensures m.apart }

pub returns : goal.returns
returns c =
    let m = c.args.self.now in
    mapped_at (chosen_anew c.args.store.now c.args.list) m.short.tree c.choose_short.new.names m.long.tree c.choose_long.new.names c.choose_short.ensures c.choose_long.ensures
