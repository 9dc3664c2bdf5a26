use Rattle.std.proofs.Common.{ℕ, ◌<◌, List, [], map, length, unwrap_or, subst, sym, ◌∙◌}
use Rattle.ctl_index.specs.Inside.NameMap.{long_entry, merged}
use Rattle.ctl_index.proofs.NameMapLemmas.{long_range, ArePromised, both_promised, long_promised}
use Rattle.ctl_index.proofs.name_map.NameMap.entries_from.Goals as goal
use Rattle.ctl_index.proofs.name_map.NameMap.entries_from.Goals.{in-Some, in-None}

-- Where the prefix is short, of both trees, and else of the second alone.
promised : (c : goal.After-new) → ArePromised c.args.prefix.now.items c.args.self.now c.new.result
promised c =
    let p = c.args.prefix.now.items in
    let m = c.args.self.now in
    elim c.match-of.branch [
      | in-Some w ↦
          subst (ArePromised p m)
          (sym (c.new.ensures ∙ (λ i. merged (unwrap_or (w.short-is i) []) (map long_entry (c.range-2.ensures.between tt i))) ∙ (λ i. merged (w.range.ensures.between tt i) (long_range p m))))
          (both_promised p m c.range-2.ensures.ordered w.in-Some.first (w.in-Some.ensures.some.0 ∙ c.deref.ensures.value) w.range.ensures.ordered)
      | in-None w ↦
          subst (ArePromised p m) (sym (c.new.ensures ∙ (λ i. merged (unwrap_or (w.short-is i) []) (map long_entry (c.range-2.ensures.between tt i)))))
          (long_promised p m c.range-2.ensures.ordered (subst (λ (name : List ℕ). 31 < length name) c.deref.ensures.value w.in-None.ensures.none))
    ]

pub returns-clause-order : goal.returns-clause-order
returns-clause-order c = (promised c).0

pub returns-clause-found : goal.returns-clause-found
returns-clause-found c = (promised c).1.0

pub returns-clause-only : goal.returns-clause-only
returns-clause-only c = (promised c).1.1
