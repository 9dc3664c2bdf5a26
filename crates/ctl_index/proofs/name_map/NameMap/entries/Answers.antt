use Rattle.std.proofs.Common.{◌≡◌, ℕ, List, Bool, true, map, refl, ap, subst, sym, ◌∙◌, nat_cmp}
use Rattle.std.specs.List.Sorted.{IsStrictlySortedBy}
use Rattle.std.specs.Cmp.Lexicographic.{slice_cmp}
use Rattle.ctl_index.specs.Inside.NameMap.{NamedEntry, entry_names, found_in, long_entry, merged}
use Rattle.ctl_index.proofs.NameMapLemmas.{from_short, from_long, both_order, both_found}
use Rattle.ctl_index.proofs.name_map.NameMap.entries.Goals as goal

-- Of each tree the whole is a part.
abbrev every : List ℕ → Bool
every name = true

are : (c : goal.After-new) → c.new.result ≡ merged (from_short every c.args.self.now) (from_long every c.args.self.now)
are c = c.new.ensures ∙ (λ i. merged (c.range.ensures.between tt i) (map long_entry (c.range-2.ensures.between tt i)))

pub returns-clause-order : goal.returns-clause-order
returns-clause-order c =
    subst (λ (es : List NamedEntry). IsStrictlySortedBy (slice_cmp nat_cmp) (entry_names es)) (sym (are c)) (both_order every c.args.self.now c.range.ensures.ordered c.range-2.ensures.ordered)

pub returns-clause-found : goal.returns-clause-found
returns-clause-found c q = ap (λ (es : List NamedEntry). found_in es q) (are c) ∙ both_found every c.args.self.now q refl
