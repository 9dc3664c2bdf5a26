use Rattle.std.proofs.Common.{◌≡◌, ℕ, List, true, nat_eq, is_some, ap, sym, subst, ◌∙◌}
use Rattle.std.specs.List.{list_any, starts_with, AllByRecursion}
use Rattle.std.specs.List.Sorted.{IsStrictlySortedBy}
use Rattle.std.specs.Ordering.{nat_cmp, is_le}
use Rattle.std.specs.Cmp.Lexicographic.{slice_cmp}
use Rattle.std.specs.Str.{bytes_eq}
use Rattle.std.proofs.lemmas.Map.Made.{is_some-lookup}
use Rattle.ctl_store.specs.Store.{keyed_of, state_of}
use Rattle.ctl_index.specs.HeldCache.{HeldCache, standing}
use Rattle.ctl_index.specs.Inside.NameMap.{entry_names}
use Rattle.ctl_index.specs.Names.{known_names}
use Rattle.ctl_index.specs.Work.{stanzas_of_state}
use Rattle.ctl_index.proofs.LawLemmas.{contents_of_state}
use Rattle.ctl_index.proofs.NamesLemmas.{known_there}
use Rattle.ctl_index.proofs.cache.Cache.names_from.Goals as goal

pub returns-clause-order : goal.returns-clause-order
returns-clause-order c = subst (IsStrictlySortedBy (slice_cmp nat_cmp)) (sym c.new.ensures) c.entries_from-left.ensures.order.order

pub returns-clause-from : goal.returns-clause-from
returns-clause-from c =
    let entries = c.entries_from-left in
    subst (AllByRecursion (λ (n : List ℕ). is_le (slice_cmp nat_cmp c.args.prefix.now n) ≡ true)) (sym c.new.ensures)
    (subst (λ (p : List ℕ). AllByRecursion (λ (n : List ℕ). is_le (slice_cmp nat_cmp p n) ≡ true) (entry_names entries.result)) c.in_ok-prefix.ensures.items entries.ensures.order.from)

pub returns-clause-members : goal.returns-clause-members
returns-clause-members c = λ name begins.
    let h = c.self.inside.store in
    let entries = c.entries_from-left in
    let fresh = ap (λ w. w.stale) c.self.view_is ∙ c.requires in
    let was = (c.self.invariant fresh).0 in
    ap (list_any (bytes_eq name)) c.new.ensures
    ∙ sym (is_some-lookup (bytes_eq name) entries.result)
    ∙ ap is_some (entries.ensures.found name (ap (starts_with nat_eq name) c.in_ok-prefix.ensures.items ∙ begins))
    ∙ known_there name (standing h) c.self.inside.tables was entries.ensures.used ((c.self.invariant fresh).2 name)
    ∙ ap (λ xs. list_any (bytes_eq name) (known_names xs)) (contents_of_state (keyed_of h).lists)
    ∙ ap (λ (w : HeldCache). list_any (bytes_eq name) (known_names (stanzas_of_state (state_of w.store)))) c.self.view_is

pub returns-clause-only : goal.returns-clause-only
returns-clause-only c = λ name among.
    let h = c.self.inside.store in
    let entries = c.entries_from-left in
    let fresh = ap (λ w. w.stale) c.self.view_is ∙ c.requires in
    let was = (c.self.invariant fresh).0 in
    let there = is_some-lookup (bytes_eq name) entries.result ∙ sym (ap (list_any (bytes_eq name)) c.new.ensures) ∙ among in
    sym (known_there name (standing h) c.self.inside.tables was entries.ensures.used ((c.self.invariant fresh).2 name)
    ∙ ap (λ xs. list_any (bytes_eq name) (known_names xs)) (contents_of_state (keyed_of h).lists)
    ∙ ap (λ (w : HeldCache). list_any (bytes_eq name) (known_names (stanzas_of_state (state_of w.store)))) c.self.view_is)
    ∙ sym (ap is_some (entries.ensures.only name there)) ∙ there
