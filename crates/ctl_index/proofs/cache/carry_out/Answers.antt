use Rattle.std.proofs.Common.{◌≡◌, ◌≤◌, ◌<◌, ◌^◌, ℕ, List, arith, ap, subst, sym, ◌∙◌}
use Rattle.ctl_store.specs.declared.limits.Limits.{Limits}
use Rattle.ctl_store.specs.Keys.{Keyed, AreComing}
use Rattle.ctl_store.specs.Entries.{entries_of}
use Rattle.ctl_policy.specs.Priority.{world_of}
use Rattle.ctl_policy.specs.declared.chosen.Chosen.{Chosen}
use Rattle.ctl_policy.specs.Chosen.{AreChosen}
use Rattle.ctl_index.specs.HeldCache.{standing}
use Rattle.ctl_index.specs.Inside.TablesByName.{chosen_under}
use Rattle.ctl_index.specs.Inside.TablesChosen.{HasMade}
use Rattle.ctl_index.specs.Inside.TablesIndexed.{IsIndexed}
use Rattle.ctl_index.specs.Inside.TablesTouched.{is_touched}
use Rattle.ctl_index.specs.Work.{more_by}
use Rattle.ctl_index.proofs.LawLemmas.{followed_law, followed_work}
use Rattle.ctl_index.proofs.RecoverLemmas.{indexed_same, with_names}
use Rattle.ctl_index.proofs.cache.carry_out.Goals as goal

pub follow-requires-clause-law : goal.follow-requires-clause-law
follow-requires-clause-law c =
    let h = c.args.store.now in
    let plan = c.args.plan in
    let limits : c.limits-limits.result.stanzas ≡ h.limits.stanzas = ap (λ (l : Limits). l.stanzas) c.limits-limits.ensures in
    let most : h.limits.stanzas < 2 ^ 32 = omega (arith, limits) in
    let comes : AreComing plan.added plan.edit = subst (λ ks. AreComing ks plan.edit) c.added-added.ensures.keys c.added-added.ensures.coming in
    followed_law h plan comes c.counts-counts.ensures.order c.requires.change c.requires.ready.accepted most

pub choose_touched-requires : goal.choose_touched-requires
choose_touched-requires c =
    let h = c.args.store.now in
    let plan = c.args.plan in
    let tables : IsIndexed (standing c.commit.new.self) c.follow.new.tables = subst (λ (k : Keyed). IsIndexed (entries_of k.lists) c.follow.new.tables) (sym c.commit.ensures.keyed) c.in_ok-touched.ensures.tables in
    c.rows_are_defined.ensures c.commit.new.self c.follow.new.tables.names.map c.commit.ensures.change.rises tables.rows

pub returns-clause-indexed : goal.returns-clause-indexed
returns-clause-indexed c =
    let h = c.args.store.now in
    let plan = c.args.plan in
    let tables : IsIndexed (standing c.commit.new.self) c.follow.new.tables = subst (λ (k : Keyed). IsIndexed (entries_of k.lists) c.follow.new.tables) (sym c.commit.ensures.keyed) c.in_ok-touched.ensures.tables in
    indexed_same (standing c.commit.new.self) c.follow.new.tables c.choose_touched.new.names c.choose_touched.ensures.stays tables

pub returns-clause-chosen : goal.returns-clause-chosen
returns-clause-chosen c =
    let h = c.args.store.now in
    let plan = c.args.plan in
    let tables : IsIndexed (standing c.commit.new.self) c.follow.new.tables = subst (λ (k : Keyed). IsIndexed (entries_of k.lists) c.follow.new.tables) (sym c.commit.ensures.keyed) c.in_ok-touched.ensures.tables in
    let m = c.follow.new.tables.names.map in
    let touched = c.in_ok-touched.touched in
    let rows = c.rows_are_defined.ensures c.commit.new.self m c.commit.ensures.change.rises tables.rows in
    let made : HasMade h plan c.commit.new.self = record {
      ready = c.requires.ready;
      rising = c.counts-counts.ensures.order;
      distinct = c.lists-lists.ensures.distinct;
      change = c.requires.change;
      come = c.commit.ensures.comes;
      keyed = c.commit.ensures.keyed;
      state = c.commit.ensures.state;
    } in
    let only = c.touched_names_are_told.ensures h plan c.commit.new.self touched m made c.in_ok-touched.ensures.touches rows in
    let was : AreChosen (chosen_under m) (world_of h) = subst (λ (chosen : List ℕ → Chosen). AreChosen chosen (world_of h)) (sym c.in_ok-touched.ensures.chosen) c.requires.chosen in
    c.choices_follow_edits.ensures h plan c.commit.new.self (is_touched m touched) (chosen_under m) (chosen_under c.choose_touched.new.names.map) made only was c.choose_touched.ensures.chosen

pub returns-clause-offered : goal.returns-clause-offered
returns-clause-offered c =
    c.chosen_names_are_offered.ensures c.commit.new.self (with_names c.follow.new.tables c.choose_touched.new.names) c.commit.ensures.change.rises (returns-clause-indexed c) (returns-clause-chosen c)

pub returns-clause-steps : goal.returns-clause-steps
returns-clause-steps c =
    let h = c.args.store.now in
    let plan = c.args.plan in
    let comes : AreComing plan.added plan.edit = subst (λ ks. AreComing ks plan.edit) c.added-added.ensures.keys c.added-added.ensures.coming in
    c.in_ok-touched.ensures.steps ∙ ap (λ n. more_by n c.args.tables.now.steps) (followed_work h plan comes c.counts-counts.ensures.order c.requires.change)

pub returns-clause-most : goal.returns-clause-most
returns-clause-most c =
    let h = c.args.store.now in
    let plan = c.args.plan in
    let comes : AreComing plan.added plan.edit = subst (λ ks. AreComing ks plan.edit) c.added-added.ensures.keys c.added-added.ensures.coming in
    subst (λ n. c.follow.new.tables.steps ≤ more_by n c.args.tables.now.steps) (followed_work h plan comes c.counts-counts.ensures.order c.requires.change) c.follow.ensures.most

pub returns-in_err-touched-clause-most : goal.returns-in_err-touched-clause-most
returns-in_err-touched-clause-most c =
    let h = c.args.store.now in
    let plan = c.args.plan in
    let comes : AreComing plan.added plan.edit = subst (λ ks. AreComing ks plan.edit) c.added-added.ensures.keys c.added-added.ensures.coming in
    subst (λ n. c.follow.new.tables.steps ≤ more_by n c.args.tables.now.steps) (followed_work h plan comes c.counts-counts.ensures.order c.requires.change) c.follow.ensures.most
