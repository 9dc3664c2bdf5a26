use Rattle.std.proofs.Common.{◌≡◌, ◌≤◌, ◌+◌, List, ap, subst, ◌∙◌, arith}
use Rattle.ctl_store.specs.declared.stanza_key.StanzaKey.{StanzaKey}
use Rattle.ctl_index.specs.HeldCache.{standing}
use Rattle.ctl_index.specs.Inside.TablesFollowed.{staying, standing_after, pairs_gone, pairs_come}
use Rattle.ctl_index.specs.Inside.TablesHeld.{offers_in}
use Rattle.ctl_index.specs.Inside.TablesIndexed.{IsIndexed}
use Rattle.ctl_index.specs.Inside.TablesLeft.{IsTakenOut, tests_taken_out}
use Rattle.ctl_index.specs.Inside.TablesLoaded.{ComeApart, IsLoaded, tests_put_in}
use Rattle.ctl_index.specs.Inside.TablesPending.{in_store, with_plan}
use Rattle.ctl_index.specs.Work.{more_by}
use Rattle.ctl_index.proofs.CounterLemmas.{more_by_twice}
use Rattle.ctl_index.proofs.JoinLemmas.{load_law, put_tests, take_law, take_tests}
use Rattle.ctl_index.proofs.ThereLemmas.{listed_there}
use Rattle.ctl_index.proofs.cache.follow_in_tables.Goals as goal

pub put_list-requires : goal.put_list-requires
put_list-requires c =
    let law = c.requires.law in
    let was = c.requires.indexed in
    let h = c.args.store.now in
    let plan = c.args.plan.now in
    let old = c.args.tables.now in
    let mid = c.take_all.new.tables in
    let took : IsTakenOut (in_store h) plan.removed old mid = subst (λ (ks : List StanzaKey). IsTakenOut (in_store h) ks old mid) c.removed.ensures c.in_ok-take_all.ensures.tables in
    let left : IsIndexed (staying h plan) mid = take_law (in_store h) plan.removed (standing h) (staying h plan) old mid law.taken was law.outside law.inside law.apart law.apart_going law.seen_staying law.seen_standing took in
    listed_there (with_plan h plan) (offers_in mid) (staying h plan) left.offers law.seen_still

pub returns-clause-tables : goal.returns-clause-tables
returns-clause-tables c =
    let law = c.requires.law in
    let was = c.requires.indexed in
    let h = c.args.store.now in
    let plan = c.args.plan.now in
    let old = c.args.tables.now in
    let mid = c.take_all.new.tables in
    let took : IsTakenOut (in_store h) plan.removed old mid = subst (λ (ks : List StanzaKey). IsTakenOut (in_store h) ks old mid) c.removed.ensures c.in_ok-take_all.ensures.tables in
    let left : IsIndexed (staying h plan) mid = take_law (in_store h) plan.removed (standing h) (staying h plan) old mid law.taken was law.outside law.inside law.apart law.apart_going law.seen_staying law.seen_standing took in
    let put : ComeApart (with_plan h plan) plan.added → IsLoaded (with_plan h plan) plan.added mid c.put_list.new.tables =
    subst (λ (ks : List StanzaKey). ComeApart (with_plan h plan) ks → IsLoaded (with_plan h plan) ks mid c.put_list.new.tables) c.added.ensures.keys c.in_ok-put_list.ensures.tables in
    load_law (with_plan h plan) plan.added (standing_after h plan) (staying h plan) mid c.put_list.new.tables law.put left law.apart law.apart_coming law.seen_still law.seen_after c.numbers_fit.ensures law.apart_after law.few (put law.apart_coming)

pub returns-clause-steps : goal.returns-clause-steps
returns-clause-steps c =
    let law = c.requires.law in
    let was = c.requires.indexed in
    let h = c.args.store.now in
    let plan = c.args.plan.now in
    let old = c.args.tables.now in
    let mid = c.take_all.new.tables in
    let s0 = c.args.tables.now.steps in
    let took : IsTakenOut (in_store h) plan.removed old mid = subst (λ (ks : List StanzaKey). IsTakenOut (in_store h) ks old mid) c.removed.ensures c.in_ok-take_all.ensures.tables in
    let left : IsIndexed (staying h plan) mid = take_law (in_store h) plan.removed (standing h) (staying h plan) old mid law.taken was law.outside law.inside law.apart law.apart_going law.seen_staying law.seen_standing took in
    let out : c.take_all.new.tables.steps ≡ more_by (pairs_gone h plan) s0 =
    subst (λ (ks : List StanzaKey). c.take_all.new.tables.steps ≡ more_by (tests_taken_out (in_store h) ks old) s0) c.removed.ensures c.in_ok-take_all.ensures.steps
    ∙ ap (λ n. more_by n s0) (take_tests (in_store h) plan.removed (standing h) (staying h plan) old mid law.taken was law.outside law.inside law.apart law.apart_going law.seen_staying law.seen_standing) in
    let in_too : c.put_list.new.tables.steps ≡ more_by (pairs_come h plan) c.take_all.new.tables.steps =
    subst (λ (ks : List StanzaKey). c.put_list.new.tables.steps ≡ more_by (tests_put_in (with_plan h plan) ks mid) c.take_all.new.tables.steps) c.added.ensures.keys c.in_ok-put_list.ensures.steps
    ∙ ap (λ n. more_by n c.take_all.new.tables.steps) (put_tests (with_plan h plan) plan.added (standing_after h plan) (staying h plan) mid c.put_list.new.tables law.put left law.apart law.apart_coming law.seen_still law.seen_after) in
    in_too ∙ ap (more_by (pairs_come h plan)) out ∙ more_by_twice (pairs_gone h plan) (pairs_come h plan) s0

pub returns-in_err-take_all-clause-most : goal.returns-in_err-take_all-clause-most
returns-in_err-take_all-clause-most c =
    let law = c.requires.law in
    let was = c.requires.indexed in
    let h = c.args.store.now in
    let plan = c.args.plan.now in
    let old = c.args.tables.now in
    let out : c.take_all.new.tables.steps ≤ more_by (tests_taken_out (in_store h) plan.removed old) c.args.tables.now.steps =
    subst (λ (ks : List StanzaKey). c.take_all.new.tables.steps ≤ more_by (tests_taken_out (in_store h) ks old) c.args.tables.now.steps) c.removed.ensures c.take_all.ensures.most in
    omega (arith, out, take_tests (in_store h) plan.removed (standing h) (staying h plan) old c.take_all.new.tables law.taken was law.outside law.inside law.apart law.apart_going law.seen_staying law.seen_standing)

pub returns-in_err-put_list-clause-most : goal.returns-in_err-put_list-clause-most
returns-in_err-put_list-clause-most c =
    let law = c.requires.law in
    let was = c.requires.indexed in
    let h = c.args.store.now in
    let plan = c.args.plan.now in
    let old = c.args.tables.now in
    let mid = c.take_all.new.tables in
    let s0 = c.args.tables.now.steps in
    let took : IsTakenOut (in_store h) plan.removed old mid = subst (λ (ks : List StanzaKey). IsTakenOut (in_store h) ks old mid) c.removed.ensures c.in_ok-take_all.ensures.tables in
    let left : IsIndexed (staying h plan) mid = take_law (in_store h) plan.removed (standing h) (staying h plan) old mid law.taken was law.outside law.inside law.apart law.apart_going law.seen_staying law.seen_standing took in
    let out : c.take_all.new.tables.steps ≤ more_by (tests_taken_out (in_store h) plan.removed old) s0 =
    subst (λ (ks : List StanzaKey). c.take_all.new.tables.steps ≤ more_by (tests_taken_out (in_store h) ks old) s0) c.removed.ensures c.take_all.ensures.most in
    let in_too : c.put_list.new.tables.steps ≤ more_by (tests_put_in (with_plan h plan) plan.added mid) c.take_all.new.tables.steps =
    subst (λ (ks : List StanzaKey). c.put_list.new.tables.steps ≤ more_by (tests_put_in (with_plan h plan) ks mid) c.take_all.new.tables.steps) c.added.ensures.keys c.put_list.ensures.most in
    omega (
      arith,
      out,
      in_too,
      take_tests (in_store h) plan.removed (standing h) (staying h plan) old mid law.taken was law.outside law.inside law.apart law.apart_going law.seen_staying law.seen_standing,
      put_tests (with_plan h plan) plan.added (standing_after h plan) (staying h plan) mid c.put_list.new.tables law.put left law.apart law.apart_coming law.seen_still law.seen_after,
    )

pub returns-clause-most : goal.returns-clause-most
returns-clause-most c =
    let law = c.requires.law in
    let was = c.requires.indexed in
    let h = c.args.store.now in
    let plan = c.args.plan.now in
    let all : c.put_list.new.tables.steps ≡ more_by (pairs_gone h plan + pairs_come h plan) c.args.tables.now.steps = returns-clause-steps c in
    omega (arith, all)
