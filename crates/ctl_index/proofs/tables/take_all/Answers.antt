use Rattle.std.proofs.Common.{◌≡◌, ℕ, List, ap, subst, ◌∙◌, arith}
use Rattle.std.specs.List.{list_any, sum_by}
use Rattle.ctl_index.specs.declared.keys.NamingAtom.{NamingAtom}
use Rattle.ctl_index.specs.declared.named.ChosenRows.{ChosenRows}
use Rattle.ctl_index.specs.Inside.TablesByName.{rows_under}
use Rattle.ctl_index.specs.Inside.TablesCounters.{less_by}
use Rattle.ctl_index.specs.Inside.TablesHeld.{offers_in, namers_in}
use Rattle.ctl_index.specs.Inside.TablesLeft.{has_namer_at, has_offer_at, hits_at, namers_taken, tests_taken_out}
use Rattle.ctl_index.specs.Inside.TablesOrder.{namer_stanza, offer_stanza, without_if, span_of}
use Rattle.ctl_index.specs.Inside.TablesPending.{entries_seen}
use Rattle.ctl_index.specs.Inside.TablesRows.{AreRowsTaken}
use Rattle.ctl_index.specs.Inside.TablesTests.{offers_tested, atoms_tested}
use Rattle.ctl_index.specs.Work.{more_by}
use Rattle.ctl_index.proofs.NameLemmas.{all_chosen}
use Rattle.ctl_index.proofs.CounterLemmas.{more_by_twice}
use Rattle.ctl_index.specs.Inside.TablesHeld.{offers_in, namers_in}
use Rattle.ctl_index.proofs.tables.take_all.Goals as goal

pub returns-clause-chosen : goal.returns-clause-chosen
returns-clause-chosen c = c.take_rows.ensures.chosen ∙ ap all_chosen (c.in_ok-take_offers.ensures.rows ∙ c.take_atoms.ensures.rows)

pub returns-clause-tables : goal.returns-clause-tables
returns-clause-tables c =
    let s = c.args.pending in
    let keys = c.args.keys.now in
    let old = c.args.tables.now in
    let span : c.in-Some.span ≡ span_of keys = c.in-Some.ensures.some in
    let left : (q : List ℕ) → namers_in c.take_atoms.new.tables q ≡ namers_taken s keys old q =
    λ q. c.take_atoms.ensures.namers q ∙ (λ i. without_if namer_stanza (span i) (list_any (has_namer_at s q) keys) (namers_in old q)) in
    record {
      offers = λ q. (λ i. c.take_rows.ensures.offers i q) ∙ c.in_ok-take_offers.ensures.offers q ∙ (λ i. without_if offer_stanza (span i) (list_any (has_offer_at s q) keys) (c.take_atoms.ensures.offers i q));
      namers = λ q. (λ i. c.take_rows.ensures.namers i q) ∙ (λ i. c.in_ok-take_offers.ensures.namers i q) ∙ left q;
      counters = λ k. c.in_ok-take_offers.ensures.counts k ∙ (λ i. less_by (sum_by (hits_at s (λ q. left q i) k) keys) (c.take_atoms.ensures.counts k i));
      rows = subst (λ (own : List ℕ → ChosenRows). AreRowsTaken (entries_seen s keys) (λ q. (own q).rows) (rows_under c.take_rows.new.names.map)) (c.in_ok-take_offers.ensures.rows ∙ c.take_atoms.ensures.rows) c.take_rows.ensures.rows;
    }

pub returns-clause-steps : goal.returns-clause-steps
returns-clause-steps c =
    let s = c.args.pending in
    let keys = c.args.keys.now in
    let old = c.args.tables.now in
    let span : c.in-Some.span ≡ span_of keys = c.in-Some.ensures.some in
    let left : (q : List ℕ) → namers_in c.take_atoms.new.tables q ≡ namers_taken s keys old q =
    λ q. c.take_atoms.ensures.namers q ∙ (λ i. without_if namer_stanza (span i) (list_any (has_namer_at s q) keys) (namers_in old q)) in
    c.in_ok-take_offers.ensures.steps ∙ (λ i. more_by (offers_tested s (λ q. left q i) keys) (c.take_atoms.ensures.steps i))
    ∙ more_by_twice (atoms_tested s (offers_in old) keys) (offers_tested s (namers_taken s keys old) keys) c.args.tables.now.steps

pub returns-clause-most : goal.returns-clause-most
returns-clause-most c =
    let all : c.take_offers.new.tables.steps ≡ more_by (tests_taken_out c.args.pending c.args.keys.now c.args.tables.now) c.args.tables.now.steps = returns-clause-steps c in
    omega (arith, all)

pub returns-in_err-take_offers-clause-most : goal.returns-in_err-take_offers-clause-most
returns-in_err-take_offers-clause-most c =
    let s = c.args.pending in
    let keys = c.args.keys.now in
    let old = c.args.tables.now in
    let span : c.in-Some.span ≡ span_of keys = c.in-Some.ensures.some in
    let left : (q : List ℕ) → namers_in c.take_atoms.new.tables q ≡ namers_taken s keys old q =
    λ q. c.take_atoms.ensures.namers q ∙ (λ i. without_if namer_stanza (span i) (list_any (has_namer_at s q) keys) (namers_in old q)) in
    let same = ap (λ (t : List ℕ → List NamingAtom). offers_tested s t keys) (λ i q. left q i) in
    omega (arith, c.take_offers.ensures.most, c.take_atoms.ensures.steps, same)
