use Rattle.std.proofs.Common.{◌≡◌, ◌∙◌, ◌||◌, length, Some, sym, ap, arith}
use Rattle.std.specs.List.{list_any}
use Rattle.ctl_store.specs.Store.{keyed_of}
use Rattle.ctl_store.specs.Keys.{stanza_at}
use Rattle.ctl_query.specs.NameSet.{lent_names, is_among}
use Rattle.ctl_query.specs.Providers.{gives_at, makes_row_at}
use Rattle.ctl_query.proofs.NameLemmas.{increasing_lent}
use Rattle.ctl_query.proofs.ProviderLemmas.{one_more, as_many, providers_are}
use Rattle.ctl_query.proofs.RowOfferLemmas.{one_row_more, row_by_offers}
use Rattle.ctl_query.proofs.providers.providers.Goals as goal

pub offers-preserved : goal.offers-preserved
offers-preserved c =
    let is : Some c.stanza-stanza.result.now ≡ stanza_at c.in-Some.key (keyed_of c.args.asking.now).lists = rw c.store-store.ensures at c.stanza-stanza.ensures in
    let held = rw c.in-Some.ensures.steps at c.offers.invariant.held in
    record {
      held = held.1;
      names = λ name. one_more c.args.asking.now c.args.atom.now c.in-Some.key c.in-Some.offer.now c.stanza-stanza.result.now c.offers.key-iterator c.next.new.self
          (lent_names c.offers.names.keys) (lent_names c.add_provider.new.names.keys) name (list_any (gives_at c.args.asking.now c.args.atom.now name) c.into_iter-key-iterator.result)
          c.in-Some.ensures.steps is (c.in_ok-add_provider.ensures.names name) (c.offers.invariant.names name);
      row = one_row_more c.args.asking.now c.args.atom.now.name c.in-Some.key c.in-Some.offer.now c.stanza-stanza.result.now c.offers.key-iterator c.next.new.self
          c.offers.with_row c.with_row_of-with_row.result (list_any (makes_row_at c.args.asking.now c.args.atom.now.name) c.into_iter-key-iterator.result)
          c.in-Some.ensures.steps is c.with_row_of-with_row.ensures c.offers.invariant.row;
      steps = omega (arith, ap length c.in-Some.ensures.steps, c.offers.invariant.steps, c.add_provider.ensures.steps);
      kept = omega (arith, c.offers.invariant.kept, c.add_provider.ensures.kept);
    }

pub returns-in_err-add_provider-clause-steps : goal.returns-in_err-add_provider-clause-steps
returns-in_err-add_provider-clause-steps c =
    let many = as_many c.args.asking.now c.args.atom.now c.offers-key-items.result (rw c.name.ensures at c.offers-key-items.ensures.offers) in
    let begins = ap length c.into_iter-key-iterator.ensures.into_iter_gives in
    omega (arith, many, begins, ap length c.in-Some.ensures.steps, c.offers.invariant.steps, c.add_provider.ensures.steps)

pub returns-clause-steps : goal.returns-clause-steps
returns-clause-steps c =
    let many = as_many c.args.asking.now c.args.atom.now c.offers-key-items.result (rw c.name.ensures at c.offers-key-items.ensures.offers) in
    let begins = ap length c.into_iter-key-iterator.ensures.into_iter_gives in
    omega (arith, many, begins, c.offers.invariant.steps)

pub returns-clause-names : goal.returns-clause-names
returns-clause-names c =
    providers_are c.args.asking.now c.args.atom.now c.into_iter-key-iterator.result (lent_names c.offers.names.keys)
    c.stanzas_are_found.ensures
    (rw (c.into_iter-key-iterator.ensures.into_iter_gives, ← c.name.ensures) c.offers-key-items.ensures.offers)
    (increasing_lent c.offers.names.keys c.len-count.ensures.ordered)
    (λ name. ap (λ xs. list_any (gives_at c.args.asking.now c.args.atom.now name) xs || is_among (lent_names c.offers.names.keys) name) (sym c.in-None.ensures.steps.0) ∙ c.offers.invariant.names name)

pub returns-clause-row : goal.returns-clause-row
returns-clause-row c =
    ap (λ xs. list_any (makes_row_at c.args.asking.now c.args.atom.now.name) xs || c.offers.with_row) (sym c.in-None.ensures.steps.0) ∙ c.offers.invariant.row
    ∙ row_by_offers c.args.asking.now c.args.atom.now.name c.into_iter-key-iterator.result c.stanzas_are_found.ensures
    (rw (c.into_iter-key-iterator.ensures.into_iter_gives, ← c.name.ensures) c.offers-key-items.ensures.offers)
