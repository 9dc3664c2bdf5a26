use Rattle.ctl_index.specs.Offers.{offers_among}
use Rattle.ctl_query.specs.Packages.{stanzas_of}
use Rattle.ctl_query.specs.Unmet.{is_unmet}
use Rattle.ctl_query.proofs.AddedLemmas.{zero_is, is_zero}
use Rattle.ctl_query.proofs.laws.unmet_clauses_are_met_by_no_offer.Goals as goal

pub returns : goal.returns
unfolding is_unmet
returns c = λ world clause.
    let none = c.met_pairs_are_bounded.ensures.none clause (offers_among (stanzas_of world)) in
    (λ unmet. none.0 (zero_is _ unmet), λ all. is_zero _ (none.1 all))
