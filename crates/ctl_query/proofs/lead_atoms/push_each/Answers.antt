use Rattle.std.proofs.Common.{◌∙◌, ◌&&◌, ◌||◌, nat_eq, get_or, ap}
use Rattle.ctl_query.specs.Leads.{is_key_of, is_listed}
use Rattle.ctl_query.specs.LeadTable.{lent_leads}
use Rattle.ctl_query.specs.Inside.ListedAtoms.{places_in}
use Rattle.ctl_query.proofs.ListedAtomLemmas.{at_more, lent_key}
use Rattle.ctl_query.proofs.lead_atoms.push_each.Goals as goal

pub loop-place-preserved : goal.loop-place-preserved
loop-place-preserved c =
    let lead = c.index-leads-place.result in
    let leads = c.args.leads.now in
    let key = c.args.namer.now.0 in (
      λ a.
          c.in_ok-push_if.ensures.members a
          ∙ ap (λ t. (nat_eq a.place c.loop-place.place && is_key_of a key (get_or leads c.loop-place.place lead).0) || t) (c.loop-place.invariant.0 a)
          ∙ at_more leads c.loop-place.place lead c.loop-place-test.true key a (is_listed (places_in c.args.atoms.now.items) a),
      λ name of all.
          c.in_ok-push_if.ensures.kept (lent_leads leads) name (lent_key leads c.loop-place.place lead c.loop-place-test.true) of (c.loop-place.invariant.1 name of all),
    )
