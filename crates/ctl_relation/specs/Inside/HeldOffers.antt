-- How the offers of a stanza are held. Not for callers.
use Rattle.std.specs.Prelude.{List, []}
use Rattle.ctl_relation.specs.Parts.{OfferParts}
use Rattle.ctl_relation.specs.declared.offers.HeldOffers.{HeldOffers}
use Rattle.ctl_relation.specs.declared.offers.HeldOffers.TheVariants.{None, Own, Several}

abbrev pub offers_held : HeldOffers → List OfferParts
offers_held None = []
offers_held (Own own) = own
offers_held (Several offers) = offers.items
