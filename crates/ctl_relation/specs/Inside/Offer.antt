-- How an offer is held: a short name in places of its own, of which the first ones are taken.
use Rattle.std.specs.Prelude.{◌≤◌, ⊤, take, None, Some}
use Rattle.ctl_relation.specs.declared.offer.HeldOffer.{HeldOffer}
use Rattle.ctl_relation.specs.declared.offer.HeldOffer.TheVariants.{Short, Long, ShortAt, LongAt}
use Rattle.ctl_relation.specs.Inside.SmallBytes.{short_len}
use Rattle.ctl_relation.specs.Parts.{OfferParts}

abbrev pub parts_of : HeldOffer → OfferParts
parts_of (Short len places) = record { name = take len places; version = None }
parts_of (Long name) = record { name = name.items; version = None }
parts_of (ShortAt len places version) = record { name = take len places; version = Some version }
parts_of (LongAt name version) = record { name = name.items; version = Some version }

-- no more places are taken than there are
abbrev pub IsHeld : HeldOffer → Type 0
IsHeld (Short len places) = len ≤ short_len
IsHeld (Long name) = ⊤
IsHeld (ShortAt len places version) = len ≤ short_len
IsHeld (LongAt name version) = ⊤
