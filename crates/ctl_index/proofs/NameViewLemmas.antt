-- What is told of the entry of a name is what stands under the name.
use Rattle.std.proofs.Common.{◌≡◌, List, [], ◌∷◌, map, Option, Some, None, refl, sym, ap}
use Rattle.std.specs.Option.{option_map_or}
use Rattle.std.specs.FinMap as fin
use Rattle.ctl_relation.specs.Parts.{OfferParts}
use Rattle.ctl_store.specs.declared.stanza_key.StanzaKey.{StanzaKey}
use Rattle.ctl_store.specs.Store.{Held}
use Rattle.ctl_policy.specs.Rows.{newest_first, keys_of_row}
use Rattle.ctl_index.specs.declared.named.Named.{Named}
use Rattle.ctl_index.specs.declared.keys.OfferKey.{OfferKey}
use Rattle.ctl_index.specs.Inside.TablesByName.{named_own, no_rows}
use Rattle.ctl_index.specs.Inside.TablesViews.{shown_rows, offering, offer_found}

-- the rows of the entry of a name, where no rows are shown as none
pub rows_of_entry : newest_first fin.empty ≡ [] → (o : Option Named) → option_map_or shown_rows o [] ≡ map keys_of_row (newest_first (option_map_or named_own o no_rows).rows)
rows_of_entry none (Some named) = refl
rows_of_entry none None = (λ i. map keys_of_row (sym none i))

-- the keys of offers that are found are those of the stanzas that offer the name
pub found_offering : (h : Held) (keys : List OfferKey) → map (λ (offer : StanzaKey × OfferParts). offer.0) (map (offer_found h) keys) ≡ offering keys
found_offering h [] = refl
found_offering h (key ∷ keys) = ap (λ ks. key.stanza ∷ ks) (found_offering h keys)
