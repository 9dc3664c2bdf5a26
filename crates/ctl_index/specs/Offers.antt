-- What stanzas offer: a package its own name, and those of its Provides (Debian Policy 7.5).
use Rattle.std.specs.Prelude.{ℕ, Bool, List, map, filter, flat_map}
use Rattle.std.specs.Str.{bytes_eq}
use Rattle.ctl_relation.specs.Parts.{OfferParts}
use Rattle.ctl_stanza.specs.Content.{Content, offers_of}
use Rattle.ctl_store.specs.declared.stanza_key.StanzaKey.{StanzaKey}
use Rattle.ctl_store.specs.Entries.{Entry}

-- the stanzas without their keys
abbrev pub contents : List Entry → List Content
contents es = map (λ (e : Entry). e.1) es

-- what stanzas offer, repeats kept
abbrev pub offers_among : List Content → List OfferParts
offers_among stanzas = flat_map offers_of stanzas

-- the offers of a stanza that are of a name, each with its key
abbrev pub is_offered : List ℕ → OfferParts → Bool
is_offered name offer = bytes_eq offer.name name

abbrev pub offers_by : List ℕ → Entry → List (StanzaKey × OfferParts)
offers_by name e = map (λ (offer : OfferParts). (e.0, offer)) (filter (is_offered name) (offers_of e.1))

-- the offers of a name, each with the key of its stanza, in cache order
abbrev pub offers_named : List ℕ → List Entry → List (StanzaKey × OfferParts)
offers_named name es = flat_map (offers_by name) es
