-- How the providers of an atom, and whether its name has a row, are found among the offers of its name.
use Rattle.std.specs.Prelude.{ℕ, Bool, false, not, ◌&&◌, List, is_some}
use Rattle.std.specs.Option.{option_map_or}
use Rattle.std.specs.Str.{bytes_eq}
use Rattle.ctl_relation.specs.Met.{met}
use Rattle.ctl_relation.specs.Parts.{AtomParts, OfferParts}
use Rattle.ctl_stanza.specs.Content.{Content, package_of}
use Rattle.ctl_store.specs.declared.stanza_key.StanzaKey.{StanzaKey}
use Rattle.ctl_store.specs.Store.{Held, keyed_of}
use Rattle.ctl_store.specs.Keys.{stanza_at}
use Rattle.ctl_policy.specs.Rows.{version_in}

-- an offer makes a name one of the providers
abbrev pub gives : AtomParts → List ℕ → Content → OfferParts → Bool
gives atom name stanza offer = (not (bytes_eq (package_of stanza) atom.name) && met atom offer) && bytes_eq name (package_of stanza)

-- the same of an offer of the stanza of a key
abbrev pub gives_at : Held → AtomParts → List ℕ → StanzaKey × OfferParts → Bool
gives_at store atom name offer = option_map_or (λ stanza. gives atom name stanza offer.1) (stanza_at offer.0 (keyed_of store).lists) false

-- whether a stanza is a live one of a name; the name has a row then
abbrev pub makes_row : List ℕ → Content → Bool
makes_row name stanza = is_some (version_in name stanza)

-- the same of the stanza of a key
abbrev pub makes_row_at : Held → List ℕ → StanzaKey × OfferParts → Bool
makes_row_at store name offer = option_map_or (makes_row name) (stanza_at offer.0 (keyed_of store).lists) false
