-- The packages that an answer on all packages has to look at.
use Rattle.std.specs.Prelude.{ℕ, ℤ, Bool, false, not, ◌&&◌, List, map}
use Rattle.std.specs.List.{list_any}
use Rattle.std.specs.Option.{option_map_or}
use Rattle.std.specs.Str.{bytes_eq}
use Rattle.ctl_relation.specs.Parts.{OfferParts}
use Rattle.ctl_stanza.specs.Content.{package_of, provides_of}
use Rattle.ctl_store.specs.declared.stanza_key.StanzaKey.{StanzaKey}
use Rattle.ctl_store.specs.declared.selector.Selector.{Selector}
use Rattle.ctl_store.specs.Keys.{stanza_at}
use Rattle.ctl_store.specs.Pins.{is_of}
use Rattle.ctl_store.specs.Store.{Held, keyed_of}
use Rattle.ctl_index.specs.declared.keys.AtomKey.{AtomKey}
use Rattle.ctl_index.specs.declared.keys.ClauseKey.{ClauseKey}
use Rattle.ctl_index.specs.Clauses.{unmet_clauses}
use Rattle.ctl_index.specs.HeldCache.{standing}
use Rattle.ctl_index.specs.Names.{namers_named}
use Rattle.ctl_index.specs.Offers.{offers_named}
use Rattle.ctl_query.specs.Packages.{is_none_of}

-- whether the stanza of a key is of this package
abbrev pub is_of_package : Held → List ℕ → StanzaKey → Bool
is_of_package store name key = option_map_or (λ stanza. bytes_eq name (package_of stanza)) (stanza_at key (keyed_of store).lists) false

-- whether a stanza of a package has an atom that names a name
abbrev pub names_it : Held → List ℕ → List ℕ → Bool
names_it store name asker = list_any (λ (key : AtomKey). is_of_package store asker key.stanza) (namers_named name (standing store))

-- whether the stanza of a key is of this package and has entries of Provides
abbrev pub is_provider : Held → List ℕ → StanzaKey → Bool
is_provider store name key =
    option_map_or (λ stanza. bytes_eq name (package_of stanza) && not (is_none_of (provides_of stanza)))
    (stanza_at key (keyed_of store).lists) false

-- the stanzas that offer a name, by their keys
abbrev pub offering_named : Held → List ℕ → List StanzaKey
offering_named store name = map (λ (offer : StanzaKey × OfferParts). offer.0) (offers_named name (standing store))

-- whether a stanza of a package that has entries of Provides offers a name
abbrev pub provides_it : Held → List ℕ → List ℕ → Bool
provides_it store name asker = list_any (is_provider store asker) (offering_named store name)

-- whether there is a specific pin of a package
abbrev pub is_pinned : List (Selector × ℤ) → List ℕ → Bool
is_pinned pins name = list_any (λ (s : Selector × ℤ). is_of name s.0) pins

-- whether one has a clause that no offer meets
abbrev pub has_unmet : Held → List ℕ → Bool
has_unmet store asker = list_any (λ (key : ClauseKey). is_of_package store asker key.stanza) (unmet_clauses (standing store))
