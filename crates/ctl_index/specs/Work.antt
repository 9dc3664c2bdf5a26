-- The work of an edit: how many pairs of an atom of a clause and an offer of its name go and come with it.
use Rattle.std.specs.Prelude.{ℕ, ◌+◌, ◌-◌, ◌^◌, min, List, flat_map}
use Rattle.std.specs.List.{count_by, sum_by}
use Rattle.std.specs.Str.{bytes_eq}
use Rattle.ctl_relation.specs.Parts.{AtomParts, OfferParts}
use Rattle.ctl_stanza.specs.Content.{Content}
use Rattle.ctl_store.specs.Edits.{Edit}
use Rattle.ctl_store.specs.State.{State}
use Rattle.ctl_store.specs.Step.{after}
use Rattle.ctl_store.specs.Entries.{stanzas_in_order, lists_between}
use Rattle.ctl_index.specs.Clauses.{clause_atoms}
use Rattle.ctl_index.specs.Offers.{offers_among}

-- how many pairs of an atom and an offer are of one name
abbrev pub named_pairs : List AtomParts → List OfferParts → ℕ
named_pairs atoms offers = sum_by (λ (atom : AtomParts). count_by (λ (offer : OfferParts). bytes_eq atom.name offer.name) offers) atoms

-- How many pairs of one name there are of an atom of a clause of stanzas and of an offer of theirs.
abbrev pub pairs : List Content → ℕ
pairs stanzas = named_pairs (flat_map clause_atoms stanzas) (offers_among stanzas)

-- the stanzas of a state, in cache order
abbrev pub stanzas_of_state : State → List Content
stanzas_of_state s = stanzas_in_order s.lists

-- those that an edit leaves: without the stanzas that it takes out, one that is replaced among them
abbrev pub stanzas_that_stay : State → Edit → List Content
stanzas_that_stay s edit = stanzas_in_order (lists_between s.lists edit)

-- how many pairs of a state are not pairs of what an edit leaves
abbrev pub pairs_beyond : State → State → Edit → ℕ
pairs_beyond whole s edit = pairs (stanzas_of_state whole) - pairs (stanzas_that_stay s edit)

-- The work of an edit: the pairs before it and after it that are not pairs of what stays.
abbrev pub work : State → Edit → ℕ
work s edit = pairs_beyond s s edit + pairs_beyond (after s edit) s edit

-- n tests more, up to the last value of a u128, where the count stays
abbrev pub more_by : ℕ → ℕ → ℕ
more_by n s = min (s + n) (2 ^ 128 - 1)
