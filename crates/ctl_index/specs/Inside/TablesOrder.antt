-- Of the tables alone: lists in the order of the stanzas that their entries are of.
use Rattle.std.specs.Prelude.{◌≡◌, ◌-◌, Bool, true, false, not, ◌&&◌, List, [], ◌∷◌, length, filter, slice_get, if◌then◌else◌}
use Rattle.std.specs.List.{AllByRecursion}
use Rattle.std.specs.Option.{option_map_or}
use Rattle.std.specs.Ordering.{is_lt, is_le, is_ge, is_gt}
use Rattle.ctl_store.specs.declared.stanza_key.StanzaKey.{StanzaKey}
use Rattle.ctl_store.specs.Keys.{key_cmp, key_of}
use Rattle.ctl_relation.specs.Parts.{AtomParts}
use Rattle.ctl_index.specs.Names.{KeptNamer, kept_of}
use Rattle.ctl_index.specs.declared.keys.AtomKey.{AtomKey}
use Rattle.ctl_index.specs.declared.keys.NamingAtom.{NamingAtom}
use Rattle.ctl_index.specs.declared.keys.OfferKey.{OfferKey}
use Rattle.ctl_index.specs.declared.span.Span.{Span}

abbrev pub offer_stanza : OfferKey → StanzaKey
offer_stanza key = key.stanza

abbrev pub namer_stanza : NamingAtom → StanzaKey
namer_stanza namer = namer.stanza

-- an atom among those that name its name, and its key
abbrev pub namer_of : AtomKey → AtomParts → NamingAtom
namer_of key atom = record { stanza = key.stanza; group = key.group; atom = key.atom; field = key.field; kept = kept_of atom }

abbrev pub namer_key : NamingAtom → AtomKey
namer_key namer = record { stanza = namer.stanza; field = namer.field; group = namer.group; atom = namer.atom }

-- its key, and what is kept of it
abbrev pub kept_namer : NamingAtom → KeptNamer
kept_namer namer = (namer_key namer, namer.kept)

-- whether a key is one of a span
abbrev pub is_within : Span → StanzaKey → Bool
is_within span key = is_ge (key_cmp key span.first) && is_le (key_cmp key span.last)

module _ {X : Type 0} (stanza : X → StanzaKey) where
  -- each entry is of the stanza of those before it, or of a later one
  abbrev pub InOrder : List X → Type 0
  InOrder [] = Unit {0}
  InOrder (x ∷ xs) = AllByRecursion (λ y. is_le (key_cmp (stanza x) (stanza y)) ≡ true) xs × InOrder xs

  -- whether an entry is of an earlier stanza; of it or an earlier one
  abbrev pub is_before : StanzaKey → X → Bool
  is_before k x = is_lt (key_cmp (stanza x) k)

  abbrev pub is_through : StanzaKey → X → Bool
  is_through k x = is_le (key_cmp (stanza x) k)

  -- whether the last is of a later stanza
  abbrev pub ends_behind : StanzaKey → List X → Bool
  ends_behind k xs = option_map_or (λ x. is_gt (key_cmp (stanza x) k)) (slice_get xs (length xs - 1)) false

  -- with an entry, behind those of its stanza and of earlier ones
  abbrev pub put_in_order : X → List X → List X
  put_in_order a [] = a ∷ []
  put_in_order a (x ∷ xs) = if is_through (stanza a) x then x ∷ put_in_order a xs else a ∷ x ∷ xs

  -- those of no stanza of a span
  abbrev pub others : Span → List X → List X
  others span xs = filter (λ x. not (is_within span (stanza x))) xs

  -- without those of a span, where it is said so
  abbrev pub without_if : Span → Bool → List X → List X
  without_if span b xs = if b then others span xs else xs

-- ---- the span of keys

abbrev pub last_or : StanzaKey → List StanzaKey → StanzaKey
last_or key [] = key
last_or key (other ∷ keys) = last_or other keys

-- The first and the last of keys. Of no keys it is a span that holds none.
abbrev pub span_of : List StanzaKey → Span
span_of [] = record { first = key_of 1 0; last = key_of 0 0 }
span_of (key ∷ keys) = record { first = key; last = last_or key keys }
