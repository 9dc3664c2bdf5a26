-- Pairs of an atom and an offer of many stanzas.
use Rattle.std.proofs.Common.{◌*◌, ◌<◌, ◌≤◌, ◌^◌, ℕ, List, [], ◌∷◌, length, arith, mul-le-mul, lt_of_le_of_lt}
use Rattle.std.specs.List.{All, sum_by, flat_map}
use Rattle.std.proofs.lemmas.List.Elements.{All-head, All-tail, All-weaker}
use Rattle.std.proofs.lemmas.List.Concat.{length-flat_map}
use Rattle.std.proofs.lemmas.List.Sums.{sum_by-cons}
use Rattle.ctl_relation.specs.Met.{met_pairs}
use Rattle.ctl_relation.specs.Parts.{AtomParts, OfferParts}
use Rattle.ctl_stanza.specs.Content.{Content, offers_of}
use Rattle.ctl_stanza.specs.Sound.{IsWhole, IsSound, PairsFit, MetPairsFit, OwnMetPairsFit, atoms_of}

-- numbers that are each below 2^32 come to less than so many times 2^32
sum-le : (f : Content → ℕ) (contents : List Content) → All (λ content. f content < 2 ^ 32) contents → sum_by f contents ≤ length contents * 4294967295
sum-le f [] h = omega arith
sum-le f (c ∷ cs) h =
    let P : Content → Type 0 = λ content. f content < 2 ^ 32 in
    omega (arith, sum_by-cons f c cs, All-head P c cs h, sum-le f cs (All-tail P c cs h))

-- numbers of stanzas that are each below 2^32 come to less than 2^64
few : (f : Content → ℕ) (contents : List Content) → length contents < 2 ^ 32 → ((content : Content) → IsWhole content → f content < 2 ^ 32) → All IsWhole contents
    → sum_by f contents ≤ 18446744065119617025
few f contents short small whole =
    omega (arith, short, sum-le f contents (All-weaker IsWhole (λ content. f content < 2 ^ 32) small contents whole))

module _ (sounds : (content : Content) → IsWhole content → IsSound content) (contents : List Content) (short : length contents < 2 ^ 32) (whole : All IsWhole contents) where
  atoms-few : sum_by atoms_of contents ≤ 18446744065119617025
  atoms-few = few atoms_of contents short (λ content w. (sounds content w).all_atoms) whole

  offers-few : sum_by (λ (content : Content). length (offers_of content)) contents ≤ 18446744065119617025
  offers-few = few (λ content. length (offers_of content)) contents short (λ content w. (sounds content w).offers) whole

  met-fit : ((atoms : List AtomParts) (offers : List OfferParts) → met_pairs atoms offers ≤ length atoms * length offers)
      → (atoms : List AtomParts) → length atoms < 2 ^ 64 → met_pairs atoms (flat_map offers_of contents) < 2 ^ 128
  met-fit most atoms small =
      let offers : length (flat_map offers_of contents) ≤ 18446744065119617025 = omega (arith, offers-few, length-flat_map offers_of contents) in
      let atoms' : length atoms ≤ 18446744073709551615 = omega (arith, small) in
      lt_of_le_of_lt (most atoms (flat_map offers_of contents)) (lt_of_le_of_lt (mul-le-mul atoms' offers) (omega arith))

pub pairs_fit : ((content : Content) → IsWhole content → IsSound content) → PairsFit
pairs_fit sounds contents short whole =
    lt_of_le_of_lt (mul-le-mul (atoms-few sounds contents short whole) (offers-few sounds contents short whole)) (omega arith)

module _ (sounds : (content : Content) → IsWhole content → IsSound content)
    (most : (atoms : List AtomParts) (offers : List OfferParts) → met_pairs atoms offers ≤ length atoms * length offers) where
  pub met_fit : MetPairsFit
  met_fit atoms contents small short whole = met-fit sounds contents short whole most atoms small

  pub own_met_fit : OwnMetPairsFit
  own_met_fit atoms contents own short whole = met-fit sounds contents short whole most atoms (omega (arith, own, atoms-few sounds contents short whole))
