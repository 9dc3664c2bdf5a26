-- The providers of an atom, found among the offers of its name.
use Rattle.std.proofs.Common.{◌≡◌, ◌∙◌, ℕ, ◌+◌, Bool, true, false, cond, not, ◌&&◌, ◌||◌, List, [], ◌∷◌, length, map, Option, Some, refl, sym, ap}
use Rattle.std.specs.Cmp.Lexicographic.{slice_cmp}
use Rattle.std.specs.List.{list_any, filter, count_by}
use Rattle.std.specs.List.Sorted.{IsStrictlySortedBy, IsPermutation}
use Rattle.std.specs.Option.{option_map_or}
use Rattle.std.specs.Ordering.{nat_cmp}
use Rattle.std.specs.Str.{bytes_eq}
use Rattle.std.proofs.lemmas.List.{length-append, length-map}
use Rattle.std.proofs.lemmas.List.Folds.{list_any-append}
use Rattle.std.proofs.lemmas.List.Sums.{length-filter, sum_by-append}
use Rattle.std.proofs.lemmas.List.Sorted.{list_any-IsPermutation, length_permutation}
use Rattle.ctl_relation.specs.Met.{met, bound_met}
use Rattle.ctl_relation.specs.Parts.{AtomParts, OfferParts}
use Rattle.ctl_stanza.specs.Content.{Content, package_of, offers_of}
use Rattle.ctl_store.specs.declared.stanza_key.StanzaKey.{StanzaKey}
use Rattle.ctl_store.specs.Entries.{Entry, AreAt}
use Rattle.ctl_store.specs.Store.{Held, keyed_of}
use Rattle.ctl_store.specs.Keys.{stanza_at}
use Rattle.ctl_index.specs.HeldCache.{standing}
use Rattle.ctl_index.specs.Offers.{contents, offers_among, offers_named}
use Rattle.ctl_policy.specs.Priority.{world_of}
use Rattle.ctl_query.specs.Depends.{is_met_by, providers, atom_pairs}
use Rattle.ctl_query.specs.NameSet.{is_among}
use Rattle.ctl_query.specs.Providers.{gives, gives_at}
use Rattle.ctl_query.proofs.EntryLemmas.{contents_are}
use Rattle.ctl_query.proofs.OrderLemmas.{is_in_order}
use Rattle.ctl_query.proofs.SilentLemmas.{swapped}

or_moved : (a b c : Bool) → (b || (a || c)) ≡ ((a || b) || c)
or_moved true true c = refl
or_moved true false c = refl
or_moved false b c = refl

-- one offer more is done
pub one_more : (store : Held) (atom : AtomParts) (key : StanzaKey) (offer : OfferParts) (stanza : Content) (its rest : List (StanzaKey × OfferParts)) (old new : List (List ℕ)) (name : List ℕ) (all : Bool) →
    its ≡ (key, offer) ∷ rest → Some stanza ≡ stanza_at key (keyed_of store).lists → is_among new name ≡ (gives atom name stanza offer || is_among old name) →
    (list_any (gives_at store atom name) its || is_among old name) ≡ all → (list_any (gives_at store atom name) rest || is_among new name) ≡ all
one_more store atom key offer stanza its rest old new name all are is grown before =
    let any : List (StanzaKey × OfferParts) → Bool = list_any (gives_at store atom name) in
    ap (λ b. any rest || b) grown ∙ or_moved (gives atom name stanza offer) (any rest) (is_among old name)
    ∙ ap (λ (o : Option Content). (option_map_or (λ stanza. gives atom name stanza offer) o false || any rest) || is_among old name) is
    ∙ ap (λ xs. any xs || is_among old name) (sym are) ∙ before

-- ---- the offers of one stanza

-- by its three tests: whether the package has another name, whether an offer meets the atom, and whether it is the name
joined : (d m r s : Bool) → (((d && m) && s) || ((d && r) && s)) ≡ ((d && (m || r)) && s)
joined true true true true = refl
joined true true true false = refl
joined true true false true = refl
joined true true false false = refl
joined true false r s = refl
joined false m r s = refl

not_met : (atom : AtomParts) (offer : OfferParts) → bytes_eq offer.name atom.name ≡ false → met atom offer ≡ false
not_met atom offer e = ap (λ b. b && bound_met atom.bound offer.version) (swapped atom.name offer.name ∙ e)

module _ (store : Held) (atom : AtomParts) (name : List ℕ) where
  none_given : (d s : Bool) → false ≡ ((d && false) && s)
  none_given true s = refl
  none_given false s = refl

  abbrev other : Content → Bool
  other stanza = not (bytes_eq (package_of stanza) atom.name)

  abbrev is_its : Content → Bool
  is_its stanza = bytes_eq name (package_of stanza)

  -- the offers of the atom's name
  abbrev named : List OfferParts → List OfferParts
  named offers = filter (λ (offer : OfferParts). bytes_eq offer.name atom.name) offers

  abbrev any_given : StanzaKey → List OfferParts → Bool
  any_given key offers = list_any (gives_at store atom name) (map (λ (offer : OfferParts). (key, offer)) offers)

  of_stanza : (key : StanzaKey) (stanza : Content) (offers : List OfferParts) → stanza_at key (keyed_of store).lists ≡ Some stanza →
      any_given key (named offers) ≡ ((other stanza && list_any (met atom) offers) && is_its stanza)
  of_stanza key stanza [] is = none_given (other stanza) (is_its stanza)
  of_stanza key stanza (offer ∷ offers) is = by (bytes_eq offer.name atom.name) refl (of_stanza key stanza offers is)
    where
      by : (b : Bool) → bytes_eq offer.name atom.name ≡ b → any_given key (named offers) ≡ ((other stanza && list_any (met atom) offers) && is_its stanza) →
          any_given key (cond b (offer ∷ named offers) (named offers)) ≡ ((other stanza && (met atom offer || list_any (met atom) offers)) && is_its stanza)
      by true e later =
          ap (λ (o : Option Content). option_map_or (λ stanza. gives atom name stanza offer) o false || any_given key (named offers)) is
          ∙ ap (λ b. ((other stanza && met atom offer) && is_its stanza) || b) later ∙ joined (other stanza) (met atom offer) (list_any (met atom) offers) (is_its stanza)
      by false e later = later ∙ ap (λ b. (other stanza && (b || list_any (met atom) offers)) && is_its stanza) (sym (not_met atom offer e))

  -- ---- those of all stanzas

  -- the packages of the stanzas that meet the atom, but its own name
  abbrev packages : List Content → List (List ℕ)
  packages stanzas = filter (λ n. not (bytes_eq n atom.name)) (map package_of (filter (is_met_by atom) stanzas))

  abbrev kept : List (List ℕ) → List (List ℕ)
  kept names = filter (λ n. not (bytes_eq n atom.name)) names

  of_entries : (es : List Entry) → AreAt es (keyed_of store).lists → list_any (gives_at store atom name) (offers_named atom.name es) ≡ is_among (packages (contents es)) name
  of_entries [] at = refl
  of_entries (e ∷ es) at =
      list_any-append (gives_at store atom name) (map (λ (offer : OfferParts). (e.0, offer)) (named (offers_of e.1))) (offers_named atom.name es)
      ∙ ap (λ b. b || list_any (gives_at store atom name) (offers_named atom.name es)) (of_stanza e.0 e.1 (offers_of e.1) at.0)
      ∙ ap (λ b. ((other e.1 && list_any (met atom) (offers_of e.1)) && is_its e.1) || b) (of_entries es at.1)
      ∙ by (is_met_by atom e.1) (other e.1) refl
    where
      by : (m d : Bool) → other e.1 ≡ d →
          (((d && m) && is_its e.1) || is_among (packages (contents es)) name) ≡ is_among (kept (map package_of (cond m (e.1 ∷ filter (is_met_by atom) (contents es)) (filter (is_met_by atom) (contents es))))) name
      by true true f = rw f refl
      by true false f = rw f refl
      by false true f = refl
      by false false f = refl

-- The names that the offers give, in order, are the providers.
pub providers_are : (store : Held) (atom : AtomParts) (offers : List (StanzaKey × OfferParts)) (names : List (List ℕ)) → AreAt (standing store) (keyed_of store).lists →
    IsPermutation (offers_named atom.name (standing store)) offers → IsStrictlySortedBy (slice_cmp nat_cmp) names →
    ((name : List ℕ) → is_among names name ≡ list_any (gives_at store atom name) offers) → names ≡ providers (world_of store) atom
unfolding providers
providers_are store atom offers names at are sorted given =
    is_in_order names _ sorted (λ name.
    given name ∙ sym (list_any-IsPermutation (gives_at store atom name) (offers_named atom.name (standing store)) offers are)
    ∙ of_entries store atom name (standing store) at ∙ ap (λ xs. is_among (packages store atom name xs) name) (contents_are (keyed_of store).lists))

-- ---- how many there are

-- whether an offer is of a name
abbrev is_of : List ℕ → OfferParts → Bool
is_of name offer = bytes_eq offer.name name

counted : (name : List ℕ) (es : List Entry) → length (offers_named name es) ≡ count_by (is_of name) (offers_among (contents es))
counted name [] = refl
counted name (e ∷ es) =
    length-append (map (λ (offer : OfferParts). (e.0, offer)) (filter (is_of name) (offers_of e.1))) (offers_named name es)
    ∙ (λ i. (length-map {B = StanzaKey × OfferParts} (filter (is_of name) (offers_of e.1)) (λ (offer : OfferParts). (e.0, offer)) ∙ length-filter (is_of name) (offers_of e.1)) i + counted name es i)
    ∙ sym (sum_by-append (λ (offer : OfferParts). cond (is_of name offer) 1 0) (offers_of e.1) (offers_among (contents es)))

-- there are as many offers of the name of an atom as the definition counts
pub as_many : (store : Held) (atom : AtomParts) (offers : List (StanzaKey × OfferParts)) → IsPermutation (offers_named atom.name (standing store)) offers → length offers ≡ atom_pairs (world_of store) atom
unfolding atom_pairs
as_many store atom offers are =
    length_permutation (offers_named atom.name (standing store)) offers are ∙ counted atom.name (standing store)
    ∙ ap (λ xs. count_by (is_of atom.name) (offers_among xs)) (contents_are (keyed_of store).lists)
