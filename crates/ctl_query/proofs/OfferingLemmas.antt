-- Of a package that offers no such name there is no entry of Provides to tell.
use Rattle.std.proofs.Common.{◌≡◌, ◌∙◌, ◌&&◌, ◌||◌, ℕ, Bool, true, false, not, cond, List, [], ◌∷◌, ◌++◌, map, flat_map, Some, refl, ap, sym}
use Rattle.std.specs.Option.{option_map_or}
use Rattle.std.specs.List.{AllByRecursion, list_any, filter}
use Rattle.std.specs.Str.{bytes_eq}
use Rattle.std.proofs.lemmas.List.Folds.{list_any-append}
use Rattle.ctl_relation.specs.Parts.{AtomParts, OfferParts}
use Rattle.ctl_stanza.specs.Content.{Content, package_of, version_of, is_live, offer_of, offers_in, offers_of, provides_of}
use Rattle.ctl_store.specs.declared.stanza_key.StanzaKey.{StanzaKey}
use Rattle.ctl_store.specs.Entries.{Entry, AreAt}
use Rattle.ctl_store.specs.Store.{Held, keyed_of}
use Rattle.ctl_index.specs.HeldCache.{standing}
use Rattle.ctl_index.specs.Offers.{offers_named}
use Rattle.ctl_store.specs.Keys.{stanza_at}
use Rattle.ctl_query.specs.Packages.{is_none_of}
use Rattle.ctl_query.specs.Interest.{is_provider, provides_it}
use Rattle.ctl_query.specs.ShowPackage.{has_name, line_if_providing, providing_lines}
use Rattle.ctl_query.proofs.KnownLemmas.{left_false, right_false}
use Rattle.ctl_query.proofs.NamingLemmas.{flat_none, true_or}
use Rattle.ctl_query.proofs.SilentLemmas.{IsSilent}

-- none of these offers is of the name
abbrev AreOthers : List ℕ → List OfferParts → Type 0
AreOthers name offers = AllByRecursion (λ (offer : OfferParts). bytes_eq offer.name name ≡ false) offers

module _ (p : StanzaKey → Bool) (name : List ℕ) where
  abbrev hit : StanzaKey × OfferParts → Bool
  hit offer = p offer.0

  abbrev kept : List OfferParts → List OfferParts
  kept offers = filter (λ (offer : OfferParts). bytes_eq offer.name name) offers

  in_stanza : (key : StanzaKey) (offers : List OfferParts) → p key ≡ true → list_any hit (map (λ (offer : OfferParts). (key, offer)) (kept offers)) ≡ false → AreOthers name offers
  in_stanza key [] is none = tt
  in_stanza key (offer ∷ offers) is none = by (bytes_eq offer.name name) refl (λ later. in_stanza key offers is later) none
    where
      by : (b : Bool) → bytes_eq offer.name name ≡ b → (list_any hit (map (λ (offer : OfferParts). (key, offer)) (kept offers)) ≡ false → AreOthers name offers) → list_any hit (map (λ (offer : OfferParts). (key, offer)) (cond b (offer ∷ kept offers) (kept offers))) ≡ false → AreOthers name (offer ∷ offers)
      by true e rest h = absurd (true_or (p key) (list_any hit (map (λ (offer : OfferParts). (key, offer)) (kept offers))) is h)
      by false e rest h = (e, rest h)

  in_entries : (es : List Entry) → list_any hit (offers_named name es) ≡ false → AllByRecursion (λ (e : Entry). p e.0 ≡ true → AreOthers name (offers_of e.1)) es
  in_entries [] none = tt
  in_entries (e ∷ es) none =
      let parts = sym (list_any-append hit (map (λ (offer : OfferParts). (e.0, offer)) (kept (offers_of e.1))) (offers_named name es)) ∙ none in
      ((λ is. in_stanza e.0 (offers_of e.1) is (left_false _ _ parts)), in_entries es (right_false _ _ parts))

-- ---- its entries

behind : (name : List ℕ) (xs ys : List OfferParts) → AreOthers name (xs ++ ys) → AreOthers name ys
behind name [] ys h = h
behind name (x ∷ xs) ys h = behind name xs ys h.1

first_other : (name : List ℕ) (group : List AtomParts) (ys : List OfferParts) → AreOthers name (map offer_of group ++ ys) → has_name name group ≡ false
first_other name [] ys h = refl
first_other name (atom ∷ others) ys h = h.0

groups_none : (name : List ℕ) (lead : Content) (groups : List (List AtomParts)) → AreOthers name (offers_in groups) → AllByRecursion (λ group. line_if_providing name lead group ≡ []) groups
groups_none name lead [] h = tt
groups_none name lead (group ∷ groups) h =
    let other = first_other name group (offers_in groups) h in
    (rw other refl, groups_none name lead groups (behind name (map offer_of group) (offers_in groups) h))

entries_none : (name : List ℕ) (lead : Content) → AreOthers name (offers_of lead) → providing_lines name lead ≡ []
unfolding providing_lines
entries_none name lead h = flat_none (line_if_providing name lead) (provides_of lead) (by (is_live lead) refl h)
  where
    by : (b : Bool) → is_live lead ≡ b → AreOthers name (cond b (record { name = package_of lead; version = version_of lead } ∷ offers_in (provides_of lead)) []) → AllByRecursion (λ group. line_if_providing name lead group ≡ []) (provides_of lead)
    by true live h = groups_none name lead (provides_of lead) h.1
    by false live h = rw live tt

-- a test of the keys of offers
any_first : (p : StanzaKey → Bool) (offers : List (StanzaKey × OfferParts)) → list_any (λ (offer : StanzaKey × OfferParts). p offer.0) offers ≡ list_any p (map (λ (offer : StanzaKey × OfferParts). offer.0) offers)
any_first p [] = refl
any_first p (offer ∷ offers) = ap (λ b. p offer.0 || b) (any_first p offers)

nothing : (name : List ℕ) (lead : Content) (groups : List (List AtomParts)) → is_none_of groups ≡ true → flat_map (line_if_providing name lead) groups ≡ []
nothing name lead [] h = refl
nothing name lead (group ∷ groups) h = cc

module _ (store : Held) (name asker : List ℕ) where
  provider : (e : Entry) → stanza_at e.0 (keyed_of store).lists ≡ Some e.1 → bytes_eq asker (package_of e.1) ≡ true → is_none_of (provides_of e.1) ≡ false → is_provider store asker e.0 ≡ true
  provider e at is some =
      ap (λ stanza. option_map_or (λ stanza. bytes_eq asker (package_of stanza) && not (is_none_of (provides_of stanza))) stanza false) at
      ∙ ap (λ b. b && not (is_none_of (provides_of e.1))) is ∙ ap not some

  lead_silent : (lead : Content) → (is_none_of (provides_of lead) ≡ false → AreOthers name (offers_of lead)) → providing_lines name lead ≡ []
  unfolding providing_lines
  lead_silent lead others = by (is_none_of (provides_of lead)) refl
    where
      by : (b : Bool) → is_none_of (provides_of lead) ≡ b → flat_map (line_if_providing name lead) (provides_of lead) ≡ []
      by true none = nothing name lead (provides_of lead) none
      by false some = entries_none name lead (others some)

  silent_providers : (es : List Entry) → AreAt es (keyed_of store).lists → AllByRecursion (λ (e : Entry). is_provider store asker e.0 ≡ true → AreOthers name (offers_of e.1)) es → IsSilent (providing_lines name) asker es
  silent_providers [] at h = tt
  silent_providers (e ∷ es) at h = ((λ is. lead_silent e.1 (λ some. h.0 (provider e at.0 is some))), silent_providers es at.1 h.1)

-- Nothing is told of who provides a name by a package no stanza of which offers it and has entries of Provides.
pub providing_silent : (store : Held) (name asker : List ℕ) → AreAt (standing store) (keyed_of store).lists → provides_it store name asker ≡ false → IsSilent (providing_lines name) asker (standing store)
providing_silent store name asker at none =
    silent_providers store name asker (standing store) at
    (in_entries (is_provider store asker) name (standing store) (any_first (is_provider store asker) (offers_named name (standing store)) ∙ none))
