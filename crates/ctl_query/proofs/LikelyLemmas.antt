-- Leads that are the ones at the slots of their keys.
use Rattle.std.proofs.Common.{◌≡◌, ◌∙◌, ◌+◌, ◌<◌, ℕ, zero, suc, List, [], ◌∷◌, length, get_or, Some, inl, inr, sym, ap, arith, Bor}
use Rattle.std.proofs.lemmas.Bool.{cases_lt}
use Rattle.ctl_stanza.specs.Content.{Content}
use Rattle.ctl_store.specs.declared.stanza_key.StanzaKey.{StanzaKey}
use Rattle.ctl_query.specs.Leads.{key_at}
use Rattle.ctl_query.specs.LeadTable.{lent_leads, likely_place}
use Rattle.ctl_query.proofs.AtomLemmas.{some_is}
use Rattle.ctl_query.proofs.ListedAtomLemmas.{lent_key}

-- a lead that has a key is one of the leads
pub key_within : (leads : List (StanzaKey × Bor Content)) (i : ℕ) (k : StanzaKey) → key_at (lent_leads leads) i ≡ Some k → i < length leads
key_within [] i k at = cc
key_within (lead ∷ leads) zero k at = omega arith
key_within (lead ∷ leads) (suc i) k at = let within : i < length leads = key_within leads i k at in omega (arith, within)

module _ (leads : List (StanzaKey × Bor Content)) (likely : List ℕ) where
  -- the leads below a place are the ones at the slots of their keys
  abbrev pub AreLikelyBelow : ℕ → Type 0
  AreLikelyBelow n = (i : ℕ) (k : StanzaKey) → i < n → key_at (lent_leads leads) i ≡ Some k → likely_place k likely ≡ i

  -- one lead more
  pub likely_more : (n : ℕ) (d : StanzaKey × Bor Content) → n < length leads → likely_place (get_or leads n d).0 likely ≡ n → AreLikelyBelow n → AreLikelyBelow (n + 1)
  likely_more n d within here before i k below at = elim (cases_lt i n) [
    | inl less ↦ before i k less at
    | inr more ↦
        let same : i ≡ n = omega (arith, below, more) in
        let its : k ≡ (get_or leads n d).0 = some_is k (get_or leads n d).0 (sym at ∙ ap (key_at (lent_leads leads)) same ∙ lent_key leads n d within) in
        ap (λ key. likely_place key likely) its ∙ here ∙ sym same
  ]
