-- What stands under a name is there: an offer is seen under each key, and has the name.
use Rattle.std.proofs.Common.{◌≡◌, ◌∙◌, ◌+◌, ◌&&◌, ℕ, Bool, true, false, cond, Option, None, Some, List, [], ◌∷◌, length, refl, ap, ap₂, arith}
use Rattle.std.specs.Cmp.Lexicographic.{nat_list_eq_equiv}
use Rattle.std.specs.List.{sum_by}
use Rattle.std.specs.Option.{option_map_or}
use Rattle.std.specs.Str.{bytes_eq}
use Rattle.std.proofs.lemmas.List.Sums.{sum_by-cons}
use Rattle.ctl_relation.specs.declared.operator.Operator.{Operator}
use Rattle.ctl_relation.specs.Met.{bound_met}
use Rattle.ctl_relation.specs.Parts.{AtomParts, OfferParts}
use Rattle.ctl_store.specs.declared.stanza_key.StanzaKey.{StanzaKey}
use Rattle.ctl_store.specs.Entries.{Entry, entries_by}
use Rattle.ctl_index.specs.declared.keys.OfferKey.{OfferKey}
use Rattle.ctl_index.specs.Inside.TablesIndexed.{keyed_offers, offers_sum}
use Rattle.ctl_index.specs.Inside.TablesPending.{Pending, seen, offer_seen, met_by, tested_by, missing, AreSeen, AreThere}
use Rattle.ctl_index.proofs.SeenLemmas.{all_seen_offers, come_seen}
use Rattle.ctl_index.proofs.SumLemmas.{sum-cong, sum-zero}

-- of what stanzas that are seen offer, none is missing under its name
none_of_seen : (s : Pending) (es : List Entry) → AreSeen s es → (q : List ℕ) → offers_sum q (missing s q) es ≡ 0
none_of_seen s es sees q =
    all_seen_offers s (λ k found o. cond (bytes_eq o.name q) (cond (option_map_or (λ (p : OfferParts). bytes_eq q p.name) found false) 0 1) 0) es sees
    ∙ sum-cong _ _ (λ (e : Entry). sum-cong _ _ (λ (y : OfferKey × OfferParts). none y.1) (keyed_offers e) ∙ sum-zero (keyed_offers e)) es
    ∙ sum-zero es
  where
    by : (n : Bool) → ◌≡◌ {A = ℕ} (cond n (cond n 0 1) 0) 0
    by true = refl
    by false = refl

    none : (o : OfferParts) → ◌≡◌ {A = ℕ} (cond (bytes_eq o.name q) (cond (bytes_eq q o.name) 0 1) 0) 0
    none o = ap (λ b. cond (bytes_eq o.name q) (cond b 0 1) 0) (nat_list_eq_equiv.symm q o.name) ∙ by (bytes_eq o.name q)

-- what stands in tables of stanzas that are seen is there
pub listed_there : (s : Pending) (offers : List ℕ → List OfferKey) (es : List Entry) → ((q : List ℕ) (f : OfferKey → ℕ) → sum_by f (offers q) ≡ offers_sum q f es)
    → AreSeen s es → AreThere s offers
listed_there s offers es fact sees = record { none_missing = λ q. fact q (missing s q) ∙ none_of_seen s es sees q }

-- and still is with what the stanzas under keys bring
pub more_there : (s : Pending) (keys : List StanzaKey) (old new : List ℕ → List OfferKey)
    → ((q : List ℕ) (f : OfferKey → ℕ) → sum_by f (new q) ≡ sum_by f (old q) + offers_sum q f (entries_by (seen s) keys))
    → AreThere s old → AreThere s new
more_there s keys old new fact there = record {
  none_missing = λ q. fact q (missing s q) ∙ ap₂ (λ (m n : ℕ). m + n) (there.none_missing q) (none_of_seen s (entries_by (seen s) keys) (come_seen s keys) q);
}

-- an offer that is there is met and tested once where there is no bound
met_one : (q : List ℕ) (bound : Option (Operator × List ℕ)) → bound ≡ None → (found : Option OfferParts)
    → ◌≡◌ {A = ℕ} (cond (option_map_or (λ (p : OfferParts). bytes_eq q p.name) found false) 0 1) 0
    → ◌≡◌ {A = ℕ} (option_map_or (λ (p : OfferParts). cond (bytes_eq q p.name && bound_met bound p.version) 1 0) found 0) 1
met_one q bound unbound None missed = omega (arith, missed)
met_one q bound unbound (Some o) missed =
    ap (λ (b : Option (Operator × List ℕ)). cond (bytes_eq q o.name && bound_met b o.version) 1 0) unbound ∙ by (bytes_eq q o.name) missed
  where
    by : (n : Bool) → ◌≡◌ {A = ℕ} (cond n 0 1) 0 → ◌≡◌ {A = ℕ} (cond (n && true) 1 0) 1
    by true missed = refl
    by false missed = omega (arith, missed)

tested_one : (q : List ℕ) (found : Option OfferParts)
    → ◌≡◌ {A = ℕ} (cond (option_map_or (λ (p : OfferParts). bytes_eq q p.name) found false) 0 1) 0
    → ◌≡◌ {A = ℕ} (option_map_or (λ (p : OfferParts). 1) found 0) 1
tested_one q None missed = omega (arith, missed)
tested_one q (Some o) missed = refl

-- offers that are there all meet an atom of their name without a bound, and each is tested once
pub all_met : (s : Pending) (atom : AtomParts) → atom.bound ≡ None → (ks : List OfferKey) → sum_by (missing s atom.name) ks ≡ 0
    → sum_by (met_by s atom) ks ≡ length ks
all_met s atom unbound [] there = refl
all_met s atom unbound (k ∷ ks) there =
    let first = sum_by-cons (missing s atom.name) k ks in
    let one : met_by s atom k ≡ 1 = met_one atom.name atom.bound unbound (offer_seen s k) (omega (arith, first, there)) in
    omega (arith, sum_by-cons (met_by s atom) k ks, one, all_met s atom unbound ks (omega (arith, first, there)))

pub all_tested_once : (s : Pending) (q : List ℕ) (ks : List OfferKey) → sum_by (missing s q) ks ≡ 0 → sum_by (tested_by s) ks ≡ length ks
all_tested_once s q [] there = refl
all_tested_once s q (k ∷ ks) there =
    let first = sum_by-cons (missing s q) k ks in
    let one : tested_by s k ≡ 1 = tested_one q (offer_seen s k) (omega (arith, first, there)) in
    omega (arith, sum_by-cons (tested_by s) k ks, one, all_tested_once s q ks (omega (arith, first, there)))
