use Rattle.std.proofs.Common.{◌≡◌, ◌<◌, List, [], ◌∷◌, ℕ, length, take, option_map, ap, sym, subst, ◌∙◌, arith, get_or}
use Rattle.std.specs.List.{sum_by}
use Rattle.std.proofs.lemmas.List.{take_all}
use Rattle.std.proofs.lemmas.List.Sums.{sum_by_more, sum_by_more_le}
use Rattle.ctl_store.specs.declared.stanza_key.StanzaKey.{StanzaKey}
use Rattle.ctl_index.specs.declared.keys.NamingAtom.{NamingAtom}
use Rattle.ctl_index.specs.declared.keys.OfferKey.{OfferKey}
use Rattle.ctl_index.specs.declared.named.ChosenRows.{ChosenRows}
use Rattle.ctl_index.specs.Offers.{contents, offers_among}
use Rattle.ctl_index.specs.Inside.TablesByName.{rows_under}
use Rattle.ctl_index.specs.Inside.TablesCounters.{counted_up}
use Rattle.ctl_index.specs.Inside.TablesHeld.{namers_in, number_in, rows_in}
use Rattle.ctl_index.specs.Inside.TablesFit.{IsWholeAt}
use Rattle.ctl_index.specs.Inside.TablesIndexed.{keyed_offers, offer_named}
use Rattle.ctl_index.specs.Inside.TablesLoaded.{all_hits}
use Rattle.ctl_index.specs.Inside.TablesPending.{seen, entries_seen}
use Rattle.ctl_index.specs.Inside.TablesRows.{AreRowsPut}
use Rattle.ctl_index.specs.Inside.TablesTests.{of_found, offer_hits, offers_tests, offers_tested}
use Rattle.ctl_index.specs.Work.{more_by}
use Rattle.ctl_index.proofs.CounterLemmas.{counted_up_twice, more_by_twice}
use Rattle.ctl_index.proofs.FitLemmas.{one_more}
use Rattle.ctl_index.proofs.KeptLemmas.{more_put}
use Rattle.ctl_index.proofs.NameLemmas.{all_chosen}
use Rattle.ctl_index.proofs.SumLemmas.{come_more, offers_more}
use Rattle.ctl_index.proofs.coming.put_offers_and_rows.Goals as goal

pub returns-in_err-put_offers_at-clause-most : goal.returns-in_err-put_offers_at-clause-most
returns-in_err-put_offers_at-clause-most c =
    let s = c.args.pending.now in
    let keys = c.args.keys.now in
    let i = c.loop-key.key-index in
    let d : StanzaKey = record { list = 0; stanza = 0 } in
    let below : i < length keys = omega arith in
    let f : (List ℕ → List NamingAtom) → StanzaKey → ℕ = λ t. of_found (seen s) (offers_tests s t) in
    let t = namers_in c.args.tables.now in
    let one : f (namers_in c.loop-key.tables) (get_or keys i d) ≡ f t (get_or keys i d) = ap (λ (u : List ℕ → List NamingAtom). f u (get_or keys i d)) c.loop-key.invariant.namers in
    omega (arith, c.put_offers_at.ensures.most, one, c.loop-key.invariant.steps, sum_by_more_le (f t) keys i d below)

pub returns-in_err-put_row_at-clause-most : goal.returns-in_err-put_row_at-clause-most
returns-in_err-put_row_at-clause-most c =
    let s = c.args.pending.now in
    let keys = c.args.keys.now in
    let i = c.loop-key.key-index in
    let d : StanzaKey = record { list = 0; stanza = 0 } in
    let below : i < length keys = omega arith in
    let f : (List ℕ → List NamingAtom) → StanzaKey → ℕ = λ t. of_found (seen s) (offers_tests s t) in
    let t = namers_in c.args.tables.now in
    let one : f (namers_in c.loop-key.tables) (get_or keys i d) ≡ f t (get_or keys i d) = ap (λ (u : List ℕ → List NamingAtom). f u (get_or keys i d)) c.loop-key.invariant.namers in
    omega (arith, c.put_offers_at.ensures.most, one, c.loop-key.invariant.steps, sum_by_more_le (f t) keys i d below)

pub loop-key-preserved : goal.loop-key-preserved
loop-key-preserved c =
    let s = c.args.pending.now in
    let keys = c.args.keys.now in
    let i = c.loop-key.key-index in
    let d : StanzaKey = record { list = 0; stanza = 0 } in
    let key = get_or keys i d in
    let below : i < length keys = omega arith in
    let t = namers_in c.args.tables.now in
    record {
      whole = one_more (IsWholeAt (seen s)) keys i d below c.loop-key.invariant.whole c.in_ok-put_offers_at.ensures.whole;
      offers = λ q f. omega (arith, ap (λ (o : List ℕ → List OfferKey). sum_by f (o q)) c.in_ok-put_row_at.ensures.offers, c.in_ok-put_offers_at.ensures.offers q f, c.loop-key.invariant.offers q f, come_more (seen s) (λ e. sum_by (offer_named q f) (keyed_offers e)) keys i d below);
      namers = c.in_ok-put_row_at.ensures.namers ∙ c.in_ok-put_offers_at.ensures.namers ∙ c.loop-key.invariant.namers;
      rows = more_put (seen s) keys i d below (rows_in c.args.tables.now) (rows_in c.loop-key.tables) (rows_under c.put_row_at.new.names.map) c.loop-key.invariant.rows
          (subst (λ (own : List ℕ → ChosenRows). AreRowsPut (entries_seen s (key ∷ [])) (λ q. (own q).rows) (rows_under c.put_row_at.new.names.map)) c.in_ok-put_offers_at.ensures.rows c.in_ok-put_row_at.ensures.rows);
      chosen = c.in_ok-put_row_at.ensures.chosen ∙ ap all_chosen c.in_ok-put_offers_at.ensures.rows ∙ c.loop-key.invariant.chosen;
      counts = λ k.
          let was = number_in c.args.tables.now k in
          c.in_ok-put_offers_at.ensures.counts k
          ∙ (λ j. option_map (counted_up (all_hits s (c.loop-key.invariant.namers j) (offers_among (contents (entries_seen s (key ∷ [])))) k)) (c.loop-key.invariant.counts k j))
          ∙ counted_up_twice (all_hits s t (offers_among (contents (entries_seen s (take i keys)))) k) (all_hits s t (offers_among (contents (entries_seen s (key ∷ [])))) k) was
          ∙ ap (λ n. option_map (counted_up n) was) (sym (offers_more (seen s) (λ o. offer_hits s t o k) keys i d below));
      steps =
          c.in_ok-put_offers_at.ensures.steps ∙ ap (λ (u : List ℕ → List NamingAtom). more_by (of_found (seen s) (offers_tests s u) key) c.loop-key.tables.steps) c.loop-key.invariant.namers
          ∙ ap (more_by _) c.loop-key.invariant.steps ∙ more_by_twice (offers_tested s t (take i keys)) _ c.args.tables.now.steps
          ∙ ap (λ n. more_by n c.args.tables.now.steps) (sym (sum_by_more (of_found (seen s) (offers_tests s t)) keys i d below));
    }

pub returns-clause-rows : goal.returns-clause-rows
returns-clause-rows c =
    subst (λ keys. AreRowsPut (entries_seen c.args.pending.now keys) (rows_in c.args.tables.now) (rows_in c.loop-key.tables)) (take_all c.loop-key.key-index c.args.keys.now (omega arith)) c.loop-key.invariant.rows
