use Rattle.std.proofs.Common.{◌≡◌, ◌<◌, ◌+◌, List, [], ◌∷◌, ℕ, length, take, drop, ap, sym, subst, ◌∙◌, arith, get_or, rules}
use Rattle.std.specs.List.{sum_by}
use Rattle.std.proofs.lemmas.List.{at_drop_more}
use Rattle.std.proofs.lemmas.List.Sums.{sum_by_more, sum_by_more_le}
use Rattle.ctl_store.specs.declared.stanza_key.StanzaKey.{StanzaKey}
use Rattle.ctl_index.specs.declared.keys.OfferKey.{OfferKey}
use Rattle.ctl_index.specs.Clauses.{clause_at}
use Rattle.ctl_index.specs.Names.{naming_fields, keyed_atoms}
use Rattle.ctl_index.specs.Inside.TablesHeld.{offers_in, number_told}
use Rattle.ctl_index.specs.Inside.TablesIndexed.{atom_named}
use Rattle.ctl_index.specs.Inside.TablesLoaded.{ComeApart, number_with}
use Rattle.ctl_index.specs.Inside.TablesPending.{seen, entries_seen}
use Rattle.ctl_index.specs.Inside.TablesTests.{of_found, fields_tested, atoms_tested}
use Rattle.ctl_index.specs.Work.{more_by}
use Rattle.ctl_index.proofs.CounterLemmas.{more_by_twice}
use Rattle.ctl_index.proofs.SeenLemmas.{apart_behind, clauses_come}
use Rattle.ctl_index.proofs.SumLemmas.{come_more}
use Rattle.ctl_index.proofs.coming.list_atoms.Goals as goal

pub loop-key-preserved : goal.loop-key-preserved
loop-key-preserved c =
    let s = c.args.pending.now in
    let keys = c.args.keys.now in
    let i = c.loop-key.key-index in
    let d : StanzaKey = record { list = 0; stanza = 0 } in
    let key = get_or keys i d in
    let below : i < length keys = omega arith in
    let t = offers_in c.args.tables.now in
    let left : ComeApart s keys → ComeApart s (key ∷ drop (i + 1) keys) = λ apart. subst (ComeApart s) (at_drop_more (λ (ks : List StanzaKey). ks) keys i d below) (c.loop-key.invariant.apart apart) in
    record {
      namers = λ q f. omega (arith, c.in_ok-put_atoms_at.ensures.namers q f, c.loop-key.invariant.namers q f, come_more (seen s) (λ e. sum_by (atom_named q f) (keyed_atoms e)) keys i d below);
      offers = search rules;
      rows = search rules;
      apart = λ apart. apart_behind s key (drop (i + 1) keys) (left apart);
      counts = λ apart k.
          let now = number_told c.loop-key.tables k in
          ap (number_with s t k.field (clause_at k (entries_seen s (drop (i + 1) keys)))) (c.in_ok-put_atoms_at.ensures.counts k ∙ ap (λ (u : List ℕ → List OfferKey). number_with s u k.field (clause_at k (entries_seen s (key ∷ []))) now) c.loop-key.invariant.offers)
          ∙ clauses_come s t k key (drop (i + 1) keys) (left apart) now
          ∙ sym (at_drop_more (λ ks. number_with s t k.field (clause_at k (entries_seen s ks)) now) keys i d below) ∙ c.loop-key.invariant.counts apart k;
      steps =
          c.in_ok-put_atoms_at.ensures.steps ∙ ap (λ (u : List ℕ → List OfferKey). more_by (of_found (seen s) (fields_tested s u naming_fields) key) c.loop-key.tables.steps) c.loop-key.invariant.offers
          ∙ ap (more_by _) c.loop-key.invariant.steps ∙ more_by_twice (atoms_tested s t (take i keys)) _ c.args.tables.now.steps
          ∙ ap (λ n. more_by n c.args.tables.now.steps) (sym (sum_by_more (of_found (seen s) (fields_tested s t naming_fields)) keys i d below));
    }

pub returns-in_err-put_atoms_at-clause-most : goal.returns-in_err-put_atoms_at-clause-most
returns-in_err-put_atoms_at-clause-most c =
    let s = c.args.pending.now in
    let keys = c.args.keys.now in
    let i = c.loop-key.key-index in
    let d : StanzaKey = record { list = 0; stanza = 0 } in
    let below : i < length keys = omega arith in
    let f : (List ℕ → List OfferKey) → StanzaKey → ℕ = λ t. of_found (seen s) (fields_tested s t naming_fields) in
    let t = offers_in c.args.tables.now in
    let one : f (offers_in c.loop-key.tables) (get_or keys i d) ≡ f t (get_or keys i d) = ap (λ (u : List ℕ → List OfferKey). f u (get_or keys i d)) c.loop-key.invariant.offers in
    omega (arith, c.put_atoms_at.ensures.most, one, c.loop-key.invariant.steps, sum_by_more_le (f t) keys i d below)
