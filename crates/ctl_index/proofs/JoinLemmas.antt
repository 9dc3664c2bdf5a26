-- Stanzas that come or go: the tables hold what the stanzas then have, and the tests are the pairs that come or go.
use Rattle.std.proofs.Common.{◌≡◌, ℕ, ◌+◌, ◌-◌, ◌<◌, ◌≤◌, ◌^◌, Bool, true, false, cond, ◌&&◌, List, length, Option, Some, None, is_some, IfSome, refl, ap, sym, subst, ◌∙◌, arith}
use Rattle.std.specs.List.{sum_by, flat_map, list_any, AllByRecursion, count_by}
use Rattle.std.specs.Option.{option_map, option_map_or, option_or, option_and_then}
use Rattle.std.specs.Str.{bytes_eq}
use Rattle.ctl_relation.specs.Parts.{AtomParts, OfferParts}
use Rattle.ctl_relation.specs.Met.{met, met_pairs}
use Rattle.ctl_stanza.specs.Content.{Content, offers_of}
use Rattle.ctl_store.specs.declared.stanza_key.StanzaKey.{StanzaKey}
use Rattle.ctl_store.specs.Keys.{key_is}
use Rattle.ctl_store.specs.Entries.{Entry, entries_by}
use Rattle.ctl_store.specs.Followed.{under, AreApart}
use Rattle.ctl_index.specs.declared.keys.NamingAtom.{NamingAtom}
use Rattle.ctl_index.specs.declared.keys.OfferKey.{OfferKey}
use Rattle.ctl_index.specs.declared.keys.ClauseKey.{ClauseKey}
use Rattle.ctl_index.specs.declared.tables.Tables.{Tables}
use Rattle.ctl_index.specs.Clauses.{clause_atoms, clause_of, clause_at, number_at, number_among}
use Rattle.ctl_index.specs.Names.{keyed_atoms}
use Rattle.ctl_index.specs.Offers.{offers_among, contents}
use Rattle.ctl_index.specs.Inside.TablesByName.{offers_under, namers_under}
use Rattle.ctl_index.specs.Inside.TablesIndexed.{atom_named, offer_named, keyed_offers, IsIndexed, offers_sum, namers_sum}
use Rattle.ctl_index.specs.Inside.TablesLeft.{IsTakenOut, hits_at, is_stanza_at, namers_taken, tests_taken_out}
use Rattle.ctl_index.specs.Inside.TablesLoaded.{IsLoaded, all_hits, tests_put_in}
use Rattle.ctl_index.specs.Inside.TablesParts.{IsJoined}
use Rattle.ctl_index.specs.Inside.TablesPending.{Pending, seen, hit, AreSeen}
use Rattle.ctl_index.specs.Inside.TablesCounters.{counted_up}
use Rattle.ctl_index.specs.Inside.TablesFit.{AreWhole, NumbersFit}
use Rattle.ctl_index.specs.Inside.TablesOrder.{is_within, span_of}
use Rattle.ctl_index.specs.Inside.TablesTests.{group_met}
use Rattle.ctl_index.specs.Work.{named_pairs, pairs}
use Rattle.ctl_index.proofs.SumLemmas.{offers-over, sum-cong, sum-plus, sum-swap, sum-flat_map, sum-map, sum-zero, found-sum}
use Rattle.ctl_index.proofs.TableLemmas.{take_offers, take_namers}
use Rattle.ctl_index.proofs.LeavingLemmas.{any_same}
use Rattle.ctl_index.proofs.FitLemmas.{come_whole, all_whole, rest_whole}
use Rattle.ctl_index.proofs.SeenLemmas.{one_under, clause_met-is, listed_hits, all_tested-is, offers_tested-is, atoms_tested-is}
use Rattle.ctl_index.proofs.StoreLemmas.{under_by}

-- ---- pairs over two parts

module _ (all rest some : List Entry) (joined : IsJoined all rest some) where
  offers-joined : (h : OfferParts → ℕ) → sum_by h (offers_among (contents all)) ≡ sum_by h (offers_among (contents rest)) + sum_by h (offers_among (contents some))
  offers-joined h =
      offers-over h all ∙ joined.sums (λ (e : Entry). sum_by h (offers_of e.1)) ∙ (λ i. sym (offers-over h rest) i + sym (offers-over h some) i)

  atoms-joined : (g : AtomParts → ℕ) → sum_by g (flat_map clause_atoms (contents all)) ≡ sum_by g (flat_map clause_atoms (contents rest)) + sum_by g (flat_map clause_atoms (contents some))
  atoms-joined g =
      over all ∙ joined.sums (λ (e : Entry). sum_by g (clause_atoms e.1)) ∙ (λ i. sym (over rest) i + sym (over some) i)
    where
      over : (es : List Entry) → sum_by g (flat_map clause_atoms (contents es)) ≡ sum_by (λ (e : Entry). sum_by g (clause_atoms e.1)) es
      over es = sum-flat_map g clause_atoms (contents es) ∙ sum-map (λ x. sum_by g (clause_atoms x)) (λ (e : Entry). e.1) es

  named-joined : (atoms : List AtomParts) → named_pairs atoms (offers_among (contents all)) ≡ named_pairs atoms (offers_among (contents rest)) + named_pairs atoms (offers_among (contents some))
  named-joined atoms =
      sum-cong _ _ (λ (a : AtomParts). offers-joined (λ (o : OfferParts). cond (bytes_eq a.name o.name) 1 0)) atoms
      ∙ sum-plus (λ (a : AtomParts). count_by (λ (o : OfferParts). bytes_eq a.name o.name) (offers_among (contents rest))) (λ (a : AtomParts). count_by (λ (o : OfferParts). bytes_eq a.name o.name) (offers_among (contents some))) atoms

  pub pairs-joined : pairs (contents all) ≡ pairs (contents rest) + (named_pairs (flat_map clause_atoms (contents rest)) (offers_among (contents some)) + named_pairs (flat_map clause_atoms (contents some)) (offers_among (contents all)))
  pairs-joined =
      omega (arith, atoms-joined (λ (a : AtomParts). count_by (λ (o : OfferParts). bytes_eq a.name o.name) (offers_among (contents all))), named-joined (flat_map clause_atoms (contents rest)))

  pub met_pairs-joined : (atoms : List AtomParts) → met_pairs atoms (offers_among (contents all)) ≡ met_pairs atoms (offers_among (contents rest)) + sum_by (λ (o : OfferParts). sum_by (λ (a : AtomParts). cond (met a o) 1 0) atoms) (offers_among (contents some))
  met_pairs-joined atoms =
      sum-swap (λ (a : AtomParts) (o : OfferParts). cond (met a o) 1 0) atoms (offers_among (contents all))
      ∙ offers-joined (λ (o : OfferParts). sum_by (λ (a : AtomParts). cond (met a o) 1 0) atoms)
      ∙ ap (λ n. n + sum_by (λ (o : OfferParts). sum_by (λ (a : AtomParts). cond (met a o) 1 0) atoms) (offers_among (contents some))) (sym (sum-swap (λ (a : AtomParts) (o : OfferParts). cond (met a o) 1 0) atoms (offers_among (contents rest))))

-- how often offers meet the atoms of a clause
abbrev hits_of : List OfferParts → Option (List AtomParts) → ℕ
hits_of os c = option_map_or (λ atoms. sum_by (λ (o : OfferParts). sum_by (λ (a : AtomParts). cond (met a o) 1 0) atoms) os) c 0

-- what offers hit of a clause of these stanzas, where their atoms are listed
hits-is : (s : Pending) (atoms : List ℕ → List NamingAtom) (es : List Entry) → ((q : List ℕ) (f : NamingAtom → ℕ) → sum_by f (atoms q) ≡ sum_by (λ (e : Entry). sum_by (atom_named q f) (keyed_atoms e)) es) → AreSeen s es → AreApart es
    → (os : List OfferParts) (k : ClauseKey) → all_hits s atoms os k ≡ hits_of os (clause_at k es)
hits-is s atoms es fact sees apart os k =
    sum-cong _ _ (λ o. listed_hits s atoms es fact sees k o ∙ one_under (λ y. option_map_or (λ group. sum_by (λ a. cond (met a o) 1 0) group) (clause_of k y) 0) k.stanza es apart ∙ join o (under k.stanza es)) os
    ∙ out (clause_at k es)
  where
    join : (o : OfferParts) (c : Option Content) → option_map_or (λ y. option_map_or (λ group. sum_by (λ (a : AtomParts). cond (met a o) 1 0) group) (clause_of k y) 0) c 0
        ≡ option_map_or (λ group. sum_by (λ (a : AtomParts). cond (met a o) 1 0) group) (option_and_then (clause_of k) c) 0
    join o None = refl
    join o (Some y) = refl

    out : (c : Option (List AtomParts)) → sum_by (λ (o : OfferParts). option_map_or (λ group. sum_by (λ (a : AtomParts). cond (met a o) 1 0) group) c 0) os ≡ hits_of os c
    out None = sum-zero os
    out (Some atoms) = refl

or_none : {Y : Type 0} (o : Option Y) → option_or o None ≡ o
or_none None = refl
or_none (Some y) = refl

-- ---- stanzas come

module _ (s : Pending) (keys : List StanzaKey) (all rest : List Entry) (old new : Tables) (joined : IsJoined all rest (entries_by (seen s) keys)) (was : IsIndexed rest old)
    (apart : AreApart rest) (apart_new : AreApart (entries_by (seen s) keys)) (sees : AreSeen s rest) (sees_all : AreSeen s all) where
  abbrev come : List Entry
  come = entries_by (seen s) keys

  abbrev number : List Entry → Option (List AtomParts) → Option ℕ
  number es c = option_map (λ atoms. met_pairs atoms (offers_among (contents es))) c

  loaded_offers : IsLoaded s keys old new → (q : List ℕ) (f : OfferKey → ℕ) → sum_by f (offers_under new.names.map q) ≡ offers_sum q f all
  loaded_offers step q f = step.offers q f ∙ ap (λ n. n + offers_sum q f come) (was.offers q f) ∙ sym (joined.sums (λ (e : Entry). sum_by (offer_named q f) (keyed_offers e)))

  loaded_namers : IsLoaded s keys old new → (q : List ℕ) (f : NamingAtom → ℕ) → sum_by f (namers_under new.names.map q) ≡ namers_sum q f all
  loaded_namers step q f = step.namers q f ∙ ap (λ n. n + namers_sum q f come) (was.namers q f) ∙ sym (joined.sums (λ (e : Entry). sum_by (atom_named q f) (keyed_atoms e)))

  loaded_number : IsLoaded s keys old new → ((k : ClauseKey) → IfSome (number_at k all) (λ n. n < 2 ^ 96)) → (k : ClauseKey) → number_among new.counters.numbers k ≡ number_at k all
  loaded_number step fits k =
      step.counters k
      ∙ (λ i. option_or (came (under k.stanza come) i) (raised i))
      ∙ by (under k.stanza come) (under k.stanza rest) (subst (λ (c : Option Content). IfSome (number all (option_and_then (clause_of k) c)) (λ n. n < 2 ^ 96)) (joined.parted.unders k.stanza) (fits k)) (λ x h. joined.parted.either k.stanza x h)
      ∙ ap (λ c. number all (option_and_then (clause_of k) c)) (sym (joined.parted.unders k.stanza))
    where
      came : (c : Option Content) → option_map (group_met s k.field (offers_under new.names.map)) (option_and_then (clause_of k) c) ≡ number all (option_and_then (clause_of k) c)
      came None = refl
      came (Some x) = clause_met-is s (offers_under new.names.map) all (loaded_offers step) sees_all k x

      raised : option_map (counted_up (all_hits s (namers_under old.names.map) (offers_among (contents come)) k)) (number_among old.counters.numbers k)
          ≡ option_map (counted_up (hits_of (offers_among (contents come)) (clause_at k rest))) (number_at k rest)
      raised = λ i. option_map (counted_up (hits-is s (namers_under old.names.map) rest was.namers sees apart (offers_among (contents come)) k i)) (was.counters k i)

      more : (c : Option (List AtomParts)) → IfSome (number all c) (λ n. n < 2 ^ 96) → option_map (counted_up (hits_of (offers_among (contents come)) c)) (number rest c) ≡ number all c
      more None few = refl
      more (Some atoms) few = ap (λ n. Some n) (omega (arith, met_pairs-joined all rest come joined atoms, few))

      -- the number of a clause that stands in one of the parts
      stood : Option Content → Option ℕ
      stood d = option_map (counted_up (hits_of (offers_among (contents come)) (option_and_then (clause_of k) d))) (number rest (option_and_then (clause_of k) d))

      by : (c d : Option Content) → IfSome (number all (option_and_then (clause_of k) (option_or c d))) (λ n. n < 2 ^ 96) → ((x : Content) → c ≡ Some x → d ≡ None)
          → option_or (number all (option_and_then (clause_of k) c)) (stood d) ≡ number all (option_and_then (clause_of k) (option_or c d))
      by None d few none = more (option_and_then (clause_of k) d) few
      by (Some x) d few none = ap (λ (z : Option Content). option_or (number all (clause_of k x)) (stood z)) (none x refl) ∙ or_none (number all (clause_of k x))

  pub load_law : NumbersFit → AreApart all → length all < 2 ^ 32 → IsLoaded s keys old new → IsIndexed all new
  load_law fit apart_all few step =
      let whole : AreWhole all = all_whole all rest come joined was.whole (come_whole (seen s) keys step.whole) in
      record {
        offers = loaded_offers step;
        namers = loaded_namers step;
        counters = loaded_number step (fit all few apart_all whole);
        rows = step.rows (λ k. under k all) (λ k. under k rest) joined.parted apart_new was.rows;
        whole = whole;
      }

  put_counted : tests_put_in s keys old ≡ (named_pairs (flat_map clause_atoms (contents rest)) (offers_among (contents come)) + named_pairs (flat_map clause_atoms (contents come)) (offers_among (contents rest))) + pairs (contents come)
  put_counted = λ i.
      ((offers_tested-is s (namers_under old.names.map) keys ∙ all_tested-is s (namers_under old.names.map) rest was.namers sees (offers_among (contents come))) i
      + atoms_tested-is s (offers_under old.names.map) rest was.offers sees keys i)
      + pairs (contents come)

  pub put_tests : tests_put_in s keys old ≡ pairs (contents all) - pairs (contents rest)
  put_tests = omega (arith, put_counted, pairs-joined all rest come joined, named-joined all rest come joined (flat_map clause_atoms (contents come)))

-- ---- stanzas go

module _ (s : Pending) (keys : List StanzaKey) (all rest : List Entry) (old new : Tables) (joined : IsJoined all rest (entries_by (seen s) keys)) (was : IsIndexed all old)
    (outside : AllByRecursion (λ (e : Entry). is_within (span_of keys) e.0 ≡ false) rest) (inside : AllByRecursion (λ (e : Entry). is_within (span_of keys) e.0 ≡ true) (entries_by (seen s) keys))
    (apart : AreApart rest) (apart_gone : AreApart (entries_by (seen s) keys)) (sees : AreSeen s rest) (sees_all : AreSeen s all) where
  abbrev going : List Entry
  going = entries_by (seen s) keys

  left_namers : (q : List ℕ) (f : NamingAtom → ℕ) → sum_by f (namers_taken s keys old q) ≡ sum_by (λ (e : Entry). sum_by (atom_named q f) (keyed_atoms e)) rest
  left_namers = take_namers s keys all rest old joined was outside inside

  abbrev number_of : List Entry → Option (List AtomParts) → Option ℕ
  number_of es c = option_map (λ atoms. met_pairs atoms (offers_among (contents es))) c

  take_number : IsTakenOut s keys old new → (k : ClauseKey) → number_among new.counters.numbers k ≡ number_at k rest
  take_number step k =
      step.counters k
      ∙ (λ i. option_map (λ n. n - hits i) (cond (goes i) None (was.counters k i)))
      ∙ ap (λ c. option_map (λ n. n - hits_of (offers_among (contents going)) (clause_at k rest)) (cond (is_some (under k.stanza going)) None (number_of all (option_and_then (clause_of k) c)))) (joined.parted.unders k.stanza)
      ∙ by (under k.stanza going) (under k.stanza rest) (λ x h. joined.parted.either k.stanza x h)
    where
      hits : sum_by (hits_at s (namers_taken s keys old) k) keys ≡ hits_of (offers_among (contents going)) (clause_at k rest)
      hits =
          found-sum (seen s) (λ x. all_hits s (namers_taken s keys old) (offers_of x) k) keys
          ∙ sym (sum-map (λ x. all_hits s (namers_taken s keys old) (offers_of x) k) (λ (e : Entry). e.1) going)
          ∙ sym (sum-flat_map (λ (o : OfferParts). sum_by (hit s o k) (namers_taken s keys old o.name)) offers_of (contents going))
          ∙ hits-is s (namers_taken s keys old) rest left_namers sees apart (offers_among (contents going)) k

      there : (b : Bool) (c : Option Content) → b && is_some c ≡ is_some (cond b c None)
      there true c = refl
      there false c = refl

      goes : list_any (is_stanza_at s k.stanza) keys ≡ is_some (under k.stanza going)
      goes = any_same (seen s) is_some k.stanza keys ∙ there (list_any (key_is k.stanza) keys) (seen s k.stanza) ∙ ap is_some (sym (under_by (seen s) keys k.stanza))

      les : (c : Option (List AtomParts)) → option_map (λ n. n - hits_of (offers_among (contents going)) c) (number_of all c) ≡ number_of rest c
      les None = refl
      les (Some atoms) = ap (λ n. Some n) (omega (arith, met_pairs-joined all rest going joined atoms))

      by : (c d : Option Content) → ((x : Content) → c ≡ Some x → d ≡ None)
          → option_map (λ n. n - hits_of (offers_among (contents going)) (option_and_then (clause_of k) d)) (cond (is_some c) None (number_of all (option_and_then (clause_of k) (option_or c d)))) ≡ number_of rest (option_and_then (clause_of k) d)
      by None d none = les (option_and_then (clause_of k) d)
      by (Some x) d none = sym (ap (λ z. number_of rest (option_and_then (clause_of k) z)) (none x refl))

  pub take_law : IsTakenOut s keys old new → IsIndexed rest new
  take_law step = record {
    offers = λ q f. ap (sum_by f) (step.offers q) ∙ take_offers s keys all rest old joined was outside inside q f;
    namers = λ q f. ap (sum_by f) (step.namers q) ∙ left_namers q f;
    counters = take_number step;
    rows = step.rows (λ k. under k all) (λ k. under k rest) joined.parted apart_gone was.rows;
    whole = rest_whole all rest going joined was.whole;
  }

  take_counted : tests_taken_out s keys old ≡ named_pairs (flat_map clause_atoms (contents going)) (offers_among (contents all)) + named_pairs (flat_map clause_atoms (contents rest)) (offers_among (contents going))
  take_counted = λ i.
      atoms_tested-is s (offers_under old.names.map) all was.offers sees_all keys i
      + (offers_tested-is s (namers_taken s keys old) keys ∙ all_tested-is s (namers_taken s keys old) rest left_namers sees (offers_among (contents going))) i

  pub take_tests : tests_taken_out s keys old ≡ pairs (contents all) - pairs (contents rest)
  take_tests = omega (arith, take_counted, pairs-joined all rest going joined)

-- the pairs of a part are no more
pub pairs-within : (all rest some : List Entry) → IsJoined all rest some → pairs (contents rest) ≤ pairs (contents all)
pairs-within all rest some joined = omega (arith, pairs-joined all rest some joined)
