-- Rows follow stanzas that come or go, one after another.
use Rattle.std.proofs.Common.{◌≡◌, ◌<◌, ◌+◌, ℕ, Bool, true, false, cond, List, [], ◌∷◌, ◌++◌, length, take, drop, drop-cons, add-one, get_or, Option, None, Some, Result, Ok, Err, OnOk, refl, ap, sym, subst, ◌∙◌}
use Rattle.std.specs.List.{AllByRecursion}
use Rattle.std.specs.Option.{option_map, option_or}
use Rattle.std.proofs.lemmas.List.{take_more}
use Rattle.std.proofs.lemmas.List.Elements.{filter_map-append}
use Rattle.ctl_stanza.specs.Content.{Content}
use Rattle.ctl_store.specs.declared.stanza_key.StanzaKey.{StanzaKey}
use Rattle.ctl_store.specs.Keys.{key_is}
use Rattle.ctl_store.specs.Entries.{Entry, entries_by}
use Rattle.ctl_store.specs.Followed.{under, AreApart}
use Rattle.ctl_policy.specs.Kept.{RowsByName, Stanzas, IsKept, with_stanza, without_stanza}
use Rattle.ctl_index.specs.Inside.TablesParts.{AreParted}
use Rattle.ctl_index.specs.Inside.TablesRows.{AreRowsPut, AreRowsTaken}
use Rattle.ctl_index.proofs.SeenLemmas.{key_is-same}
use Rattle.ctl_index.proofs.StoreLemmas.{all_back, apart_back, apart_front, key_is-own, key_is-turned, under-append}

-- ---- one stanza

module _ (key : StanzaKey) (x : Content) (all rest : Stanzas) (parted : AreParted all rest ((key, x) ∷ [])) where
  pub none_there : rest key ≡ None
  none_there = parted.either key x (ap (λ b. cond b (Some x) None) (key_is-own key))

  pub one_there : all key ≡ Some x
  one_there = parted.unders key ∙ ap (λ b. option_or (cond b (Some x) None) (rest key)) (key_is-own key)

  pub with_one : (k : StanzaKey) → with_stanza key x rest k ≡ all k
  with_one k = ap (λ b. cond b (Some x) (rest k)) (key_is-turned key k) ∙ by (key_is k key) ∙ sym (parted.unders k)
    where
      by : (b : Bool) → cond b (Some x) (rest k) ≡ option_or (cond b (Some x) None) (rest k)
      by true = refl
      by false = refl

  pub without_one : (k : StanzaKey) → without_stanza key all k ≡ rest k
  without_one k = (λ i. cond (key_is-turned key k i) None (parted.unders k i)) ∙ by (key_is k key) refl
    where
      by : (b : Bool) → key_is k key ≡ b → cond b None (option_or (cond b (Some x) None) (rest k)) ≡ rest k
      by true is = sym (parted.either k x (ap (λ b. cond b (Some x) None) is))
      by false is = refl

-- ---- some stanzas, and others

-- what stands under a key is one of these, or one of those
abbrev OneHas : List Entry → List Entry → Type 0
OneHas es fs = (k : StanzaKey) (x : Content) → under k fs ≡ Some x → under k es ≡ None

not_apart : (key : StanzaKey) (es : List Entry) → AllByRecursion (λ (d : Entry). key_is key d.0 ≡ false) es → under key es ≡ None
not_apart key [] h = refl
not_apart key (d ∷ es) h = ap (λ b. cond b (Some d.1) (under key es)) h.0 ∙ not_apart key es h.1

one_has : (es fs : List Entry) → AreApart (es ++ fs) → OneHas es fs
one_has [] fs apart k x there = refl
one_has (e ∷ es) fs apart k x there = by (key_is k e.0) refl (one_has es fs apart.1 k x there)
  where
    by : (b : Bool) → key_is k e.0 ≡ b → under k es ≡ None → cond b (Some e.1) (under k es) ≡ None
    by true is none =
        let gone : under k fs ≡ None = ap (λ q. under q fs) (key_is-same k e.0 is) ∙ not_apart e.0 fs (all_back (λ (d : Entry). key_is e.0 d.0 ≡ false) es fs apart.0) in
        absurd (let z : ⊥ = cc in z)
    by false is none = none

other_has : (es fs : List Entry) → OneHas es fs → OneHas fs es
other_has es fs one k y there = by (under k fs) refl
  where
    by : (o : Option Content) → under k fs ≡ o → o ≡ None
    by None is = refl
    by (Some x) is = let none = one k x is in absurd (let z : ⊥ = cc in z)

turned_or : (a b : Option Content) → ((x : Content) → b ≡ Some x → a ≡ None) → option_or a b ≡ option_or b a
turned_or a (Some x) one = ap (λ o. option_or o (Some x)) (one x refl)
turned_or None None one = refl
turned_or (Some y) None one = refl

-- a part that is one of two again: the second beside the rest, and the first beside both
module _ (all rest : Stanzas) (part es fs : List Entry) (parted : AreParted all rest part) (is : (k : StanzaKey) → under k part ≡ option_or (under k es) (under k fs)) (one : OneHas es fs) where
  abbrev beside : Stanzas
  beside k = option_or (under k fs) (rest k)

  second : AreParted beside rest fs
  second = record { unders = λ k. refl; either = λ k x there. parted.either k x (is k ∙ ap (λ o. option_or o (under k fs)) (one k x there) ∙ there) }

  first : AreParted all beside es
  first = record {
    unders = λ k. parted.unders k ∙ ap (λ o. option_or o (rest k)) (is k) ∙ by (under k es) (under k fs) (rest k);
    either = λ k x there.
        ap (λ o. option_or o (rest k)) (other_has es fs one k x there) ∙ parted.either k x (is k ∙ ap (λ o. option_or o (under k fs)) there);
  }
    where
      by : (a b c : Option Content) → option_or (option_or a b) c ≡ option_or a (option_or b c)
      by None b c = refl
      by (Some x) b c = refl

-- ---- keys in a loop

module _ (find : Stanzas) (keys : List StanzaKey) (i : ℕ) (d : StanzaKey) (below : i < length keys) where
  abbrev done : List Entry
  done = entries_by find (take i keys)

  abbrev next : List Entry
  next = entries_by find (get_or keys i d ∷ [])

  more : done ++ next ≡ entries_by find (take (i + 1) keys)
  more = sym (ap (entries_by find) (take_more keys i d below) ∙ filter_map-append (λ k. option_map (λ (x : Content). (k, x)) (find k)) (take i keys) (get_or keys i d ∷ []))

  pub more_put : (old mid new : RowsByName) → AreRowsPut done old mid → AreRowsPut next mid new → AreRowsPut (entries_by find (take (i + 1) keys)) old new
  more_put old mid new one then = subst (λ es. AreRowsPut es old new) more
      (λ all rest parted apart kept.
      let has = one_has done next apart in
      let is : (k : StanzaKey) → under k (done ++ next) ≡ option_or (under k next) (under k done) = λ k. under-append k done next ∙ turned_or (under k done) (under k next) (has k) in
      then all _ (first all rest _ next done parted is (other_has done next has)) (apart_back done next apart)
      (one _ rest (second all rest _ next done parted is (other_has done next has)) (apart_front done next apart) kept))

  -- from the last key back
  abbrev later : List Entry
  later = entries_by find (drop (i + 1) keys)

  back : next ++ later ≡ entries_by find (drop i keys)
  back = sym (ap (entries_by find) (drop-cons keys i d below ∙ ap (λ ks. get_or keys i d ∷ ks) (ap (λ n. drop n keys) (sym (add-one i)))) ∙ filter_map-append (λ k. option_map (λ (x : Content). (k, x)) (find k)) (get_or keys i d ∷ []) (drop (i + 1) keys))

  pub more_taken_back : (old mid new : RowsByName) → AreRowsTaken later old mid → AreRowsTaken next mid new → AreRowsTaken (entries_by find (drop i keys)) old new
  more_taken_back old mid new one then = subst (λ es. AreRowsTaken es old new) back
      (λ all rest parted apart kept.
      let has = one_has next later apart in
      let is : (k : StanzaKey) → under k (next ++ later) ≡ option_or (under k later) (under k next) = λ k. under-append k next later ∙ turned_or (under k next) (under k later) (has k) in
      then _ rest (second all rest _ later next parted is (other_has next later has)) (apart_front next later apart)
      (one all _ (first all rest _ later next parted is (other_has next later has)) (apart_back next later apart) kept))

pub none_taken : (rows : RowsByName) → AreRowsTaken [] rows rows
none_taken rows = λ all rest parted apart kept. subst (IsKept rows) (λ i k. parted.unders k i) kept

pub on_ok_both : {X E : Type 0} (r : Result X E) {P Q R : Type 0} → (P → Q → R) → OnOk r P → OnOk r Q → OnOk r R
on_ok_both (Ok x) f p q = f p q
on_ok_both (Err e) f p q = tt
