-- Stanzas without a fault, and the numbers of their clauses.
use Rattle.std.proofs.Common.{◌≡◌, ℕ, zero, suc, ◌+◌, ◌*◌, ◌<◌, ◌≤◌, ◌^◌, Bool, true, false, cond, List, [], ◌∷◌, length, Option, None, Some, IfSome, get_or, refl, ap, sym, subst, ◌∙◌, arith, mul-le-mul, lt_of_le_of_lt}
use Rattle.std.specs.Prelude.{slice_get, nat_lt, ◌||◌}
use Rattle.std.specs.List.{All, AllByRecursion, cons_option, flat_map}
use Rattle.std.specs.Option.{option_map, option_or, option_and_then}
use Rattle.std.proofs.lemmas.Bool.Decides.{nat_tests}
use Rattle.std.proofs.lemmas.List.{get_or_default, length-map, length-append}
use Rattle.std.proofs.lemmas.List.Elements.{All-from_recursion, recursion_from_All, All-map, All-head, All-tail, All-weaker}
use Rattle.ctl_relation.specs.Parts.{AtomParts, OfferParts}
use Rattle.ctl_relation.specs.Met.{met_pairs}
use Rattle.ctl_relation.specs.FieldKind.{is_provides}
use Rattle.ctl_stanza.specs.Content.{Content, relations_of_kind, offers_of}
use Rattle.ctl_stanza.specs.Sound.{IsWhole, IsSound, IsSmallGroup}
use Rattle.ctl_store.specs.declared.limits.Limits.{Limits}
use Rattle.ctl_store.specs.declared.refusal.Refusal.{Refusal}
use Rattle.ctl_store.specs.declared.refusal.Refusal.TheVariants.{Full}
use Rattle.ctl_store.specs.declared.stanza_key.StanzaKey.{StanzaKey}
use Rattle.ctl_store.specs.Edits.{Edit}
use Rattle.ctl_store.specs.Entries.{Entry, entries_by, stanzas_in_order}
use Rattle.ctl_store.specs.Followed.{under}
use Rattle.ctl_store.specs.Keys.{key_is}
use Rattle.ctl_store.specs.State.{State, StanzaList, stanza_count}
use Rattle.ctl_store.specs.Step.{after, is_past, misfit_of, refusal_of, when}
use Rattle.ctl_index.specs.declared.keys.ClauseKey.{ClauseKey}
use Rattle.ctl_index.specs.Clauses.{is_clause_field, clause_of}
use Rattle.ctl_index.specs.Offers.{contents, offers_among}
use Rattle.ctl_index.specs.Inside.TablesFit.{IsWholeAt, AreWhole, NumbersFit}
use Rattle.ctl_index.specs.Inside.TablesParts.{IsJoined}
use Rattle.ctl_index.proofs.StoreLemmas.{all_both, own_under}

-- ---- stanzas without a fault, in parts

come_found : (find : StanzaKey → Option Content) (keys : List StanzaKey) → AllByRecursion (IsWholeAt find) keys → AreWhole (entries_by find keys)
come_found find [] h k = tt
come_found find (key ∷ keys) h k = by (find key) (entries_by find keys) h.0 (come_found find keys h.1 k)
  where
    pick : (b : Bool) (x : Content) (o : Option Content) → IsWhole x → IfSome o IsWhole → IfSome (cond b (Some x) o) IsWhole
    pick true x o is rest = is
    pick false x o is rest = rest

    by : (c : Option Content) (es : List Entry) → IfSome c IsWhole → IfSome (under k es) IsWhole
        → IfSome (under k (cons_option (option_map (λ (x : Content). (key, x)) c) es)) IsWhole
    by None es is rest = rest
    by (Some x) es is rest = pick (key_is k key) x (under k es) is rest

-- those that are found under keys
pub come_whole : (find : StanzaKey → Option Content) (keys : List StanzaKey) → All (IsWholeAt find) keys → AreWhole (entries_by find keys)
come_whole find keys h = come_found find keys (recursion_from_All (IsWholeAt find) keys h)

-- one key more, of which the first n are looked at
pub one_more : (P : StanzaKey → Type 0) (keys : List StanzaKey) (n : ℕ) (e : StanzaKey) → n < length keys → ((k : ℕ) (d : StanzaKey) → k < n → P (get_or keys k d))
    → P (get_or keys n e) → (k : ℕ) (d : StanzaKey) → k < n + 1 → P (get_or keys k d)
one_more P keys n e below before here k d lt = by (nat_lt k n) refl
  where
    here_too : n ≡ k → P (get_or keys k d)
    here_too is = subst (λ j. P (get_or keys j d)) is (subst P (get_or_default keys n e d below) here)

    less : nat_lt k n ≡ true → k < n
    less is = grind (arith, nat_tests)

    last : nat_lt k n ≡ false → n ≡ k
    last is = grind (arith, nat_tests)

    by : (b : Bool) → nat_lt k n ≡ b → P (get_or keys k d)
    by true is = before k d (less is)
    by false is = here_too (last is)

-- all of two parts
pub all_whole : (all rest some : List Entry) → IsJoined all rest some → AreWhole rest → AreWhole some → AreWhole all
all_whole all rest some joined r s k = subst (λ o. IfSome o IsWhole) (sym (joined.parted.unders k)) (by (under k some) (s k))
  where
    by : (o : Option Content) → IfSome o IsWhole → IfSome (option_or o (under k rest)) IsWhole
    by None h = r k
    by (Some x) h = h

-- those of one part
pub rest_whole : (all rest some : List Entry) → IsJoined all rest some → AreWhole all → AreWhole rest
rest_whole all rest some joined a k =
    by (under k some) (under k rest) (joined.parted.either k) (subst (λ o. IfSome o IsWhole) (joined.parted.unders k) (a k))
  where
    by : (o r : Option Content) → ((x : Content) → o ≡ Some x → r ≡ None) → IfSome (option_or o r) IsWhole → IfSome r IsWhole
    by None r none h = h
    by (Some x) r none h = subst (λ z. IfSome z IsWhole) (sym (none x refl)) tt

-- ---- numbers

at_place : {X : Type 0} (P : X → Type 0) (xs : List X) (i : ℕ) → AllByRecursion P xs → IfSome (slice_get xs i) P
at_place P [] i h = tt
at_place P (x ∷ xs) zero h = h.0
at_place P (x ∷ xs) (suc i) h = at_place P xs i h.1

small_clause : (k : ClauseKey) (x : Content) → IsSound x → IfSome (clause_of k x) IsSmallGroup
small_clause k x sound = by (is_clause_field k.field) (is_provides k.field)
  where
    by : (c p : Bool) → IfSome (cond c (slice_get (cond p [] (relations_of_kind k.field x)) k.group) None) IsSmallGroup
    by false p = tt
    by true true = tt
    by true false = at_place IsSmallGroup (relations_of_kind k.field x) k.group (recursion_from_All IsSmallGroup (relations_of_kind k.field x) (sound.sizes k.field))

-- what stanzas offer, each fewer than 2^32
offers-le : (contents : List Content) → All (λ content. length (offers_of content) < 2 ^ 32) contents → length (flat_map offers_of contents) ≤ length contents * 4294967295
offers-le [] h = omega arith
offers-le (c ∷ cs) h =
    let P : Content → Type 0 = λ content. length (offers_of content) < 2 ^ 32 in
    omega (arith, length-append (offers_of c) (flat_map offers_of cs), All-head P c cs h, offers-le cs (All-tail P c cs h))

-- the pairs of few atoms and what fewer than 2^32 stanzas offer
pairs-few : ((atoms : List AtomParts) (offers : List OfferParts) → met_pairs atoms offers ≤ length atoms * length offers) → (sound : (content : Content) → IsWhole content → IsSound content)
    → (atoms : List AtomParts) (contents : List Content) → length atoms < 2 ^ 32 → length contents < 2 ^ 32 → All IsWhole contents → met_pairs atoms (flat_map offers_of contents) < 2 ^ 96
pairs-few most sound atoms contents small short whole =
    let offers : length (flat_map offers_of contents) ≤ 18446744065119617025 =
    omega (arith, short, offers-le contents (All-weaker IsWhole (λ content. length (offers_of content) < 2 ^ 32) (λ content w. (sound content w).offers) contents whole)) in
    let atoms' : length atoms ≤ 4294967295 = omega (arith, small) in
    lt_of_le_of_lt (most atoms (flat_map offers_of contents)) (lt_of_le_of_lt (mul-le-mul atoms' offers) (omega arith))

pub numbers_are_few : ((content : Content) → IsWhole content → IsSound content)
    → ((atoms : List AtomParts) (offers : List OfferParts) → met_pairs atoms offers ≤ length atoms * length offers) → NumbersFit
numbers_are_few sound most es few apart whole k = by (under k.stanza es) (whole k.stanza)
  where
    each : AllByRecursion (λ (e : Entry). IsWhole e.1) es
    each =
        all_both (λ (e : Entry). under e.0 es ≡ Some e.1) (λ (e : Entry). under e.0 es ≡ Some e.1) (λ (e : Entry). IsWhole e.1) es
        (λ e is _. subst (λ (o : Option Content). IfSome o IsWhole) is (whole e.0)) (own_under es apart) (own_under es apart)

    all : All IsWhole (contents es)
    all = All-map IsWhole (λ (e : Entry). e.1) es (All-from_recursion (λ (e : Entry). IsWhole e.1) es each)

    short : length (contents es) < 2 ^ 32
    short = omega (arith, length-map es (λ (e : Entry). e.1), few)

    group : (g : Option (List AtomParts)) → IfSome g IsSmallGroup → IfSome (option_map (λ atoms. met_pairs atoms (offers_among (contents es))) g) (λ n. n < 2 ^ 96)
    group None h = tt
    group (Some atoms) h = pairs-few most sound atoms (contents es) h short all

    by : (c : Option Content) → IfSome c IsWhole → IfSome (option_map (λ atoms. met_pairs atoms (offers_among (contents es))) (option_and_then (clause_of k) c)) (λ n. n < 2 ^ 96)
    by None h = tt
    by (Some x) h = group (clause_of k x) (small_clause k x (sound x h))

-- ---- how many stanzas there are

pub length-in_order : (ls : List (List ℕ × StanzaList)) → length (stanzas_in_order ls) ≡ stanza_count ls
length-in_order [] = refl
length-in_order (l ∷ ls) = length-append l.1.stanzas (stanzas_in_order ls) ∙ ap (λ n. length l.1.stanzas + n) (length-in_order ls)

pub length-contents : (es : List Entry) (xs : List Content) → contents es ≡ xs → length es ≡ length xs
length-contents es xs is = sym (length-map es (λ (e : Entry). e.1)) ∙ ap length is

within : (limits : Limits) (s : State) → is_past limits s ≡ false → stanza_count s.lists ≤ limits.stanzas
within limits s h = not_below limits.stanzas (stanza_count s.lists) (neither (nat_lt limits.stanzas (stanza_count s.lists)) (nat_lt limits.edits s.edits) h)
  where
    not_below : (n m : ℕ) → nat_lt n m ≡ false → m ≤ n
    not_below n m none = grind (arith, nat_tests)

    neither : (a b : Bool) → (a || b) ≡ false → a ≡ false
    neither true b none = none
    neither false b none = refl

-- a state after an accepted edit is within the limits
pub accepted_within : (limits : Limits) (s : State) (edit : Edit) → refusal_of limits s edit ≡ None → stanza_count (after s edit).lists ≤ limits.stanzas
accepted_within limits s edit accepted = within limits (after s edit) (by (misfit_of s edit) (is_past limits (after s edit)) accepted)
  where
    by : (o : Option Refusal) (b : Bool) → option_or o (when b Full) ≡ None → b ≡ false
    by None false h = refl
    by None true h = absurd (let z : ⊥ = cc in z)
    by (Some why) b h = absurd (let z : ⊥ = cc in z)
