-- The number of each clause, by the stanzas that have them.
use Rattle.std.proofs.Common.{◌≡◌, ◌∙◌, ℕ, Bool, true, false, cond, nat_eq, ◌&&◌, List, [], ◌∷◌, ◌++◌, Option, None, Some, option_map, refl, sym, ap, subst, true≢false, arith, ◌-◌, length, IfOk, Result, Ok, Err}
use Rattle.std.proofs.lemmas.Bool.Decides.{nat_tests}
use Rattle.std.specs.Prelude.{nat_lt}
use Rattle.std.specs.Bool.{OnTrue}
use Rattle.std.specs.BTreeMap.{BTreeMap, get, keys, IsOrdered}
use Rattle.std.specs.BTreeSet.{BTreeSet, contains}
use Rattle.std.specs.List.{All, AllByRecursion}
use Rattle.std.specs.List.Sorted.{IsStrictlySortedBy}
use Rattle.std.specs.Map.{keys_of, lookup}
use Rattle.std.specs.Option.{option_map_or, option_or, option_and_then}
use Rattle.std.specs.Ordering.{nat_cmp, is_eq, is_lt}
use Rattle.std.specs.declared.cmp.Ordering.TheVariants.{Less}
use Rattle.std.proofs.lemmas.List.Elements.{recursion_from_All}
use Rattle.std.proofs.lemmas.Map.Keys.{sorted_head, sorted_tail}
use Rattle.ctl_store.specs.declared.stanza_key.StanzaKey.{StanzaKey}
use Rattle.ctl_store.specs.Keys.{key_cmp, key_is}
use Rattle.ctl_index.specs.declared.keys.ClauseKey.{ClauseKey}
use Rattle.ctl_index.specs.declared.stanza_numbers.ClausePlace.{ClausePlace}
use Rattle.ctl_index.specs.Clauses.{clause_cmp, number_among}
use Rattle.ctl_index.specs.Inside.TablesCounters.{Numbers, AreUnmet, counted_up}
use Rattle.ctl_index.specs.Inside.ClauseNumbers.{Placed, place_cmp, place_of, clause_at_place, number_at_place, AreInPlace, come_in, clauses_numbered, all_numbered, zeros_marked}
use Rattle.ctl_index.specs.Inside.TablesWaiting.{come_of}
use Rattle.ctl_index.proofs.ClauseLemmas.{is_eq_then, is_eq_nat, nat_eq-is}
use Rattle.ctl_index.proofs.CounterLemmas.{same_clause}
use Rattle.ctl_index.proofs.SeenLemmas.{key_is-same}
use Rattle.ctl_index.proofs.PlaceLemmas.{come_in-push, none_below, same_place, tie_turned}

-- ---- a clause by its stanza and its place

-- one key compares alike with another where it is that one
pub tie_key : (s q : StanzaKey) → is_eq (key_cmp s q) ≡ key_is q s
tie_key s q = is_eq_then (nat_cmp s.list q.list) (nat_cmp s.stanza q.stanza) ∙ (λ i. is_eq_nat s.list q.list i && is_eq_nat s.stanza q.stanza i)

pub tie_parts : (a k : ClauseKey) → is_eq (clause_cmp a k) ≡ is_eq (key_cmp a.stanza k.stanza) && is_eq (place_cmp (place_of a) (place_of k))
tie_parts a k = is_eq_then (key_cmp a.stanza k.stanza) (place_cmp (place_of a) (place_of k))

-- among the clauses of one stanza
in_stanza : (k : ClauseKey) (s : StanzaKey) (cs : Placed) → lookup (λ q. is_eq (clause_cmp k q)) (clauses_numbered s cs) ≡ cond (is_eq (key_cmp k.stanza s)) (number_at_place (place_of k) cs) None
in_stanza k s [] = by (is_eq (key_cmp k.stanza s))
  where
    by : (b : Bool) → None ≡ cond b (number_at_place (place_of k) []) None
    by true = refl
    by false = refl
in_stanza k s (c ∷ cs) =
    (λ i. cond (tie_parts k (clause_at_place s c.0) i) (Some c.1) (in_stanza k s cs i)) ∙ by (is_eq (key_cmp k.stanza s)) (is_eq (place_cmp (place_of k) c.0))
  where
    by : (b t : Bool) → cond (b && t) (Some c.1) (cond b (number_at_place (place_of k) cs) None) ≡ cond b (cond t (Some c.1) (number_at_place (place_of k) cs)) None
    by true t = refl
    by false t = refl

lookup_append : (p : ClauseKey → Bool) (xs ys : List (ClauseKey × ℕ)) → lookup p (xs ++ ys) ≡ option_or (lookup p xs) (lookup p ys)
lookup_append p [] ys = refl
lookup_append p (x ∷ xs) ys = ap (cond (p x.0) (Some x.1)) (lookup_append p xs ys) ∙ by (p x.0)
  where
    by : (b : Bool) → cond b (Some x.1) (option_or (lookup p xs) (lookup p ys)) ≡ option_or (cond b (Some x.1) (lookup p xs)) (lookup p ys)
    by true = refl
    by false = refl

-- a stanza below all of some has no clause there
none_of_stanza : (k : ClauseKey) (es : List (StanzaKey × Placed)) → AllByRecursion (λ q. key_cmp k.stanza q ≡ Less) (keys_of es) → lookup (λ q. is_eq (clause_cmp k q)) (all_numbered es) ≡ None
none_of_stanza k [] h = refl
none_of_stanza k (e ∷ es) h =
    lookup_append (λ q. is_eq (clause_cmp k q)) (clauses_numbered e.0 e.1) (all_numbered es)
    ∙ (λ i. option_or ((in_stanza k e.0 e.1 ∙ ap (λ o. cond (is_eq o) (number_at_place (place_of k) e.1) None) h.0) i) (none_of_stanza k es h.1 i))

pub same_stanza : (a b : StanzaKey) → is_eq (key_cmp a b) ≡ true → a ≡ b
same_stanza a b e = sym (key_is-same b a (sym (tie_key a b) ∙ e))

-- the number at the place of a clause, under its stanza
abbrev pub placed_number : ClauseKey → Option Placed → Option ℕ
placed_number k found = option_and_then (number_at_place (place_of k)) found

pub number_is : (m : BTreeMap StanzaKey Placed) → IsOrdered key_cmp m → (k : ClauseKey) → number_among (all_numbered m.entries) k ≡ placed_number k (get key_cmp m k.stanza)
number_is m ordered k = go m.entries ordered
  where
    go : (es : List (StanzaKey × Placed)) → IsStrictlySortedBy key_cmp (keys_of es) → lookup (λ q. is_eq (clause_cmp k q)) (all_numbered es) ≡ placed_number k (lookup (λ q. is_eq (key_cmp k.stanza q)) es)
    go [] h = refl
    go (e ∷ es) h =
        lookup_append (λ q. is_eq (clause_cmp k q)) (clauses_numbered e.0 e.1) (all_numbered es)
        ∙ (λ i. option_or (in_stanza k e.0 e.1 i) (lookup (λ q. is_eq (clause_cmp k q)) (all_numbered es)))
        ∙ by (go es (sorted_tail key_cmp e.0 (keys_of es) h)) (is_eq (key_cmp k.stanza e.0)) (λ tie. none_of_stanza k es (subst (λ s. AllByRecursion (λ q. key_cmp s q ≡ Less) (keys_of es)) (sym (same_stanza k.stanza e.0 tie)) (sorted_head key_cmp e.0 (keys_of es) h)))
      where
        or_none : (o : Option ℕ) → option_or o None ≡ o
        or_none None = refl
        or_none (Some n) = refl

        by : lookup (λ q. is_eq (clause_cmp k q)) (all_numbered es) ≡ placed_number k (lookup (λ q. is_eq (key_cmp k.stanza q)) es)
            → (b : Bool) → (b ≡ true → lookup (λ q. is_eq (clause_cmp k q)) (all_numbered es) ≡ None)
            → option_or (cond b (number_at_place (place_of k) e.1) None) (lookup (λ q. is_eq (clause_cmp k q)) (all_numbered es)) ≡ placed_number k (cond b (Some e.1) (lookup (λ q. is_eq (key_cmp k.stanza q)) es))
        by rest true none = ap (option_or (number_at_place (place_of k) e.1)) (none refl) ∙ or_none (number_at_place (place_of k) e.1)
        by rest false none = rest

-- ---- what is written

-- one stanza is written
pub stanza_written : (m n : BTreeMap StanzaKey Placed) (s : StanzaKey) (w : Option Placed) → IsOrdered key_cmp m → IsOrdered key_cmp n
    → ((q : StanzaKey) → get key_cmp n q ≡ cond (is_eq (key_cmp s q)) w (get key_cmp m q))
    → (k : ClauseKey) → number_among (all_numbered n.entries) k ≡ cond (key_is k.stanza s) (placed_number k w) (number_among (all_numbered m.entries) k)
stanza_written m n s w was now here k =
    number_is n now k ∙ ap (placed_number k) (here k.stanza) ∙ by (is_eq (key_cmp s k.stanza))
    ∙ (λ i. cond (tie_key s k.stanza i) (placed_number k w) (sym (number_is m was k) i))
  where
    by : (b : Bool) → placed_number k (cond b w (get key_cmp m k.stanza)) ≡ cond b (placed_number k w) (placed_number k (get key_cmp m k.stanza))
    by true = refl
    by false = refl

-- a stanza that isn't there has no clause
pub stanza_absent : (m : BTreeMap StanzaKey Placed) (s : StanzaKey) → IsOrdered key_cmp m → get key_cmp m s ≡ None → (k : ClauseKey) → key_is k.stanza s ≡ true → number_among (all_numbered m.entries) k ≡ None
stanza_absent m s was none k is = number_is m was k ∙ ap (λ q. placed_number k (get key_cmp m q)) (key_is-same k.stanza s is) ∙ ap (placed_number k) none

-- one behind the last has none
pub behind_last : (m : BTreeMap StanzaKey Placed) (last s : StanzaKey) → IsOrdered key_cmp m → All (λ q. is_lt (key_cmp last q) ≡ false) (keys m) → is_lt (key_cmp last s) ≡ true
    → (k : ClauseKey) → key_is k.stanza s ≡ true → number_among (all_numbered m.entries) k ≡ None
behind_last m last s was all above = stanza_absent m s was (go m.entries (recursion_from_All (λ q. is_lt (key_cmp last q) ≡ false) (keys m) all))
  where
    go : (es : List (StanzaKey × Placed)) → AllByRecursion (λ q. is_lt (key_cmp last q) ≡ false) (keys_of es) → lookup (λ q. is_eq (key_cmp s q)) es ≡ None
    go [] h = refl
    go (e ∷ es) h = by (is_eq (key_cmp s e.0)) refl (go es h.1)
      where
        by : (b : Bool) → is_eq (key_cmp s e.0) ≡ b → lookup (λ q. is_eq (key_cmp s q)) es ≡ None → cond b (Some e.1) (lookup (λ q. is_eq (key_cmp s q)) es) ≡ None
        by true tie rest = absurd (true≢false (sym above ∙ ap (λ q. is_lt (key_cmp last q)) (same_stanza s e.0 tie) ∙ h.0))
        by false tie rest = rest

-- the numbers of one stanza are changed at one clause
pub one_changed : (m n : BTreeMap StanzaKey Placed) (a : ClauseKey) (v w : Placed) (f : ℕ → ℕ → ℕ) → ((x : ℕ) → x ≡ f x 0) → IsOrdered key_cmp m → IsOrdered key_cmp n
    → Some v ≡ get key_cmp m a.stanza
    → ((q : StanzaKey) → get key_cmp n q ≡ cond (is_eq (key_cmp a.stanza q)) (Some w) (get key_cmp m q))
    → ((q : ClausePlace) → number_at_place q w ≡ option_map (λ x. f x (cond (is_eq (place_cmp (place_of a) q)) 1 0)) (number_at_place q v))
    → (k : ClauseKey) → number_among (all_numbered n.entries) k ≡ option_map (λ x. f x (cond (is_eq (clause_cmp a k)) 1 0)) (number_among (all_numbered m.entries) k)
one_changed m n a v w f stay was now at here changed k =
    stanza_written m n a.stanza (Some w) was now here k
    ∙ ap (λ o. cond (key_is k.stanza a.stanza) o (number_among (all_numbered m.entries) k)) (changed (place_of k))
    ∙ by (key_is k.stanza a.stanza) refl
    ∙ ap (λ b. option_map (λ x. f x (cond b 1 0)) (number_among (all_numbered m.entries) k)) (sym (tie_parts a k ∙ ap (λ b. b && is_eq (place_cmp (place_of a) (place_of k))) (tie_key a.stanza k.stanza)))
  where
    same : (o : Option ℕ) → o ≡ option_map (λ x. f x 0) o
    same None = refl
    same (Some x) = ap (λ y. Some y) (stay x)

    by : (b : Bool) → key_is k.stanza a.stanza ≡ b
        → cond b (option_map (λ x. f x (cond (is_eq (place_cmp (place_of a) (place_of k))) 1 0)) (number_at_place (place_of k) v)) (number_among (all_numbered m.entries) k)
        ≡ option_map (λ x. f x (cond (b && is_eq (place_cmp (place_of a) (place_of k))) 1 0)) (number_among (all_numbered m.entries) k)
    by true is = ap (option_map (λ x. f x (cond (is_eq (place_cmp (place_of a) (place_of k))) 1 0))) (ap (placed_number k) (at ∙ ap (get key_cmp m) (sym (key_is-same k.stanza a.stanza is))) ∙ sym (number_is m was k))
    by false is = same (number_among (all_numbered m.entries) k)

-- one that isn't there stays away
pub none_changed : (m : Numbers) (a : ClauseKey) (f : ℕ → ℕ → ℕ) → ((x : ℕ) → x ≡ f x 0) → number_among m a ≡ None
    → (k : ClauseKey) → number_among m k ≡ option_map (λ x. f x (cond (is_eq (clause_cmp a k)) 1 0)) (number_among m k)
none_changed m a f stay none k = by (is_eq (clause_cmp a k)) refl
  where
    same : (o : Option ℕ) → o ≡ option_map (λ x. f x 0) o
    same None = refl
    same (Some x) = ap (λ y. Some y) (stay x)

    by : (b : Bool) → is_eq (clause_cmp a k) ≡ b → number_among m k ≡ option_map (λ x. f x (cond b 1 0)) (number_among m k)
    by true e =
        let gone : number_among m k ≡ None = ap (number_among m) (sym (same_clause a k e)) ∙ none in
        gone ∙ sym (ap (option_map (λ x. f x 1)) gone)
    by false e = same (number_among m k)

-- ---- the clauses at 0

abbrev pub at_zero : Option ℕ → Bool
at_zero o = option_map_or (λ n. nat_eq n 0) o false

pub zeros_is : (mark : Bool) (s : StanzaKey) (cs : Placed) → AreInPlace cs → (k : ClauseKey) (old : Bool)
    → zeros_marked mark s cs k old ≡ cond (key_is k.stanza s && at_zero (number_at_place (place_of k) cs)) mark old
zeros_is mark s [] rising k old = by (key_is k.stanza s)
  where
    by : (b : Bool) → old ≡ cond (b && false) mark old
    by true = refl
    by false = refl
zeros_is mark s (c ∷ cs) rising k old =
    zeros_is mark s cs (sorted_tail place_cmp c.0 (keys_of cs) rising) k (cond (nat_eq c.1 0) (cond (is_eq (clause_cmp (clause_at_place s c.0) k)) mark old) old)
    ∙ ap (λ b. cond (key_is k.stanza s && at_zero (number_at_place (place_of k) cs)) mark (cond (nat_eq c.1 0) (cond b mark old) old))
    (tie_parts (clause_at_place s c.0) k ∙ (λ i. tie_key s k.stanza i && tie_turned c.0 (place_of k) i))
    ∙ by (key_is k.stanza s) (is_eq (place_cmp (place_of k) c.0)) (nat_eq c.1 0) refl (λ tie. ap (λ q. number_at_place q cs) (same_place (place_of k) c.0 tie) ∙ none_below c.0 cs (sorted_head place_cmp c.0 (keys_of cs) rising))
  where
    N : Option ℕ
    N = number_at_place (place_of k) cs

    by : (b t z : Bool) → nat_eq c.1 0 ≡ z → (t ≡ true → N ≡ None)
        → cond (b && at_zero N) mark (cond z (cond (b && t) mark old) old) ≡ cond (b && at_zero (cond t (Some c.1) N)) mark old
    by false t true e none = refl
    by false t false e none = refl
    by true true true e none = ap (λ o. cond (at_zero o) mark mark) (none refl) ∙ ap (λ y. cond y mark old) (sym e)
    by true true false e none = ap (λ o. cond (at_zero o) mark old) (none refl) ∙ ap (λ y. cond y mark old) (sym e)
    by true false true e none = refl
    by true false false e none = refl

-- where the clauses of a stanza go, those at 0 leave
pub zeros_go : (m n : Numbers) (x y : BTreeSet ClauseKey) (s : StanzaKey) (cs : Placed) → AreInPlace cs
    → ((k : ClauseKey) → key_is k.stanza s ≡ true → number_among m k ≡ number_at_place (place_of k) cs)
    → ((k : ClauseKey) → number_among n k ≡ cond (key_is k.stanza s) None (number_among m k))
    → ((k : ClauseKey) → contains clause_cmp y k ≡ zeros_marked false s cs k (contains clause_cmp x k))
    → AreUnmet m x → AreUnmet n y
zeros_go m n x y s cs rising told gone marks old k =
    marks k ∙ zeros_is false s cs rising k (contains clause_cmp x k) ∙ by (key_is k.stanza s) refl ∙ ap at_zero (sym (gone k))
  where
    by : (b : Bool) → key_is k.stanza s ≡ b → cond (b && at_zero (number_at_place (place_of k) cs)) false (contains clause_cmp x k) ≡ at_zero (cond b None (number_among m k))
    by false is = old k
    by true is = ap (cond (at_zero (number_at_place (place_of k) cs)) false) (old k ∙ ap at_zero (told k is)) ∙ twice (at_zero (number_at_place (place_of k) cs))
      where
        twice : (b : Bool) → cond b false b ≡ false
        twice true = refl
        twice false = refl

-- where the clauses of a stanza come of which none is there, those at 0 come
pub zeros_come : (m n : Numbers) (x y : BTreeSet ClauseKey) (s : StanzaKey) (cs : Placed) → AreInPlace cs
    → ((k : ClauseKey) → key_is k.stanza s ≡ true → number_among m k ≡ None)
    → ((k : ClauseKey) → number_among n k ≡ cond (key_is k.stanza s) (number_at_place (place_of k) cs) (number_among m k))
    → ((k : ClauseKey) → contains clause_cmp y k ≡ zeros_marked true s cs k (contains clause_cmp x k))
    → AreUnmet m x → AreUnmet n y
zeros_come m n x y s cs rising none come marks old k =
    marks k ∙ zeros_is true s cs rising k (contains clause_cmp x k) ∙ by (key_is k.stanza s) refl ∙ ap at_zero (sym (come k))
  where
    by : (b : Bool) → key_is k.stanza s ≡ b → cond (b && at_zero (number_at_place (place_of k) cs)) true (contains clause_cmp x k) ≡ at_zero (cond b (number_at_place (place_of k) cs) (number_among m k))
    by false is = old k
    by true is = ap (cond (at_zero (number_at_place (place_of k) cs)) true) (old k ∙ ap at_zero (none k is)) ∙ same (at_zero (number_at_place (place_of k) cs))
      where
        same : (b : Bool) → cond b true false ≡ b
        same true = refl
        same false = refl

-- where a number is raised, its clause leaves those at 0; where it is lowered to 0, it comes
pub unmet_changed : (m n : Numbers) (x y : BTreeSet ClauseKey) (a : ClauseKey) (f : ℕ → ℕ → ℕ) (b : Bool) → ((v : ℕ) → v ≡ f v 0)
    → ((k : ClauseKey) → number_among n k ≡ option_map (λ v. f v (cond (is_eq (clause_cmp a k)) 1 0)) (number_among m k))
    → ((k : ClauseKey) → contains clause_cmp y k ≡ cond (is_eq (clause_cmp a k)) b (contains clause_cmp x k))
    → b ≡ at_zero (option_map (λ v. f v 1) (number_among m a))
    → AreUnmet m x → AreUnmet n y
unmet_changed m n x y a f b stay here marks is old k = marks k ∙ by (is_eq (clause_cmp a k)) refl ∙ ap at_zero (sym (here k))
  where
    same : (o : Option ℕ) → at_zero o ≡ at_zero (option_map (λ v. f v 0) o)
    same None = refl
    same (Some v) = ap (λ w. nat_eq w 0) (stay v)

    by : (t : Bool) → is_eq (clause_cmp a k) ≡ t → cond t b (contains clause_cmp x k) ≡ at_zero (option_map (λ v. f v (cond t 1 0)) (number_among m k))
    by true e = is ∙ ap (λ q. at_zero (option_map (λ v. f v 1) (number_among m q))) (same_clause a k e)
    by false e = old k ∙ same (number_among m k)

-- a number that is raised isn't 0; one that is lowered is where it was below 2
pub raised : (o : Option ℕ) → false ≡ at_zero (option_map (λ v. counted_up 1 v) o)
raised None = refl
raised (Some v) = grind (arith, nat_tests)

pub lowered : (o : Option ℕ) → option_map_or (λ n. nat_lt n 2) o false ≡ at_zero (option_map (λ v. v - 1) o)
lowered None = refl
lowered (Some v) = grind (arith, nat_tests)

-- ---- clauses that wait

pub come_of-push : (s : StanzaKey) (cs : Placed) (p : ClausePlace) (n : ℕ) (k : ClauseKey) (old : Option ℕ)
    → come_of (Some s) (cs ++ (p, n) ∷ []) k old ≡ cond (is_eq (clause_cmp (clause_at_place s p) k)) (Some n) (come_of (Some s) cs k old)
come_of-push s cs p n k old =
    ap (λ o. cond (key_is k.stanza s) o old) (come_in-push cs (p, n) (place_of k) old) ∙ by (key_is k.stanza s) (is_eq (place_cmp p (place_of k)))
    ∙ ap (λ b. cond b (Some n) (come_of (Some s) cs k old)) (sym (tie_parts (clause_at_place s p) k ∙ ap (λ b. b && is_eq (place_cmp p (place_of k))) (tie_key s k.stanza)))
  where
    by : (b t : Bool) → cond b (cond t (Some n) (come_in cs (place_of k) old)) old ≡ cond (b && t) (Some n) (cond b (come_in cs (place_of k) old) old)
    by true true = refl
    by true false = refl
    by false t = refl

pub come_of-none : (s : StanzaKey) (k : ClauseKey) (old : Option ℕ) → come_of (Some s) [] k old ≡ old
come_of-none s k old = by (key_is k.stanza s)
  where
    by : (b : Bool) → cond b old old ≡ old
    by true = refl
    by false = refl

-- the clauses of a stanza are taken out, joined with those that come, and put in again
pub come_of-joined : (s : StanzaKey) (ts cs js : Placed) (m o n : Numbers)
    → ((k : ClauseKey) → key_is k.stanza s ≡ true → number_among m k ≡ number_at_place (place_of k) ts)
    → ((k : ClauseKey) → number_among o k ≡ cond (key_is k.stanza s) None (number_among m k))
    → ((q : ClausePlace) → number_at_place q js ≡ come_in cs q (number_at_place q ts))
    → ((k : ClauseKey) → number_among n k ≡ cond (key_is k.stanza s) (number_at_place (place_of k) js) (number_among o k))
    → (k : ClauseKey) → number_among n k ≡ come_of (Some s) cs k (number_among m k)
come_of-joined s ts cs js m o n told gone joined put k = put k ∙ ap (cond (key_is k.stanza s) (number_at_place (place_of k) js)) (gone k) ∙ by (key_is k.stanza s) refl
  where
    by : (b : Bool) → key_is k.stanza s ≡ b → cond b (number_at_place (place_of k) js) (cond b None (number_among m k)) ≡ cond b (come_in cs (place_of k) (number_among m k)) (number_among m k)
    by true is = joined (place_of k) ∙ ap (come_in cs (place_of k)) (sym (told k is))
    by false is = refl

-- what is gone isn't there
pub gone_none : (s : StanzaKey) (m o : Numbers) → ((k : ClauseKey) → number_among o k ≡ cond (key_is k.stanza s) None (number_among m k))
    → (k : ClauseKey) → key_is k.stanza s ≡ true → number_among o k ≡ None
gone_none s m o gone k is = gone k ∙ ap (λ b. cond b None (number_among m k)) is

-- ---- what holds where a call answers

pub on_true : {T : Type 0} (b : Bool) → (b ≡ true → T) → OnTrue b T
on_true true f = f refl
on_true false f = tt

pub of_true : {T : Type 0} (b : Bool) → b ≡ true → OnTrue b T → T
of_true true e h = h
of_true false e h = absurd (true≢false (sym e))

pub if_ok : {A E : Type 0} {P Q : A → Type 0} (r : Result A E) → ((x : A) → P x → Q x) → IfOk r P → IfOk r Q
if_ok (Ok a) f h = f a h
if_ok (Err e) f h = tt

pub none_there : (xs : Placed) → nat_eq (length xs) 0 ≡ true → xs ≡ []
none_there [] e = refl
none_there (x ∷ xs) e = absurd (omega (arith, nat_eq-is (length (x ∷ xs)) 0 e))
