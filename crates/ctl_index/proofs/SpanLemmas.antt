-- The first and the last of keys.
use Rattle.std.proofs.Common.{◌≡◌, ℕ, zero, suc, ◌-◌, Bool, true, false, ◌&&◌, List, [], ◌∷◌, ◌++◌, length, Some, refl, ap, sym, subst, ◌∙◌, arith}
use Rattle.std.specs.Prelude.{slice_get}
use Rattle.std.specs.List.{AllByRecursion, list_any}
use Rattle.std.specs.Ordering.{ordering_then, nat_cmp, is_ge, is_le}
use Rattle.std.specs.declared.cmp.Ordering.TheVariants.{Less, Greater}
use Rattle.std.proofs.lemmas.Bool.Decides.{nat_tests}
use Rattle.std.proofs.lemmas.Bool.{true≢false}
use Rattle.ctl_store.specs.declared.stanza_key.StanzaKey.{StanzaKey}
use Rattle.ctl_store.specs.Keys.{key_cmp, key_is, AreRising}
use Rattle.ctl_store.specs.Entries.{Entry, entry_keys, is_among}
use Rattle.ctl_index.specs.Inside.TablesOrder.{is_within, last_or, span_of}
use Rattle.ctl_index.proofs.KeyLemmas.{key_same, turned}
use Rattle.ctl_index.proofs.StoreLemmas.{all_append, all_both, own_among}

last_at : (k : StanzaKey) (ks : List StanzaKey) → slice_get (k ∷ ks) (length ks) ≡ Some (last_or k ks)
last_at k [] = refl
last_at k (q ∷ ks) = last_at q ks

pub span_is : (keys : List StanzaKey) (a b : StanzaKey) → Some a ≡ slice_get keys 0 → Some b ≡ slice_get keys (length keys - 1) → record { first = a; last = b } ≡ span_of keys
span_is [] a b f l = absurd (let z : ⊥ = cc in z)
span_is (k ∷ ks) a b f l =
    let one : a ≡ k = cc in
    let at : slice_get (k ∷ ks) (length (k ∷ ks) - 1) ≡ Some (last_or k ks) = ap (slice_get (k ∷ ks)) (omega arith) ∙ last_at k ks in
    let two : b ≡ last_or k ks = (let z : Some b ≡ Some (last_or k ks) = l ∙ at in cc) in
    λ i. record { first = one i; last = two i }

-- ---- which keys are within

-- those before the first, and those behind the last
below_out : (k first last : StanzaKey) → key_cmp k first ≡ Less → is_within (record { first = first; last = last }) k ≡ false
below_out k first last h = ap (λ o. is_ge o && is_le (key_cmp k last)) h

above_out : (k first last : StanzaKey) → key_cmp last k ≡ Less → is_within (record { first = first; last = last }) k ≡ false
above_out k first last h = ap (λ o. is_ge (key_cmp k first) && is_le o) (turned last k h) ∙ by (is_ge (key_cmp k first))
  where
    by : (b : Bool) → (b && false) ≡ false
    by true = refl
    by false = refl

-- what rises from k on
rises_from : (k : StanzaKey) (ks : List StanzaKey) → AreRising (k ∷ ks) → AllByRecursion (λ q. is_ge (key_cmp q k) ≡ true) (k ∷ ks)
rises_from k ks h = (ap is_ge (key_same k), all_both (λ q. key_cmp k q ≡ Less) (λ q. key_cmp k q ≡ Less) (λ q. is_ge (key_cmp q k) ≡ true) ks (λ q l _. ap is_ge (turned k q l)) h.0 h.0)

-- what rises to the last
last_below : (k : StanzaKey) (ks : List StanzaKey) (q : StanzaKey) → AllByRecursion (λ r. key_cmp q r ≡ Less) (k ∷ ks) → key_cmp q (last_or k ks) ≡ Less
last_below k [] q h = h.0
last_below k (r ∷ ks) q h = last_below r ks q h.1

rises_to : (k : StanzaKey) (ks : List StanzaKey) → AreRising (k ∷ ks) → AllByRecursion (λ q. is_le (key_cmp q (last_or k ks)) ≡ true) (k ∷ ks)
rises_to k [] h = (ap is_le (key_same k), tt)
rises_to k (q ∷ ks) h = (ap is_le (last_below q ks k h.0), rises_to q ks h.1)

pub within_span : (keys : List StanzaKey) → AreRising keys → AllByRecursion (λ q. is_within (span_of keys) q ≡ true) keys
within_span [] h = tt
within_span (k ∷ ks) h = all_both (λ q. is_ge (key_cmp q k) ≡ true) (λ q. is_le (key_cmp q (last_or k ks)) ≡ true) (λ q. is_within (span_of (k ∷ ks)) q ≡ true) (k ∷ ks) (λ q a b i. a i && b i) (rises_from k ks h) (rises_to k ks h)

-- no key is within the span of no keys
above_zero : (n : ℕ) → nat_cmp (suc n) 0 ≡ Greater
above_zero n = grind (arith, nat_tests)

none_within : (q : StanzaKey) → is_within (span_of []) q ≡ false
none_within q = by q.list
  where
    never : (b : Bool) → (b && false) ≡ false
    never true = refl
    never false = refl

    by : (n : ℕ) → is_ge (ordering_then (nat_cmp n 1) (nat_cmp q.stanza 0)) && is_le (ordering_then (nat_cmp n 0) (nat_cmp q.stanza 0)) ≡ false
    by zero = refl
    by (suc n) = ap (λ o. is_ge (ordering_then (nat_cmp (suc n) 1) (nat_cmp q.stanza 0)) && is_le (ordering_then o (nat_cmp q.stanza 0))) (above_zero n) ∙ never (is_ge (ordering_then (nat_cmp (suc n) 1) (nat_cmp q.stanza 0)))

-- ---- those of stanzas in order

rising_back : (xs ys : List StanzaKey) → AreRising (xs ++ ys) → AreRising ys
rising_back [] ys h = h
rising_back (x ∷ xs) ys h = rising_back xs ys h.1

rising_front : (xs ys : List StanzaKey) → AreRising (xs ++ ys) → AreRising xs
rising_front [] ys h = tt
rising_front (x ∷ xs) ys h = (front xs h.0, rising_front xs ys h.1)
  where
    front : (zs : List StanzaKey) → AllByRecursion (λ q. key_cmp x q ≡ Less) (zs ++ ys) → AllByRecursion (λ q. key_cmp x q ≡ Less) zs
    front [] p = tt
    front (z ∷ zs) p = (p.0, front zs p.1)

before_span : (head : List Entry) (k : StanzaKey) (ks others : List StanzaKey) → AreRising (entry_keys head ++ ((k ∷ ks) ++ others)) → AllByRecursion (λ (e : Entry). is_within (span_of (k ∷ ks)) e.0 ≡ false) head
before_span [] k ks others h = tt
before_span (e ∷ head) k ks others h = (below_out e.0 k (last_or k ks) (at (entry_keys head) h.0), before_span head k ks others h.1)
  where
    at : (zs : List StanzaKey) → AllByRecursion (λ q. key_cmp e.0 q ≡ Less) (zs ++ ((k ∷ ks) ++ others)) → key_cmp e.0 k ≡ Less
    at [] p = p.0
    at (z ∷ zs) p = at zs p.1

behind_span : (first k : StanzaKey) (ks : List StanzaKey) (tail : List Entry) → AreRising ((k ∷ ks) ++ entry_keys tail) → AllByRecursion (λ (e : Entry). is_within (record { first = first; last = last_or k ks }) e.0 ≡ false) tail
behind_span first k [] tail h = at tail h.0
  where
    at : (es : List Entry) → AllByRecursion (λ q. key_cmp k q ≡ Less) (entry_keys es) → AllByRecursion (λ (e : Entry). is_within (record { first = first; last = k }) e.0 ≡ false) es
    at [] p = tt
    at (e ∷ es) p = (above_out e.0 first k p.0, at es p.1)
behind_span first k (q ∷ ks) tail h = behind_span first q ks tail h.1

keys-append : (xs ys : List Entry) → entry_keys (xs ++ ys) ≡ entry_keys xs ++ entry_keys ys
keys-append [] ys = refl
keys-append (x ∷ xs) ys = ap (λ ks. x.0 ∷ ks) (keys-append xs ys)

-- Of stanzas in the order of their keys, some that stand together: their keys are within their span, and no others.
module _ (head gone tail : List Entry) (keys : List StanzaKey) (are : entry_keys gone ≡ keys) (rising : AreRising (entry_keys (head ++ (gone ++ tail)))) where
  parts : AreRising (entry_keys head ++ (keys ++ entry_keys tail))
  parts = subst AreRising (keys-append head (gone ++ tail) ∙ ap (λ ks. entry_keys head ++ ks) (keys-append gone tail ∙ ap (λ ks. ks ++ entry_keys tail) are)) rising

  pub gone_within : AllByRecursion (λ (e : Entry). is_within (span_of keys) e.0 ≡ true) gone
  gone_within = at gone (subst (AllByRecursion (λ q. is_within (span_of keys) q ≡ true)) (sym are) (within_span keys (rising_front keys (entry_keys tail) (rising_back (entry_keys head) (keys ++ entry_keys tail) parts))))
    where
      at : (es : List Entry) → AllByRecursion (λ q. is_within (span_of keys) q ≡ true) (entry_keys es) → AllByRecursion (λ (e : Entry). is_within (span_of keys) e.0 ≡ true) es
      at [] h = tt
      at (e ∷ es) h = (h.0, at es h.1)

  pub others_outside : AllByRecursion (λ (e : Entry). is_among keys e ≡ false → is_within (span_of keys) e.0 ≡ false) (head ++ (gone ++ tail))
  others_outside = by keys are parts
    where
      all_of : (P : Entry → Type 0) → ((e : Entry) → P e) → (es : List Entry) → AllByRecursion P es
      all_of P f [] = tt
      all_of P f (e ∷ es) = (f e, all_of P f es)

      never : (ks : List StanzaKey) (es : List Entry) → AllByRecursion (λ q. list_any (key_is q) ks ≡ true) (entry_keys es) → AllByRecursion (λ (e : Entry). is_among ks e ≡ false → is_within (span_of ks) e.0 ≡ false) es
      never ks [] h = tt
      never ks (e ∷ es) h = (λ none. absurd (true≢false (sym h.0 ∙ none)), never ks es h.1)

      weak : (ks : List StanzaKey) (es : List Entry) → AllByRecursion (λ (e : Entry). is_within (span_of ks) e.0 ≡ false) es → AllByRecursion (λ (e : Entry). is_among ks e ≡ false → is_within (span_of ks) e.0 ≡ false) es
      weak ks [] h = tt
      weak ks (e ∷ es) h = (λ none. h.0, weak ks es h.1)

      by : (ks : List StanzaKey) → entry_keys gone ≡ ks → AreRising (entry_keys head ++ (ks ++ entry_keys tail)) → AllByRecursion (λ (e : Entry). is_among ks e ≡ false → is_within (span_of ks) e.0 ≡ false) (head ++ (gone ++ tail))
      by [] a h = all_of (λ (e : Entry). is_among [] e ≡ false → is_within (span_of []) e.0 ≡ false) (λ e none. none_within e.0) (head ++ (gone ++ tail))
      by (k ∷ ks) a h =
          let P : Entry → Type 0 = λ e. is_among (k ∷ ks) e ≡ false → is_within (span_of (k ∷ ks)) e.0 ≡ false in
          all_append P head (gone ++ tail) (weak (k ∷ ks) head (before_span head k ks (entry_keys tail) h))
          (all_append P gone tail (never (k ∷ ks) gone (subst (AllByRecursion (λ q. list_any (key_is q) (k ∷ ks) ≡ true)) (sym a) (own_among (k ∷ ks))))
          (weak (k ∷ ks) tail (behind_span k k ks tail (rising_back (entry_keys head) ((k ∷ ks) ++ entry_keys tail) h))))
