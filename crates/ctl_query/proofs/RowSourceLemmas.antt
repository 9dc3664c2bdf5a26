-- The sources of a row, told one after another by its keys.
use Rattle.std.proofs.Common.{◌≡◌, ◌∙◌, ℕ, Bool, true, false, cond, ◌||◌, nat_eq, List, [], ◌∷◌, ◌++◌, map, filter, Option, None, Some, IsSome, refl, sym, ap, subst, arith}
use Rattle.std.specs.List.{AllByRecursion, IsDistinct}
use Rattle.std.specs.Map.{lookup, keys_of as names_of}
use Rattle.std.specs.Option.{option_or, is_some}
use Rattle.std.specs.Ordering.{ordering_reverse}
use Rattle.std.specs.declared.cmp.Ordering.TheVariants.{Less, Greater}
use Rattle.std.specs.Str.{bytes_eq}
use Rattle.std.proofs.lemmas.Bool.{true≢false}
use Rattle.std.proofs.lemmas.Bool.Decides.{nat_tests}
use Rattle.std.proofs.lemmas.Slice.Eq.{bytes_eq-Decides}
use Rattle.ctl_stanza.specs.Content.{Content}
use Rattle.ctl_store.specs.declared.stanza_key.StanzaKey.{StanzaKey}
use Rattle.ctl_store.specs.Keys.{KeyedList, key_of, keys_of, key_cmp, all_keys, AreRising, in_slots, stanza_at, AreHeld, holder_of}
use Rattle.ctl_policy.specs.Rows.{Lists, is_called, is_source, sources_of}
use Rattle.ctl_query.specs.Inside.RowSources.{holder_then, holders_behind}
use Rattle.ctl_query.proofs.LeadTableLemmas.{keys_total}
use Rattle.ctl_query.proofs.SourceLemmas.{turned, held_apart}

itself : (name : List ℕ) → bytes_eq name name ≡ true
itself name = (bytes_eq-Decides name name).1 refl

nat_same : (a b : ℕ) → nat_eq a b ≡ true → a ≡ b
nat_same a b e = grind (arith, nat_tests)

-- ---- where a key stands

module _ {X : Type 0} (P : X → Type 0) where
  all_front : (xs ys : List X) → AllByRecursion P (xs ++ ys) → AllByRecursion P xs
  all_front [] ys h = tt
  all_front (x ∷ xs) ys h = (h.0, all_front xs ys h.1)

  all_back : (xs ys : List X) → AllByRecursion P (xs ++ ys) → AllByRecursion P ys
  all_back [] ys h = h
  all_back (x ∷ xs) ys h = all_back xs ys h.1

module _ (P : StanzaKey → Type 0) (q : StanzaKey) where
  each_row : (serial : ℕ) → serial ≡ q.list → (rows : List (ℕ × Content)) → is_some (lookup (λ s. nat_eq s q.stanza) rows) ≡ true →
      AllByRecursion P (map (λ (row : ℕ × Content). key_of serial row.0) rows) → P q
  each_row serial same [] there h = absurd (true≢false (sym there))
  each_row serial same (r ∷ rows) there h = by (nat_eq r.0 q.stanza) refl (λ e. each_row serial same rows e h.1)
    where
      by : (b : Bool) → nat_eq r.0 q.stanza ≡ b → (is_some (lookup (λ s. nat_eq s q.stanza) rows) ≡ true → P q) → P q
      by true e rest = subst P (λ i. record { list = same i; stanza = nat_same r.0 q.stanza e i }) h.0
      by false e rest = rest (ap (λ b. is_some (cond b (Some r.1) (lookup (λ s. nat_eq s q.stanza) rows))) (sym e) ∙ there)

  -- what holds of the keys of a list holds of a key in it
  each_in : (l : KeyedList) → is_some (in_slots q l) ≡ true → AllByRecursion P (keys_of l) → P q
  each_in l there h = by (nat_eq l.serial q.list) refl
    where
      by : (b : Bool) → nat_eq l.serial q.list ≡ b → P q
      by true e = each_row l.serial (nat_same l.serial q.list e) l.slots (ap (λ b. is_some (cond b (lookup (λ s. nat_eq s q.stanza) l.slots) None)) (sym e) ∙ there) h
      by false e = absurd (true≢false (sym (ap (λ b. is_some (cond b (lookup (λ s. nat_eq s q.stanza) l.slots) None)) (sym e) ∙ there)))

  -- what holds of all keys holds of a key that is held
  each_held : (ls : Lists) → IsSome (stanza_at q ls) → AllByRecursion P (all_keys ls) → P q
  each_held [] held h = absurd (true≢false (sym held))
  each_held (l ∷ ls) held h = by (in_slots q l.1) refl (λ there. each_held ls there (all_back P (keys_of l.1) (all_keys ls) h))
    where
      by : (o : Option Content) → in_slots q l.1 ≡ o → (IsSome (stanza_at q ls) → P q) → P q
      by None e rest = rest (subst (λ (o : Option Content). IsSome (option_or o (stanza_at q ls))) e held)
      by (Some x) e rest = each_in l.1 (ap is_some e) (all_front P (keys_of l.1) (all_keys ls) h)

-- ---- keys that rise

not_both : (k q : StanzaKey) → key_cmp k q ≡ Less → key_cmp q k ≡ Less → ⊥
not_both k q a b = let e : Less ≡ Greater = sym a ∙ keys_total.antisymm k q ∙ ap ordering_reverse b in let z : ⊥ = cc in z

rise_apart : (xs ys : List StanzaKey) → AreRising (xs ++ ys) → AllByRecursion (λ x. AllByRecursion (λ y. key_cmp x y ≡ Less) ys) xs
rise_apart [] ys h = tt
rise_apart (x ∷ xs) ys h = (all_back (λ y. key_cmp x y ≡ Less) xs ys h.0, rise_apart xs ys h.1)

rise_back : (xs ys : List StanzaKey) → AreRising (xs ++ ys) → AreRising ys
rise_back [] ys h = h
rise_back (x ∷ xs) ys h = rise_back xs ys h.1

-- ---- names that are apart from another

module _ (other : List ℕ) (ls : Lists) (apart : AllByRecursion (λ y. bytes_eq other y ≡ false) (names_of ls)) where
  -- the other is no source
  away : (keys : List StanzaKey) → is_source other ls keys ≡ false
  away [] = refl
  away (k ∷ ks) = by (holder_of k ls) refl ∙ away ks
    where
      by : (o : Option (List ℕ)) → holder_of k ls ≡ o → (is_called other (holder_of k ls) || is_source other ls ks) ≡ is_source other ls ks
      by None e = ap (λ (o : Option (List ℕ)). is_called other o || is_source other ls ks) e
      by (Some name) e =
          ap (λ (o : Option (List ℕ)). is_called other o || is_source other ls ks) e
          ∙ ap (λ b. b || is_source other ls ks) (turned other name (held_apart k name other ls e apart))

  -- nor is it the list before a key
  fresh : (k : StanzaKey) (behind : Option (List ℕ) → List (List ℕ)) → holder_then (Some other) (holder_of k ls) behind ≡ holder_then None (holder_of k ls) behind
  fresh k behind = by (holder_of k ls) refl
    where
      by : (o : Option (List ℕ)) → holder_of k ls ≡ o → holder_then (Some other) o behind ≡ holder_then None o behind
      by None e = refl
      by (Some name) e = ap (λ b. cond b (behind (Some other)) (name ∷ behind (Some name))) (held_apart k name other ls e apart)

-- ---- names that pass

filter_none : (names : List (List ℕ)) → filter (λ (name : List ℕ). false) names ≡ []
filter_none [] = refl
filter_none (name ∷ names) = filter_none names

filter_alike : (p q : List ℕ → Bool) (names : List (List ℕ)) → AllByRecursion (λ name. p name ≡ q name) names → filter p names ≡ filter q names
filter_alike p q [] h = refl
filter_alike p q (name ∷ names) h = λ i. cond (h.0 i) (name ∷ filter_alike p q names h.1 i) (filter_alike p q names h.1 i)

all_so : (P Q : List ℕ → Type 0) → ((name : List ℕ) → P name → Q name) → (names : List (List ℕ)) → AllByRecursion P names → AllByRecursion Q names
all_so P Q so [] h = tt
all_so P Q so (name ∷ names) h = (so name h.0, all_so P Q so names h.1)

all_of : (Q : List ℕ → Type 0) → ((name : List ℕ) → Q name) → (names : List (List ℕ)) → AllByRecursion Q names
all_of Q so [] = tt
all_of Q so (name ∷ names) = (so name, all_of Q so names)

-- ---- keys that the first list doesn't hold

abbrev IsElsewhere : KeyedList → StanzaKey → Type 0
IsElsewhere l q = is_some (in_slots q l) ≡ false

module _ (l : List ℕ × KeyedList) (ls : Lists) where
  held_behind : (q : StanzaKey) → IsElsewhere l.1 q → IsSome (stanza_at q (l ∷ ls)) → IsSome (stanza_at q ls)
  held_behind q away held = by (in_slots q l.1) refl
    where
      by : (o : Option Content) → in_slots q l.1 ≡ o → IsSome (stanza_at q ls)
      by None e = subst (λ (o : Option Content). IsSome (option_or o (stanza_at q ls))) e held
      by (Some x) e = absurd (true≢false (ap is_some (sym e) ∙ away))

  all_behind : (keys : List StanzaKey) → AllByRecursion (IsElsewhere l.1) keys → AreHeld keys (l ∷ ls) → AreHeld keys ls
  all_behind [] away held = tt
  all_behind (k ∷ ks) away held = (held_behind k away.0 held.0, all_behind ks away.1 held.1)

  holder_elsewhere : (q : StanzaKey) → IsElsewhere l.1 q → holder_of q (l ∷ ls) ≡ holder_of q ls
  holder_elsewhere q away = ap (λ b. cond b (Some l.0) (holder_of q ls)) away

  holders_elsewhere : (keys : List StanzaKey) → AllByRecursion (IsElsewhere l.1) keys → (last : Option (List ℕ)) → holders_behind (l ∷ ls) last keys ≡ holders_behind ls last keys
  holders_elsewhere [] away last = refl
  holders_elsewhere (k ∷ ks) away last = λ i. holder_then last (holder_elsewhere k away.0 i) (λ next. holders_elsewhere ks away.1 next i)

  source_elsewhere : (name : List ℕ) (keys : List StanzaKey) → AllByRecursion (IsElsewhere l.1) keys → is_source name (l ∷ ls) keys ≡ is_source name ls keys
  source_elsewhere name [] away = refl
  source_elsewhere name (k ∷ ks) away = λ i. is_called name (holder_elsewhere k away.0 i) || source_elsewhere name ks away.1 i

  -- ---- keys that rise: behind one that the first list doesn't hold it holds none

  module _ (rising : AreRising (keys_of l.1 ++ all_keys ls)) where
    later_elsewhere : (k q : StanzaKey) → IsSome (stanza_at k ls) → key_cmp k q ≡ Less → IsElsewhere l.1 q
    later_elsewhere k q held below = by (is_some (in_slots q l.1)) refl
      where
        by : (b : Bool) → is_some (in_slots q l.1) ≡ b → is_some (in_slots q l.1) ≡ false
        by true e =
            absurd (not_both k q below (each_held (λ y. key_cmp q y ≡ Less) k ls held
            (each_in (λ x. AllByRecursion (λ y. key_cmp x y ≡ Less) (all_keys ls)) q l.1 e (rise_apart (keys_of l.1) (all_keys ls) rising))))
        by false e = e

    all_elsewhere : (k : StanzaKey) → IsSome (stanza_at k ls) → (keys : List StanzaKey) → AllByRecursion (λ q. key_cmp k q ≡ Less) keys → AllByRecursion (IsElsewhere l.1) keys
    all_elsewhere k held [] below = tt
    all_elsewhere k held (q ∷ keys) below = (later_elsewhere k q held below.0, all_elsewhere k held keys below.1)

    module _ (apart : AllByRecursion (λ y. bytes_eq l.0 y ≡ false) (names_of ls))
        (others : (keys : List StanzaKey) → AreRising keys → AreHeld keys ls → holders_behind ls None keys ≡ sources_of keys ls) where
      here : (k : StanzaKey) → is_some (in_slots k l.1) ≡ true → holder_of k (l ∷ ls) ≡ Some l.0
      here k e = ap (λ b. cond b (Some l.0) (holder_of k ls)) e

      -- a key more that the first list holds
      again : (k : StanzaKey) (ks : List StanzaKey) → is_some (in_slots k l.1) ≡ true → holders_behind (l ∷ ls) (Some l.0) (k ∷ ks) ≡ holders_behind (l ∷ ls) (Some l.0) ks
      again k ks e =
          ap (λ (o : Option (List ℕ)). holder_then (Some l.0) o (λ next. holders_behind (l ∷ ls) next ks)) (here k e)
          ∙ ap (λ b. cond b (holders_behind (l ∷ ls) (Some l.0) ks) (l.0 ∷ holders_behind (l ∷ ls) (Some l.0) ks)) (itself l.0)

      -- the sources of keys that the first list doesn't hold
      of_others : (keys : List StanzaKey) → AreRising keys → AllByRecursion (IsElsewhere l.1) keys → AreHeld keys (l ∷ ls) →
          holders_behind ls None keys ≡ filter (λ (name : List ℕ). is_source name (l ∷ ls) keys) (names_of ls)
      of_others keys rise away held =
          others keys rise (all_behind keys away held)
          ∙ filter_alike (λ name. is_source name ls keys) (λ name. is_source name (l ∷ ls) keys) (names_of ls)
          (all_of (λ name. is_source name ls keys ≡ is_source name (l ∷ ls) keys) (λ name. sym (source_elsewhere name keys away)) (names_of ls))

      -- behind the first list
      of_next : (keys : List StanzaKey) → AreRising keys → AreHeld keys (l ∷ ls) →
          holders_behind (l ∷ ls) (Some l.0) keys ≡ filter (λ (name : List ℕ). is_source name (l ∷ ls) keys) (names_of ls)
      of_next [] rise held = sym (filter_none (names_of ls))
      of_next (k ∷ ks) rise held = by (is_some (in_slots k l.1)) refl (of_next ks rise.1 held.1)
        where
          by : (b : Bool) → is_some (in_slots k l.1) ≡ b → holders_behind (l ∷ ls) (Some l.0) ks ≡ filter (λ (name : List ℕ). is_source name (l ∷ ls) ks) (names_of ls) →
              holders_behind (l ∷ ls) (Some l.0) (k ∷ ks) ≡ filter (λ (name : List ℕ). is_source name (l ∷ ls) (k ∷ ks)) (names_of ls)
          by true e rest =
              again k ks e ∙ rest
              ∙ filter_alike (λ name. is_source name (l ∷ ls) ks) (λ name. is_source name (l ∷ ls) (k ∷ ks)) (names_of ls)
              (all_so (λ y. bytes_eq l.0 y ≡ false) (λ name. is_source name (l ∷ ls) ks ≡ is_source name (l ∷ ls) (k ∷ ks))
              (λ name no. sym (ap (λ (o : Option (List ℕ)). is_called name o || is_source name (l ∷ ls) ks) (here k e) ∙ ap (λ b. b || is_source name (l ∷ ls) ks) no)) (names_of ls) apart)
          by false e rest =
              let away : AllByRecursion (IsElsewhere l.1) (k ∷ ks) = (e, all_elsewhere k (held_behind k e held.0) ks rise.0) in
              holders_elsewhere (k ∷ ks) away (Some l.0) ∙ fresh l.0 ls apart k (λ next. holders_behind ls next ks) ∙ of_others (k ∷ ks) rise away held

      of_all : (keys : List StanzaKey) → AreRising keys → AreHeld keys (l ∷ ls) → holders_behind (l ∷ ls) None keys ≡ sources_of keys (l ∷ ls)
      of_all [] rise held = sym (filter_none (names_of ls))
      of_all (k ∷ ks) rise held = by (is_some (in_slots k l.1)) refl
        where
          by : (b : Bool) → is_some (in_slots k l.1) ≡ b → holders_behind (l ∷ ls) None (k ∷ ks) ≡ sources_of (k ∷ ks) (l ∷ ls)
          by true e =
              let rest : List (List ℕ) = filter (λ (name : List ℕ). is_source name (l ∷ ls) (k ∷ ks)) (names_of ls) in
              ap (λ (o : Option (List ℕ)). holder_then None o (λ next. holders_behind (l ∷ ls) next ks)) (here k e)
              ∙ ap (λ names. l.0 ∷ names) (sym (again k ks e) ∙ of_next (k ∷ ks) rise held)
              ∙ sym (ap (λ b. cond (b || is_source l.0 (l ∷ ls) ks) (l.0 ∷ rest) rest) (ap (is_called l.0) (here k e) ∙ itself l.0))
          by false e =
              let away' : AllByRecursion (IsElsewhere l.1) (k ∷ ks) = (e, all_elsewhere k (held_behind k e held.0) ks rise.0) in
              let rest : List (List ℕ) = filter (λ (name : List ℕ). is_source name (l ∷ ls) (k ∷ ks)) (names_of ls) in
              holders_elsewhere (k ∷ ks) away' None ∙ of_others (k ∷ ks) rise away' held
              ∙ sym (ap (λ b. cond b (l.0 ∷ rest) rest) (source_elsewhere l.0 (k ∷ ks) away' ∙ away l.0 ls apart (k ∷ ks)))

-- The lists of keys that rise, one behind another, are the sources of the row that has them.
pub holders_are_sources : (ls : Lists) → AreRising (all_keys ls) → IsDistinct bytes_eq (names_of ls) → (keys : List StanzaKey) → AreRising keys → AreHeld keys ls →
    holders_behind ls None keys ≡ sources_of keys ls
unfolding IsDistinct
holders_are_sources [] rising distinct [] rise held = refl
holders_are_sources [] rising distinct (k ∷ ks) rise held = absurd (true≢false (sym held.0))
holders_are_sources (l ∷ ls) rising distinct keys rise held =
    of_all l ls rising distinct.0 (holders_are_sources ls (rise_back (keys_of l.1) (all_keys ls) rising) distinct.1) keys rise held
