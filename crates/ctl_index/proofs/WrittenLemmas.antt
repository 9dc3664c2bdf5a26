-- What a write into one of the two trees of names leaves under any name.
use Rattle.std.proofs.Common.{◌≡◌, ℕ, ◌<◌, ◌≤◌, Bool, true, false, cond, length, List, Option, None, Some, is_some, option_map, IsSome, Vec, Global, refl, ap, sym, subst, ◌∙◌, arith, nat_le, nat_cmp, MutBor, OnSome, Result, Ok, Err, OnOk, OnErr}
use Rattle.std.specs.BTreeMap.{BTreeMap, UpdatesBy, IsUnchanged, get, keys}
use Rattle.std.specs.Cmp.{eq_by_cmp_equiv}
use Rattle.std.specs.Cmp.Lexicographic.{slice_cmp, nat_list_cmp_total, nat_list_eq_equiv}
use Rattle.std.specs.Option.{option_copied_mut}
use Rattle.std.specs.Map.{lookup, KeepsOthers, IsKeyTest, AreApart as ArePartedTests}
use Rattle.std.specs.List.{list_any}
use Rattle.std.specs.Ordering.{is_eq}
use Rattle.std.specs.Str.{bytes_eq}
use Rattle.std.proofs.lemmas.Bool.{true≢false}
use Rattle.std.proofs.lemmas.Bool.Decides.{nat_tests}
use Rattle.std.proofs.lemmas.Map.Made.{is_some-lookup}
use Rattle.std.proofs.lemmas.Map.Text.{is_eq-slice_cmp}
use Rattle.std.proofs.lemmas.Slice.Eq.{bytes_eq-Decides}
use Rattle.ctl_policy.specs.Chosen.{at_bytes}
use Rattle.ctl_index.specs.Inside.NameMap.{AreApart}
use Rattle.ctl_index.specs.Inside.ShortName.{most_short}
use Rattle.ctl_index.specs.declared.named.Named.{Named}

abbrev pub Short : Type 0
Short = BTreeMap (List ℕ) Named

abbrev pub Long : Type 0
Long = BTreeMap (Vec ℕ Global) Named

-- under a name of one tree there is w from now on, and under others what there was
abbrev pub IsShortSet : List ℕ → Short → Short → Option Named → Type 0
IsShortSet name old new w = (q : List ℕ) → get (slice_cmp nat_cmp) new q ≡ cond (bytes_eq name q) w (get (slice_cmp nat_cmp) old q)

abbrev pub IsLongSet : List ℕ → Long → Long → Option Named → Type 0
IsLongSet name old new w = (q : List ℕ) → at_bytes new q ≡ cond (bytes_eq name q) w (at_bytes old q)

pub short_set : (key name : List ℕ) (old new : Short) (w : Option Named) → key ≡ name → UpdatesBy (slice_cmp nat_cmp) (slice_cmp nat_cmp key) old new w → IsShortSet name old new w
short_set key name old new w is h q = h.0 q ∙ ap (λ b. cond b w (get (slice_cmp nat_cmp) old q)) (is_eq-slice_cmp key q ∙ ap (λ k. bytes_eq k q) is)

parted : (bs cs ks : List ℕ) → bytes_eq bs cs ≡ false → is_eq (slice_cmp nat_cmp bs ks) ≡ true → is_eq (slice_cmp nat_cmp cs ks) ≡ false
parted bs cs ks n y = is_eq-slice_cmp cs ks ∙ nat_list_eq_equiv.symm cs ks ∙ sym (nat_list_eq_equiv.congr bs ks cs (sym (is_eq-slice_cmp bs ks) ∙ y)) ∙ n

module _ {K X : Type 0} (eq : K → K → Bool) (test : K → Bool) where
  others : (old new : List (K × X)) → KeepsOthers eq test old new → (other : K → Bool) → IsKeyTest eq other → ArePartedTests test other → lookup other new ≡ lookup other old
  unfolding KeepsOthers
  others old new h = h

-- a change at the bytes bs: w is there then, and other bytes have what they had
pub updates_bytes : {X : Type 0} (bs : List ℕ) (m n : BTreeMap (Vec ℕ Global) X) (w : Option X) → UpdatesBy (λ x y. slice_cmp nat_cmp x.items y.items) (λ k. slice_cmp nat_cmp bs k.items) m n w
    → (cs : List ℕ) → at_bytes n cs ≡ cond (bytes_eq bs cs) w (at_bytes m cs)
updates_bytes bs m n w h cs = by (bytes_eq bs cs) refl
  where
    by : (b : Bool) → bytes_eq bs cs ≡ b → at_bytes n cs ≡ cond b w (at_bytes m cs)
    by true e = subst (λ l. at_bytes n l ≡ w) ((bytes_eq-Decides bs cs).0 e) h.1
    by false e = others _ _ _ _ h.3 _ (λ x y. (eq_by_cmp_equiv nat_list_cmp_total).congr cs x.items y.items) (λ k. parted bs cs k.items e)

pub long_set : (key name : List ℕ) (old new : Long) (w : Option Named) → key ≡ name → UpdatesBy (λ x y. slice_cmp nat_cmp x.items y.items) (λ k. slice_cmp nat_cmp key k.items) old new w → IsLongSet name old new w
long_set key name old new w is h q = updates_bytes key old new w h q ∙ ap (λ k. cond (bytes_eq k q) w (at_bytes old q)) is

-- ---- both trees

-- what stands under a name in one of them
abbrev pub at_either : Short → Long → List ℕ → Option Named
at_either short long q = cond (nat_le (length q) most_short) (get (slice_cmp nat_cmp) short q) (at_bytes long q)

not_short : (n : ℕ) → nat_le n most_short ≡ false → n ≤ most_short → true ≡ false
not_short n e h = absurd (let z : ⊥ = grind (arith, nat_tests) in z)

not_long : (n : ℕ) → nat_le n most_short ≡ true → most_short < n → true ≡ false
not_long n e h = absurd (let z : ⊥ = grind (arith, nat_tests) in z)

same_length : (name q : List ℕ) → bytes_eq name q ≡ true → length name ≡ length q
same_length name q e = ap length ((bytes_eq-Decides name q).0 e)

pub set_short : (name : List ℕ) (old new : Short) (long : Long) (w : Option Named) → length name ≤ most_short → IsShortSet name old new w
    → (q : List ℕ) → at_either new long q ≡ cond (bytes_eq name q) w (at_either old long q)
set_short name old new long w few h q = by (nat_le (length q) most_short) (bytes_eq name q) refl refl
  where
    by : (a b : Bool) → nat_le (length q) most_short ≡ a → bytes_eq name q ≡ b → cond a (get (slice_cmp nat_cmp) new q) (at_bytes long q) ≡ cond b w (cond a (get (slice_cmp nat_cmp) old q) (at_bytes long q))
    by true b i j = h q ∙ ap (λ z. cond z w (get (slice_cmp nat_cmp) old q)) j
    by false true i j = absurd (true≢false (not_short (length q) i (subst (λ n. n ≤ most_short) (same_length name q j) few)))
    by false false i j = refl

pub set_long : (name : List ℕ) (short : Short) (old new : Long) (w : Option Named) → most_short < length name → IsLongSet name old new w
    → (q : List ℕ) → at_either short new q ≡ cond (bytes_eq name q) w (at_either short old q)
set_long name short old new w many h q = by (nat_le (length q) most_short) (bytes_eq name q) refl refl
  where
    by : (a b : Bool) → nat_le (length q) most_short ≡ a → bytes_eq name q ≡ b → cond a (get (slice_cmp nat_cmp) short q) (at_bytes new q) ≡ cond b w (cond a (get (slice_cmp nat_cmp) short q) (at_bytes old q))
    by false b i j = h q ∙ ap (λ z. cond z w (at_bytes old q)) j
    by true true i j = absurd (true≢false (not_long (length q) i (subst (λ n. most_short < n) (same_length name q j) many)))
    by true false i j = refl

-- under each name there is what there was
pub same_short : (old new : Short) (long : Long) → IsUnchanged old new → (q : List ℕ) → at_either new long q ≡ at_either old long q
same_short old new long same q = ap (λ es. cond (nat_le (length q) most_short) (lookup (λ k. is_eq (slice_cmp nat_cmp q k)) es) (at_bytes long q)) same

pub same_long : (short : Short) (old new : Long) → IsUnchanged old new → (q : List ℕ) → at_either short new q ≡ at_either short old q
same_long short old new same q = ap (λ es. cond (nat_le (length q) most_short) (get (slice_cmp nat_cmp) short q) (lookup (λ (k : Vec ℕ Global). is_eq (slice_cmp nat_cmp q k.items)) es)) same

-- ---- the trees stay apart

pub apart_short : (name : List ℕ) (old new : Short) (long : Long) (w : Option Named) → length name ≤ most_short → IsShortSet name old new w → AreApart old long → AreApart new long
apart_short name old new long w few h apart = record { shorter = λ q. by (bytes_eq name q) q refl; longer = apart.longer }
  where
    by : (b : Bool) → (q : List ℕ) → bytes_eq name q ≡ b → is_some (get (slice_cmp nat_cmp) new q) ≡ true → length q ≤ most_short
    by true q e there = subst (λ n. n ≤ most_short) (same_length name q e) few
    by false q e there = apart.shorter q (ap is_some (sym (ap (λ b. cond b w (get (slice_cmp nat_cmp) old q)) e)) ∙ ap is_some (sym (h q)) ∙ there)

pub apart_long : (name : List ℕ) (short : Short) (old new : Long) (w : Option Named) → most_short < length name → IsLongSet name old new w → AreApart short old → AreApart short new
apart_long name short old new w many h apart = record { shorter = apart.shorter; longer = λ q. by (bytes_eq name q) q refl }
  where
    by : (b : Bool) → (q : List ℕ) → bytes_eq name q ≡ b → is_some (at_bytes new q) ≡ true → most_short < length q
    by true q e there = subst (λ n. most_short < n) (same_length name q e) many
    by false q e there = apart.longer q (ap is_some (sym (ap (λ b. cond b w (at_bytes old q)) e)) ∙ ap is_some (sym (h q)) ∙ there)

-- what is written through a borrow changes no key
pub apart_lent : (old new : Short) (long : Long) → keys new ≡ keys old → AreApart old long → AreApart new long
apart_lent old new long h apart = record { shorter = λ q there. apart.shorter q (same q ∙ there); longer = apart.longer }
  where
    same : (q : List ℕ) → is_some (get (slice_cmp nat_cmp) old q) ≡ is_some (get (slice_cmp nat_cmp) new q)
    same q = is_some-lookup (λ k. is_eq (slice_cmp nat_cmp q k)) old.entries ∙ ap (list_any (λ k. is_eq (slice_cmp nat_cmp q k))) (sym h) ∙ sym (is_some-lookup (λ k. is_eq (slice_cmp nat_cmp q k)) new.entries)

pub apart_lent_long : (short : Short) (old new : Long) → keys new ≡ keys old → AreApart short old → AreApart short new
apart_lent_long short old new h apart = record { shorter = apart.shorter; longer = λ q there. apart.longer q (same q ∙ there) }
  where
    same : (q : List ℕ) → is_some (at_bytes old q) ≡ is_some (at_bytes new q)
    same q = is_some-lookup (λ k. is_eq (slice_cmp nat_cmp q k.items)) old.entries ∙ ap (list_any (λ (k : Vec ℕ Global). is_eq (slice_cmp nat_cmp q k.items))) (sym h) ∙ sym (is_some-lookup (λ k. is_eq (slice_cmp nat_cmp q k.items)) new.entries)

-- what holds where something was lent
pub on_lent : {P : Type 0} (r : Option (MutBor Named)) (o : Option Named) → option_copied_mut r ≡ o → (IsSome o → P) → OnSome r P
on_lent None o e f = tt
on_lent (Some x) o e f = f (ap is_some (sym e))

-- what holds of what was lent
pub of_lent : {P : Type 0} (r : Option (MutBor Named)) → OnSome r P → IsSome (option_copied_mut r) → P
of_lent None h there = absurd (true≢false (sym there))
of_lent (Some x) h there = h

-- what holds after a call that may have been refused
pub on_either : {O E P Q R : Type 0} (r : Result O E) → OnOk r P → OnErr r Q → (P → R) → (Q → R) → R
on_either (Ok x) p q f g = f p
on_either (Err e) p q f g = g q

-- what wasn't changed stays apart
pub apart_same : (short new_short : Short) (long new_long : Long) → IsUnchanged short new_short → IsUnchanged long new_long → AreApart short long → AreApart new_short new_long
apart_same short new_short long new_long s l apart = record {
  shorter = λ q there. apart.shorter q (ap (λ es. is_some (lookup (λ k. is_eq (slice_cmp nat_cmp q k)) es)) (sym s) ∙ there);
  longer = λ q there. apart.longer q (ap (λ es. is_some (lookup (λ (k : Vec ℕ Global). is_eq (slice_cmp nat_cmp q k.items)) es)) (sym l) ∙ there);
}

-- ---- what stands in one of the trees

pub short_at : (short : Short) (long : Long) → AreApart short long → (q : List ℕ) (v : Named) → get (slice_cmp nat_cmp) short q ≡ Some v → at_either short long q ≡ Some v
short_at short long apart q v e = by (nat_le (length q) most_short) refl
  where
    by : (b : Bool) → nat_le (length q) most_short ≡ b → at_either short long q ≡ Some v
    by true t = ap (λ b. cond b (get (slice_cmp nat_cmp) short q) (at_bytes long q)) t ∙ e
    by false t = absurd (true≢false (not_short (length q) t (apart.shorter q (ap is_some e))))

pub long_at : (short : Short) (long : Long) → AreApart short long → (q : List ℕ) (v : Named) → at_bytes long q ≡ Some v → at_either short long q ≡ Some v
long_at short long apart q v e = by (nat_le (length q) most_short) refl
  where
    by : (b : Bool) → nat_le (length q) most_short ≡ b → at_either short long q ≡ Some v
    by true t = absurd (true≢false (not_long (length q) t (apart.longer q (ap is_some e))))
    by false t = ap (λ b. cond b (get (slice_cmp nat_cmp) short q) (at_bytes long q)) t ∙ e

mapped_some : {X : Type 0} (f : X → X) (o : Option X) → is_some (option_map f o) ≡ is_some o
mapped_some f None = refl
mapped_some f (Some x) = refl

-- both trees after each value was written anew by its name
module _ (f : List ℕ → Named → Named) (short s : Short) (long l : Long) (are : (q : List ℕ) → get (slice_cmp nat_cmp) s q ≡ option_map (f q) (get (slice_cmp nat_cmp) short q)) (also : (q : List ℕ) → at_bytes l q ≡ option_map (f q) (at_bytes long q)) where
  pub mapped_at : (q : List ℕ) → at_either s l q ≡ option_map (f q) (at_either short long q)
  mapped_at q = by (nat_le (length q) most_short)
    where
      by : (b : Bool) → cond b (get (slice_cmp nat_cmp) s q) (at_bytes l q) ≡ option_map (f q) (cond b (get (slice_cmp nat_cmp) short q) (at_bytes long q))
      by true = are q
      by false = also q

  pub mapped_apart : AreApart short long → AreApart s l
  mapped_apart apart = record {
    shorter = λ q e. apart.shorter q (sym (mapped_some (f q) (get (slice_cmp nat_cmp) short q)) ∙ sym (ap is_some (are q)) ∙ e);
    longer = λ q e. apart.longer q (sym (mapped_some (f q) (at_bytes long q)) ∙ sym (ap is_some (also q)) ∙ e);
  }
