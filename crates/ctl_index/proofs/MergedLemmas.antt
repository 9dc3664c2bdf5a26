-- Two lists of entries in one.
use Rattle.std.proofs.Common.{◌≡◌, ℕ, Bool, true, false, cond, List, [], ◌∷◌, map, Option, Some, None, is_some, unwrap_or, MatchOption, Vec, Global, Bor, refl, ap, sym, ◌∙◌}
use Rattle.std.specs.Cmp.Lexicographic.{slice_cmp, nat_list_cmp_total}
use Rattle.std.specs.List.{AllByRecursion}
use Rattle.std.specs.List.Sorted.{IsStrictlySortedBy}
use Rattle.std.specs.Option.{option_or}
use Rattle.std.specs.Ordering.{ordering_reverse, is_lt, is_eq, nat_cmp}
use Rattle.std.specs.Str.{bytes_eq}
use Rattle.std.specs.declared.cmp.Ordering.{Ordering}
use Rattle.std.specs.declared.cmp.Ordering.TheVariants.{Less, Equal, Greater}
use Rattle.std.proofs.lemmas.Bool.{true≢false}
use Rattle.std.proofs.lemmas.Map.Text.{is_eq-slice_cmp}
use Rattle.std.proofs.lemmas.Slice.Eq.{bytes_eq-Decides}
use Rattle.ctl_index.specs.Inside.NameMap.{NamedEntry, entry_names, found_in, long_entry, merged, left_short, left_long}
use Rattle.ctl_index.specs.declared.named.Named.{Named}

-- no name stands in both lists
abbrev pub AreOthers : List NamedEntry → List NamedEntry → Type 0
AreOthers xs ys = (q : List ℕ) → is_some (found_in xs q) ≡ true → is_some (found_in ys q) ≡ false

-- ---- what is found behind the first entry is found

found_behind : (b : Bool) (v : Named) (o : Option Named) → is_some o ≡ true → is_some (cond b (Some v) o) ≡ true
found_behind true v o found = refl
found_behind false v o found = found

none_behind : (b : Bool) (v : Named) (o : Option Named) → is_some (cond b (Some v) o) ≡ false → is_some o ≡ false
none_behind true v o none = absurd (true≢false none)
none_behind false v o none = none

others_first : (x : NamedEntry) (xs ys : List NamedEntry) → AreOthers (x ∷ xs) ys → AreOthers xs ys
others_first x xs ys others q found = others q (found_behind (bytes_eq q x.0) x.1 (found_in xs q) found)

others_second : (y : NamedEntry) (xs ys : List NamedEntry) → AreOthers xs (y ∷ ys) → AreOthers xs ys
others_second y xs ys others q found = none_behind (bytes_eq q y.0) y.1 (found_in ys q) (others q found)

-- ---- what holds of the names of both lists holds of all

pub merged_all : (P : List ℕ → Type 0) (xs ys : List NamedEntry) → AllByRecursion P (entry_names xs) → AllByRecursion P (entry_names ys)
    → AllByRecursion P (entry_names (merged xs ys))
unfolding merged
merged_all P [] ys first second = second
merged_all P (x ∷ xs) [] first second = first
merged_all P (x ∷ xs) (y ∷ ys) first second =
    by (is_lt (slice_cmp nat_cmp x.0 y.0)) (merged_all P xs (y ∷ ys) first.1 second) (merged_all P (x ∷ xs) ys first second.1)
  where
    by : (b : Bool) → AllByRecursion P (entry_names (merged xs (y ∷ ys))) → AllByRecursion P (entry_names (merged (x ∷ xs) ys))
        → AllByRecursion P (entry_names (cond b (x ∷ merged xs (y ∷ ys)) (y ∷ merged (x ∷ xs) ys)))
    by true left right = (first.0, left)
    by false left right = (second.0, right)

-- ---- they are in order

all_further : (k n : List ℕ) (names : List (List ℕ)) → slice_cmp nat_cmp k n ≡ Less → AllByRecursion (λ m. slice_cmp nat_cmp n m ≡ Less) names
    → AllByRecursion (λ m. slice_cmp nat_cmp k m ≡ Less) names
all_further k n [] below all = tt
all_further k n (m ∷ names) below all = (nat_list_cmp_total.trans k n m below all.0, all_further k n names below all.1)

-- the first entries of two lists of different names have different names
not_same : (x y : NamedEntry) (xs ys : List NamedEntry) → AreOthers (x ∷ xs) (y ∷ ys) → slice_cmp nat_cmp x.0 y.0 ≡ Equal → ⊥
not_same x y xs ys others same = true≢false (sym second ∙ others x.0 first)
  where
    there : (b : Bool) (v : Named) (o : Option Named) → b ≡ true → is_some (cond b (Some v) o) ≡ true
    there true v o h = refl
    there false v o h = absurd (true≢false (sym h))

    first : is_some (found_in (x ∷ xs) x.0) ≡ true
    first = there (bytes_eq x.0 x.0) x.1 (found_in xs x.0) ((bytes_eq-Decides x.0 x.0).1 refl)

    second : is_some (found_in (y ∷ ys) x.0) ≡ true
    second = there (bytes_eq x.0 y.0) y.1 (found_in ys x.0) (sym (is_eq-slice_cmp x.0 y.0) ∙ ap is_eq same)

pub merged_order : (xs ys : List NamedEntry) → AreOthers xs ys → IsStrictlySortedBy (slice_cmp nat_cmp) (entry_names xs)
    → IsStrictlySortedBy (slice_cmp nat_cmp) (entry_names ys) → IsStrictlySortedBy (slice_cmp nat_cmp) (entry_names (merged xs ys))
unfolding merged IsStrictlySortedBy
merged_order [] ys others first second = second
merged_order (x ∷ xs) [] others first second = first
merged_order (x ∷ xs) (y ∷ ys) others first second =
    by (slice_cmp nat_cmp x.0 y.0) refl (merged_order xs (y ∷ ys) (others_first x xs (y ∷ ys) others) first.1 second)
    (merged_order (x ∷ xs) ys (others_second y (x ∷ xs) ys others) first second.1)
  where
    by : (o : Ordering) → slice_cmp nat_cmp x.0 y.0 ≡ o → IsStrictlySortedBy (slice_cmp nat_cmp) (entry_names (merged xs (y ∷ ys)))
        → IsStrictlySortedBy (slice_cmp nat_cmp) (entry_names (merged (x ∷ xs) ys))
        → IsStrictlySortedBy (slice_cmp nat_cmp) (entry_names (cond (is_lt o) (x ∷ merged xs (y ∷ ys)) (y ∷ merged (x ∷ xs) ys)))
    by Less e left right = (merged_all (λ m. slice_cmp nat_cmp x.0 m ≡ Less) xs (y ∷ ys) first.0 (e, all_further x.0 y.0 (entry_names ys) e second.0), left)
    by Equal e left right = absurd (not_same x y xs ys others e)
    by Greater e left right = (merged_all (λ m. slice_cmp nat_cmp y.0 m ≡ Less) (x ∷ xs) ys (after, all_further y.0 x.0 (entry_names xs) after first.0) second.0, right)
      where
        after : slice_cmp nat_cmp y.0 x.0 ≡ Less
        after = nat_list_cmp_total.antisymm y.0 x.0 ∙ ap ordering_reverse e

-- ---- what stands under a name

pub merged_found : (xs ys : List NamedEntry) → AreOthers xs ys → (q : List ℕ) → found_in (merged xs ys) q ≡ option_or (found_in xs q) (found_in ys q)
unfolding merged
merged_found [] ys others q = refl
merged_found (x ∷ xs) [] others q = or_none (found_in (x ∷ xs) q)
  where
    or_none : (o : Option Named) → o ≡ option_or o None
    or_none None = refl
    or_none (Some v) = refl
merged_found (x ∷ xs) (y ∷ ys) others q =
    by (is_lt (slice_cmp nat_cmp x.0 y.0)) (merged_found xs (y ∷ ys) (others_first x xs (y ∷ ys) others) q) (merged_found (x ∷ xs) ys (others_second y (x ∷ xs) ys others) q)
  where
    first : (b : Bool) (o p : Option Named) → o ≡ option_or (found_in xs q) p → cond b (Some x.1) o ≡ option_or (cond b (Some x.1) (found_in xs q)) p
    first true o p h = refl
    first false o p h = h

    second : (b : Bool) (o p : Option Named) → (is_some o ≡ true → is_some (cond b (Some y.1) p) ≡ false) → cond b (Some y.1) (option_or o p) ≡ option_or o (cond b (Some y.1) p)
    second true None p apart = refl
    second true (Some v) p apart = absurd (true≢false (apart refl))
    second false o p apart = refl

    by : (b : Bool) → found_in (merged xs (y ∷ ys)) q ≡ option_or (found_in xs q) (found_in (y ∷ ys) q)
        → found_in (merged (x ∷ xs) ys) q ≡ option_or (found_in (x ∷ xs) q) (found_in ys q)
        → found_in (cond b (x ∷ merged xs (y ∷ ys)) (y ∷ merged (x ∷ xs) ys)) q ≡ option_or (found_in (x ∷ xs) q) (found_in (y ∷ ys) q)
    by true left right = first (bytes_eq q x.0) (found_in (merged xs (y ∷ ys)) q) (found_in (y ∷ ys) q) left
    by false left right = ap (λ o. cond (bytes_eq q y.0) (Some y.1) o) right ∙ second (bytes_eq q y.0) (found_in (x ∷ xs) q) (found_in ys q) (others q)

-- ---- which entry comes first

merged_less : (x y : NamedEntry) (xs ys : List NamedEntry) → is_lt (slice_cmp nat_cmp x.0 y.0) ≡ true → merged (x ∷ xs) (y ∷ ys) ≡ x ∷ merged xs (y ∷ ys)
unfolding merged
merged_less x y xs ys less = ap (λ b. cond b (x ∷ merged xs (y ∷ ys)) (y ∷ merged (x ∷ xs) ys)) less

merged_not_less : (x y : NamedEntry) (xs ys : List NamedEntry) → is_lt (slice_cmp nat_cmp x.0 y.0) ≡ false → merged (x ∷ xs) (y ∷ ys) ≡ y ∷ merged (x ∷ xs) ys
unfolding merged
merged_not_less x y xs ys not_less = ap (λ b. cond b (x ∷ merged xs (y ∷ ys)) (y ∷ merged (x ∷ xs) ys)) not_less

pub none_merged : (ys : List NamedEntry) → merged [] ys ≡ ys
unfolding merged
none_merged ys = refl

merged_none : (xs : List NamedEntry) → merged xs [] ≡ xs
unfolding merged
merged_none [] = refl
merged_none (x ∷ xs) = refl

-- ---- what is left where an entry is taken

-- behind the next long name, which was taken
pub left_behind : (next : Option (Bor (Vec ℕ Global) × Bor Named)) (was rest : List (Vec ℕ Global × Named))
    → MatchOption next ((was ≡ []) × (rest ≡ [])) (λ e. was ≡ (e.0.now, e.1.now) ∷ rest)
    → left_long next rest ≡ map long_entry was
left_behind None was rest h = sym (ap (map long_entry) h.0)
left_behind (Some e) was rest h = sym (ap (map long_entry) h)

-- the answer whether a short name comes before the next long one
abbrev pub TellsBefore : Bor (List ℕ) → Option (Bor (Vec ℕ Global) × Bor Named) → Bool → Type 0
TellsBefore name long b = MatchOption long (b ≡ true) (λ l. b ≡ is_lt (slice_cmp nat_cmp name.now l.0.now.items))

pub takes_short : (e : Bor (List ℕ) × Bor Named) (rest : Option (List NamedEntry)) (long : Option (Bor (Vec ℕ Global) × Bor Named)) (others : List (Vec ℕ Global × Named)) (b : Bool)
    → TellsBefore e.0 long b → b ≡ true
    → merged (left_short (Some e) rest) (left_long long others) ≡ (e.0.now, e.1.now) ∷ merged (unwrap_or rest []) (left_long long others)
takes_short e rest None others b told before = merged_none (left_short (Some e) rest) ∙ ap (λ xs. (e.0.now, e.1.now) ∷ xs) (sym (merged_none (unwrap_or rest [])))
takes_short e rest (Some l) others b told before = merged_less (e.0.now, e.1.now) (l.0.now.items, l.1.now) (unwrap_or rest []) (map long_entry others) (sym told ∙ before)

pub takes_long : (e : Bor (List ℕ) × Bor Named) (rest : Option (List NamedEntry)) (l : Bor (Vec ℕ Global) × Bor Named) (others : List (Vec ℕ Global × Named)) (b : Bool)
    → TellsBefore e.0 (Some l) b → b ≡ false
    → merged (left_short (Some e) rest) (left_long (Some l) others) ≡ (l.0.now.items, l.1.now) ∷ merged (left_short (Some e) rest) (map long_entry others)
takes_long e rest l others b told before = merged_not_less (e.0.now, e.1.now) (l.0.now.items, l.1.now) (unwrap_or rest []) (map long_entry others) (sym told ∙ before)

pub takes_only_long : (rest : Option (List NamedEntry)) (l : Bor (Vec ℕ Global) × Bor Named) (others : List (Vec ℕ Global × Named))
    → merged (left_short None rest) (left_long (Some l) others) ≡ (l.0.now.items, l.1.now) ∷ merged (left_short None rest) (map long_entry others)
takes_only_long rest l others = none_merged (left_long (Some l) others) ∙ ap (λ ys. (l.0.now.items, l.1.now) ∷ ys) (sym (none_merged (map long_entry others)))
