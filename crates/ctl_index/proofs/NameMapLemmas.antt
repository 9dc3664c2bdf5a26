-- What is lent of the two trees of names.
use Rattle.std.proofs.Common.{◌≡◌, ℕ, ◌<◌, ◌≤◌, Bool, true, false, cond, nat_eq, ◌&&◌, List, [], ◌∷◌, map, filter, length, Option, Some, None, Vec, Global, refl, ap, subst, sym, ◌∙◌, arith, nat_cmp}
use Rattle.std.specs.Prelude.{is_some, nat_le}
use Rattle.std.specs.BTreeMap.{get}
use Rattle.std.specs.List.{starts_with, AllByRecursion}
use Rattle.std.specs.List.Sorted.{IsStrictlySortedBy}
use Rattle.std.specs.Map.{lookup}
use Rattle.std.specs.Option.{option_or}
use Rattle.std.specs.Ordering.{ordering_then, is_le, is_eq}
use Rattle.std.specs.Cmp.{nat_cmp_is}
use Rattle.std.specs.Cmp.Lexicographic.{slice_cmp}
use Rattle.std.specs.Str.{bytes_eq}
use Rattle.std.specs.declared.cmp.Ordering.TheVariants.{Less, Equal}
use Rattle.std.proofs.lemmas.Bool.{true≢false}
use Rattle.std.proofs.lemmas.Bool.Decides.{nat_tests}
use Rattle.std.proofs.lemmas.List.Kept.{IsStrictlySortedBy-filter}
use Rattle.std.proofs.lemmas.Map.Entries.{lookup-filter-keys}
use Rattle.std.proofs.lemmas.Map.Text.{is_eq-slice_cmp}
use Rattle.std.proofs.lemmas.Slice.Eq.{bytes_eq-Decides}
use Rattle.ctl_index.specs.declared.name_map.NameMap.{NameMap}
use Rattle.ctl_index.specs.declared.named.Named.{Named}
use Rattle.ctl_policy.specs.Chosen.{at_bytes}
use Rattle.ctl_index.specs.Inside.ShortName.{most_short}
use Rattle.ctl_index.specs.Inside.NameMap.{NamedEntry, entry_names, found_in, long_entry, merged}
use Rattle.ctl_index.specs.Inside.TablesByName.{at_name}
use Rattle.ctl_index.specs.Inside.TablesViews.{AreFrom}
use Rattle.ctl_index.proofs.ClauseLemmas.{nat_eq-is}
use Rattle.ctl_index.proofs.MergedLemmas.{AreOthers, merged_order, merged_found, merged_all}

-- ---- the names of a part of a tree

-- an entry of the second tree, whose key is a vector
abbrev LongEntry : Type 0
LongEntry = Vec ℕ Global × Named

-- in the order of their names
abbrev AreSorted : List NamedEntry → Type 0
AreSorted es = IsStrictlySortedBy (slice_cmp nat_cmp) (entry_names es)

abbrev AreLongSorted : List LongEntry → Type 0
AreLongSorted es = IsStrictlySortedBy (λ (x y : Vec ℕ Global). slice_cmp nat_cmp x.items y.items) (map (λ (e : LongEntry). e.0) es)

short_names : (p : List ℕ → Bool) (es : List NamedEntry) → entry_names (filter (λ (e : NamedEntry). p e.0) es) ≡ filter p (entry_names es)
short_names p [] = refl
short_names p (e ∷ es) = by (p e.0) (short_names p es)
  where
    by : (b : Bool) → entry_names (filter (λ (d : NamedEntry). p d.0) es) ≡ filter p (entry_names es)
        → entry_names (cond b (e ∷ filter (λ (d : NamedEntry). p d.0) es) (filter (λ (d : NamedEntry). p d.0) es)) ≡ cond b (e.0 ∷ filter p (entry_names es)) (filter p (entry_names es))
    by true rest = ap (λ names. e.0 ∷ names) rest
    by false rest = rest

-- of the second tree: with the names as lists, and then a part of them
long_part : (p : List ℕ → Bool) (es : List LongEntry) → map long_entry (filter (λ (e : LongEntry). p e.0.items) es) ≡ filter (λ (e : NamedEntry). p e.0) (map long_entry es)
long_part p [] = refl
long_part p (e ∷ es) = by (p e.0.items) (long_part p es)
  where
    part : List LongEntry
    part = filter (λ (d : LongEntry). p d.0.items) es

    same : List NamedEntry
    same = filter (λ (d : NamedEntry). p d.0) (map long_entry es)

    by : (b : Bool) → map long_entry part ≡ same → map long_entry (cond b (e ∷ part) part) ≡ cond b (long_entry e ∷ same) same
    by true rest = ap (λ entries. long_entry e ∷ entries) rest
    by false rest = rest

long_below : (k : Vec ℕ Global) (es : List LongEntry) → AllByRecursion (λ (j : Vec ℕ Global). slice_cmp nat_cmp k.items j.items ≡ Less) (map (λ (e : LongEntry). e.0) es)
    → AllByRecursion (λ m. slice_cmp nat_cmp k.items m ≡ Less) (entry_names (map long_entry es))
long_below k [] h = tt
long_below k (e ∷ es) h = (h.0, long_below k es h.1)

long_sorted : (es : List LongEntry) → AreLongSorted es → AreSorted (map long_entry es)
unfolding IsStrictlySortedBy
long_sorted [] h = tt
long_sorted (e ∷ es) h = (long_below e.0 es h.0, long_sorted es h.1)

part_sorted : (p : List ℕ → Bool) (es : List NamedEntry) → AreSorted es → AreSorted (filter (λ (e : NamedEntry). p e.0) es)
part_sorted p es h = subst (λ names. IsStrictlySortedBy (slice_cmp nat_cmp) names) (sym (short_names p es)) (IsStrictlySortedBy-filter (slice_cmp nat_cmp) p (entry_names es) h)

part_passes : (p : List ℕ → Bool) (es : List NamedEntry) → AllByRecursion (λ name. p name ≡ true) (entry_names (filter (λ (e : NamedEntry). p e.0) es))
part_passes p [] = tt
part_passes p (e ∷ es) = by (p e.0) refl (part_passes p es)
  where
    by : (b : Bool) → p e.0 ≡ b → AllByRecursion (λ name. p name ≡ true) (entry_names (filter (λ (d : NamedEntry). p d.0) es))
        → AllByRecursion (λ name. p name ≡ true) (entry_names (cond b (e ∷ filter (λ (d : NamedEntry). p d.0) es) (filter (λ (d : NamedEntry). p d.0) es)))
    by true is rest = (is, rest)
    by false is rest = rest

-- ---- what is found in a part

short_found : (q : List ℕ) (es : List NamedEntry) → found_in es q ≡ lookup (λ k. is_eq (slice_cmp nat_cmp q k)) es
short_found q es i = lookup (λ k. sym (is_eq-slice_cmp q k) i) es

long_found : (q : List ℕ) (es : List LongEntry) → found_in (map long_entry es) q ≡ lookup (λ (k : Vec ℕ Global). is_eq (slice_cmp nat_cmp q k.items)) es
long_found q [] = refl
long_found q (e ∷ es) = (λ i. cond (sym (is_eq-slice_cmp q e.0.items) i) (Some e.1) (long_found q es i))

part_found : (p : List ℕ → Bool) (q : List ℕ) (es : List NamedEntry) → found_in (filter (λ (e : NamedEntry). p e.0) es) q ≡ cond (p q) (found_in es q) None
part_found p q es = lookup-filter-keys (bytes_eq q) p (p q) (λ k is. ap p (sym ((bytes_eq-Decides q k).0 is))) es

-- ---- a part of each tree

at_most : (a b : ℕ) → nat_le a b ≡ true → a ≤ b
at_most a b h = grind (arith, nat_tests, h)

more : (a b : ℕ) → nat_le a b ≡ false → b < a
more a b h = grind (arith, nat_tests, h)

not_at_most : (a b : ℕ) → b < a → nat_le a b ≡ false
not_at_most a b h = grind (arith, nat_tests, h)

there : (b : Bool) (o : Option Named) → is_some (cond b o None) ≡ true → is_some o ≡ true
there true o h = h
there false o h = absurd (true≢false (sym h))

none_of : (b : Bool) (o : Option Named) → is_some o ≡ false → is_some (cond b o None) ≡ false
none_of true o h = h
none_of false o h = refl

not_some : (o : Option Named) → (is_some o ≡ true → ⊥) → is_some o ≡ false
not_some None h = refl
not_some (Some v) h = absurd (h refl)

or_none : (o other : Option Named) → is_some other ≡ false → option_or o other ≡ o
or_none None None h = refl
or_none None (Some v) h = absurd (true≢false h)
or_none (Some w) other h = refl

none_or : (o other : Option Named) → is_some o ≡ false → option_or o other ≡ other
none_or None other h = refl
none_or (Some w) other h = absurd (true≢false h)

module _ (p : List ℕ → Bool) (m : NameMap) where
  abbrev pub from_short : List NamedEntry
  from_short = filter (λ (e : NamedEntry). p e.0) m.short.tree.entries

  abbrev pub from_long : List NamedEntry
  from_long = map long_entry (filter (λ (e : LongEntry). p e.0.items) m.long.tree.entries)

  in_short : (q : List ℕ) → found_in from_short q ≡ cond (p q) (get (slice_cmp nat_cmp) m.short.tree q) None
  in_short q = part_found p q m.short.tree.entries ∙ ap (λ (o : Option Named). cond (p q) o None) (short_found q m.short.tree.entries)

  in_long : (q : List ℕ) → found_in from_long q ≡ cond (p q) (at_bytes m.long.tree q) None
  in_long q = ap (λ es. found_in es q) (long_part p m.long.tree.entries) ∙ part_found p q (map long_entry m.long.tree.entries) ∙ ap (λ (o : Option Named). cond (p q) o None) (long_found q m.long.tree.entries)

  -- a short name is not in the second tree, and a longer one not in the first
  no_long : (q : List ℕ) → length q ≤ most_short → is_some (at_bytes m.long.tree q) ≡ false
  no_long q few = not_some (at_bytes m.long.tree q) (λ h. let many : most_short < length q = m.apart.longer q h in omega arith)

  no_short : (q : List ℕ) → most_short < length q → is_some (get (slice_cmp nat_cmp) m.short.tree q) ≡ false
  no_short q many = not_some (get (slice_cmp nat_cmp) m.short.tree q) (λ h. let few : length q ≤ most_short = m.apart.shorter q h in omega arith)

  parts_apart : AreOthers from_short from_long
  parts_apart q h =
      let found = there (p q) (get (slice_cmp nat_cmp) m.short.tree q) (sym (ap (λ (o : Option Named). is_some o) (in_short q)) ∙ h) in
      ap (λ (o : Option Named). is_some o) (in_long q) ∙ none_of (p q) (at_bytes m.long.tree q) (no_long q (m.apart.shorter q found))

  long_order : AreLongSorted m.long.tree.entries → AreSorted from_long
  long_order h =
      subst AreSorted (sym (long_part p m.long.tree.entries)) (part_sorted p (map long_entry m.long.tree.entries) (long_sorted m.long.tree.entries h))

  long_passes : AllByRecursion (λ name. p name ≡ true) (entry_names from_long)
  long_passes = subst (λ (es : List NamedEntry). AllByRecursion (λ name. p name ≡ true) (entry_names es)) (sym (long_part p m.long.tree.entries)) (part_passes p (map long_entry m.long.tree.entries))

  -- ---- both parts in one

  pub both_order : AreSorted m.short.tree.entries → AreLongSorted m.long.tree.entries → AreSorted (merged from_short from_long)
  both_order short_sorted sorted = merged_order from_short from_long parts_apart (part_sorted p m.short.tree.entries short_sorted) (long_order sorted)

  both_pass : AllByRecursion (λ name. p name ≡ true) (entry_names (merged from_short from_long))
  both_pass = merged_all (λ name. p name ≡ true) from_short from_long (part_passes p m.short.tree.entries) long_passes

  pub both_found : (q : List ℕ) → p q ≡ true → found_in (merged from_short from_long) q ≡ at_name m q
  both_found q is =
      merged_found from_short from_long parts_apart q ∙ (λ i. option_or (in_short q i) (in_long q i))
      ∙ ap (λ (b : Bool). option_or (cond b (get (slice_cmp nat_cmp) m.short.tree q) None) (cond b (at_bytes m.long.tree q) None)) is ∙ by (nat_le (length q) most_short) refl
    where
      by : (b : Bool) → nat_le (length q) most_short ≡ b → option_or (get (slice_cmp nat_cmp) m.short.tree q) (at_bytes m.long.tree q) ≡ cond b (get (slice_cmp nat_cmp) m.short.tree q) (at_bytes m.long.tree q)
      by true few = or_none _ _ (no_long q (at_most (length q) most_short few))
      by false many = none_or _ _ (no_short q (more (length q) most_short many))

  pub both_only : (q : List ℕ) → is_some (found_in (merged from_short from_long) q) ≡ true → found_in (merged from_short from_long) q ≡ at_name m q
  both_only q h = by (p q) refl
    where
      by : (b : Bool) → p q ≡ b → found_in (merged from_short from_long) q ≡ at_name m q
      by true is = both_found q is
      by false is =
          let none : found_in (merged from_short from_long) q ≡ None =
          merged_found from_short from_long parts_apart q ∙ (λ i. option_or (in_short q i) (in_long q i))
          ∙ ap (λ (b : Bool). option_or (cond b (get (slice_cmp nat_cmp) m.short.tree q) None) (cond b (at_bytes m.long.tree q) None)) is in
          absurd (true≢false (sym h ∙ ap (λ (o : Option Named). is_some o) none))

  -- ---- of the second tree alone

  long_found_alone : (q : List ℕ) → p q ≡ true → most_short < length q → found_in from_long q ≡ at_name m q
  long_found_alone q is many =
      in_long q ∙ ap (λ (b : Bool). cond b (at_bytes m.long.tree q) None) is
      ∙ sym (ap (λ (b : Bool). cond b (get (slice_cmp nat_cmp) m.short.tree q) (at_bytes m.long.tree q)) (not_at_most (length q) most_short many))

  long_only_alone : (q : List ℕ) → is_some (found_in from_long q) ≡ true → found_in from_long q ≡ at_name m q
  long_only_alone q h = by (p q) refl
    where
      in_part : is_some (cond (p q) (at_bytes m.long.tree q) None) ≡ true
      in_part = sym (ap (λ (o : Option Named). is_some o) (in_long q)) ∙ h

      by : (b : Bool) → p q ≡ b → found_in from_long q ≡ at_name m q
      by true is = long_found_alone q is (m.apart.longer q (there (p q) (at_bytes m.long.tree q) in_part))
      by false is = absurd (true≢false (sym in_part ∙ ap (λ (b : Bool). is_some (cond b (at_bytes m.long.tree q) None)) is))

-- ---- from a prefix on

both : (a b : Bool) → (a && b) ≡ true → (a ≡ true) × (b ≡ true)
both true b h = (refl, h)
both false b h = absurd (true≢false (sym h))

-- a name that begins with a prefix isn't before it
prefix_first : (p n : List ℕ) → starts_with nat_eq n p ≡ true → is_le (slice_cmp nat_cmp p n) ≡ true
prefix_first [] [] h = refl
prefix_first [] (b ∷ n) h = refl
prefix_first (a ∷ p) [] h = absurd (true≢false (sym h))
prefix_first (a ∷ p) (b ∷ n) h =
    let parts = both (nat_eq a b) (starts_with nat_eq n p) h in
    ap (λ o. is_le (ordering_then o (slice_cmp nat_cmp p n))) (sym (nat_cmp_is a b Equal (nat_eq-is a b parts.0))) ∙ prefix_first p n parts.1

-- and isn't shorter
prefix_fits : (p n : List ℕ) → starts_with nat_eq n p ≡ true → length p ≤ length n
prefix_fits [] n h = omega arith
prefix_fits (a ∷ p) [] h = absurd (true≢false (sym h))
prefix_fits (a ∷ p) (b ∷ n) h = let rest : length p ≤ length n = prefix_fits p n (both (nat_eq a b) (starts_with nat_eq n p) h).1 in omega arith

-- whether a name is not before the prefix
abbrev is_from : List ℕ → List ℕ → Bool
is_from prefix name = is_le (slice_cmp nat_cmp prefix name)

plain : (b : Bool) → (b && true) ≡ b
plain true = refl
plain false = refl

module _ (prefix : List ℕ) (m : NameMap) where
  -- a part of each tree, as `range` says it
  abbrev pub short_range : List ℕ → List NamedEntry
  short_range first = filter (λ (e : NamedEntry). is_le (slice_cmp nat_cmp first e.0) && true) m.short.tree.entries

  abbrev pub long_range : List NamedEntry
  long_range = map long_entry (filter (λ (e : LongEntry). is_le (slice_cmp nat_cmp prefix e.0.items) && true) m.long.tree.entries)

  short_is : (first : List ℕ) → first ≡ prefix → short_range first ≡ from_short (is_from prefix) m
  short_is first is i = filter (λ (e : NamedEntry). plain (is_le (slice_cmp nat_cmp (is i) e.0)) i) m.short.tree.entries

  long_is : long_range ≡ from_long (is_from prefix) m
  long_is i = map long_entry (filter (λ (e : LongEntry). plain (is_le (slice_cmp nat_cmp prefix e.0.items)) i) m.long.tree.entries)

  -- what `entries_from` promises of entries
  abbrev pub ArePromised : List NamedEntry → Type 0
  ArePromised es = AreFrom prefix (entry_names es) × (((q : List ℕ) → starts_with nat_eq q prefix ≡ true → found_in es q ≡ at_name m q) × ((q : List ℕ) → is_some (found_in es q) ≡ true → found_in es q ≡ at_name m q))

  module _ (sorted : AreLongSorted m.long.tree.entries) where
    pub both_promised : (first : List ℕ) → first ≡ prefix → AreSorted m.short.tree.entries → ArePromised (merged (short_range first) long_range)
    both_promised first is short_sorted =
        subst ArePromised (λ i. merged (sym (short_is first is) i) (sym long_is i))
        (record { order = both_order (is_from prefix) m short_sorted sorted; from = both_pass (is_from prefix) m }, ((λ q h. both_found (is_from prefix) m q (prefix_first prefix q h)), both_only (is_from prefix) m))

    -- with a long prefix no name that begins with it is short
    pub long_promised : most_short < length prefix → ArePromised (merged [] long_range)
    unfolding merged
    long_promised many =
        subst ArePromised (sym long_is)
        (record { order = long_order (is_from prefix) m sorted; from = long_passes (is_from prefix) m }, ((λ q h. long_begin q (prefix_fits prefix q h) (prefix_first prefix q h)), long_only_alone (is_from prefix) m))
      where
        long_begin : (q : List ℕ) → length prefix ≤ length q → is_from prefix q ≡ true → found_in (from_long (is_from prefix) m) q ≡ at_name m q
        long_begin q fits from = long_found_alone (is_from prefix) m q from (omega arith)
