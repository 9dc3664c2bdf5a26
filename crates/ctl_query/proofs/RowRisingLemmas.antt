-- The keys of each row of a name rise.
use Rattle.std.proofs.Common.{◌≡◌, ◌∙◌, ℕ, Bool, true, false, cond, List, [], ◌∷◌, ◌++◌, map, IfSome, refl, ap, sym, subst}
use Rattle.std.specs.List.{AllByRecursion}
use Rattle.std.specs.declared.cmp.Ordering.TheVariants.{Less}
use Rattle.ctl_stanza.specs.Content.{Content}
use Rattle.ctl_store.specs.declared.stanza_key.StanzaKey.{StanzaKey}
use Rattle.ctl_store.specs.Entries.{Entry, entries_in, entries_of, entry_keys}
use Rattle.ctl_store.specs.Keys.{key_of, key_cmp, all_keys, AreRising}
use Rattle.ctl_policy.specs.Keys.{some_keys}
use Rattle.ctl_policy.specs.Rows.{Lists, Row, is_in_row, keys_with, keys_of_row, rows_named, newest_first}
use Rattle.ctl_query.proofs.ClassLemmas.{AreClasses, each_class}

-- ---- the keys of all stanzas

placed : (serial : ℕ) (rows : List (ℕ × Content)) → entry_keys (map (λ (row : ℕ × Content). (key_of serial row.0, row.1)) rows) ≡ map (λ (row : ℕ × Content). key_of serial row.0) rows
placed serial [] = refl
placed serial (row ∷ rows) = ap (λ keys. key_of serial row.0 ∷ keys) (placed serial rows)

keys-append : (es fs : List Entry) → entry_keys (es ++ fs) ≡ entry_keys es ++ entry_keys fs
keys-append [] fs = refl
keys-append (e ∷ es) fs = ap (λ keys. e.0 ∷ keys) (keys-append es fs)

keys_are : (lists : Lists) → entry_keys (entries_of lists) ≡ all_keys lists
keys_are [] = refl
keys_are (l ∷ ls) = keys-append (entries_in l.1) (entries_of ls) ∙ (λ i. placed l.1.serial l.1.slots i ++ keys_are ls i)

-- ---- of those that pass

module _ (p : Content → Bool) where
  below : (k : StanzaKey) (es : List Entry) → AllByRecursion (λ q. key_cmp k q ≡ Less) (entry_keys es) → AllByRecursion (λ q. key_cmp k q ≡ Less) (keys_with p es)
  below k [] h = tt
  below k (e ∷ es) h = by (p e.1) (below k es h.1)
    where
      by : (b : Bool) → AllByRecursion (λ q. key_cmp k q ≡ Less) (keys_with p es) → AllByRecursion (λ q. key_cmp k q ≡ Less) (cond b (e.0 ∷ keys_with p es) (keys_with p es))
      by true rest = (h.0, rest)
      by false rest = rest

  rises : (es : List Entry) → AreRising (entry_keys es) → AreRising (keys_with p es)
  rises [] h = tt
  rises (e ∷ es) h = by (p e.1) (rises es h.1)
    where
      by : (b : Bool) → AreRising (keys_with p es) → AreRising (cond b (e.0 ∷ keys_with p es) (keys_with p es))
      by true rest = (below e.0 es h.0, rest)
      by false rest = rest

if_some : (keys : List StanzaKey) → AreRising keys → IfSome (some_keys keys) AreRising
if_some [] h = tt
if_some (key ∷ keys) h = h

by_keys : (rows : List Row) → AllByRecursion (λ (row : Row). AreRising row.1) rows → AllByRecursion AreRising (map keys_of_row rows)
by_keys [] h = tt
by_keys (row ∷ rows) h = (h.0, by_keys rows h.1)

pub rows_rise : AreClasses → (name : List ℕ) (lists : Lists) → AreRising (all_keys lists) → AllByRecursion AreRising (map keys_of_row (newest_first (rows_named name lists)))
rows_rise classes name lists rising =
    by_keys (newest_first (rows_named name lists))
    (each_class classes AreRising name lists
    (λ version. if_some (keys_with (is_in_row name version) (entries_of lists)) (rises (is_in_row name version) (entries_of lists) (subst AreRising (sym (keys_are lists)) rising))))
