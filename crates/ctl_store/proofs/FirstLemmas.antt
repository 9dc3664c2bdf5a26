-- Of two settings of one selector the first counts.
use Rattle.std.proofs.Common.{◌≡◌, ℕ, ℤ, Bool, false, cond, List, [], ◌∷◌, ◌++◌, Option, None, Some, is_some, Ok, refl, subst, arith, sym}
use Rattle.std.specs.List.{IsDistinct, AllByRecursion}
use Rattle.std.specs.Map.{lookup, keys_of}
use Rattle.std.specs.Option.{option_or}
use Rattle.ctl_stanza.specs.declared.fault.TextFault.{TextFault}
use Rattle.ctl_stanza.specs.Records.{RecordText, records_before_fault}
use Rattle.ctl_store.specs.declared.selector.Selector.{Selector}
use Rattle.ctl_store.specs.Pins.{selector_eq, AreDistinct}
use Rattle.ctl_store.specs.SelectorLaws.{selector_equiv, selector_eq-Decides}
use Rattle.ctl_store.specs.Prefs.{keep_first, first_settings, all_settings, settings_or_fault, read_prefs_text}
use Rattle.ctl_store.specs.PrefsLaws.{SetsFirst}
use Rattle.ctl_store.proofs.PlaceLemmas.{or_none}

lookup-append : (s : Selector) (kept : List (Selector × ℤ)) (one : Selector × ℤ) → lookup (selector_eq s) (kept ++ one ∷ []) ≡ option_or (lookup (selector_eq s) kept) (cond (selector_eq s one.0) (Some one.1) None)
lookup-append s [] one = refl
lookup-append s (e ∷ kept) one = grind (arith, lookup-append s kept one)

-- a setting that is kept, or whose selector stands before, is what its selector has
lookup-keep : (s : Selector) (kept : List (Selector × ℤ)) (one : Selector × ℤ) → lookup (selector_eq s) (keep_first kept one) ≡ option_or (lookup (selector_eq s) kept) (cond (selector_eq s one.0) (Some one.1) None)
lookup-keep s kept one = grind (arith, lookup-append, selector_eq-Decides)

or_assoc : {X : Type 0} (a : Option X) (b : Bool) (x : X) (c : Option X) → option_or (option_or a (cond b (Some x) None)) c ≡ option_or a (cond b (Some x) c)
or_assoc a b x c = grind arith

lookup-first : (s : Selector) (kept all : List (Selector × ℤ)) → lookup (selector_eq s) (first_settings kept all) ≡ option_or (lookup (selector_eq s) kept) (lookup (selector_eq s) all)
lookup-first s kept [] = sym (or_none (lookup (selector_eq s) kept))
lookup-first s kept (one ∷ all) = grind (arith, lookup-keep, or_assoc, lookup-first s (keep_first kept one) all)

-- ---- no selector stands twice

absent_all : (s : Selector) (kept : List (Selector × ℤ)) → is_some (lookup (selector_eq s) kept) ≡ false → AllByRecursion (λ t. selector_eq t s ≡ false) (keys_of kept)
absent_all s [] h = tt
absent_all s (e ∷ kept) h = grind (arith, selector_equiv.symm, absent_all s kept)

all_last : (P : Selector → Type 0) (kept : List (Selector × ℤ)) (one : Selector × ℤ) → AllByRecursion P (keys_of kept) → P one.0 → AllByRecursion P (keys_of (kept ++ one ∷ []))
all_last P [] one h p = (p, tt)
all_last P (e ∷ kept) one h p = (h.0, all_last P kept one h.1 p)

distinct-push : (kept : List (Selector × ℤ)) (one : Selector × ℤ) → AreDistinct kept → AllByRecursion (λ t. selector_eq t one.0 ≡ false) (keys_of kept) → AreDistinct (kept ++ one ∷ [])
unfolding IsDistinct
distinct-push [] one h k = (tt, tt)
distinct-push (e ∷ kept) one h k = (all_last (λ t. selector_eq e.0 t ≡ false) kept one h.0 k.0, distinct-push kept one h.1 k.1)

distinct-keep : (kept : List (Selector × ℤ)) (one : Selector × ℤ) → AreDistinct kept → AreDistinct (keep_first kept one)
distinct-keep kept one h = grind (arith, distinct-push, absent_all)

distinct-first : (kept all : List (Selector × ℤ)) → AreDistinct kept → AreDistinct (first_settings kept all)
distinct-first kept [] h = h
distinct-first kept (one ∷ all) h = distinct-first (keep_first kept one) all (distinct-keep kept one h)

distinct-none : AreDistinct []
unfolding IsDistinct
distinct-none = tt

-- ---- the text

what_is_read : (read : List RecordText × Option TextFault) (settings : List (Selector × ℤ)) → settings_or_fault read ≡ Ok settings → first_settings [] (all_settings read.0) ≡ settings
what_is_read read settings e = grind arith

pub sets_first : (n : ℕ) (text : List ℕ) (settings : List (Selector × ℤ)) → read_prefs_text n text ≡ Ok settings → SetsFirst (records_before_fault n text).0 settings
sets_first n text settings e =
    let records = (records_before_fault n text).0 in
    let is = what_is_read (records_before_fault n text) settings e in
    subst (SetsFirst records) is (record {
      first = λ s. lookup-first s [] (all_settings records);
      distinct = distinct-first [] (all_settings records) distinct-none;
    })
