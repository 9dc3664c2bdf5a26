-- The rows of a name, read stanza by stanza.
use Rattle.std.proofs.Common.{◌≡◌, ℕ, Bool, true, false, cond, ◌||◌, List, [], ◌∷◌, None, Some, refl, ap, sym, ◌∙◌}
use Rattle.std.specs.Ordering.{is_eq, is_lt}
use Rattle.std.specs.FinMap as fin
use Rattle.ctl_relation.specs.Version.{version_cmp}
use Rattle.ctl_relation.specs.Orders.Versions.{version_total}
use Rattle.ctl_stanza.specs.Content.{Content}
use Rattle.ctl_store.specs.declared.stanza_key.StanzaKey.{StanzaKey}
use Rattle.ctl_store.specs.Keys.{key_cmp, key_is, AreRising}
use Rattle.ctl_store.specs.Entries.{Entry, entries_of, entry_keys}
use Rattle.ctl_policy.specs.Keys.{with_key, has_key, or_none, some_keys}
use Rattle.ctl_policy.specs.Rows.{Lists, Rows, keys_at, keys_with, version_in, is_of_version, is_in_row, AreRowsOf}
use Rattle.ctl_policy.specs.Kept.{HasPut}
use Rattle.ctl_policy.specs.Inside.HeldRead.{with_keys, IsReadSoFar}
use Rattle.ctl_policy.proofs.RowLemmas.{eq_is}
use Rattle.ctl_policy.proofs.SetLemmas.{key_is-back, same_keys, has_key-with, rises-with}
use Rattle.ctl_policy.proofs.DefinedLemmas.{with_rises, row_defined}

-- ---- a stanza is put

pub put_row : (name version : List ℕ) (x : Content) (key : StanzaKey) (old new : Rows) → version_in name x ≡ Some version → HasPut version key old new
    → (v : List ℕ) → fin.get new v ≡ cond (is_in_row name v x) (Some (with_key key (keys_at old v))) (fin.get old v)
put_row name version x key old new is put v =
    put v ∙ by (is_eq (version_cmp version v)) refl
    ∙ ap (λ b. cond b (Some (with_key key (keys_at old v))) (fin.get old v)) (sym (ap (is_of_version v) is))
  where
    by : (b : Bool) → is_eq (version_cmp version v) ≡ b → cond b (Some (with_key key (keys_at old version))) (fin.get old v) ≡ cond b (Some (with_key key (keys_at old v))) (fin.get old v)
    by true e = ap (λ o. Some (with_key key (or_none o))) (sym (fin.get_tied version_total old version v (eq_is _ e)))
    by false e = refl

pub not_put : (name : List ℕ) (x : Content) (key : StanzaKey) (rows : Rows) → version_in name x ≡ None → (v : List ℕ) → fin.get rows v ≡ cond (is_in_row name v x) (Some (with_key key (keys_at rows v))) (fin.get rows v)
not_put name x key rows e v = ap (λ b. cond b (Some (with_key key (keys_at rows v))) (fin.get rows v)) (sym (ap (is_of_version v) e))

-- ---- one after another

has_key-all : (k : StanzaKey) (ks xs : List StanzaKey) → has_key k (with_keys ks xs) ≡ (has_key k ks || has_key k xs)
has_key-all k ks [] = none (has_key k ks)
  where
    none : (b : Bool) → b ≡ (b || false)
    none true = refl
    none false = refl
has_key-all k ks (x ∷ xs) =
    has_key-all k (with_key x ks) xs
    ∙ ap (λ b. b || has_key k xs) (has_key-with x k ks ∙ ap (λ b. b || has_key k ks) (key_is-back x k))
    ∙ swap (key_is k x) (has_key k ks) (has_key k xs)
  where
    swap : (a b c : Bool) → ((a || b) || c) ≡ (b || (a || c))
    swap true true c = refl
    swap true false c = refl
    swap false b c = refl

all_rise : (ks xs : List StanzaKey) → AreRising ks → AreRising (with_keys ks xs)
all_rise ks [] h = h
all_rise ks (x ∷ xs) h = all_rise (with_key x ks) xs (rises-with x ks h)

from_none : (xs : List StanzaKey) → AreRising xs → with_keys [] xs ≡ xs
from_none xs h = same_keys (with_keys [] xs) xs (all_rise [] xs tt) h (λ k. has_key-all k [] xs)

some_with : (k : StanzaKey) (xs : List StanzaKey) → Some (with_key k xs) ≡ some_keys (with_key k xs)
some_with k [] = refl
some_with k (x ∷ xs) = by (is_lt (key_cmp x k)) (key_is k x)
  where
    by : (b c : Bool) → Some (cond b (x ∷ with_key k xs) (cond c (x ∷ xs) (k ∷ x ∷ xs))) ≡ some_keys (cond b (x ∷ with_key k xs) (cond c (x ∷ xs) (k ∷ x ∷ xs)))
    by true c = refl
    by false true = refl
    by false false = refl

-- before the first
pub read_none : (name : List ℕ) (rows : Rows) (lists : Lists) (left : List Entry) → ((v : List ℕ) → fin.get rows v ≡ None) → left ≡ entries_of lists → AreRising (entry_keys left) → IsReadSoFar name rows left lists
read_none name rows lists left none all rising = record {
  some = λ v. none v ∙ ap (λ o. some_keys (or_none o)) (sym (none v));
  rest = λ v.
      ap (λ o. with_keys (or_none o) (keys_with (is_in_row name v) left)) (none v) ∙ from_none (keys_with (is_in_row name v) left) (with_rises (is_in_row name v) left rising)
      ∙ ap (keys_with (is_in_row name v)) all;
}

-- one more
pub read_one : (name : List ℕ) (old new : Rows) (key : StanzaKey) (x : Content) (left : List Entry) (lists : Lists)
    → ((v : List ℕ) → fin.get new v ≡ cond (is_in_row name v x) (Some (with_key key (keys_at old v))) (fin.get old v)) → IsReadSoFar name old ((key, x) ∷ left) lists → IsReadSoFar name new left lists
read_one name old new key x left lists put so_far = record {
  some = λ v. some v (is_in_row name v x) (put v);
  rest = λ v. ap (λ o. with_keys (or_none o) (keys_with (is_in_row name v) left)) (put v) ∙ rest v (is_in_row name v x) ∙ so_far.rest v;
}
  where
    some : (v : List ℕ) (b : Bool) → fin.get new v ≡ cond b (Some (with_key key (keys_at old v))) (fin.get old v) → fin.get new v ≡ some_keys (keys_at new v)
    some v true h = h ∙ some_with key (keys_at old v) ∙ ap (λ o. some_keys (or_none o)) (sym h)
    some v false h = h ∙ so_far.some v ∙ ap (λ o. some_keys (or_none o)) (sym h)

    rest : (v : List ℕ) (b : Bool) → with_keys (or_none (cond b (Some (with_key key (keys_at old v))) (fin.get old v))) (keys_with (is_in_row name v) left) ≡ with_keys (keys_at old v) (cond b (key ∷ keys_with (is_in_row name v) left) (keys_with (is_in_row name v) left))
    rest v true = refl
    rest v false = refl

-- after the last
pub read_all : (name : List ℕ) (rows : Rows) (lists : Lists) → IsReadSoFar name rows [] lists → AreRowsOf rows name lists
read_all name rows lists so_far v = so_far.some v ∙ ap some_keys (so_far.rest v) ∙ sym (row_defined name v lists)
