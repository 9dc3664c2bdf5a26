-- The rows of all names, as one stanza comes or goes.
use Rattle.std.proofs.Common.{◌≡◌, ℕ, Bool, true, false, cond, ◌&&◌, ◌||◌, List, [], ◌∷◌, Option, None, Some, refl, ap, sym, subst, ◌∙◌}
use Rattle.std.specs.Str.{bytes_eq}
use Rattle.std.specs.Ordering.{is_eq, is_lt}
use Rattle.std.specs.Option.{option_map_or}
use Rattle.std.specs.FinMap as fin
use Rattle.std.proofs.lemmas.Slice.Eq.{bytes_eq-Decides}
use Rattle.ctl_relation.specs.Version.{version_cmp}
use Rattle.ctl_relation.specs.Orders.Versions.{version_total}
use Rattle.ctl_stanza.specs.Content.{Content, package_of, version_of}
use Rattle.ctl_store.specs.declared.stanza_key.StanzaKey.{StanzaKey}
use Rattle.ctl_store.specs.Keys.{key_cmp, key_is, AreRising}
use Rattle.ctl_policy.specs.Keys.{with_key, without_key, has_key, or_none, some_keys}
use Rattle.ctl_policy.specs.Rows.{is_of_version, is_in_row}
use Rattle.ctl_policy.specs.Kept.{RowsByName, Stanzas, with_stanza, without_stanza, IsKept, HasPut, HasTaken, OthersStay}
use Rattle.ctl_policy.proofs.RowLemmas.{eq_is}
use Rattle.ctl_policy.proofs.SetLemmas.{key_is-same, has_key-with, rises-with, has_key-without, rises-without}
use Rattle.ctl_policy.proofs.DefinedLemmas.{or_none-some}

-- whether a row is the one of a name and a version
abbrev is_row : List ℕ → List ℕ → List ℕ → List ℕ → Bool
is_row name version q v = bytes_eq name q && is_eq (version_cmp version v)

-- the row of a name and a version
abbrev row_in : RowsByName → List ℕ → List ℕ → Option (List StanzaKey)
row_in rows q v = fin.get (rows q) v

and_left : (a b : Bool) → (a && b) ≡ true → a ≡ true
and_left true b e = refl
and_left false b e = cc

and_right : (a b : Bool) → (a && b) ≡ true → b ≡ true
and_right true b e = e
and_right false b e = cc

-- one row under one name and equal versions
row_in-equal : (name ver : List ℕ) (t : RowsByName) (q v : List ℕ) → is_row name ver q v ≡ true → row_in t name ver ≡ row_in t q v
row_in-equal name ver t q v e = sym (fin.get_tied version_total (t name) ver v (eq_is _ (and_right (bytes_eq name q) _ e))) ∙ ap (λ l. row_in t l v) ((bytes_eq-Decides name q).0 (and_left _ _ e))

-- in which row a stanza is
pub row_of : (name ver : List ℕ) (x : Content) (q v : List ℕ) → package_of x ≡ name → version_of x ≡ Some ver → is_in_row q v x ≡ is_row name ver q v
row_of name ver x q v p e = ap (λ o. is_of_version v (cond (bytes_eq (package_of x) q) o None)) e ∙ ap (λ l. is_of_version v (cond (bytes_eq l q) (Some ver) None)) p ∙ by (bytes_eq name q)
  where
    by : (b : Bool) → is_of_version v (cond b (Some ver) None) ≡ (b && is_eq (version_cmp ver v))
    by true = refl
    by false = refl

pub no_row_of : (x : Content) (q v : List ℕ) → version_of x ≡ None → is_in_row q v x ≡ false
no_row_of x q v e = ap (λ o. is_of_version v (cond (bytes_eq (package_of x) q) o None)) e ∙ by (bytes_eq (package_of x) q)
  where
    by : (b : Bool) → is_of_version v (cond b None None) ≡ false
    by true = refl
    by false = refl

some_with : (k : StanzaKey) (xs : List StanzaKey) → Some (with_key k xs) ≡ some_keys (with_key k xs)
some_with k [] = refl
some_with k (x ∷ xs) = by (is_lt (key_cmp x k)) (key_is k x)
  where
    by : (b c : Bool) → Some (cond b (x ∷ with_key k xs) (cond c (x ∷ xs) (k ∷ x ∷ xs))) ≡ some_keys (cond b (x ∷ with_key k xs) (cond c (x ∷ xs) (k ∷ x ∷ xs)))
    by true c = refl
    by false true = refl
    by false false = refl

-- a change of the rows of one name is a change of one row of all
one_row : (g : Option (List StanzaKey) → Option (List StanzaKey)) (name ver : List ℕ) (t u : RowsByName)
    → ((v : List ℕ) → row_in u name v ≡ cond (is_eq (version_cmp ver v)) (g (row_in t name ver)) (row_in t name v)) → OthersStay name t u
    → (q v : List ℕ) → row_in u q v ≡ cond (is_row name ver q v) (g (row_in t name ver)) (row_in t q v)
one_row g name ver t u h others q v = by (bytes_eq name q) refl
  where
    by : (b : Bool) → bytes_eq name q ≡ b → row_in u q v ≡ cond (b && is_eq (version_cmp ver v)) (g (row_in t name ver)) (row_in t q v)
    by true e = let s = (bytes_eq-Decides name q).0 e in ap (λ l. row_in u l v) (sym s) ∙ h v ∙ ap (λ l. cond (is_eq (version_cmp ver v)) (g (row_in t name ver)) (row_in t l v)) s
    by false e = others q e v

abbrev pub tells : List ℕ → List ℕ → Option Content → Bool
tells q v o = option_map_or (is_in_row q v) o false

-- what a change f of one row makes of each
changed : (f : List StanzaKey → List StanzaKey) (g : List StanzaKey → Option (List StanzaKey)) → ((ks : List StanzaKey) → or_none (g ks) ≡ ks) → (name ver : List ℕ) (t u : RowsByName) (q v : List ℕ)
    → row_in u q v ≡ cond (is_row name ver q v) (g (f (or_none (row_in t name ver)))) (row_in t q v)
    → or_none (row_in u q v) ≡ cond (is_row name ver q v) (f (or_none (row_in t q v))) (or_none (row_in t q v))
changed f g h name ver t u q v e = ap or_none e ∙ by (is_row name ver q v) refl
  where
    by : (b : Bool) → is_row name ver q v ≡ b → or_none (cond b (g (f (or_none (row_in t name ver)))) (row_in t q v)) ≡ cond b (f (or_none (row_in t q v))) (or_none (row_in t q v))
    by true is = h _ ∙ ap (λ r. f (or_none r)) (row_in-equal name ver t q v is)
    by false is = refl

module _ (key : StanzaKey) (x : Content) (name ver : List ℕ) (t u : RowsByName) (f : Stanzas) (kept : IsKept t f) (p : package_of x ≡ name) (e : version_of x ≡ Some ver) where
  module _ (absent : f key ≡ None) (put : (q v : List ℕ) → row_in u q v ≡ cond (is_row name ver q v) (Some (with_key key (or_none (row_in t name ver)))) (row_in t q v)) where
    put_row : (q v : List ℕ) → or_none (row_in u q v) ≡ cond (is_row name ver q v) (with_key key (or_none (row_in t q v))) (or_none (row_in t q v))
    put_row q v = changed (with_key key) (λ ks. Some ks) (λ ks. refl) name ver t u q v (put q v)

    put_held : (q v : List ℕ) (k : StanzaKey) (b : Bool) → is_in_row q v x ≡ b → has_key k (cond b (with_key key (or_none (row_in t q v))) (or_none (row_in t q v))) ≡ tells q v (with_stanza key x f k)
    put_held q v k true is = has_key-with key k (or_none (row_in t q v)) ∙ ap (λ b. key_is key k || b) (kept.held q v k) ∙ by (key_is key k)
      where
        by : (c : Bool) → (c || tells q v (f k)) ≡ tells q v (cond c (Some x) (f k))
        by true = sym is
        by false = refl
    put_held q v k false is = kept.held q v k ∙ by (key_is key k) refl
      where
        by : (c : Bool) → key_is key k ≡ c → tells q v (f k) ≡ tells q v (cond c (Some x) (f k))
        by true s = ap (λ z. tells q v (f z)) (sym (key_is-same key k s)) ∙ ap (tells q v) absent ∙ sym is
        by false s = refl

    put_rises : (q v : List ℕ) (b : Bool) → AreRising (cond b (with_key key (or_none (row_in t q v))) (or_none (row_in t q v)))
    put_rises q v true = rises-with key (or_none (row_in t q v)) (kept.rises q v)
    put_rises q v false = kept.rises q v

    put_some : (q v : List ℕ) (b : Bool) → row_in u q v ≡ cond b (Some (with_key key (or_none (row_in t name ver)))) (row_in t q v) → row_in u q v ≡ some_keys (or_none (row_in u q v))
    put_some q v true h = h ∙ some_with key (or_none (row_in t name ver)) ∙ ap (λ o. some_keys (or_none o)) (sym h)
    put_some q v false h = h ∙ kept.some q v ∙ ap (λ o. some_keys (or_none o)) (sym h)

    put_kept : IsKept u (with_stanza key x f)
    put_kept = record {
      rises = λ q v. subst AreRising (sym (put_row q v)) (put_rises q v (is_row name ver q v));
      held = λ q v k. ap (has_key k) (put_row q v) ∙ put_held q v k (is_row name ver q v) (row_of name ver x q v p e);
      some = λ q v. put_some q v (is_row name ver q v) (put q v);
    }

  module _ (there : f key ≡ Some x) (take : (q v : List ℕ) → row_in u q v ≡ cond (is_row name ver q v) (some_keys (without_key key (or_none (row_in t name ver)))) (row_in t q v)) where
    take_row : (q v : List ℕ) → or_none (row_in u q v) ≡ cond (is_row name ver q v) (without_key key (or_none (row_in t q v))) (or_none (row_in t q v))
    take_row q v = changed (without_key key) some_keys or_none-some name ver t u q v (take q v)

    take_held : (q v : List ℕ) (k : StanzaKey) (b : Bool) → is_in_row q v x ≡ b → has_key k (cond b (without_key key (or_none (row_in t q v))) (or_none (row_in t q v))) ≡ tells q v (without_stanza key f k)
    take_held q v k true is = has_key-without key k (or_none (row_in t q v)) (kept.rises q v) ∙ ap (cond (key_is key k) false) (kept.held q v k) ∙ by (key_is key k)
      where
        by : (c : Bool) → cond c false (tells q v (f k)) ≡ tells q v (cond c None (f k))
        by true = refl
        by false = refl
    take_held q v k false is = kept.held q v k ∙ by (key_is key k) refl
      where
        by : (c : Bool) → key_is key k ≡ c → tells q v (f k) ≡ tells q v (cond c None (f k))
        by true s = ap (λ z. tells q v (f z)) (sym (key_is-same key k s)) ∙ ap (tells q v) there ∙ is
        by false s = refl

    take_rises : (q v : List ℕ) (b : Bool) → AreRising (cond b (without_key key (or_none (row_in t q v))) (or_none (row_in t q v)))
    take_rises q v true = rises-without key (or_none (row_in t q v)) (kept.rises q v)
    take_rises q v false = kept.rises q v

    take_some : (q v : List ℕ) (b : Bool) → row_in u q v ≡ cond b (some_keys (without_key key (or_none (row_in t name ver)))) (row_in t q v) → row_in u q v ≡ some_keys (or_none (row_in u q v))
    take_some q v true h = h ∙ ap some_keys (sym (or_none-some (without_key key (or_none (row_in t name ver))))) ∙ ap (λ o. some_keys (or_none o)) (sym h)
    take_some q v false h = h ∙ kept.some q v ∙ ap (λ o. some_keys (or_none o)) (sym h)

    take_kept : IsKept u (without_stanza key f)
    take_kept = record {
      rises = λ q v. subst AreRising (sym (take_row q v)) (take_rises q v (is_row name ver q v));
      held = λ q v k. ap (has_key k) (take_row q v) ∙ take_held q v k (is_row name ver q v) (row_of name ver x q v p e);
      some = λ q v. take_some q v (is_row name ver q v) (take q v);
    }

-- a table with the same rows
pub kept_same : (t u : RowsByName) (f : Stanzas) → ((q v : List ℕ) → row_in u q v ≡ row_in t q v) → IsKept t f → IsKept u f
kept_same t u f h kept = record {
  rises = λ q v. subst (λ o. AreRising (or_none o)) (sym (h q v)) (kept.rises q v);
  held = λ q v k. ap (λ o. has_key k (or_none o)) (h q v) ∙ kept.held q v k;
  some = λ q v. h q v ∙ kept.some q v ∙ ap (λ o. some_keys (or_none o)) (sym (h q v));
}

-- the same stanzas under each key
pub kept_alike : (t : RowsByName) (f g : Stanzas) → ((k : StanzaKey) → f k ≡ g k) → IsKept t f → IsKept t g
kept_alike t f g h kept = record {
  rises = kept.rises;
  held = λ q v k. kept.held q v k ∙ ap (tells q v) (h k);
  some = kept.some;
}

-- a stanza that isn't live is in no row
pub kept_idle : (key : StanzaKey) (x : Content) (t : RowsByName) (f : Stanzas) → version_of x ≡ None → f key ≡ None → IsKept t f → IsKept t (with_stanza key x f)
kept_idle key x t f e absent kept = record {
  rises = kept.rises;
  held = λ q v k. kept.held q v k ∙ by q v k (key_is key k) refl;
  some = kept.some;
}
  where
    by : (q v : List ℕ) (k : StanzaKey) (c : Bool) → key_is key k ≡ c → tells q v (f k) ≡ tells q v (cond c (Some x) (f k))
    by q v k true s = ap (λ z. tells q v (f z)) (sym (key_is-same key k s)) ∙ ap (tells q v) absent ∙ sym (no_row_of x q v e)
    by q v k false s = refl

pub kept_idle_goes : (key : StanzaKey) (x : Content) (t : RowsByName) (f : Stanzas) → version_of x ≡ None → f key ≡ Some x → IsKept t f → IsKept t (without_stanza key f)
kept_idle_goes key x t f e there kept = record {
  rises = kept.rises;
  held = λ q v k. kept.held q v k ∙ by q v k (key_is key k) refl;
  some = kept.some;
}
  where
    by : (q v : List ℕ) (k : StanzaKey) (c : Bool) → key_is key k ≡ c → tells q v (f k) ≡ tells q v (cond c None (f k))
    by q v k true s = ap (λ z. tells q v (f z)) (sym (key_is-same key k s)) ∙ ap (tells q v) there ∙ no_row_of x q v e
    by q v k false s = refl

-- ---- from the rows of one name

pub kept_put : (key : StanzaKey) (x : Content) (name ver : List ℕ) (t u : RowsByName) (f : Stanzas) → IsKept t f → package_of x ≡ name → version_of x ≡ Some ver → f key ≡ None → HasPut ver key (t name) (u name) → OthersStay name t u → IsKept u (with_stanza key x f)
kept_put key x name ver t u f kept p e absent put others = put_kept key x name ver t u f kept p e absent (one_row (λ o. Some (with_key key (or_none o))) name ver t u put others)

pub kept_take : (key : StanzaKey) (x : Content) (name ver : List ℕ) (t u : RowsByName) (f : Stanzas) → IsKept t f → package_of x ≡ name → version_of x ≡ Some ver → f key ≡ Some x → HasTaken ver key (t name) (u name) → OthersStay name t u → IsKept u (without_stanza key f)
kept_take key x name ver t u f kept p e there taken others = take_kept key x name ver t u f kept p e there (one_row (λ o. some_keys (without_key key (or_none o))) name ver t u taken others)

-- no rows follow no stanzas
pub kept_none : (t : RowsByName) → ((q v : List ℕ) → fin.get (t q) v ≡ None) → IsKept t (λ k. None)
kept_none t h = record {
  rises = λ q v. subst (λ o. AreRising (or_none o)) (sym (h q v)) tt;
  held = λ q v k. ap (λ o. has_key k (or_none o)) (h q v);
  some = λ q v. h q v ∙ ap (λ o. some_keys (or_none o)) (sym (h q v));
}
