-- What an edit of the store leaves under the keys of a name.
use Rattle.std.proofs.Common.{◌≡◌, ◌⊎◌, inl, inr, ℕ, Bool, true, false, cond, not, ◌||◌, List, [], ◌∷◌, None, Some, refl, ap, sym, subst, ◌∙◌}
use Rattle.std.specs.List.{AllByRecursion}
use Rattle.std.proofs.lemmas.Bool.{false≢true}
use Rattle.ctl_store.specs.declared.stanza_key.StanzaKey.{StanzaKey}
use Rattle.ctl_store.specs.Edits.{Edit}
use Rattle.ctl_store.specs.Keys.{key_is, stanza_at, coming, AreCome, AreNew, IsNotAmong}
use Rattle.ctl_store.specs.Entries.{Entry, entries_of, is_among, without_keys, IsChange}
use Rattle.ctl_policy.specs.Keys.{has_key}
use Rattle.ctl_policy.specs.Rows.{Lists}
use Rattle.ctl_policy.specs.Laws.{version_found, IsUntouched}
use Rattle.ctl_policy.specs.Touched.{HasNoneOf}
use Rattle.ctl_policy.proofs.SetLemmas.{key_is-same}
use Rattle.ctl_policy.proofs.DefinedLemmas.{find_in, find_placed}

-- ---- entries without some keys

kept_key : (k : StanzaKey) (ks : List StanzaKey) (es : List Entry) → has_key k ks ≡ false → find_in k (without_keys ks es) ≡ find_in k es
kept_key k ks [] h = refl
kept_key k ks (e ∷ es) h = by (is_among ks e) refl (key_is k e.0) refl (kept_key k ks es h)
  where
    by : (a : Bool) → is_among ks e ≡ a → (b : Bool) → key_is k e.0 ≡ b → find_in k (without_keys ks es) ≡ find_in k es
        → find_in k (cond (not a) (e ∷ without_keys ks es) (without_keys ks es)) ≡ cond (key_is k e.0) (Some e.1) (find_in k es)
    by false among b is rest = ap (cond (key_is k e.0) (Some e.1)) rest
    by true among true is rest = absurd (false≢true (sym h ∙ ap (λ z. has_key z ks) (key_is-same k e.0 is) ∙ among))
    by true among false is rest = rest ∙ ap (λ b. cond b (Some e.1) (find_in k es)) (sym is)

gone_key : (k : StanzaKey) (ks : List StanzaKey) (es : List Entry) → has_key k ks ≡ true → find_in k (without_keys ks es) ≡ None
gone_key k ks [] h = refl
gone_key k ks (e ∷ es) h = by (is_among ks e) refl (key_is k e.0) refl (gone_key k ks es h)
  where
    by : (a : Bool) → is_among ks e ≡ a → (b : Bool) → key_is k e.0 ≡ b → find_in k (without_keys ks es) ≡ None → find_in k (cond (not a) (e ∷ without_keys ks es) (without_keys ks es)) ≡ None
    by true among b is rest = rest
    by false among true is rest = absurd (false≢true (sym among ∙ ap (λ z. has_key z ks) (sym (key_is-same k e.0 is)) ∙ h))
    by false among false is rest = ap (λ b. cond b (Some e.1) (find_in k (without_keys ks es))) is ∙ rest

-- ---- one of some keys

pub one_of : (P : StanzaKey → Type 0) (k : StanzaKey) (ks : List StanzaKey) → AllByRecursion P ks → has_key k ks ≡ true → P k
one_of P k [] a h = absurd (false≢true h)
one_of P k (x ∷ xs) a h = by (key_is k x) refl h (one_of P k xs a.1)
  where
    by : (b : Bool) → key_is k x ≡ b → (b || has_key k xs) ≡ true → (has_key k xs ≡ true → P k) → P k
    by true is h rest = subst P (sym (key_is-same k x is)) a.0
    by false is h rest = rest h

not_among : (k : StanzaKey) (ks : List StanzaKey) → has_key k ks ≡ false → IsNotAmong k ks
not_among k [] h = tt
not_among k (x ∷ xs) h = (first (key_is k x) (has_key k xs) h, not_among k xs (second (key_is k x) (has_key k xs) h))
  where
    first : (a b : Bool) → (a || b) ≡ false → a ≡ false
    first true b e = cc
    first false b e = refl

    second : (a b : Bool) → (a || b) ≡ false → b ≡ false
    second true b e = cc
    second false b e = e

-- An edit by which no live stanza of a name goes or comes leaves its stanzas.
pub untouched : (name : List ℕ) (before after : Lists) (removed added : List StanzaKey) (edit : Edit) → IsChange before after removed added edit → AreCome added edit after → AreNew added removed before
    → HasNoneOf name removed (λ k. stanza_at k before) → HasNoneOf name added (coming edit) → IsUntouched name before after
untouched name before after removed added edit change come new gone none k = by (has_key k added) refl (has_key k removed) refl
  where
    found : version_found name None ≡ None
    found = refl

    by : (a : Bool) → has_key k added ≡ a → (r : Bool) → has_key k removed ≡ r
        → (stanza_at k after ≡ stanza_at k before) ⊎ ((version_found name (stanza_at k before) ≡ None) × (version_found name (stanza_at k after) ≡ None))
    by true a true r = inr (gone k r, ap (version_found name) (one_of (λ k. stanza_at k after ≡ coming edit k) k added come a) ∙ none k a)
    by true a false r = inr (
      ap (version_found name) (one_of (λ k. IsNotAmong k removed → stanza_at k before ≡ None) k added new a (not_among k removed r)),
      ap (version_found name) (one_of (λ k. stanza_at k after ≡ coming edit k) k added come a) ∙ none k a,
    )
    by false a true r = inr (
      gone k r,
      ap (version_found name) (sym (find_placed k after) ∙ sym (kept_key k added (entries_of after) a) ∙ ap (find_in k) change.mid ∙ gone_key k removed (entries_of before) r),
    )
    by false a false r = inl (sym (find_placed k after) ∙ sym (kept_key k added (entries_of after) a) ∙ ap (find_in k) change.mid ∙ kept_key k removed (entries_of before) r ∙ find_placed k before)
