-- One row of one stanza, as a key comes and goes.
use Rattle.std.proofs.Common.{◌≡◌, ℕ, Bool, true, false, cond, ◌&&◌, List, [], ◌∷◌, Option, None, Some, refl, ap, sym, subst, ◌∙◌}
use Rattle.std.specs.Bool.{OnTrue, OnFalse}
use Rattle.std.specs.Ordering.{is_eq}
use Rattle.std.proofs.lemmas.Cmp.{alike_right, eq_by_cmp_equiv}
use Rattle.ctl_relation.specs.Version.{version_cmp}
use Rattle.ctl_relation.specs.Orders.Versions.{version_total}
use Rattle.ctl_store.specs.declared.stanza_key.StanzaKey.{StanzaKey}
use Rattle.ctl_store.specs.Keys.{key_is, AreRising}
use Rattle.ctl_policy.specs.Inside.HeldRows.{RowMap, row_in_map, AreRows, one_at, form_without}
use Rattle.ctl_policy.specs.Keys.{without_key, or_none, some_keys}
use Rattle.ctl_policy.proofs.RowLemmas.{eq_is}

pub on_true : (b : Bool) {P : Type 0} → (b ≡ true → P) → OnTrue b P
on_true true f = f refl
on_true false f = tt

pub on_false : (b : Bool) {P : Type 0} → (b ≡ false → P) → OnFalse b P
on_false true f = tt
on_false false f = f refl

pub one_rises : (rows : RowMap) (there : List ℕ) (other : StanzaKey) → ((v : List ℕ) → row_in_map rows v ≡ one_at there other v) → AreRows rows
one_rises rows there other h v = subst (λ o. AreRising (or_none o)) (sym (h v)) (by (is_eq (version_cmp there v)))
  where
    by : (b : Bool) → AreRising (or_none (cond b (Some (other ∷ [])) None))
    by true = (tt, tt)
    by false = tt

back : (v w : List ℕ) → is_eq (version_cmp v w) ≡ is_eq (version_cmp w v)
back v w = (eq_by_cmp_equiv version_total).symm v w

and_left : (a b : Bool) → (a && b) ≡ true → a ≡ true
and_left true b e = refl
and_left false b e = cc

and_right : (a b : Bool) → (a && b) ≡ true → b ≡ true
and_right true b e = e
and_right false b e = cc

module _ (version there : List ℕ) (key other : StanzaKey) where
  -- what is left of the row of the version
  abbrev left_of : Bool → Bool → Option (List StanzaKey)
  left_of a k = some_keys (cond a (cond k [] (other ∷ [])) [])

  row_left : (a : Bool) → is_eq (version_cmp version there) ≡ a → some_keys (without_key key (or_none (one_at there other version))) ≡ left_of a (key_is key other)
  row_left a e = ap (λ b. some_keys (without_key key (or_none (cond b (Some (other ∷ [])) None)))) (back there version ∙ e) ∙ by a
    where
      by : (a : Bool) → some_keys (without_key key (or_none (cond a (Some (other ∷ [])) None))) ≡ left_of a (key_is key other)
      by true = refl
      by false = refl

  pub one_gone : (is_eq (version_cmp version there) && key_is key other) ≡ true → (v : List ℕ) → form_without version key (one_at there other) v ≡ None
  one_gone e v = by (is_eq (version_cmp version v)) refl
    where
      by : (b : Bool) → is_eq (version_cmp version v) ≡ b → cond b (some_keys (without_key key (or_none (one_at there other version)))) (one_at there other v) ≡ None
      by true is = row_left true (and_left _ _ e) ∙ ap (left_of true) (and_right (is_eq (version_cmp version there)) _ e)
      by false is = ap (λ b. cond b (Some (other ∷ [])) None) (ap is_eq (sym (version_total.congr version there v (eq_is _ (and_left _ _ e)))) ∙ is)

  pub one_stays : (is_eq (version_cmp version there) && key_is key other) ≡ false → (v : List ℕ) → one_at there other v ≡ form_without version key (one_at there other) v
  one_stays e v = by (is_eq (version_cmp version v)) refl (is_eq (version_cmp version there)) refl e
    where
      by : (b : Bool) → is_eq (version_cmp version v) ≡ b → (a : Bool) → is_eq (version_cmp version there) ≡ a → (a && key_is key other) ≡ false → one_at there other v ≡ cond b (some_keys (without_key key (or_none (one_at there other version)))) (one_at there other v)
      by false is a at f = refl
      by true is true at f =
          ap (λ b. cond b (Some (other ∷ [])) None) (ap is_eq (sym (version_total.congr version there v (eq_is _ at))) ∙ is)
          ∙ sym (row_left true at ∙ ap (left_of true) f)
      by true is false at f =
          ap (λ b. cond b (Some (other ∷ [])) None) (ap is_eq (sym (alike_right version_total version v there (eq_is _ is))) ∙ back there version ∙ at)
          ∙ sym (row_left false at)
