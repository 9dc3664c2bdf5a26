-- The stanzas of rows stand in the lists.
use Rattle.std.proofs.Common.{◌≡◌, ℕ, Bool, true, false, cond, ◌||◌, List, [], ◌∷◌, Option, None, Some, IfSome, IsSome, option_map, Vec, Global, refl, ap, sym, subst, ◌∙◌}
use Rattle.std.specs.Ordering.{is_eq}
use Rattle.std.specs.List.{AllByRecursion}
use Rattle.std.specs.Map.{lookup, keys_of}
use Rattle.std.specs.BTreeMap.{is_at}
use Rattle.std.proofs.lemmas.Cmp.{tied_itself}
use Rattle.ctl_relation.specs.Version.{version_cmp}
use Rattle.ctl_relation.specs.Orders.Versions.{version_total}
use Rattle.ctl_store.specs.declared.stanza_key.StanzaKey.{StanzaKey}
use Rattle.ctl_store.specs.Keys.{key_is, stanza_at, AreHeld}
use Rattle.ctl_policy.specs.Keys.{has_key, or_none}
use Rattle.ctl_policy.specs.Rows.{Lists, rows_named}
use Rattle.ctl_policy.specs.declared.form.Form.{Form}
use Rattle.ctl_policy.specs.declared.form.Form.TheVariants.{Empty, One, Many}
use Rattle.ctl_policy.specs.Inside.HeldRows.{row_in_map, IsOrderedForm, IsFormOf}
use Rattle.ctl_policy.specs.Inside.HeldWalk.{IsHeldForm}
use Rattle.ctl_policy.proofs.RowLemmas.{eq_is}
use Rattle.ctl_policy.proofs.SetLemmas.{key_is-itself}
use Rattle.ctl_policy.proofs.AlikeLemmas.{IsUnder, IsRising, rising_is}
use Rattle.ctl_policy.proofs.DefinedLemmas.{key_held}

or_right : (a b : Bool) → b ≡ true → (a || b) ≡ true
or_right true b e = refl
or_right false b e = e

or_left : (a b : Bool) → a ≡ true → (a || b) ≡ true
or_left true b e = refl
or_left false b e = cc

-- each of some keys
pub each_key : (P : StanzaKey → Type 0) (keys : List StanzaKey) → ((k : StanzaKey) → has_key k keys ≡ true → P k) → AllByRecursion P keys
each_key P [] h = tt
each_key P (k ∷ keys) h = (h k (or_left (key_is k k) (has_key k keys) (key_is-itself k)), each_key P keys (λ q e. h q (or_right (key_is q k) (has_key q keys) e)))

under_equal : (q k : List ℕ) (ks : List (List ℕ)) → is_eq (version_cmp q k) ≡ true → IsUnder k ks → IsUnder q ks
under_equal q k [] e h = tt
under_equal q k (x ∷ ks) e h = (version_total.congr q k x (eq_is _ e) ∙ h.0, under_equal q k ks e h.1)

module _ {X : Type 0} where
  abbrev find : List ℕ → List (List ℕ × X) → Option X
  find q es = lookup (is_at (version_cmp q)) es

  absent : (q : List ℕ) (es : List (List ℕ × X)) → IsUnder q (keys_of es) → find q es ≡ None
  absent q [] h = refl
  absent q (e ∷ es) h = ap (λ o. cond (is_eq o) (Some e.1) (find q es)) h.0 ∙ absent q es h.1

  -- each value of entries in order is found by its key
  pub each_value : (P : X → Type 0) (es : List (List ℕ × X)) → IsRising (keys_of es) → ((q : List ℕ) → IfSome (find q es) P) → AllByRecursion (λ (e : List ℕ × X). P e.1) es
  each_value P [] s h = tt
  each_value P (e ∷ es) s h = (subst (λ b. IfSome (cond b (Some e.1) (find e.0 es)) P) (ap is_eq (tied_itself version_total e.0)) (h e.0), each_value P es s.1 (λ q. tail q (is_eq (version_cmp q e.0)) refl (h q)))
    where
      tail : (q : List ℕ) (b : Bool) → is_eq (version_cmp q e.0) ≡ b → IfSome (cond (is_eq (version_cmp q e.0)) (Some e.1) (find q es)) P → IfSome (find q es) P
      tail q true is g = subst (λ o. IfSome o P) (sym (absent q es (under_equal q e.0 (keys_of es) is s.0))) tt
      tail q false is g = subst (λ b. IfSome (cond b (Some e.1) (find q es)) P) is g

pub if_keys : (P : List StanzaKey → Type 0) (o : Option (Vec StanzaKey Global)) → P (or_none (option_map (λ (v : Vec StanzaKey Global). v.items) o)) → IfSome o (λ v. P v.items)
if_keys P None h = tt
if_keys P (Some v) h = h

-- each row of a map has what the keys of each version have
pub each_row : (P : List StanzaKey → Type 0) (es : List (List ℕ × Vec StanzaKey Global)) → IsRising (keys_of es) → ((v : List ℕ) → P (or_none (option_map (λ (v : Vec StanzaKey Global). v.items) (lookup (is_at (version_cmp v)) es)))) → AllByRecursion (λ (e : List ℕ × Vec StanzaKey Global). P e.1.items) es
each_row P es rising h = each_value (λ v. P v.items) es rising (λ q. if_keys P (lookup (is_at (version_cmp q)) es) (h q))

pub held_form : (form : Form) (name : List ℕ) (lists : Lists) → IsOrderedForm form → IsFormOf form (rows_named name lists) → IsHeldForm lists form
held_form Empty name lists ordered h = tt
held_form (One version key) name lists ordered h =
    (key_held name version lists key (ap (λ o. has_key key (or_none o)) (sym (h version) ∙ ap (λ o. cond (is_eq o) (Some (key ∷ [])) None) (tied_itself version_total version)) ∙ or_left (key_is key key) false (key_is-itself key)), tt)
held_form (Many m) name lists ordered h =
    each_row (λ ks. AreHeld ks lists) m.entries (rising_is (keys_of m.entries) ordered)
    (λ v. each_key (λ k. IsSome (stanza_at k lists)) (or_none (row_in_map m v)) (λ k e. key_held name v lists k (ap (λ o. has_key k (or_none o)) (sym (h v)) ∙ e)))
