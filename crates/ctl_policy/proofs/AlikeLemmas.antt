-- Entries by versions in their order: those that answer alike are alike, save the texts of equal versions.
use Rattle.std.proofs.Common.{◌≡◌, ℕ, Bool, true, false, cond, List, [], ◌∷◌, map, Option, None, Some, refl, ap, sym, ◌∙◌, Ordering, Less, Equal, Greater}
use Rattle.std.specs.Ordering.{is_eq, ordering_reverse}
use Rattle.std.specs.List.{AllByRecursion}
use Rattle.std.specs.List.Sorted.{IsStrictlySortedBy}
use Rattle.std.specs.Map.{lookup, keys_of}
use Rattle.std.specs.BTreeMap.{is_at}
use Rattle.std.proofs.lemmas.Cmp.{alike_right, tied_itself}
use Rattle.ctl_relation.specs.Version.{Triple, triple_of, version_cmp}
use Rattle.ctl_relation.specs.Orders.Versions.{version_total, equal_versions}
use Rattle.ctl_policy.proofs.RowLemmas.{eq_is}

abbrev pub IsUnder : List ℕ → List (List ℕ) → Type 0
IsUnder k ks = AllByRecursion (λ q. version_cmp k q ≡ Less) ks

abbrev pub IsRising : List (List ℕ) → Type 0
IsRising [] = Unit {0}
IsRising (k ∷ ks) = IsUnder k ks × IsRising ks

pub rising_is : (ks : List (List ℕ)) → IsStrictlySortedBy version_cmp ks → IsRising ks
unfolding IsStrictlySortedBy
rising_is [] h = tt
rising_is (k ∷ ks) h = (h.0, rising_is ks h.1)

under_less : (q k : List ℕ) (ks : List (List ℕ)) → version_cmp q k ≡ Less → IsUnder k ks → IsUnder q ks
under_less q k [] e h = tt
under_less q k (x ∷ ks) e h = (version_total.trans q k x e h.0, under_less q k ks e h.1)

under_equal : (q k : List ℕ) (ks : List (List ℕ)) → version_cmp q k ≡ Equal → IsUnder k ks → IsUnder q ks
under_equal q k [] e h = tt
under_equal q k (x ∷ ks) e h = (version_total.congr q k x e ∙ h.0, under_equal q k ks e h.1)

module _ {X : Type 0} where
  abbrev find : List ℕ → List (List ℕ × X) → Option X
  find q es = lookup (is_at (version_cmp q)) es

  absent : (q : List ℕ) (es : List (List ℕ × X)) → IsUnder q (keys_of es) → find q es ≡ None
  absent q [] h = refl
  absent q (e ∷ es) h = ap (λ o. cond (is_eq o) (Some e.1) (find q es)) h.0 ∙ absent q es h.1

  at_head : (e : List ℕ × X) (es : List (List ℕ × X)) → find e.0 (e ∷ es) ≡ Some e.1
  at_head e es = ap (λ o. cond (is_eq o) (Some e.1) (find e.0 es)) (tied_itself version_total e.0)

  not_none : (x : X) {A : Type 0} → Some x ≡ None → A
  not_none x e = cc

  abbrev pub shown : List ℕ × X → Triple × X
  shown e = (triple_of e.0, e.1)

  pub read_alike : (es fs : List (List ℕ × X)) → IsRising (keys_of es) → IsRising (keys_of fs) → ((q : List ℕ) → find q es ≡ find q fs) → map shown es ≡ map shown fs
  read_alike [] [] s t h = refl
  read_alike [] (f ∷ fs) s t h = not_none f.1 (sym (h f.0 ∙ at_head f fs))
  read_alike (e ∷ es) [] s t h = not_none e.1 (sym (at_head e es) ∙ h e.0)
  read_alike (e ∷ es) (f ∷ fs) s t h = by (version_cmp e.0 f.0) refl (read_alike es fs s.1 t.1)
    where
      by : (o : Ordering) → version_cmp e.0 f.0 ≡ o → (((q : List ℕ) → find q es ≡ find q fs) → map shown es ≡ map shown fs) → map shown (e ∷ es) ≡ map shown (f ∷ fs)
      by Less p rest = not_none e.1 (sym (at_head e es) ∙ h e.0 ∙ absent e.0 (f ∷ fs) (p, under_less e.0 f.0 (keys_of fs) p t.0))
      by Greater p rest = let g = version_total.antisymm f.0 e.0 ∙ ap ordering_reverse p in not_none f.1 (sym (at_head f fs) ∙ sym (h f.0) ∙ absent f.0 (e ∷ es) (g, under_less f.0 e.0 (keys_of es) g s.0))
      by Equal p rest =
          let value : e.1 ≡ f.1 = let g = sym (at_head e es) ∙ h e.0 ∙ ap (λ o. cond (is_eq o) (Some f.1) (find e.0 fs)) p in cc in
          let r = rest (λ q. tails q (is_eq (version_cmp q e.0)) refl) in
          λ i. ((equal_versions e.0 f.0).0 p i, value i) ∷ r i
        where
          tails : (q : List ℕ) (b : Bool) → is_eq (version_cmp q e.0) ≡ b → find q es ≡ find q fs
          tails q true is =
              let t' = eq_is _ is in
              absent q es (under_equal q e.0 (keys_of es) t' s.0) ∙ sym (absent q fs (under_equal q f.0 (keys_of fs) (sym (alike_right version_total e.0 f.0 q p) ∙ t') t.0))
          tails q false is =
              ap (λ c. cond c (Some e.1) (find q es)) (sym is) ∙ h q ∙ ap (λ c. cond c (Some f.1) (find q fs)) (ap is_eq (sym (alike_right version_total e.0 f.0 q p)) ∙ is)
