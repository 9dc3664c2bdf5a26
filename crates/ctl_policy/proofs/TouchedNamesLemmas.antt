-- The names that an edit touches, by the packages that stand under it.
use Rattle.std.proofs.Common.{◌≡◌, ◌⊎◌, inl, inr, ℕ, ℤ, Bool, true, false, cond, ◌||◌, List, [], ◌∷◌, ◌++◌, Option, None, Some, option_map, refl, ap, sym, subst, ◌∙◌}
use Rattle.std.specs.Str.{bytes_eq}
use Rattle.std.specs.List.{IsDistinct}
use Rattle.std.specs.Map.{keys_of as names_of}
use Rattle.std.specs.Option.{option_eq}
use Rattle.std.specs.Ordering.{int_eq}
use Rattle.std.specs.Cmp.{signed_Decides}
use Rattle.std.proofs.lemmas.Slice.Eq.{bytes_eq-Decides}
use Rattle.ctl_store.specs.declared.selector.Selector.{Selector}
use Rattle.ctl_store.specs.declared.selector.Selector.TheVariants.{Version, Release}
use Rattle.ctl_store.specs.Named.{at_name}
use Rattle.ctl_store.specs.State.{StanzaList, shown_lists}
use Rattle.ctl_store.specs.Keys.{stanza_at, stanza_lists, coming}
use Rattle.ctl_store.specs.Pins.{is_of, own_settings}
use Rattle.ctl_store.specs.Store.{Held, keyed_of, state_of}
use Rattle.ctl_store.specs.Plans.{Planned, IsReady}
use Rattle.ctl_policy.specs.Priority.{World, Settings, world_of, list_priority, priority_of_list}
use Rattle.ctl_policy.specs.Laws.{HoldsNone, with_pins}
use Rattle.ctl_policy.specs.Touched.{TargetHoldsNone, LeavePins, HasNoneOf, LeavesStanzas, is_one_of, packages_at}
use Rattle.ctl_policy.specs.Inside.TouchedNames.{packages_in, target_packages, selected_package, pinned_packages, keeps_priority, repinned_packages}
use Rattle.ctl_policy.proofs.RestLemmas.{or_first, or_second}
use Rattle.ctl_policy.proofs.PackageLemmas.{none_under, none_held}

-- ---- names that are none of some

module _ (q : List ℕ) where
  either : (xs ys : List (List ℕ)) → is_one_of q (xs ++ ys) ≡ (is_one_of q xs || is_one_of q ys)
  either [] ys = refl
  either (x ∷ xs) ys = ap (λ b. bytes_eq x q || b) (either xs ys) ∙ by (bytes_eq x q)
    where
      by : (b : Bool) → (b || (is_one_of q xs || is_one_of q ys)) ≡ ((b || is_one_of q xs) || is_one_of q ys)
      by true = refl
      by false = refl

  pub not_front : (xs ys : List (List ℕ)) → is_one_of q (xs ++ ys) ≡ false → is_one_of q xs ≡ false
  not_front xs ys e = or_first (is_one_of q xs) (is_one_of q ys) (sym (either xs ys) ∙ e)

  pub not_back : (xs ys : List (List ℕ)) → is_one_of q (xs ++ ys) ≡ false → is_one_of q ys ≡ false
  not_back xs ys e = or_second (is_one_of q xs) (is_one_of q ys) (sym (either xs ys) ∙ e)

  -- ---- settings

  not_selected : (s : Selector) → is_one_of q (selected_package s) ≡ false → is_of q s ≡ false
  not_selected (Version p v) e = or_first (bytes_eq p q) false e
  not_selected (Release None l) e = refl
  not_selected (Release (Some p) l) e = or_first (bytes_eq p q) false e

  no_own : (pins : Settings) → is_one_of q (pinned_packages pins) ≡ false → own_settings q pins ≡ []
  no_own [] e = refl
  no_own (s ∷ pins) e =
      ap (λ b. cond b (s ∷ own_settings q pins) (own_settings q pins)) (not_selected s.0 (not_front (selected_package s.0) (pinned_packages pins) e))
      ∙ no_own pins (not_back (selected_package s.0) (pinned_packages pins) e)

  pub same_priority : (a b : Option ℤ) → option_eq int_eq a b ≡ true → a ≡ b
  same_priority None None e = refl
  same_priority None (Some b) e = cc
  same_priority (Some a) None e = cc
  same_priority (Some a) (Some b) e = ap (λ p. Some p) ((signed_Decides a b).0 e)

  module _ (pins : Settings) (w : World) where
    -- a list isn't there, or keeps its priority, or holds no stanza of the name
    ranked : (list : List ℕ) (ls : List (List ℕ × StanzaList)) → is_one_of q (repinned_packages pins w (shown_lists ls)) ≡ false
        → (at_name list ls ≡ None) ⊎ ((list_priority list (with_pins pins w) ≡ list_priority list w) ⊎ (is_one_of q (packages_in list w.lists) ≡ false))
    ranked list [] e = inl refl
    ranked list (l ∷ ls) e =
        by (bytes_eq list l.0) refl (keeps_priority pins w l.0) refl
        (not_front (cond (keeps_priority pins w l.0) [] (packages_in l.0 w.lists)) (repinned_packages pins w (shown_lists ls)) e)
        (ranked list ls (not_back (cond (keeps_priority pins w l.0) [] (packages_in l.0 w.lists)) (repinned_packages pins w (shown_lists ls)) e))
      where
        by : (b : Bool) → bytes_eq list l.0 ≡ b → (k : Bool) → keeps_priority pins w l.0 ≡ k → is_one_of q (cond k [] (packages_in l.0 w.lists)) ≡ false
            → (at_name list ls ≡ None) ⊎ ((list_priority list (with_pins pins w) ≡ list_priority list w) ⊎ (is_one_of q (packages_in list w.lists) ≡ false))
            → (cond b (Some l.1) (at_name list ls) ≡ None) ⊎ ((list_priority list (with_pins pins w) ≡ list_priority list w) ⊎ (is_one_of q (packages_in list w.lists) ≡ false))
        by true is true k n rest = inr (inl (subst (λ z. list_priority z (with_pins pins w) ≡ list_priority z w) (sym ((bytes_eq-Decides list l.0).0 is)) (sym (same_priority (list_priority l.0 w) (list_priority l.0 (with_pins pins w)) k))))
        by true is false k n rest = inr (inr (subst (λ z. is_one_of q (packages_in z w.lists) ≡ false) (sym ((bytes_eq-Decides list l.0).0 is)) n))
        by false is k s n rest = rest

  pub preferred : (h : Held) (pins : Settings) → IsDistinct bytes_eq (names_of (state_of h).lists) → is_one_of q (pinned_packages (world_of h).pins) ≡ false → is_one_of q (pinned_packages pins) ≡ false
      → is_one_of q (repinned_packages pins (world_of h) (shown_lists (state_of h).lists)) ≡ false → LeavePins pins q (world_of h)
  preferred h pins distinct before after lists = record {
    own = no_own pins after ∙ sym (no_own (world_of h).pins before);
    lists = λ list. by list (ranked pins (world_of h) list (state_of h).lists lists);
  }
    where
      w : World
      w = world_of h

      by : (list : List ℕ) → (at_name list (stanza_lists w.lists) ≡ None) ⊎ ((list_priority list (with_pins pins w) ≡ list_priority list w) ⊎ (is_one_of q (packages_in list w.lists) ≡ false))
          → (list_priority list (with_pins pins w) ≡ list_priority list w) ⊎ HoldsNone list q w.lists
      by list (inl none) = inl (ap (option_map (priority_of_list list (with_pins pins w))) none ∙ sym (ap (option_map (priority_of_list list w)) none))
      by list (inr (inl e)) = inl e
      by list (inr (inr e)) = inr (none_held q list h distinct e)

  pub target_none : (h : Held) (target : Option (List ℕ)) → IsDistinct bytes_eq (names_of (state_of h).lists) → is_one_of q (target_packages target (keyed_of h).lists) ≡ false → TargetHoldsNone target q (keyed_of h).lists
  target_none h None distinct e = tt
  target_none h (Some list) distinct e = none_held q list h distinct e

  -- ---- names that were pushed, one part after another

  module _ (h : Held) (distinct : IsDistinct bytes_eq (names_of (state_of h).lists)) (start : List (List ℕ)) (bare : start ≡ []) where
    pub list_pushed : (names : List (List ℕ)) (list : List ℕ) → names ≡ start ++ packages_in list (keyed_of h).lists → is_one_of q names ≡ false → HoldsNone list q (keyed_of h).lists
    list_pushed names list is e = none_held q list h distinct (sym (ap (is_one_of q) (is ∙ ap (λ l. l ++ packages_in list (keyed_of h).lists) bare)) ∙ e)

    pub targets_pushed : (first names : List (List ℕ)) (old new : Option (List ℕ)) → first ≡ start ++ target_packages old (keyed_of h).lists → names ≡ first ++ target_packages new (keyed_of h).lists → is_one_of q names ≡ false
        → TargetHoldsNone old q (keyed_of h).lists × TargetHoldsNone new q (keyed_of h).lists
    targets_pushed first names old new first_is is e =
        let before = target_packages old (keyed_of h).lists in
        let after = target_packages new (keyed_of h).lists in
        let none : is_one_of q (before ++ after) ≡ false = sym (ap (is_one_of q) (is ∙ ap (λ l. l ++ after) (first_is ∙ ap (λ l. l ++ before) bare))) ∙ e in
        (target_none h old distinct (not_front before after none), target_none h new distinct (not_back before after none))

    pub preferred_pushed : (pins : Settings) (first second names : List (List ℕ)) → first ≡ start ++ pinned_packages (world_of h).pins → second ≡ first ++ pinned_packages pins
        → names ≡ second ++ repinned_packages pins (world_of h) (shown_lists (state_of h).lists) → is_one_of q names ≡ false → LeavePins pins q (world_of h)
    preferred_pushed pins first second names first_is second_is is e =
        let before = pinned_packages (world_of h).pins in
        let after = pinned_packages pins in
        let lists = repinned_packages pins (world_of h) (shown_lists (state_of h).lists) in
        let none : is_one_of q ((before ++ after) ++ lists) ≡ false = sym (ap (is_one_of q) (is ∙ ap (λ l. l ++ lists) (second_is ∙ ap (λ l. l ++ after) (first_is ∙ ap (λ l. l ++ before) bare)))) ∙ e in
        let settings : is_one_of q (before ++ after) ≡ false = not_front (before ++ after) lists none in
        preferred h pins distinct (not_front before after settings) (not_back before after settings) (not_back (before ++ after) lists none)

  pub stanzas_pushed : (h : Held) (plan : Planned) → IsReady h plan → (start first names : List (List ℕ)) → start ≡ []
      → first ≡ start ++ packages_at plan.removed (λ k. stanza_at k (keyed_of h).lists) → names ≡ first ++ packages_at plan.added (coming plan.edit) → is_one_of q names ≡ false → LeavesStanzas q h plan.edit
  stanzas_pushed h plan ready start first names bare first_is is e =
      let gone = packages_at plan.removed (λ k. stanza_at k (keyed_of h).lists) in
      let come = packages_at plan.added (coming plan.edit) in
      let none : is_one_of q (gone ++ come) ≡ false = sym (ap (is_one_of q) (is ∙ ap (λ l. l ++ come) (first_is ∙ ap (λ l. l ++ gone) bare))) ∙ e in
      record {
        gone = subst (λ ks. HasNoneOf q ks (λ k. stanza_at k (keyed_of h).lists)) ready.removed (none_under q (λ k. stanza_at k (keyed_of h).lists) plan.removed (not_front gone come none));
        come = subst (λ ks. HasNoneOf q ks (coming plan.edit)) ready.added (none_under q (coming plan.edit) plan.added (not_back gone come none));
      }
