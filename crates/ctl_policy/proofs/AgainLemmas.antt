-- An edit that sets again what stands leaves every name.
use Rattle.std.proofs.Common.{◌≡◌, ℕ, ℤ, Bool, true, false, cond, List, [], ◌∷◌, Option, None, Some, refl, ap, sym, subst, ◌∙◌}
use Rattle.std.specs.Str.{bytes_eq}
use Rattle.std.specs.Option.{option_eq}
use Rattle.std.specs.Map.{lookup}
use Rattle.std.specs.FinMap as fin
use Rattle.std.specs.Cmp.Lexicographic.{nat_list_eq_equiv}
use Rattle.std.proofs.lemmas.Slice.Eq.{bytes_eq-Decides}
use Rattle.indexmap.specs.IndexMap.{insert_entry}
use Rattle.ctl_store.specs.declared.selector.Selector.{Selector}
use Rattle.ctl_store.specs.declared.selector.Selector.TheVariants.{Version, Release}
use Rattle.ctl_store.specs.Pins.{selector_eq, is_of, is_general_on, general_pin, own_settings}
use Rattle.ctl_store.specs.SelectorLaws.{selector_eq-Decides}
use Rattle.ctl_store.specs.Edits.{Edit, AddList, DropList, Put, Remove, Mark, Unmark, Pin, Unpin, Target, Prefs}
use Rattle.ctl_store.specs.Store.{Held, state_of}
use Rattle.ctl_policy.specs.Priority.{Settings, world_of}
use Rattle.ctl_policy.specs.Laws.{Stays, with_pins, with_target, world_after}
use Rattle.ctl_policy.specs.Touched.{sets_again}
use Rattle.ctl_policy.proofs.RestLemmas.{same_mark, stays_itself}
use Rattle.ctl_policy.proofs.TouchedNamesLemmas.{same_priority}

-- ---- a selector is found among the pins of its package

-- a selector that is the same is of the same package
of_same : (s t : Selector) (name : List ℕ) → is_of name s ≡ true → is_of name t ≡ false → selector_eq s t ≡ false
of_same s t name is not = by (selector_eq s t) refl
  where
    by : (b : Bool) → selector_eq s t ≡ b → b ≡ false
    by true same = sym (sym not ∙ ap (is_of name) (sym ((selector_eq-Decides s t).0 same)) ∙ is)
    by false same = refl

own_lookup : (name : List ℕ) (s : Selector) (pins : Settings) → is_of name s ≡ true → lookup (selector_eq s) (own_settings name pins) ≡ lookup (selector_eq s) pins
own_lookup name s [] is = refl
own_lookup name s (x ∷ pins) is = by (is_of name x.0) refl (own_lookup name s pins is)
  where
    by : (b : Bool) → is_of name x.0 ≡ b → lookup (selector_eq s) (own_settings name pins) ≡ lookup (selector_eq s) pins
        → lookup (selector_eq s) (cond b (x ∷ own_settings name pins) (own_settings name pins)) ≡ cond (selector_eq s x.0) (Some x.1) (lookup (selector_eq s) pins)
    by true e h = ap (cond (selector_eq s x.0) (Some x.1)) h
    by false e h = h ∙ sym (ap (λ b. cond b (Some x.1) (lookup (selector_eq s) pins)) (of_same s x.0 name is e))

itself : (name : List ℕ) → bytes_eq name name ≡ true
itself name = (bytes_eq-Decides name name).1 refl

pub own_version : (name version : List ℕ) (pins : Settings) → lookup (selector_eq (Version name version)) (own_settings name pins) ≡ lookup (selector_eq (Version name version)) pins
own_version name version pins = own_lookup name (Version name version) pins (itself name)

pub own_release : (name list : List ℕ) (pins : Settings) → lookup (selector_eq (Release (Some name) list)) (own_settings name pins) ≡ lookup (selector_eq (Release (Some name) list)) pins
own_release name list pins = own_lookup name (Release (Some name) list) pins (itself name)

general_same : (list : List ℕ) (t : Selector) → is_general_on list t ≡ selector_eq (Release None list) t
general_same list (Version p v) = refl
general_same list (Release None l) = nat_list_eq_equiv.symm l list
general_same list (Release (Some p) l) = refl

pub general_lookup : (list : List ℕ) (pins : Settings) → general_pin list pins ≡ lookup (selector_eq (Release None list)) pins
general_lookup list [] = refl
general_lookup list (x ∷ pins) = λ i. cond (general_same list x.0 i) (Some x.1) (general_lookup list pins i)

-- ---- what is set again changes nothing

same_value : (a b : Option (List ℕ)) → option_eq bytes_eq a b ≡ true → a ≡ b
same_value None None e = refl
same_value None (Some b) e = cc
same_value (Some a) None e = cc
same_value (Some a) (Some b) e = ap (λ (x : List ℕ). Some x) ((bytes_eq-Decides a b).0 e)

same_found : (m : Option (Option (List ℕ))) (mark : Option (List ℕ)) → option_eq (option_eq bytes_eq) m (Some mark) ≡ true → m ≡ Some mark
same_found None mark e = cc
same_found (Some a) mark e = ap (λ (x : Option (List ℕ)). Some x) (same_value a mark e)

same_pins : (s : Selector) (p : ℤ) (pins : Settings) → lookup (selector_eq s) pins ≡ Some p → insert_entry selector_eq pins s p ≡ pins
same_pins s p [] e = cc
same_pins s p (x ∷ pins) e = by (selector_eq s x.0) refl e (same_pins s p pins)
  where
    by : (b : Bool) → selector_eq s x.0 ≡ b → cond b (Some x.1) (lookup (selector_eq s) pins) ≡ Some p → (lookup (selector_eq s) pins ≡ Some p → insert_entry selector_eq pins s p ≡ pins)
        → cond {A = Settings} b ((x.0, p) ∷ pins) (x ∷ insert_entry selector_eq pins s p) ≡ x ∷ pins
    by true is found h = let same : x.1 ≡ p = cc in ap (λ q. (x.0, q) ∷ pins) (sym same)
    by false is found h = ap (λ r. x ∷ r) (h found)

pub set_again : (h : Held) (edit : Edit) (q : List ℕ) → sets_again h edit ≡ true → Stays q (world_of h) (world_after h edit)
set_again h (AddList list kind class xs) q e = cc
set_again h (DropList list) q e = cc
set_again h (Put list x) q e = cc
set_again h (Remove list name version) q e = cc
set_again h (Mark name version) q e = same_mark (world_of h) name version (same_found (fin.get (state_of h).marks name) version e) q
set_again h (Unmark name) q e = cc
set_again h (Pin s p) q e = subst (λ (pins : Settings). Stays q (world_of h) (with_pins pins (world_of h))) (sym (same_pins s p (state_of h).pins (same_priority q (lookup (selector_eq s) (state_of h).pins) (Some p) e))) (stays_itself q (world_of h))
set_again h (Unpin s) q e = cc
set_again h (Target target) q e = subst (λ (t : Option (List ℕ)). Stays q (world_of h) (with_target t (world_of h))) (same_value (state_of h).target target e) (stays_itself q (world_of h))
set_again h (Prefs pins) q e = cc
