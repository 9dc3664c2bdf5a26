-- Every edit leaves names that it doesn't touch, and choices that are renewed for the others are right.
use Rattle.std.proofs.Common.{◌≡◌, inl, inr, ℕ, ℤ, Bool, true, false, cond, List, None, Some, refl, sym, subst, ◌∙◌}
use Rattle.std.specs.Str.{bytes_eq}
use Rattle.std.specs.List.{IsDistinct}
use Rattle.std.specs.Map.{keys_of as names_of}
use Rattle.std.proofs.lemmas.Slice.Eq.{bytes_eq-Decides}
use Rattle.ctl_store.specs.declared.selector.Selector.{Selector}
use Rattle.ctl_store.specs.declared.selector.Selector.TheVariants.{Version, Release}
use Rattle.ctl_store.specs.Edits.{Edit, AddList, DropList, Put, Remove, Mark, Unmark, Pin, Unpin, Target, Prefs}
use Rattle.ctl_store.specs.Keys.{all_keys, AreRising, AreCome, AreNew, keyed_after, added_of}
use Rattle.ctl_store.specs.Entries.{IsChange}
use Rattle.ctl_store.specs.Store.{Held, keyed_of, state_of}
use Rattle.ctl_store.specs.Plans.{Planned, IsReady}
use Rattle.ctl_policy.specs.declared.chosen.Chosen.{Chosen}
use Rattle.ctl_policy.specs.Chosen.{choice_in, AreChosen}
use Rattle.ctl_policy.specs.Priority.{world_of}
use Rattle.ctl_policy.specs.Laws.{Stays, world_after}
use Rattle.ctl_policy.specs.Touched.{SelectsNone, IsOfOthers, IsNotTouched, IsAccepted, TouchesOnly}
use Rattle.ctl_policy.proofs.RestLemmas.{Sets, Takes, mark_others, unmark_others, pin_others, unpin_others, general_pin_others, general_unpin_others}
use Rattle.ctl_policy.proofs.TouchLemmas.{no_source}
use Rattle.ctl_policy.proofs.AgainLemmas.{set_again}
use Rattle.ctl_policy.proofs.SettingLemmas.{target_untouched, prefs_untouched}
use Rattle.ctl_policy.proofs.TouchedLemmas.{put_untouched, remove_untouched, add_untouched, drop_untouched}

itself : (name : List ℕ) → bytes_eq name name ≡ true
itself name = (bytes_eq-Decides name name).1 refl

module _ (old : Held) (q : List ℕ) (rising : AreRising (all_keys (keyed_of old).lists)) where
  pin_untouched : Sets → (s : Selector) (p : ℤ) → SelectsNone s q (keyed_of old).lists → Stays q (world_of old) (world_after old (Pin s p))
  pin_untouched sets (Version name v) p e = pin_others sets (world_of old) name (Version name v) p (itself name) q e
  pin_untouched sets (Release None list) p none = general_pin_others sets (world_of old) list p q (no_source list q (world_of old) rising none)
  pin_untouched sets (Release (Some name) list) p e = pin_others sets (world_of old) name (Release (Some name) list) p (itself name) q e

  unpin_untouched : Takes → (s : Selector) → SelectsNone s q (keyed_of old).lists → Stays q (world_of old) (world_after old (Unpin s))
  unpin_untouched takes (Version name v) e = unpin_others takes (world_of old) name (Version name v) (itself name) q e
  unpin_untouched takes (Release None list) none = general_unpin_others takes (world_of old) list q (no_source list q (world_of old) rising none)
  unpin_untouched takes (Release (Some name) list) e = unpin_others takes (world_of old) name (Release (Some name) list) (itself name) q e

of_others : Sets → Takes → (old : Held) (edit : Edit) (q : List ℕ) → IsAccepted old edit → IsOfOthers q old edit → Stays q (world_of old) (world_after old edit)
of_others sets takes old (AddList list kind class xs) q a e = add_untouched old q list kind class xs a e
of_others sets takes old (DropList list) q a e = drop_untouched old q list a e
of_others sets takes old (Put list x) q a e = put_untouched old q list x a e
of_others sets takes old (Remove list name version) q a e = remove_untouched old q list name version a e
of_others sets takes old (Mark name version) q a e = mark_others (world_of old) name version q e
of_others sets takes old (Unmark name) q a e = unmark_others (world_of old) name q e
of_others sets takes old (Pin s p) q a e = pin_untouched old q a.rising sets s p e
of_others sets takes old (Unpin s) q a e = unpin_untouched old q a.rising takes s e
of_others sets takes old (Target target) q a e = target_untouched old target q a.rising e.0 e.1
of_others sets takes old (Prefs pins) q a e = prefs_untouched old pins q a.rising e

pub untouched_stays : Sets → Takes → (old : Held) (edit : Edit) (q : List ℕ) → IsAccepted old edit → IsNotTouched q old edit → Stays q (world_of old) (world_after old edit)
untouched_stays sets takes old edit q a (inl again) = set_again old edit q again
untouched_stays sets takes old edit q a (inr e) = of_others sets takes old edit q a e

-- the names that an edit touches are chosen anew, and more may be
pub touched_renewed : ((h : Held) → (edit : Edit) → (q : List ℕ) → IsAccepted h edit → IsNotTouched q h edit → Stays q (world_of h) (world_after h edit)) → (old new : List ℕ → Chosen) (touches : List ℕ → Bool) (h : Held) (edit : Edit)
    → IsAccepted h edit → TouchesOnly touches h edit → AreChosen old (world_of h) → ((q : List ℕ) → new q ≡ cond (touches q) (choice_in q (world_after h edit)) (old q)) → AreChosen new (world_after h edit)
touched_renewed stay old new touches h edit a only kept renewed q = renewed q ∙ by (touches q) refl
  where
    by : (b : Bool) → touches q ≡ b → cond b (choice_in q (world_after h edit)) (old q) ≡ choice_in q (world_after h edit)
    by true e = refl
    by false e = kept q ∙ sym (stay h edit q a (only q e)).choice

pub plan_accepted : (h : Held) (plan : Planned) → IsReady h plan → AreRising (all_keys (keyed_of h).lists) → IsDistinct bytes_eq (names_of (state_of h).lists)
    → IsChange (keyed_of h).lists (keyed_after (keyed_of h) plan.edit).lists plan.removed plan.added plan.edit → AreCome plan.added plan.edit (keyed_after (keyed_of h) plan.edit).lists → IsAccepted h plan.edit
plan_accepted h plan ready rising distinct change come = record {
  rising = rising;
  distinct = distinct;
  comes = subst (λ ks. AreNew (added_of (keyed_of h) plan.edit) ks (keyed_of h).lists) ready.removed (subst (λ ks. AreNew ks plan.removed (keyed_of h).lists) ready.added ready.comes);
  change = subst (λ ks. IsChange (keyed_of h).lists (keyed_after (keyed_of h) plan.edit).lists ks (added_of (keyed_of h) plan.edit) plan.edit) ready.removed
      (subst (λ ks. IsChange (keyed_of h).lists (keyed_after (keyed_of h) plan.edit).lists plan.removed ks plan.edit) ready.added change);
  come = subst (λ ks. AreCome ks plan.edit (keyed_after (keyed_of h) plan.edit).lists) ready.added come;
}
