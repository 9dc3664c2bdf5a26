-- Live stanzas are of the packages that stand under their keys.
use Rattle.std.proofs.Common.{◌≡◌, ℕ, Bool, true, false, cond, ◌||◌, List, [], ◌∷◌, Option, None, Some, refl, ap, subst, ◌∙◌}
use Rattle.std.specs.Str.{bytes_eq}
use Rattle.std.specs.List.{IsDistinct}
use Rattle.std.specs.Map.{keys_of as names_of}
use Rattle.std.specs.Option.{option_map_or}
use Rattle.std.proofs.lemmas.Bool.{false≢true}
use Rattle.std.proofs.lemmas.Slice.Eq.{bytes_eq-Decides}
use Rattle.ctl_stanza.specs.Content.{Content, package_of, version_of}
use Rattle.ctl_store.specs.declared.stanza_key.StanzaKey.{StanzaKey}
use Rattle.ctl_store.specs.Keys.{key_is, stanza_at, holder_of, all_in}
use Rattle.ctl_store.specs.Store.{Held, keyed_of, state_of}
use Rattle.ctl_policy.specs.Keys.{has_key}
use Rattle.ctl_policy.specs.Rows.{Lists, is_called}
use Rattle.ctl_policy.specs.Laws.{version_found, HoldsNone}
use Rattle.ctl_policy.specs.Touched.{HasNoneOf, is_one_of, packages_at}
use Rattle.ctl_policy.proofs.SetLemmas.{key_is-same}
use Rattle.ctl_policy.proofs.RestLemmas.{or_first, or_second}
use Rattle.ctl_policy.proofs.StepListLemmas.{held_in_list}
use Rattle.ctl_policy.proofs.TouchedLemmas.{names_same}

pub none_under : (q : List ℕ) (find : StanzaKey → Option Content) (ks : List StanzaKey) → is_one_of q (packages_at ks find) ≡ false → HasNoneOf q ks find
none_under q find [] e k h = absurd (false≢true h)
none_under q find (x ∷ xs) e k h = by (find x) refl e (key_is k x) refl h (λ t. none_under q find xs t k)
  where
    others : List (List ℕ)
    others = packages_at xs find

    by : (o : Option Content) → find x ≡ o → is_one_of q (option_map_or (λ (y : Content). package_of y ∷ packages_at xs find) o (packages_at xs find)) ≡ false → (b : Bool) → key_is k x ≡ b → (b || has_key k xs) ≡ true
        → (is_one_of q (packages_at xs find) ≡ false → has_key k xs ≡ true → version_found q (find k) ≡ None) → version_found q (find k) ≡ None
    by None p e true is h rest = ap (λ z. version_found q (find z)) (key_is-same k x is) ∙ ap (version_found q) p
    by (Some y) p e true is h rest = ap (λ z. version_found q (find z)) (key_is-same k x is) ∙ ap (version_found q) p ∙ ap (λ b. cond b (version_of y) None) (or_first (bytes_eq (package_of y) q) (is_one_of q others) e)
    by None p e false is h rest = rest e h
    by (Some y) p e false is h rest = rest (or_second (bytes_eq (package_of y) q) (is_one_of q others) e) h

none_in_list : (q list : List ℕ) (ls : Lists) → IsDistinct bytes_eq (names_of ls) → is_one_of q (packages_at (all_in list ls) (λ k. stanza_at k ls)) ≡ false → HoldsNone list q ls
none_in_list q list ls distinct e k called = by (holder_of k ls) refl called
  where
    by : (o : Option (List ℕ)) → holder_of k ls ≡ o → is_called list o ≡ true → version_found q (stanza_at k ls) ≡ None
    by None h c = absurd (false≢true c)
    by (Some name) h c = none_under q (λ k. stanza_at k ls) (all_in list ls) e k (held_in_list k list ls distinct (h ∙ ap (λ n. Some n) ((bytes_eq-Decides name list).0 c)))

pub none_held : (q list : List ℕ) (h : Held) → IsDistinct bytes_eq (names_of (state_of h).lists) → is_one_of q (packages_at (all_in list (keyed_of h).lists) (λ k. stanza_at k (keyed_of h).lists)) ≡ false → HoldsNone list q (keyed_of h).lists
none_held q list h distinct e = none_in_list q list (keyed_of h).lists (subst (λ names. IsDistinct bytes_eq names) (names_same (keyed_of h).lists) distinct) e
