-- A list that isn't there is a source of no row.
use Rattle.std.proofs.Common.{◌≡◌, ℕ, Bool, true, false, cond, ◌||◌, List, [], ◌∷◌, Option, None, Some, is_some, option_map, refl, ap, ◌∙◌}
use Rattle.std.specs.Str.{bytes_eq}
use Rattle.std.specs.Cmp.Lexicographic.{nat_list_eq_equiv}
use Rattle.ctl_store.specs.declared.stanza_key.StanzaKey.{StanzaKey}
use Rattle.ctl_store.specs.Named.{at_name}
use Rattle.ctl_store.specs.Keys.{KeyedList, in_slots, holder_of}
use Rattle.ctl_policy.specs.Rows.{Lists, is_called, is_source}

not_called : (list : List ℕ) (k : StanzaKey) (ls : Lists) → at_name list ls ≡ None → is_called list (holder_of k ls) ≡ false
not_called list k [] e = refl
not_called list k (l ∷ ls) e = by (bytes_eq list l.0) refl (is_some (in_slots k l.1)) e (not_called list k ls)
  where
    by : (b : Bool) → bytes_eq list l.0 ≡ b → (h : Bool) → cond b (Some l.1) (at_name list ls) ≡ None → (at_name list ls ≡ None → is_called list (holder_of k ls) ≡ false)
        → is_called list (cond h (Some l.0) (holder_of k ls)) ≡ false
    by true is h none rest = cc
    by false is true none rest = nat_list_eq_equiv.symm l.0 list ∙ is
    by false is false none rest = rest none

away : (list : List ℕ) (ls : Lists) (keys : List StanzaKey) → at_name list ls ≡ None → is_source list ls keys ≡ false
away list ls [] e = refl
away list ls (k ∷ keys) e = ap (λ b. b || is_source list ls keys) (not_called list k ls e) ∙ away list ls keys e

no_value : (o : Option KeyedList) → is_some (option_map (λ l. l.serial) o) ≡ false → o ≡ None
no_value None e = refl
no_value (Some l) e = cc

pub no_source_away : (list : List ℕ) (ls : Lists) (keys : List StanzaKey) → is_some (option_map (λ l. l.serial) (at_name list ls)) ≡ false → is_source list ls keys ≡ false
no_source_away list ls keys e = away list ls keys (no_value (at_name list ls) e)
