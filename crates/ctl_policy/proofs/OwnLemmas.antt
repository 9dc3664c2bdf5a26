-- The specific pins of one package decide alone.
use Rattle.std.proofs.Common.{◌≡◌, ℕ, Bool, true, false, cond, ◌&&◌, List, [], ◌∷◌, None, Some, refl, ap, sym, ◌∙◌}
use Rattle.ctl_store.specs.declared.selector.Selector.{Selector}
use Rattle.ctl_store.specs.declared.selector.Selector.TheVariants.{Version, Release}
use Rattle.ctl_store.specs.declared.stanza_key.StanzaKey.{StanzaKey}
use Rattle.ctl_store.specs.Pins.{is_of, own_settings}
use Rattle.ctl_policy.specs.Rows.{Lists, lead_of, version_under, is_source}
use Rattle.ctl_policy.specs.Priority.{Settings, matches_text, matches_row, specific_pin}

pub not_of : (name : List ℕ) (lists : Lists) (keys : List StanzaKey) (s : Selector) → is_of name s ≡ false → matches_row name lists keys s ≡ false
not_of name lists keys (Version p v) e = ap (λ b. b && matches_text v (version_under lists (lead_of keys))) e
not_of name lists keys (Release None l) e = refl
not_of name lists keys (Release (Some p) l) e = ap (λ b. b && is_source l lists keys) e

pub own_pins : (name : List ℕ) (lists : Lists) (keys : List StanzaKey) (settings : Settings) → specific_pin name lists keys (own_settings name settings) ≡ specific_pin name lists keys settings
own_pins name lists keys [] = refl
own_pins name lists keys (s ∷ settings) = by (is_of name s.0) refl (own_pins name lists keys settings)
  where
    by : (b : Bool) → is_of name s.0 ≡ b → specific_pin name lists keys (own_settings name settings) ≡ specific_pin name lists keys settings
        → specific_pin name lists keys (cond b (s ∷ own_settings name settings) (own_settings name settings)) ≡ specific_pin name lists keys (s ∷ settings)
    by true e h = ap (cond (matches_row name lists keys s.0) (Some s.1)) h
    by false e h = h ∙ ap (λ c. cond c (Some s.1) (specific_pin name lists keys settings)) (sym (not_of name lists keys s.0 e))
