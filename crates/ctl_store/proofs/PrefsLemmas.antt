-- Preferences: priorities, words, settings and faults.
use Rattle.std.proofs.Common.{◌≡◌, ℕ, cond, List, [], ◌∷◌, ◌++◌, None, Some, refl, arith, ◌+◌, ◌*◌, ◌-◌, ◌<◌, ◌≤◌, Bool, true, false, ◌&&◌, Option, ◌∙◌, take, drop, ap, sym, ℤ, is_some, is_none, not, ◌||◌, suc, subst}
use Rattle.std.specs.Prelude.{nat_lt, nat_le}
use Rattle.std.specs.List.{list_all, prefix_len}
use Rattle.std.specs.Char.{is_ascii_digit, digit_value}
use Rattle.std.specs.Str.Parse.{digits_value_after}
use Rattle.std.specs.Map.{lookup}
use Rattle.std.specs.Option.{option_map, option_to_list}
use Rattle.std.proofs.lemmas.Bool.Decides.{nat_tests}
use Rattle.indexmap.specs.IndexMap.{insert_entry}
use Rattle.ctl_relation.specs.FieldBytes.{is_whitespace}
use Rattle.ctl_stanza.specs.declared.fault.Cause.{Cause}
use Rattle.ctl_stanza.specs.declared.fault.Cause.TheVariants as causes
use Rattle.ctl_stanza.specs.Faults.{IsMemoryAtZero}
use Rattle.ctl_stanza.specs.Fields.{is_same_name, package_name}
use Rattle.ctl_stanza.specs.Lines.{onto_first}
use Rattle.ctl_store.specs.declared.selector.Selector.{Selector}
use Rattle.ctl_store.specs.Pins.{selector_eq}
use Rattle.ctl_store.specs.Prefs.{is_word_byte, words_of, pin_name, priority_name, is_general, are_names, asked_cause, pin_cause, field_cause, keep_first, first_settings}
use Rattle.ctl_store.specs.Priority.{priority_of}

-- ---- the number of digits, read from the front

-- the number that these digits and those of n before them say, where it is not 0 and not above the greatest
abbrev pub number_behind : ℕ → ℕ → List ℕ → Option ℕ
number_behind greatest n digits =
    cond (list_all is_ascii_digit digits && (nat_lt 0 (digits_value_after 10 n digits) && nat_le (digits_value_after 10 n digits) greatest)) (Some (digits_value_after 10 n digits)) None

pub one_digit : (greatest n b : ℕ) (digits : List ℕ) → is_ascii_digit b ≡ true → number_behind greatest n (b ∷ digits) ≡ number_behind greatest (n * 10 + digit_value b) digits
one_digit greatest n b digits h = grind arith

grows : (n : ℕ) (digits : List ℕ) → n ≤ digits_value_after 10 n digits
grows n [] = omega arith
grows n (b ∷ digits) = let more : n * 10 + digit_value b ≤ digits_value_after 10 (n * 10 + digit_value b) digits = grows (n * 10 + digit_value b) digits in omega arith

above : (g m : ℕ) → g < m → nat_le m g ≡ false
above g m h = grind (arith, nat_tests)

and_false : (a b : Bool) → (a && (b && false)) ≡ false
and_false a b = grind arith

pub too_great : (greatest n : ℕ) (digits : List ℕ) → greatest < n → number_behind greatest n digits ≡ None
too_great greatest n digits h = grind (arith, above, grows, and_false)

digit_is : (b : ℕ) → is_ascii_digit b ≡ true → digit_value b ≡ b - 48
digit_is b h = grind (arith, nat_tests)

pub one_too_great : (greatest n b : ℕ) (digits : List ℕ) → is_ascii_digit b ≡ true → greatest < n * 10 + (b - 48) → number_behind greatest n (b ∷ digits) ≡ None
one_too_great greatest n b digits h p = one_digit greatest n b digits h ∙ too_great greatest (n * 10 + digit_value b) digits (omega (arith, p, digit_is b h))

-- ---- the words of a text, under names that `using` takes

pub word_first : (b : ℕ) (text : List ℕ) → is_whitespace b ≡ false → words_of (b ∷ text) ≡ take (prefix_len is_word_byte (b ∷ text)) (b ∷ text) ∷ words_of (drop (prefix_len is_word_byte (b ∷ text)) (b ∷ text))
word_first b [] h = grind arith
word_first b (c ∷ text) h = by (is_whitespace b) (is_whitespace c) h (word_first c text)
  where
    len : ℕ
    len = prefix_len is_word_byte text

    by : (w v : Bool) → w ≡ false → (v ≡ false → words_of (c ∷ text) ≡ take (cond (not v) (1 + len) 0) (c ∷ text) ∷ words_of (drop (cond (not v) (1 + len) 0) (c ∷ text)))
        → cond w (words_of (c ∷ text)) (cond v ((b ∷ []) ∷ words_of (c ∷ text)) (onto_first b (words_of (c ∷ text))))
        ≡ take (cond (not w) (1 + cond (not v) (1 + len) 0) 0) (b ∷ c ∷ text) ∷ words_of (drop (cond (not w) (1 + cond (not v) (1 + len) 0) 0) (b ∷ c ∷ text))
    by true v h later = absurd cc
    by false true h later = refl
    by false false h later =
        let more : suc (1 + len) ≡ 1 + (1 + len) = omega arith in
        subst (λ n. onto_first b (words_of (c ∷ text)) ≡ take n (b ∷ c ∷ text) ∷ words_of (drop n (b ∷ c ∷ text))) more (ap (onto_first b) (later refl))

pub no_word : (b : ℕ) (text : List ℕ) → is_whitespace b ≡ true → words_of (b ∷ text) ≡ words_of text
no_word b text h = grind arith

-- ---- settings

-- the setting of a selector that is made, if it is
abbrev made : Option Selector → ℤ → List (Selector × ℤ)
made o p = option_to_list (option_map (λ (s : Selector). (s, p)) o)

pub kept_before : (o : Option Selector) (s : Selector) (p : ℤ) (kept : List (Selector × ℤ)) → o ≡ Some s → is_some (lookup (selector_eq s) kept) ≡ true → kept ≡ first_settings kept (made o p)
kept_before o s p kept e h = sym (ap (λ b. cond b kept (kept ++ (s, p) ∷ [])) h) ∙ ap (λ o. first_settings kept (made o p)) (sym e)

absent_last : (s : Selector) (p : ℤ) (kept : List (Selector × ℤ)) → is_some (lookup (selector_eq s) kept) ≡ false → insert_entry selector_eq kept s p ≡ kept ++ (s, p) ∷ []
absent_last s p [] h = refl
absent_last s p (e ∷ kept) h = grind (arith, absent_last s p kept)

pub kept_new : (o : Option Selector) (s : Selector) (p : ℤ) (kept : List (Selector × ℤ)) → o ≡ Some s → is_some (lookup (selector_eq s) kept) ≡ false → insert_entry selector_eq kept s p ≡ first_settings kept (made o p)
kept_new o s p kept e h = absent_last s p kept h ∙ sym (ap (λ b. cond b kept (kept ++ (s, p) ∷ [])) h) ∙ ap (λ o. first_settings kept (made o p)) (sym e)

pub first_settings_append : (kept one others : List (Selector × ℤ)) → first_settings kept (one ++ others) ≡ first_settings (first_settings kept one) others
first_settings_append kept [] others = refl
first_settings_append kept (s ∷ one) others = first_settings_append (keep_first kept s) one others

-- ---- faults

-- no cause is want of memory
asked_other : (general : Bool) (version list : Option (List ℕ)) → asked_cause general version list ≡ Some causes.Memory → ⊥
asked_other general version list = grind arith

field_other : (general : Bool) (name body : List ℕ) → field_cause general name body ≡ Some causes.Memory → ⊥
field_other general name body = by (is_same_name name pin_name) (is_same_name name package_name && not (is_general (words_of body) || are_names (words_of body))) (is_same_name name priority_name && is_none (priority_of body))
  where
    by : (p q r : Bool) → cond p (pin_cause general (words_of body)) (cond q (Some causes.Name) (cond r (Some causes.Priority) None)) ≡ Some causes.Memory → ⊥
    by p q r = grind (arith, asked_other)

pub never_memory : (general : Bool) (name body : List ℕ) (line : ℕ) (cause : Cause) → Some cause ≡ field_cause general name body → IsMemoryAtZero (record { line = line; cause = cause })
never_memory general name body line cause e m = absurd (field_other general name body (sym e ∙ ap (λ (c : Cause). Some c) m))
