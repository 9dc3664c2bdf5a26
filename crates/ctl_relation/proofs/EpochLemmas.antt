-- What precedes the first colon of a version are digits.
use Rattle.std.proofs.Common.{◌≡◌, ◌≢◌, ℕ, ◌+◌, ◌<◌, Bool, true, false, cond, List, [], ◌∷◌, ◌++◌, Option, Some, None, length, take, drop, get_or, refl, sym, ap, subst, ◌∙◌, arith}
use Rattle.std.specs.Prelude.{◌==◌, nat_le, not, ◌&&◌, unwrap_or}
use Rattle.std.specs.Cmp.{first_so, second_so}
use Rattle.std.specs.List.{list_all, prefix_len}
use Rattle.std.specs.Char.{is_ascii_digit}
use Rattle.std.specs.Str.Parse.{AllDigits, digits_value}
use Rattle.std.proofs.lemmas.List.Sums.{prefix_len_passes}
use Rattle.ctl_relation.proofs.Numbers.{digit-below}
use Rattle.ctl_relation.specs.declared.version_fault.VersionFault.{VersionFault}
use Rattle.ctl_relation.specs.declared.version_fault.VersionFault.TheVariants as fault
use Rattle.ctl_relation.specs.Bytes.{hyphen, colon}
use Rattle.ctl_relation.specs.Version.{Parts, parts_of, text_parts, body_parts, is_epoch, greatest_epoch, fault_of, split_first, split_last}
use Rattle.ctl_relation.proofs.CutLemmas.{first_at}
use Rattle.ctl_relation.proofs.VersionTextLaws.{fails, behind_test, first_sides, split_first-sides}

-- ---- an epoch is made of digits

pub list_all-AllDigits : (text : List ℕ) → list_all is_ascii_digit text ≡ true → AllDigits 10 text
list_all-AllDigits [] h = tt
list_all-AllDigits (b ∷ text) h =
    (digit-below b (first_so (is_ascii_digit b) (list_all is_ascii_digit text) h), list_all-AllDigits text (second_so (is_ascii_digit b) (list_all is_ascii_digit text) h))

pub is_epoch-digits : (digits : List ℕ) → is_epoch (Some digits) ≡ true → list_all is_ascii_digit digits ≡ true
is_epoch-digits digits h =
    let small = nat_le (digits_value 10 digits) greatest_epoch in
    first_so (list_all is_ascii_digit digits) small (second_so (not (length digits == 0)) (list_all is_ascii_digit digits && small) h)

is_epoch-AllDigits : (epoch : Option (List ℕ)) → is_epoch epoch ≡ true → AllDigits 10 (unwrap_or epoch [])
is_epoch-AllDigits None h = tt
is_epoch-AllDigits (Some digits) h = list_all-AllDigits digits (is_epoch-digits digits h)

-- ---- so is that of a version

-- a test that a version passes, and the tests behind it
pub passes : (b : Bool) (found : VersionFault) (later : Option VersionFault) → cond b (fails found) later ≡ None → (b ≡ false) × (later ≡ None)
passes true found later h = absurd cc
passes false found later h = (refl, h)

pub not_false : (b : Bool) → not b ≡ false → b ≡ true
not_false true h = refl
not_false false h = absurd cc

version-is_epoch : (text : List ℕ) → fault_of text ≡ None → is_epoch (parts_of text).epoch ≡ true
version-is_epoch text h =
    let parts = parts_of text in
    let some = passes (length text == 0) fault.Empty (behind_test 1 text) h in
    let epoch = passes (not (is_epoch parts.epoch)) fault.Epoch (behind_test 2 text) some.1 in
    not_false (is_epoch parts.epoch) epoch.0

pub AllDigits-epoch : (text digits : List ℕ) (parts : Parts) → fault_of text ≡ None → parts ≡ parts_of text → digits ≡ unwrap_or parts.epoch [] → AllDigits 10 digits
AllDigits-epoch text digits parts h p q =
    let P : List ℕ → Type 0 = AllDigits 10 in
    subst P (sym (q ∙ ap (λ (s : Parts). unwrap_or s.epoch []) p)) (is_epoch-AllDigits (parts_of text).epoch (version-is_epoch text h))

body_parts-epoch : (epoch : Option (List ℕ)) (body : List ℕ) (found : Option (List ℕ × List ℕ)) → (body_parts epoch body found).epoch ≡ epoch
body_parts-epoch epoch body None = refl
body_parts-epoch epoch body (Some x) = refl

before_colon-digits : (text : List ℕ) (x : List ℕ × List ℕ) → fault_of text ≡ None → split_first colon text ≡ Some x → list_all is_ascii_digit x.0 ≡ true
before_colon-digits text x h e =
    let epoch : (parts_of text).epoch ≡ Some x.0 = ap (λ (found : Option (List ℕ × List ℕ)). (text_parts text found).epoch) e ∙ body_parts-epoch (Some x.0) x.1 (split_last hyphen x.1) in
    is_epoch-digits x.0 (sym (ap is_epoch epoch) ∙ version-is_epoch text h)

-- ---- its colon follows the digits at the front

digits_len-epoch : (digits body : List ℕ) → list_all is_ascii_digit digits ≡ true → prefix_len is_ascii_digit (digits ++ colon ∷ body) ≡ length digits
digits_len-epoch [] body h = refl
digits_len-epoch (b ∷ digits) body h =
    let first = first_so (is_ascii_digit b) (list_all is_ascii_digit digits) h in
    let others = digits_len-epoch digits body (second_so (is_ascii_digit b) (list_all is_ascii_digit digits) h) in
    ap (λ t. cond t (1 + prefix_len is_ascii_digit (digits ++ colon ∷ body)) 0) first ∙ omega arith

at_colon : (digits body : List ℕ) → get_or (digits ++ colon ∷ body) (length digits) 0 ≡ colon
at_colon [] body = refl
at_colon (b ∷ digits) body = at_colon digits body

colon_within : (digits body : List ℕ) → length digits < length (digits ++ colon ∷ body)
colon_within [] body = omega arith
colon_within (b ∷ digits) body = omega (arith, colon_within digits body)

-- no colon behind the digits at the front, so none at all
pub no_epoch : (text : List ℕ) (len : ℕ) → fault_of text ≡ None → len ≡ prefix_len is_ascii_digit text → (len < length text → get_or text len 0 ≢ colon) → split_first colon text ≡ None
no_epoch text len h e none = go (split_first colon text) refl (split_first-sides colon text)
  where
    go : (found : Option (List ℕ × List ℕ)) → split_first colon text ≡ found → first_sides colon text found → found ≡ None
    go None f sides = refl
    go (Some x) f sides =
        let P : List ℕ → Type 0 = λ l. (prefix_len is_ascii_digit l ≡ length x.0) × (length x.0 < length l) × (get_or l (length x.0) 0 ≡ colon) in
        let here : P text = subst P (sym sides.0) (digits_len-epoch x.0 x.1 (before_colon-digits text x h f), colon_within x.0 x.1, at_colon x.0 x.1) in
        let same : len ≡ length x.0 = e ∙ here.0 in
        absurd (none (omega (arith, same, here.1)) (ap (λ n. get_or text n 0) same ∙ here.2))

colon-other : is_ascii_digit colon ≡ false
colon-other = refl

-- a colon behind the digits at the front is the first
pub epoch_at : (text : List ℕ) (len : ℕ) → len ≡ prefix_len is_ascii_digit text → len < length text → get_or text len 0 ≡ colon → split_first colon text ≡ Some (take len text, drop 1 (drop len text))
epoch_at text len e within at =
    first_at colon text len within
    (λ k less same.
    let digit = prefix_len_passes is_ascii_digit text k 0 (omega (arith, less, e)) in
    let other : is_ascii_digit (get_or text k 0) ≡ false = ap is_ascii_digit same ∙ colon-other in
    cc (digit, other))
    at
