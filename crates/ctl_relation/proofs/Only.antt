-- What is in the grammar is read.
use Rattle.std.proofs.Common.{◌≡◌, ℕ, suc, ◌+◌, ◌<◌, Bool, true, false, cond, Option, Some, None, List, [], ◌∷◌, ◌++◌, length, take, drop, Ok, Err, refl, ap, ◌∙◌, arith, inl, inr}
use Rattle.std.specs.Prelude.{◌==◌, ◌&&◌, ◌||◌, is_none}
use Rattle.std.specs.List.{prefix_len, list_all}
use Rattle.std.specs.Char.{is_ascii_alphanumeric}
use Rattle.std.proofs.lemmas.Bool.Decides.{nat_tests}
use Rattle.std.proofs.lemmas.Bool.{and_parts}
use Rattle.std.proofs.Math.Seq.{drop-append_seam}
use Rattle.ctl_relation.specs.declared.relation_fault.RelationFault.TheVariants as fault
use Rattle.ctl_relation.specs.declared.operator.Operator.{Operator}
use Rattle.ctl_relation.specs.declared.operator.Operator.TheVariants.{Earlier, EarlierOrEqual, Equal, LaterOrEqual, Later}
use Rattle.ctl_relation.specs.Bytes.{plus, hyphen, dot, underscore, colon, less_than, equals, greater_than}
use Rattle.ctl_relation.specs.FieldBytes.{is_whitespace, is_qualifier_byte, is_version_word_byte}
use Rattle.ctl_relation.specs.Runs.{run, rest, Stops}
use Rattle.ctl_relation.specs.Version.{fault_of}
use Rattle.ctl_relation.specs.Names.{is_name_byte, is_name}
use Rattle.ctl_relation.specs.Reading.{name_at, qualifier_at, operator_token, version_at}
use Rattle.ctl_relation.specs.Grammar.{IsWhitespace, IsSpelled}

run_len : (p : ℕ → Bool) (xs ys : List ℕ) → list_all p xs ≡ true → Stops p ys → prefix_len p (xs ++ ys) ≡ length xs
run_len p [] [] h s = refl
run_len p [] (b ∷ ys) h s = ap (λ t. cond t (1 + prefix_len p ys) 0) s
run_len p (x ∷ xs) ys h s =
    let b = and_parts (p x) (list_all p xs) h in
    let one : 1 + prefix_len p (xs ++ ys) ≡ suc (prefix_len p (xs ++ ys)) = omega arith in
    ap (λ t. cond t (1 + prefix_len p (xs ++ ys)) 0) b.0 ∙ one ∙ ap suc (run_len p xs ys b.1 s)

take_front : (xs ys : List ℕ) → take (length xs) (xs ++ ys) ≡ xs
take_front [] ys = refl
take_front (x ∷ xs) ys = ap (λ (l : List ℕ). x ∷ l) (take_front xs ys)

pub run_again : (p : ℕ → Bool) (xs ys : List ℕ) → list_all p xs ≡ true → Stops p ys → run p (xs ++ ys) ≡ xs
run_again p xs ys h s = ap (λ n. take n (xs ++ ys)) (run_len p xs ys h s) ∙ take_front xs ys

pub rest_again : (p : ℕ → Bool) (xs ys : List ℕ) → list_all p xs ≡ true → Stops p ys → rest p (xs ++ ys) ≡ ys
rest_again p xs ys h s = ap (λ n. drop n (xs ++ ys)) (run_len p xs ys h s) ∙ drop-append_seam xs ys

-- blanks in front don't pass
pub stops_blanks : (p : ℕ → Bool) (blanks text : List ℕ) → ((b : ℕ) → is_whitespace b ≡ true → p b ≡ false) → IsWhitespace blanks → Stops p text → Stops p (blanks ++ text)
stops_blanks p [] text f h s = s
stops_blanks p (b ∷ blanks) text f h s = f b (and_parts (is_whitespace b) (list_all is_whitespace blanks) h).0

name_bytes : (name : List ℕ) → is_name name ≡ true → list_all is_name_byte name ≡ true
name_bytes [] h = absurd cc
name_bytes (b ∷ text) h =
    let g = and_parts (is_ascii_alphanumeric b) (list_all is_name_byte text) h in
    ap (λ t. (t || (b == plus || (b == hyphen || (b == dot || b == underscore)))) && list_all is_name_byte text) g.0 ∙ g.1

pub name_again : (name after : List ℕ) → is_name name ≡ true → Stops is_name_byte after → name_at (name ++ after) ≡ Ok (name, after)
name_again name after h s =
    let e = run_again is_name_byte name after (name_bytes name h) s in
    let f = rest_again is_name_byte name after (name_bytes name h) s in
    ap (λ (l : List ℕ). cond (is_name l) (Ok (l, rest is_name_byte (name ++ after))) (Err fault.Name)) e
    ∙ ap (λ (l : List ℕ). cond (is_name name) (Ok (name, l)) (Err fault.Name)) f
    ∙ ap (λ t. cond t (Ok (name, after)) (Err fault.Name)) h

pub version_again : (version after : List ℕ) → fault_of version ≡ None → list_all is_version_word_byte version ≡ true → Stops is_version_word_byte after → version_at (version ++ after) ≡ Ok (version, after)
version_again version after h all s =
    let e = run_again is_version_word_byte version after all s in
    let f = rest_again is_version_word_byte version after all s in
    ap (λ (l : List ℕ). cond (is_none (fault_of l)) (Ok (l, rest is_version_word_byte (version ++ after))) (Err fault.Version)) e
    ∙ ap (λ (l : List ℕ). cond (is_none (fault_of version)) (Ok (version, l)) (Err fault.Version)) f
    ∙ ap (λ o. cond (is_none o) (Ok (version, after)) (Err fault.Version)) h

pub nonempty : (q : List ℕ) → 0 < length q → (length q == 0) ≡ false
nonempty q h = grind (arith, nat_tests)

pub qualifier_again : (q after : List ℕ) → 0 < length q → list_all is_qualifier_byte q ≡ true → Stops is_qualifier_byte after → qualifier_at (colon ∷ (q ++ after)) ≡ Ok (Some q, after)
qualifier_again q after some h s =
    let e = run_again is_qualifier_byte q after h s in
    let f = rest_again is_qualifier_byte q after h s in
    ap (λ (l : List ℕ). cond (length l == 0) (Err fault.Name) (Ok (Some l, rest is_qualifier_byte (q ++ after)))) e
    ∙ ap (λ (l : List ℕ). cond (length q == 0) (Err fault.Name) (Ok (Some q, l))) f
    ∙ ap (λ t. cond t (Err fault.Name) (Ok (Some q, after))) (nonempty q some)

-- no byte of an operator comes first
abbrev pub is_operator_byte : ℕ → Bool
is_operator_byte b = b == less_than || (b == equals || b == greater_than)

other_than : (b n : ℕ) → is_operator_byte b ≡ false → (is_operator_byte n ≡ true) → (b == n) ≡ false
other_than b n h k = grind (arith, nat_tests)

-- an operator that was read
abbrev read : Operator → List ℕ → Option (Operator × List ℕ)
read op after = Some (op, after)

short : (b : ℕ) (long op : Operator) (after : List ℕ) (d : ℕ) → is_operator_byte d ≡ false → is_operator_byte b ≡ true
    → cond (d == b) (read long after) (cond (d == equals) (read op after) (read op (d ∷ after))) ≡ read op (d ∷ after)
short b long op after d h k =
    ap (λ t. cond t (read long after) (cond (d == equals) (read op after) (read op (d ∷ after)))) (other_than d b h k)
    ∙ ap (λ t. cond t (read op after) (read op (d ∷ after))) (other_than d equals h refl)

less_alone : (after : List ℕ) → Stops is_operator_byte after → operator_token (less_than ∷ after) ≡ Some (EarlierOrEqual, after)
less_alone [] s = refl
less_alone (d ∷ after) s = short less_than Earlier EarlierOrEqual after d s refl

more_alone : (after : List ℕ) → Stops is_operator_byte after → operator_token (greater_than ∷ after) ≡ Some (LaterOrEqual, after)
more_alone [] s = refl
more_alone (d ∷ after) s = short greater_than Later LaterOrEqual after d s refl

equal_alone : (after : List ℕ) → operator_token (equals ∷ after) ≡ Some (Equal, after)
equal_alone [] = refl
equal_alone (d ∷ after) = refl

spelled_so : (op : Operator) (s t after : List ℕ) → s ≡ t → operator_token (t ++ after) ≡ Some (op, after) → operator_token (s ++ after) ≡ Some (op, after)
spelled_so op s t after e h = ap (λ (l : List ℕ). operator_token (l ++ after)) e ∙ h

pub operator_again : (op : Operator) (s after : List ℕ) → IsSpelled op s → Stops is_operator_byte after → operator_token (s ++ after) ≡ Some (op, after)
operator_again Earlier s after h t = spelled_so Earlier s (less_than ∷ less_than ∷ []) after h refl
operator_again EarlierOrEqual s after (inl h) t = spelled_so EarlierOrEqual s (less_than ∷ equals ∷ []) after h refl
operator_again EarlierOrEqual s after (inr h) t = spelled_so EarlierOrEqual s (less_than ∷ []) after h (less_alone after t)
operator_again Equal s after h t = spelled_so Equal s (equals ∷ []) after h (equal_alone after)
operator_again LaterOrEqual s after (inl h) t = spelled_so LaterOrEqual s (greater_than ∷ equals ∷ []) after h refl
operator_again LaterOrEqual s after (inr h) t = spelled_so LaterOrEqual s (greater_than ∷ []) after h (more_alone after t)
operator_again Later s after h t = spelled_so Later s (greater_than ∷ greater_than ∷ []) after h refl
