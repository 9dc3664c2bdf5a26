-- A name is a text of certain bytes.
use Rattle.std.proofs.Common.{◌≡◌, ℕ, suc, ◌<◌, true, List, [], ◌∷◌, length, take, refl, ap, arith}
use Rattle.std.specs.Prelude.{◌==◌, ◌||◌}
use Rattle.std.specs.List.{list_all, AllPass}
use Rattle.std.specs.Char.{is_ascii_alphanumeric}
use Rattle.std.specs.Cmp.{first_so, second_so}
use Rattle.std.proofs.lemmas.List.Sums.{AllPass-from_list_all, list_all-from_AllPass}
use Rattle.std.proofs.lemmas.Bool.{and_from}
use Rattle.ctl_relation.specs.Bytes.{plus, hyphen, dot, underscore}
use Rattle.ctl_relation.specs.Names.{is_name_byte, is_name, NamesByTheirBytes}

has_name_bytes : (text : List ℕ) → is_name text ≡ true → (0 < length text) × AllPass is_ascii_alphanumeric (take 1 text) × AllPass is_name_byte text
has_name_bytes [] h = absurd cc
has_name_bytes (b ∷ text) h =
    let first = first_so (is_ascii_alphanumeric b) (list_all is_name_byte text) h in
    let others = second_so (is_ascii_alphanumeric b) (list_all is_name_byte text) h in
    let byte : is_name_byte b ≡ true = ap (λ t. t || (b == plus || (b == hyphen || (b == dot || b == underscore)))) first in
    (omega arith, AllPass-from_list_all is_ascii_alphanumeric (b ∷ []) (and_from (is_ascii_alphanumeric b) true first refl), AllPass-from_list_all is_name_byte (b ∷ text) (and_from (is_name_byte b) (list_all is_name_byte text) byte others))

has_name : (text : List ℕ) → 0 < length text → AllPass is_ascii_alphanumeric (take 1 text) → AllPass is_name_byte text → is_name text ≡ true
has_name [] some first each = absurd (omega arith)
has_name (b ∷ text) some first each =
    let others : AllPass is_name_byte text = λ k d less. each (suc k) d (omega arith) in
    and_from (is_ascii_alphanumeric b) (list_all is_name_byte text) (first 0 b (omega arith)) (list_all-from_AllPass is_name_byte text others)

pub names_by_their_bytes : NamesByTheirBytes
names_by_their_bytes text = (has_name_bytes text, λ h. has_name text h.0 h.1 h.2)
