-- The priorities of pin settings (apt_preferences(5)).
use Rattle.std.specs.Prelude.{ℕ, ℤ, pos, neg_ℤ, ◌==◌, ◌&&◌, nat_lt, nat_le, List, [], ◌∷◌, Option, Some, None, if◌then◌else◌}
use Rattle.std.specs.Option.{option_map}
use Rattle.std.specs.List.{list_all}
use Rattle.std.specs.Char.{is_ascii_digit}
use Rattle.std.specs.Str.Parse.{digits_value}

abbrev pub minus : ℕ
minus = 45

-- The number of one or more digits, where it is not 0 and not above the greatest. Zeros in front are allowed.
abbrev pub number_up_to : ℕ → List ℕ → Option ℕ
number_up_to greatest digits =
    if list_all is_ascii_digit digits && (nat_lt 0 (digits_value 10 digits) && nat_le (digits_value 10 digits) greatest)
    then Some (digits_value 10 digits)
    else None

-- A priority is a number up to 32767, or a minus and behind it a number up to 32768. None is 0.
abbrev pub priority_of : List ℕ → Option ℤ
priority_of [] = None
priority_of (b ∷ text) =
    if b == minus then option_map (λ n. neg_ℤ (pos n)) (number_up_to 32768 text)
    else option_map (λ n. pos n) (number_up_to 32767 (b ∷ text))
