-- What a version pin asks for (apt_preferences(5)).
use Rattle.std.specs.Prelude.{ℕ, ◌-◌, ◌||◌, Bool, false, nat_eq, List, length, take, codes, Option, Some, None, is_none, if◌then◌else◌}
use Rattle.std.specs.List.{list_all, starts_with, ends_with}
use Rattle.std.specs.Ordering.{is_eq}
use Rattle.ctl_relation.specs.Version.{is_upstream_byte, fault_of, version_cmp}

-- what stands before the star that ends a text
abbrev pub before_star : List ℕ → Option (List ℕ)
before_star text = if ends_with nat_eq text (codes "*") then Some (take (length text - 1) text) else None

abbrev pub is_version : List ℕ → Bool
is_version text = is_none (fault_of text)

-- letters, digits and . + - ~ : alone, or no byte
abbrev pub is_prefix : Option (List ℕ) → Bool
is_prefix None = false
is_prefix (Some prefix) = list_all is_upstream_byte prefix

-- What a version pin may ask for: a version, or a prefix with a star at its end.
abbrev pub is_pin_version : List ℕ → Bool
is_pin_version text = is_version text || is_prefix (before_star text)

-- a version begins with this prefix
abbrev pub begins_with : Option (List ℕ) → List ℕ → Bool
begins_with None version = false
begins_with (Some prefix) version = starts_with nat_eq version prefix

-- A version matches where it is equal; another pin where its prefix begins the version's text.
abbrev pub pin_matches : List ℕ → List ℕ → Bool
pin_matches pin version =
    if is_version pin then is_eq (version_cmp pin version)
    else begins_with (before_star pin) version
