-- How the rows of one name are held: most names have one row of one stanza, for which there is no map.
use Rattle.std.specs.Prelude.{◌≡◌, ◌<◌, ℕ, List, [], ◌∷◌, length, map, reverse, Option, None, Some, IfSome, option_map, Vec, if◌then◌else◌}
use Rattle.std.proofs.Common.{Global}
use Rattle.std.proofs.Common.{refl}
use Rattle.std.specs.Coded.{Coded, code_by, coded×, coded_list, coded_ℕ}
use Rattle.std.specs.Ordering.{is_eq}
use Rattle.std.specs.BTreeMap.{BTreeMap, get, IsOrdered}
use Rattle.std.specs.FinMap as fin
use Rattle.ctl_relation.specs.Version.{Triple, triple_of, version_cmp}
use Rattle.ctl_store.specs.declared.stanza_key.StanzaKey.{StanzaKey}
use Rattle.ctl_store.specs.Keys.{AreRising}
use Rattle.ctl_policy.specs.declared.form.Form.{Form}
use Rattle.ctl_policy.specs.declared.form.Form.TheVariants.{Empty, One, Many}
use Rattle.ctl_policy.specs.Keys.{with_key, without_key, or_none, some_keys}
use Rattle.ctl_policy.specs.Rows.{Rows, Row, lead_of, newest_first}

-- a map of rows
abbrev pub RowMap : Type 0
RowMap = BTreeMap (List ℕ) (Vec StanzaKey Global)

-- the row of a version in a map
abbrev pub row_in_map : RowMap → List ℕ → Option (List StanzaKey)
row_in_map row_map version = option_map (λ (keys : Vec StanzaKey Global). keys.items) (get version_cmp row_map version)

-- each row is in order
abbrev pub AreRows : RowMap → Type 0
AreRows row_map = (version : List ℕ) → AreRising (or_none (row_in_map row_map version))

-- the row of a version, where one stanza is all
abbrev pub one_at : List ℕ → StanzaKey → List ℕ → Option (List StanzaKey)
one_at version key v = if is_eq (version_cmp version v) then Some (key ∷ []) else None

abbrev pub form_at : Form → List ℕ → Option (List StanzaKey)
form_at Empty v = None
form_at (One version key) v = one_at version key v
form_at (Many row_map) v = row_in_map row_map v

abbrev pub IsFormed : Form → Type 0
IsFormed form = (v : List ℕ) → AreRising (or_none (form_at form v))

-- this row stands under a version, and others keep theirs
abbrev pub with_row : List ℕ → Option (List StanzaKey) → (List ℕ → Option (List StanzaKey)) → List ℕ → Option (List StanzaKey)
with_row version row at v = if is_eq (version_cmp version v) then row else at v

-- a key more under a version, and a key less
abbrev pub form_with : List ℕ → StanzaKey → (List ℕ → Option (List StanzaKey)) → List ℕ → Option (List StanzaKey)
form_with version key at v = with_row version (Some (with_key key (or_none (at version)))) at v

abbrev pub form_without : List ℕ → StanzaKey → (List ℕ → Option (List StanzaKey)) → List ℕ → Option (List StanzaKey)
form_without version key at v = with_row version (some_keys (without_key key (or_none (at version)))) at v

-- the row of a version with a key less, of which none may be left
abbrev pub row_less : List ℕ → StanzaKey → RowMap → Option (List StanzaKey)
row_less version key row_map = option_map (without_key key) (row_in_map row_map version)

-- a row, if there is one, has a key
abbrev pub HasKeyLeft : Option (List StanzaKey) → Type 0
HasKeyLeft row = IfSome row (λ keys. 0 < length keys)

-- a code of rows, by which a proof tells them apart
abbrev key_code : Coded StanzaKey
key_code = code_by (ℕ × ℕ) (coded× coded_ℕ coded_ℕ) (λ k. (k.list, k.stanza)) (λ p. record { list = p.0; stanza = p.1 }) (λ _. refl)

abbrev pub rows_code : Coded Rows
rows_code = fin.code (coded_list coded_ℕ) (coded_list key_code)

-- a row of a map with its version
abbrev pub with_items : List ℕ × Vec StanzaKey Global → List ℕ × List StanzaKey
with_items e = (e.0, e.1.items)

abbrev pub shown_row : List ℕ × Vec StanzaKey Global → Row
shown_row e = (triple_of e.0, e.1.items)

-- the rows of a map, newest first
abbrev pub rows_of_map : RowMap → List Row
rows_of_map row_map = reverse (map shown_row row_map.entries)

-- the rows that are held
abbrev pub rows_of_form : Form → Rows
rows_of_form Empty = fin.empty
rows_of_form (One version key) = fin.insert fin.empty version (key ∷ [])
rows_of_form (Many row_map) = fin.from_entries (map with_items row_map.entries)

-- the same, newest first
abbrev pub form_shown : Form → List Row
form_shown form = newest_first (rows_of_form form)

-- the keys of a map rise, as they do in each
abbrev pub IsOrderedForm : Form → Type 0
IsOrderedForm Empty = Unit {0}
IsOrderedForm (One version key) = Unit {0}
IsOrderedForm (Many row_map) = IsOrdered version_cmp row_map

-- what is held are the rows of a name
abbrev pub IsFormOf : Form → Rows → Type 0
IsFormOf form rows = (version : List ℕ) → form_at form version ≡ fin.get rows version

-- the lead of a version, and the version where there is a row of it
abbrev pub lead_in : Form → Option (List ℕ) → Option StanzaKey
lead_in form None = None
lead_in form (Some version) = lead_of (or_none (form_at form version))

abbrev pub version_in_form : Form → Option (List ℕ) → Option Triple
version_in_form form None = None
version_in_form form (Some version) = option_map (λ (keys : List StanzaKey). triple_of version) (form_at form version)
