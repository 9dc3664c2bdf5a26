-- The commands that have a body, by their names and as what they are read to.
use Rattle.std.proofs.Common.{◌≡◌, ◌∙◌, ◌||◌, ℕ, List, [], ◌∷◌, Bool, true, false, Option, Some, None, if◌then◌else◌, codes, refl, sym, ap, subst}
use Rattle.std.specs.List.{AllByRecursion, list_any}
use Rattle.std.specs.Option.{option_map}
use Rattle.std.specs.Str.{bytes_eq}
use Rattle.std.proofs.lemmas.Bool.{or_from, or_parts}
use Rattle.std.proofs.lemmas.Slice.Eq.{bytes_eq-Decides}
use Rattle.ctl_query.specs.Query.{query_name_of}
use Rattle.ctl_query.specs.declared.query_name.QueryName.{QueryName}
use Rattle.ctl_session.specs.Script.{names_body}
use Rattle.ctl_session.specs.Request.{command_named, commands, has_body, named_in}
use Rattle.ctl_session.specs.declared.command_name.CommandName.{CommandName}
use Rattle.ctl_session.specs.declared.command_name.CommandName.TheVariants as command

-- the names of a table are those of commands that have a body, or of others
abbrev AreToldApart : List (List ℕ × CommandName) → Type 0
AreToldApart entries = AllByRecursion (λ entry. has_body (Some entry.1) ≡ names_body entry.0) entries

abbrev is_there : List (List ℕ × CommandName) → List ℕ → Bool
is_there entries name = list_any (λ entry. bytes_eq name entry.0) entries

query_has_none : (query : Option QueryName) → has_body (option_map (λ q. command.Query q) query) ≡ false
query_has_none None = refl
query_has_none (Some query) = refl

by_table : (entries : List (List ℕ × CommandName)) (name : List ℕ) → AreToldApart entries → (is_there entries name ≡ false → names_body name ≡ false) →
    has_body (named_in entries name) ≡ names_body name
by_table [] name apart other = query_has_none (query_name_of name) ∙ sym (other refl)
by_table (entry ∷ entries) name apart other =
    by (bytes_eq name entry.0) refl (λ rest. by_table entries name apart.1 rest)
  where
    by : (b : Bool) → bytes_eq name entry.0 ≡ b → ((is_there entries name ≡ false → names_body name ≡ false) → has_body (named_in entries name) ≡ names_body name) →
        has_body (if b then Some entry.1 else named_in entries name) ≡ names_body name
    by true same rest = apart.0 ∙ ap names_body (sym ((bytes_eq-Decides name entry.0).0 same))
    by false differs rest = rest (λ none. other (or_from (bytes_eq name entry.0) (is_there entries name) differs none))

-- of the ten names, none of which is meant, three are those of commands with a body
other_name : (name : List ℕ) → is_there commands name ≡ false → names_body name ≡ false
other_name name none =
    let list = or_parts (bytes_eq name (codes "add-list")) _ none in
    let drop = or_parts (bytes_eq name (codes "drop-list")) _ list.1 in
    let put = or_parts (bytes_eq name (codes "put")) _ drop.1 in
    let remove = or_parts (bytes_eq name (codes "remove")) _ put.1 in
    let mark = or_parts (bytes_eq name (codes "mark")) _ remove.1 in
    let unmark = or_parts (bytes_eq name (codes "unmark")) _ mark.1 in
    let pin = or_parts (bytes_eq name (codes "pin")) _ unmark.1 in
    let unpin = or_parts (bytes_eq name (codes "unpin")) _ pin.1 in
    let target = or_parts (bytes_eq name (codes "target")) _ unpin.1 in
    let prefs = or_parts (bytes_eq name (codes "prefs")) _ target.1 in
    or_from (bytes_eq name (codes "add-list")) _ list.0 (or_from (bytes_eq name (codes "put")) _ put.0 prefs.0)

-- a command has a body exactly where its name says so
pub body_by_name : (name : List ℕ) → has_body (command_named name) ≡ names_body name
body_by_name name = by_table commands name (refl, (refl, (refl, (refl, (refl, (refl, (refl, (refl, (refl, (refl, tt)))))))))) (other_name name)
