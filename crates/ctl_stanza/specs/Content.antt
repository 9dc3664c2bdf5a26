-- What a stanza is: its text, and the kind of its list. Its fields are read from its text.
use Rattle.std.specs.Prelude.{ℕ, Bool, List, [], ◌∷◌, map, unwrap_or, Option, None, if◌then◌else◌}
use Rattle.ctl_relation.specs.declared.field_kind.FieldKind.{FieldKind}
use Rattle.ctl_relation.specs.declared.field_kind.FieldKind.TheVariants as field_kinds
use Rattle.ctl_relation.specs.FieldKind.{is_provides}
use Rattle.ctl_relation.specs.Parts.{AtomParts, OfferParts}
use Rattle.ctl_relation.specs.Reading.{groups_read}
pub use Rattle.ctl_relation.specs.Offered.{offer_of, offers_in}
use Rattle.ctl_stanza.specs.declared.list_kind.ListKind.{ListKind}
use Rattle.ctl_stanza.specs.Lines.{lines_of, text_of_lines}
use Rattle.ctl_stanza.specs.Fields.{FieldText, fields_of_lines, body_named, package_name, version_name}
use Rattle.ctl_stanza.specs.RelationFields.{name_of}
use Rattle.ctl_stanza.specs.Status.{is_live_by}

-- The text of a stanza is its lines, each with a newline.
pub record Content : Type 0 where
  pub text : List ℕ
  pub kind : ListKind

-- the stanza that lines make
abbrev pub content_of : ListKind → List (List ℕ) → Content
content_of kind lines = record { text = text_of_lines lines; kind = kind }

-- the fields of a stanza, in order
abbrev pub fields_of : Content → List FieldText
fields_of content = fields_of_lines (lines_of content.text)

-- a field as it is shown: its name and its body
abbrev pub name_and_body : FieldText → List ℕ × List ℕ
name_and_body field = (field.name, field.body)

-- the names and bodies of the fields of a stanza, in order
abbrev pub named_bodies : Content → List (List ℕ × List ℕ)
named_bodies content = map name_and_body (fields_of content)

-- the body of the field of a name, which is taken without regard to ASCII case
abbrev pub body_of : Content → List ℕ → Option (List ℕ)
body_of content name = body_named name (fields_of content)

-- the name of the package that a stanza describes
abbrev pub package_of : Content → List ℕ
package_of content = unwrap_or (body_of content package_name) []

-- Whether a stanza is live: its package counts as there.
abbrev pub is_live : Content → Bool
is_live content = is_live_by content.kind (fields_of content)

-- the version of a live stanza; another has none
abbrev pub version_of : Content → Option (List ℕ)
version_of content = if is_live content then body_of content version_name else None

-- The groups of a relation field of a live stanza, another has none. A field that isn't given is as an empty one.
abbrev pub relations_of_kind : FieldKind → Content → List (List AtomParts)
relations_of_kind kind content = if is_live content then groups_read kind (unwrap_or (body_of content (name_of kind)) []) else []

-- The groups of one of the eight fields that are relations to other packages. Provides is none of them.
abbrev pub groups_of : FieldKind → Content → List (List AtomParts)
groups_of kind content = if is_provides kind then [] else relations_of_kind kind content

-- the entries of Provides, each a group of one atom
abbrev pub provides_of : Content → List (List AtomParts)
provides_of content = relations_of_kind field_kinds.Provides content

-- A live stanza offers its own name at its version, and each entry of its Provides (Debian Policy 7.5).
abbrev pub offers_of : Content → List OfferParts
offers_of content =
    if is_live content
    then record { name = package_of content; version = version_of content } ∷ offers_in (provides_of content)
    else []
