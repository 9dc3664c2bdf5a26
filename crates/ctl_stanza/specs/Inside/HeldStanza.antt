-- What a stanza keeps of its relation fields, and the facts that hold it together: how it is held. Not for callers, who
-- read Content.
use Rattle.std.specs.Prelude.{◌≡◌, ◌≤◌, ℕ, List, [], ◌∷◌, length, take, drop, unwrap_or, Option, None, Some, if◌then◌else◌}
use Rattle.ctl_relation.specs.declared.field_kind.FieldKind.{FieldKind}
use Rattle.ctl_relation.specs.declared.field_kind.FieldKind.TheVariants as field_kinds
use Rattle.ctl_relation.specs.Parts.{OfferParts}
use Rattle.ctl_relation.specs.Reading.{groups_read}
use Rattle.ctl_stanza.specs.declared.list_kind.ListKind.{ListKind}
use Rattle.ctl_relation.specs.Marks.{MarkedField, AreMarks, kept_groups}
use Rattle.ctl_stanza.specs.Fields.{FieldText, is_same_name, body_named, package_name, version_name}
use Rattle.ctl_stanza.specs.RelationFields.{name_of}
use Rattle.ctl_stanza.specs.Content.{Content, relations_of_kind, offers_in, offers_of}
use Rattle.ctl_stanza.specs.Sound.{IsWhole, IsSound}
use Rattle.ctl_stanza.specs.Inside.HeldFields.{IsWalk}
use Rattle.ctl_stanza.specs.Lines.{lines_of}
use Rattle.ctl_stanza.specs.Inside.NameSlots.{AreTakenBy}

-- what a field gives to the version
abbrev pub version_given : List ℕ → List ℕ → Option (List ℕ)
version_given name body = if is_same_name name version_name then Some body else None

-- the relation fields of a stanza are marked
pub record AreKept (bytes : List ℕ) (fields : List FieldText) (marks : List ℕ) : Type 0 where
  pub relations : List MarkedField
  pub are : AreMarks bytes marks relations
  pub groups : (kind : FieldKind) → kept_groups kind bytes relations ≡ groups_read kind (unwrap_or (body_named (name_of kind) fields) [])

-- what a live stanza of this version offers, by its fields
abbrev pub live_offers : Option (List ℕ) → List FieldText → List OfferParts
live_offers version fields =
    record { name = unwrap_or (body_named package_name fields) []; version = version }
    ∷ offers_in (groups_read field_kinds.Provides (unwrap_or (body_named (name_of field_kinds.Provides) fields) []))

-- the groups of each relation field of a stanza are those that are marked
pub record AreRelationsOf (content : Content) (bytes marks : List ℕ) : Type 0 where
  pub relations : List MarkedField
  pub are : AreMarks bytes marks relations
  pub groups : (kind : FieldKind) → kept_groups kind bytes relations ≡ relations_of_kind kind content

-- the stanza whose text stands at the front of bytes
abbrev pub content_in_front : ListKind → ℕ → List ℕ → Content
content_in_front kind text_len bytes = record { text = take text_len bytes; kind = kind }

-- What a stanza keeps is read from its text, which stands at the front of its bytes and has no fault.
pub record ArePartsOf (content : Content) (bytes : List ℕ) (text_len : ℕ) (marks : List ℕ) (offers : List OfferParts) (names : ℕ) : Type 0 where
  pub within : text_len ≤ length bytes
  pub walk : IsWalk content.text (drop text_len bytes)
  pub relations_are : AreRelationsOf content bytes marks
  pub offers_are : offers ≡ offers_of content
  pub names_are : AreTakenBy (lines_of content.text) names
  pub whole : IsWhole content
  pub sound : IsSound content
