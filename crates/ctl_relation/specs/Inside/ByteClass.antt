-- The classes of bytes that a table tells, and the bit that each has in it.
use Rattle.std.specs.Prelude.{ℕ, Bool}
use Rattle.ctl_relation.specs.declared.byte_class.ByteClass.{ByteClass}
use Rattle.ctl_relation.specs.declared.byte_class.ByteClass.TheVariants.{Whitespace, Name, Qualifier, VersionWord, Upstream, Revision, FieldName}
use Rattle.ctl_relation.specs.FieldBytes.{is_whitespace, is_qualifier_byte, is_version_word_byte, is_field_name_byte}
use Rattle.ctl_relation.specs.Names.{is_name_byte}
use Rattle.ctl_relation.specs.Version.{is_upstream_byte, is_revision_byte}

abbrev pub class_has : ByteClass → ℕ → Bool
class_has Whitespace = is_whitespace
class_has Name = is_name_byte
class_has Qualifier = is_qualifier_byte
class_has VersionWord = is_version_word_byte
class_has Upstream = is_upstream_byte
class_has Revision = is_revision_byte
class_has FieldName = is_field_name_byte

abbrev pub class_bit : ByteClass → ℕ
class_bit Whitespace = 1
class_bit Name = 2
class_bit Qualifier = 4
class_bit VersionWord = 8
class_bit Upstream = 16
class_bit Revision = 32
class_bit FieldName = 64
