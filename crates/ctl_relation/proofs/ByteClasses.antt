-- What the table of bytes says of each class.
use Rattle.std.proofs.Common.{◌≡◌, ◌<◌, ℕ, Bool, not, get_or, refl, bit_and, nat_eq}
use Rattle.std.proofs.lemmas.Bool.{agree_below_at}
use Rattle.ctl_relation.specs.declared.byte_class.ByteClass.{ByteClass}
use Rattle.ctl_relation.specs.declared.byte_class.ByteClass.TheVariants.{Whitespace, Name, Qualifier, VersionWord, Upstream, Revision, FieldName}
use Rattle.ctl_relation.specs.declared.byte_class.TheConstants.{CLASSES}
use Rattle.ctl_relation.specs.Inside.ByteClass.{class_bit, class_has}

abbrev told : ByteClass → ℕ → Bool
told class b = not (nat_eq (bit_and (get_or CLASSES b 0) (class_bit class)) 0)

-- the table tells each class of each byte
pub class_is : (class : ByteClass) (b : ℕ) → b < 256 → not (nat_eq (bit_and (get_or CLASSES b 0) (class_bit class)) 0) ≡ class_has class b
class_is Whitespace b small = agree_below_at (told Whitespace) (class_has Whitespace) 256 b refl small
class_is Name b small = agree_below_at (told Name) (class_has Name) 256 b refl small
class_is Qualifier b small = agree_below_at (told Qualifier) (class_has Qualifier) 256 b refl small
class_is VersionWord b small = agree_below_at (told VersionWord) (class_has VersionWord) 256 b refl small
class_is Upstream b small = agree_below_at (told Upstream) (class_has Upstream) 256 b refl small
class_is Revision b small = agree_below_at (told Revision) (class_has Revision) 256 b refl small
class_is FieldName b small = agree_below_at (told FieldName) (class_has FieldName) 256 b refl small
