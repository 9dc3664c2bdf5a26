-- Which lines continue a field, by their first bytes.
use Rattle.std.proofs.Common.{◌≡◌, ◌&&◌, ◌||◌, ◌==◌, ℕ, Bool, true, false, not, cond, List, [], ◌∷◌, Option, None, Some, slice_index, position, refl, sym}
use Rattle.ctl_relation.specs.Bytes.{colon, hash, hyphen}
use Rattle.ctl_stanza.specs.Lines.{is_blank, is_blank_byte, begins_with_blank}
use Rattle.ctl_stanza.specs.LineKind.{is_field_name_byte, kind_after_name, kind_of}
use Rattle.ctl_stanza.specs.declared.line_kind.LineKind.{LineKind}
use Rattle.ctl_stanza.specs.declared.line_kind.LineKind.TheVariants.{Blank, Field, Continuation, Faulty}
use Rattle.ctl_stanza.specs.Fields.{continues}

-- no line with a name does
named : (line : List ℕ) (n : Option ℕ) → continues (kind_after_name line n) ≡ false
named line None = refl
named line (Some n) = by (n == 0 || not (slice_index line n == colon)) (slice_index line 0 == hash || slice_index line 0 == hyphen)
  where
    by : (a b : Bool) → continues (cond a Faulty (cond b Faulty (Field n))) ≡ false
    by true b = refl
    by false true = refl
    by false false = refl

-- A line does where it begins with a blank and isn't blank.
pub continues_is : (line : List ℕ) → (begins_with_blank line && not (is_blank line)) ≡ continues (kind_of line)
continues_is [] = refl
continues_is (byte ∷ line) =
    let n = position (λ b. not (is_field_name_byte b)) (byte ∷ line) in
    by (is_blank_byte byte) (is_blank (byte ∷ line)) (kind_after_name (byte ∷ line) n) (named (byte ∷ line) n)
  where
    by : (a b : Bool) (k : LineKind) → continues k ≡ false → (a && not b) ≡ continues (cond b Blank (cond a Continuation k))
    by true true k e = refl
    by true false k e = refl
    by false true k e = refl
    by false false k e = sym e
