-- A built expression matches as the grammar reads its pattern, and what the answers of `regex` say of a pattern.
use Rattle.std.proofs.Common.{◌≡◌, ℕ, ◌<◌, ◌≤◌, Bool, true, false, List, length, Option, None, Some, is_some, get_or, refl, sym, ap, ◌∙◌, inl, inr}
use Rattle.std.specs.Prelude.{◌≢◌, nat_le, chars, IfSome}
use Rattle.std.specs.Option.{IsSomeAnd, option_map_or}
use Rattle.std.specs.Str.{IsUtf8, is_utf8}
use Rattle.std.proofs.lemmas.Bool.{le-leb, lt-leb, and_from, and_left, and_right, false_from_ne_true}
use Rattle.std.proofs.lemmas.Str.{IsUtf8-from_is_utf8, is_utf8-from_IsUtf8}
use Rattle.regex.specs.Patterns.{Re, Config, find, Reads, Refuses, SameCaptures}
use Rattle.regex.specs.Bytes.{regex_pattern, regex_source, regex_config, IsReadFromSource}
use Rattle.regex.specs.Failures.{IsPattern}
use Rattle.regex.specs.declared.bytes.regex.Regex.{Regex}
use Rattle.regex.proofs.ForCallers.{is_match_alike}
use Rattle.regex_syntax.specs.Grammar.{Names, group_count, read}
use Rattle.regex_syntax.specs.Brackets.{Nested}
use Rattle.regex_syntax.specs.declared.error.ErrorKind.{ErrorKind}
use Rattle.regex_syntax.specs.declared.error.ErrorKind.TheVariants.{OutOfMemory}
use Rattle.ctl_filter.specs.Rx.{rx_config, rx_matches, has_match, is_read, is_well_formed}

by-reading : (hay : List ℕ) → ((k : ℕ) → get_or hay k 0 < 256) → (a : Re) (most : ℕ) (names : Names) (o : Option (Nested Re × Names))
    → IsSomeAnd o (λ (re, found). (re.depth ≤ most) × SameCaptures a re.value × (names ≡ found) × (group_count a ≤ length names))
    → is_some (find a hay 0) ≡ option_map_or (λ p. has_match p.0.value hay) o false
by-reading hay bytes a most names None h = absurd h
by-reading hay bytes a most names (Some found) h = is_match_alike h.1 hay bytes false 0

pub rx_found : (r : Regex) (ignores_case : Bool) → regex_config r ≡ rx_config ignores_case → IsReadFromSource r
    → (hay : List ℕ) → ((k : ℕ) → get_or hay k 0 < 256) → is_some (find (regex_pattern r) hay 0) ≡ rx_matches ignores_case (regex_source r) hay
unfolding Reads
rx_found r ignores_case is_config is_read hay bytes =
    let h = rw is_config at is_read in
    by-reading hay bytes (regex_pattern r) _ _ (read (rx_config ignores_case) _) h

-- ---- well-formed patterns

read-shallow : (a : Re) (most : ℕ) (names : Names) (o : Option (Nested Re × Names))
    → IsSomeAnd o (λ (re, found). (re.depth ≤ most) × SameCaptures a re.value × (names ≡ found) × (group_count a ≤ length names))
    → option_map_or (λ p. nat_le p.0.depth most) o false ≡ true
read-shallow a most names None h = absurd h
read-shallow a most names (Some found) h = le-leb found.0.depth most h.0

read-deep : (most : ℕ) (o : Option (Nested Re × Names)) → IfSome o (λ (re, found). most < re.depth) → option_map_or (λ p. nat_le p.0.depth most) o false ≡ false
read-deep most None h = refl
read-deep most (Some found) h = lt-leb found.0.depth most h

regex-is_read : (r : Regex) → IsReadFromSource r → is_read (regex_config r) (regex_source r) ≡ true
unfolding Reads
regex-is_read r h = read-shallow (regex_pattern r) _ _ (read (regex_config r) (chars (regex_source r))) h

pattern-is_read : (config : Config) (source : List ℕ) → IsPattern config source → is_read config source ≡ true
unfolding Reads
pattern-is_read config source h = read-shallow _ _ h.1 (read config (chars source)) h.2

refused-is_read : (config : Config) (source : List ℕ) (kind : ErrorKind) → Refuses config source kind → kind ≢ OutOfMemory → is_read config source ≡ false
unfolding Refuses
refused-is_read config source kind (inl memory) n = absurd (n memory)
refused-is_read config source kind (inr (inl none)) n = ap (λ o. option_map_or (λ p. nat_le p.0.depth config.nest_limit) o false) none
refused-is_read config source kind (inr (inr deep)) n = read-deep config.nest_limit (read config (chars source)) deep.1

well_formed-from_read : (any_case : Bool) (config : Config) (source pattern : List ℕ) → config ≡ rx_config any_case → source ≡ pattern → IsUtf8 pattern
    → is_read config source ≡ true → is_well_formed any_case pattern ≡ true
well_formed-from_read any_case config source pattern same text utf8 h =
    and_from _ _ (is_utf8-from_IsUtf8 pattern utf8) ((λ i. is_read (sym same i) (sym text i)) ∙ h)

pub well_formed-built : (any_case : Bool) (r : Regex) (pattern : List ℕ) → regex_config r ≡ rx_config any_case → regex_source r ≡ pattern → IsUtf8 pattern
    → IsReadFromSource r → is_well_formed any_case pattern ≡ true
well_formed-built any_case r pattern same text utf8 h = well_formed-from_read any_case (regex_config r) (regex_source r) pattern same text utf8 (regex-is_read r h)

pub well_formed-too_big : (any_case : Bool) (config : Config) (source pattern : List ℕ) → config ≡ rx_config any_case → source ≡ pattern → IsUtf8 pattern
    → IsPattern config source → is_well_formed any_case pattern ≡ true
well_formed-too_big any_case config source pattern same text utf8 h = well_formed-from_read any_case config source pattern same text utf8 (pattern-is_read config source h)

pub malformed-bytes : (any_case : Bool) (pattern : List ℕ) → ¬ (IsUtf8 pattern) → is_well_formed any_case pattern ≡ false
malformed-bytes any_case pattern none = and_left _ _ (false_from_ne_true (is_utf8 pattern) (λ h. none (IsUtf8-from_is_utf8 pattern h)))

pub malformed-refused : (any_case : Bool) (config : Config) (source pattern : List ℕ) (kind : ErrorKind) → config ≡ rx_config any_case → source ≡ pattern
    → Refuses config source kind → kind ≢ OutOfMemory → is_well_formed any_case pattern ≡ false
malformed-refused any_case config source pattern kind same text r n =
    and_right _ _ ((λ i. is_read (sym same i) (sym text i)) ∙ refused-is_read config source kind r n)
