-- The text of a version, said from its parts and without a search.
use Rattle.std.specs.Prelude.{◌≡◌, ◌≢◌, ℕ, List, [], ◌∷◌, ◌++◌, Option, Some, None, unwrap_or}
use Rattle.std.specs.List.{All}
use Rattle.ctl_relation.specs.declared.version_fault.VersionFault.TheVariants as fault
use Rattle.ctl_relation.specs.Bytes.{hyphen, colon}
use Rattle.ctl_relation.specs.Version.{Parts, parts_of, fault_of}

-- an epoch and its colon
abbrev pub epoch_text : Option (List ℕ) → List ℕ
epoch_text None = []
epoch_text (Some digits) = digits ++ colon ∷ []

-- a hyphen and the revision
abbrev pub hyphen_text : Option (List ℕ) → List ℕ
hyphen_text None = []
hyphen_text (Some revision) = hyphen ∷ revision

-- The parts make the text. The colon of an epoch is the first of the text, and where there is no epoch there is none.
-- The hyphen of a revision is the last behind the epoch, and where there is no revision there is none.
pub record AreParts (text : List ℕ) (parts : Parts) : Type 0 where
  pub whole : text ≡ epoch_text parts.epoch ++ (parts.upstream ++ hyphen_text parts.revision)
  pub first_colon : All (λ b. b ≢ colon) (unwrap_or parts.epoch text)
  pub last_hyphen : All (λ b. b ≢ hyphen) (unwrap_or parts.revision parts.upstream)

abbrev pub TextsHaveParts : Type 0
TextsHaveParts = (text : List ℕ) → AreParts text (parts_of text)

abbrev pub PartsAreUnique : Type 0
PartsAreUnique = (text : List ℕ) (parts : Parts) → AreParts text parts → parts ≡ parts_of text

-- No test of a text is one of memory.
abbrev pub NoTestOfMemory : Type 0
NoTestOfMemory = (text : List ℕ) → fault_of text ≢ Some fault.Memory
