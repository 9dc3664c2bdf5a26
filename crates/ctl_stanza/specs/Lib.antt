-- What control text means. A caller reads Lines, LineKind, FieldLines, Fields, RelationFields, Status and Content: what a
-- text has in it; Runs, Laws and Sound: its stanzas and its faults in plain words; Records and RecordLaws: the same of
-- preferences. Faults and Text are the same again as a function, which the laws tie to those words.
pub use Rattle.ctl_relation.specs.Bytes
pub use Rattle.ctl_relation.specs.Names
pub use Rattle.ctl_relation.specs.FieldBytes
pub use Rattle.ctl_relation.specs.Runs
pub use Rattle.ctl_relation.specs.Version
pub use Rattle.ctl_relation.specs.Reading
pub use Rattle.ctl_relation.specs.Parts
pub use Rattle.ctl_relation.specs.Lent
pub use Rattle.ctl_relation.specs.Offered
pub mod Lines
pub mod LineKind
pub mod Fields
pub mod FieldLines
pub mod RelationFields
pub mod Status
pub mod Content
pub mod Faults
pub mod Text
pub mod LineRuns
pub mod Laws
pub mod Sound
pub mod Records
pub mod RecordLaws
-- How the code holds what it has read. Not for callers.
pub mod Given
pub mod InParts
pub mod Inside
