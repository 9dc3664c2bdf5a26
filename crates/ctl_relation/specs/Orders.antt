-- Proofs on the order of versions. They stand here since an `impl Ord` cites its laws from `specs/`; what they prove is said
-- by `versions_are_ordered` and `equal_versions`.
pub mod Keys
pub mod Versions
