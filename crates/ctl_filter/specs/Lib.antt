-- Filters as grep-dctrl(1) has them. A caller reads Query: what words ask for; Grammar and Laws: which words are a filter,
-- and its truth; Filter: what an atom asks of a stanza; Grep: the answer. Trees is Grammar again as a function.
pub mod Substring
pub mod Rx
pub mod Filter
pub mod Words
pub mod Names
pub mod Atoms
pub mod Grammar
pub mod Trees
pub mod Laws
pub mod Texts
pub mod Read
pub mod Query
pub mod Grep
pub mod Asking
-- what a contract sees of a filter that was read
pub mod HeldQuery
pub mod Inside
