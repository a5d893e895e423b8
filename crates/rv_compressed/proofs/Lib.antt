pub mod TableLemmas
pub mod TableLaws
pub mod Expansions
