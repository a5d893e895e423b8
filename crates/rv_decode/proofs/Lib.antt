pub mod TableLemmas
pub mod TableLaws
