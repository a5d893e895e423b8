pub mod FieldLemmas
pub mod BitLemmas
pub mod Tables
