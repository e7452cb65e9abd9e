pub mod Cuts
pub mod RunLemmas
pub mod StringLemmas
pub mod NumberLemmas
pub mod RawLemmas
pub mod StandsForLemmas
pub mod TokenForms
pub mod Utf8Lemmas
