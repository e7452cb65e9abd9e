pub mod BlankLemmas
pub mod NumberLemmas
pub mod CivilLemmas
pub mod FunctionExamples
pub mod JsonLemmas
pub mod PrintedDatetimes
pub mod PrintedTimespans
pub mod WrittenExamples
