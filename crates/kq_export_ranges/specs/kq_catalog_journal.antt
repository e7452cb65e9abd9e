-- Histories, for crates above.
pub use Rattle.kq_catalog_journal.specs.History
