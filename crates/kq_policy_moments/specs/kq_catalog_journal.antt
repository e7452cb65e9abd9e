-- What callers of this crate name of `kq_catalog_journal`.
pub use Rattle.kq_catalog_journal.specs.Moments
pub use Rattle.kq_catalog_journal.specs.PolicyBodies
