pub mod Links
pub mod kq_catalog_journal
