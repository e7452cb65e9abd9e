pub mod Exported
pub mod Exports
pub mod kq_catalog_journal
pub mod kq_run_plan
pub mod Ledgers
pub mod Ranges
