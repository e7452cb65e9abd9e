-- What callers of this crate name of `kq_store_shared_lists`.
pub use Rattle.kq_store_shared_lists.proofs.Rows
