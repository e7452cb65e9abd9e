-- What callers of this crate name of `kq_run_reshape`.
pub use Rattle.kq_run_reshape.specs.Cells
pub use Rattle.kq_run_reshape.specs.Distinct
pub use Rattle.kq_run_reshape.specs.MvExpand
pub use Rattle.kq_run_reshape.specs.Range
pub use Rattle.kq_run_reshape.specs.Union
