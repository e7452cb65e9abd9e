-- What callers of this crate name of `kq_run_reshape`.
pub use Rattle.kq_run_row_operators.specs.kq_run_reshape.Cells
pub use Rattle.kq_run_row_operators.specs.kq_run_reshape.Distinct
pub use Rattle.kq_run_row_operators.specs.kq_run_reshape.MvExpand
pub use Rattle.kq_run_row_operators.specs.kq_run_reshape.Range
pub use Rattle.kq_run_row_operators.specs.kq_run_reshape.Union
