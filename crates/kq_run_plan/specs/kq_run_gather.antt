-- What callers of this crate name of `kq_run_gather`.
pub use Rattle.kq_run_gather.specs.Bodies
pub use Rattle.kq_run_gather.specs.Steps
