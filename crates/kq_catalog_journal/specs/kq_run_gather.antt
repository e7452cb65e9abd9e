-- What callers of this crate name of `kq_run_gather`.
pub use Rattle.kq_run_plan.specs.kq_run_gather.Bodies
