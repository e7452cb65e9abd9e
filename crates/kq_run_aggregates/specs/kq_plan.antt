-- What callers of this crate name of `kq_plan`.
pub use Rattle.kq_plan.specs.Fits
pub use Rattle.kq_plan.specs.Plans
