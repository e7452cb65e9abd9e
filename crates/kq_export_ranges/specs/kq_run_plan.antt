-- Outcomes, for crates above.
pub use Rattle.kq_run_plan.specs.declared.outcome.Outcome
pub use Rattle.kq_run_plan.specs.declared.outcome.Outcome.TheVariants
