-- What callers of this crate name of `kq_bind_operators`.
pub use Rattle.kq_bind_operators.specs.Clauses
pub use Rattle.kq_bind_operators.specs.Flows
pub use Rattle.kq_bind_operators.specs.Operators
pub use Rattle.kq_bind_operators.specs.Scopes
