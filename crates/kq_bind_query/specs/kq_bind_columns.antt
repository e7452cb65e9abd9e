-- What callers of this crate name of `kq_bind_columns`.
pub use Rattle.kq_bind_columns.specs.Chosen
pub use Rattle.kq_bind_columns.specs.Defaults
pub use Rattle.kq_bind_columns.specs.Items
pub use Rattle.kq_bind_columns.specs.Laying
