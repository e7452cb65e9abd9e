-- The limits of the program.
use Rattle.std.specs.Prelude.{◌≡◌}
use Rattle.kq_catalog_journal.specs.declared.limits.Limits.{Limits}

pub record AreFull (limits : Limits) : Type 0 where
  pub tables : limits.tables ≡ 1000
  pub columns : limits.columns ≡ 256
  pub views : limits.views ≡ 256
  pub policies : limits.policies ≡ 16
  pub batch : limits.batch ≡ 1048576
  pub cascade : limits.cascade ≡ 1024
  pub commits : limits.commits ≡ 4294967295
