use Rattle.std.proofs.Common.{◌≡◌, map, take}
use Rattle.kq_catalog_journal.specs.History.{log, views}
use Rattle.kq_engine_query.specs.Views.{columns_of_view}
use Rattle.kq_engine_query.proofs.made.columns_of_views.Given as goal

abbrev pub invariant-loop-number : goal.invariant-loop-number
invariant-loop-number l = l.columns.items ≡ map columns_of_view (take l.number (views (log l.snapshot.history)))
