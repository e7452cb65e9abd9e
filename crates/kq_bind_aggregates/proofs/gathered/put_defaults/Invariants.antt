use Rattle.std.proofs.Common.{◌≡◌, drop}
use Rattle.kq_bind_aggregates.specs.Gathered.{put_defaults}
use Rattle.kq_bind_aggregates.proofs.gathered.put_defaults.Given as goal

abbrev pub invariant-loop-column : goal.invariant-loop-column
invariant-loop-column l = put_defaults l.fn.before.items l.columns ≡ put_defaults l.fields.items (drop l.column-index l.columns)
