-- What the code has made, as the definitions speak of it.
use Rattle.std.specs.Prelude.{map}
use Rattle.kq_bind_query.specs.declared.lets.Lets.{Lets}
use Rattle.kq_bind_query.specs.Queries.{Letting}
use Rattle.kq_bind_operators.specs.Seen.{progress_of, tabling_of}

abbrev pub letting_of : Lets → Letting
letting_of l = record { progress = progress_of l.progress; lets = l.scalars.items; tables = map tabling_of l.tables.items }
