-- The rows of failures.
use Rattle.std.proofs.Common.{List, [], ◌∷◌, map, refl}
use Rattle.std.specs.List.{All}
use Rattle.std.proofs.lemmas.List.Elements.{All-cons, All-nil}
use Rattle.kq_value.specs.Typed.{HasTypes}
use Rattle.kq_catalog_journal.specs.declared.batch.Noted.{Noted}
use Rattle.kq_catalog_journal.specs.History.{Log}
use Rattle.kq_engine_show.specs.FailureRows.{failure_columns, failure_row}
use Rattle.kq_engine_show.proofs.ExtentLemmas.{number_cell-typed}

pub failure_row-typed : (l : Log) (n : Noted) → HasTypes failure_columns (failure_row l n)
failure_row-typed l n = (number_cell-typed n.cursor, ((refl, tt), ((refl, tt), ((refl, tt), ((refl, tt), tt)))))

pub failure_rows-typed : (l : Log) (ns : List Noted) → All (HasTypes failure_columns) (map (failure_row l) ns)
failure_rows-typed l [] = All-nil (HasTypes failure_columns)
failure_rows-typed l (n ∷ ns) = All-cons (HasTypes failure_columns) (failure_row l n) (map (failure_row l) ns) (failure_row-typed l n) (failure_rows-typed l ns)
