use Rattle.std.proofs.Common.{◌≡◌, ◌∙◌, List, None, ap}
use Rattle.std.specs.Arc.{arc_value}
use Rattle.kq_catalog_indexes.specs.Places.{place_of}
use Rattle.kq_catalog_journal.specs.History.{table_named}
use Rattle.kq_catalog.specs.Held.{HeldTable, tables_in}
use Rattle.kq_catalog.proofs.Naming.{names_in, unnamed}
use Rattle.kq_catalog.proofs.tables.Tables.put_table.Goals as goal

pub with-requires-clause-new : goal.with-requires-clause-new
with-requires-clause-new c =
    let name = (arc_value c.args.table).name in
    let held = c.self.inside.held in
    let none : place_of name (names_in held) ≡ None = unnamed name held (ap (λ (hs : List HeldTable). table_named name (tables_in hs)) c.self.view_is ∙ c.requires.0) in
    cc
