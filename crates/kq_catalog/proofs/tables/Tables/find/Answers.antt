use Rattle.std.proofs.Common.{◌≡◌, ◌∙◌, List, None, Some, ap, sym}
use Rattle.kq_catalog_indexes.specs.Places.{place_of}
use Rattle.kq_catalog_journal.specs.History.{table_numbered}
use Rattle.kq_catalog.specs.Held.{HeldTable, tables_in}
use Rattle.kq_catalog.proofs.Naming.{names_in, some_table, numbered-none, numbered-some}
use Rattle.kq_catalog.proofs.tables.Tables.find.Goals as goal

pub get-requires : goal.get-requires
get-requires c =
    let name = c.args.name.now in
    let held = c.self.inside.held in
    let place : place_of name (names_in held) ≡ Some c.in-Some.number = ap (place_of name) (sym (c.deref.ensures ∙ c.self.invariant)) ∙ sym c.find.ensures ∙ c.in-Some.is in
    (numbered-some name held c.in-Some.number place).0

pub returns-in-Some : goal.returns-in-Some
returns-in-Some c =
    let name = c.args.name.now in
    let held = c.self.inside.held in
    let n = c.in-Some.number in
    let place : place_of name (names_in held) ≡ Some n = ap (place_of name) (sym (c.deref.ensures ∙ c.self.invariant)) ∙ sym c.find.ensures ∙ c.in-Some.is in
    ap (λ (hs : List HeldTable). table_numbered name (tables_in hs)) (sym c.self.view_is) ∙ (numbered-some name held n place).1 c.get.result.now c.get.ensures ∙ ap (some_table n) (sym c.table.ensures)

pub returns-in-None : goal.returns-in-None
returns-in-None c =
    let name = c.args.name.now in
    let held = c.self.inside.held in
    let place : place_of name (names_in held) ≡ None = ap (place_of name) (sym (c.deref.ensures ∙ c.self.invariant)) ∙ sym c.find.ensures ∙ c.in-None.is in
    ap (λ (hs : List HeldTable). table_numbered name (tables_in hs)) (sym c.self.view_is) ∙ numbered-none name held place
