use Rattle.std.proofs.Common.{◌≡◌, ◌∙◌, List, Some, option_map, ap, sym, subst, arith}
use Rattle.std.specs.List.{slice_get}
use Rattle.std.proofs.lemmas.List.{length-map}
use Rattle.std.proofs.lemmas.Option.{slice_get-map, slice_get_past}
use Rattle.kq_catalog_journal.specs.declared.table.Table.{Table}
use Rattle.kq_catalog_journal.specs.History.{log, tables}
use Rattle.kq_catalog.specs.Held.{HeldTable, tables_in}
use Rattle.kq_catalog.specs.Seen.{CatalogView, Sound, hist}
use Rattle.kq_catalog.proofs.Standing.{tables_held}
use Rattle.kq_catalog.proofs.state.State.table_at.Goals as goal

pub returns-then-number-len : goal.returns-then-number-len
returns-then-number-len c =
    let v = c.args.self.now in
    let sound : Sound v = subst Sound c.self.view_is c.self.invariant.sound in
    let held = c.self.inside.tables in
    let same : tables_in held ≡ tables (log (hist v)) = ap (λ (w : CatalogView). tables_in w.held) c.self.view_is ∙ tables_held v sound in
    ap Some c.table.ensures ∙ ap (option_map (λ (h : HeldTable). h.table)) (sym c.get.ensures) ∙ sym (slice_get-map (λ (h : HeldTable). h.table) held c.args.number)
    ∙ ap (λ (ts : List Table). slice_get ts c.args.number) same

pub returns-else-number-len : goal.returns-else-number-len
returns-else-number-len c =
    let v = c.args.self.now in
    let sound : Sound v = subst Sound c.self.view_is c.self.invariant.sound in
    let held = c.self.inside.tables in
    let same : tables_in held ≡ tables (log (hist v)) = ap (λ (w : CatalogView). tables_in w.held) c.self.view_is ∙ tables_held v sound in
    let n = length-map held (λ (h : HeldTable). h.table) in
    sym (slice_get_past (tables_in held) c.args.number (omega (arith, n, c.len.ensures, c.if-number-len.false))) ∙ ap (λ (ts : List Table). slice_get ts c.args.number) same
