use Rattle.std.proofs.Common.{◌≡◌, All, List, length, map, take, ap, sym, ◌∙◌, subst, arith}
use Rattle.kq_store_extent.specs.Seen.{held_records, row_of}
use Rattle.kq_store_extent.specs.Wide.{wide_held}
use Rattle.kq_run_plan.specs.kq_run_scan.Lent.{rows_held}
use Rattle.kq_catalog_journal.specs.Beside.{cut_to}
use Rattle.kq_catalog_journal.specs.Derived.{Row}
use Rattle.kq_catalog_journal.specs.Records.{rows_in}
use Rattle.kq_store_rows.specs.Chunks.{same_width}
use Rattle.kq_value.specs.declared.schema.Field.{Field}
use Rattle.kq_value.specs.Same.{Same}
use Rattle.kq_value.specs.Typed.{HasTypes}
use Rattle.kq_policy_run.proofs.Records.{cut_same, cut_typed, may_lend, of_given, whole_same, whole_typed, wide_rows}
use Rattle.kq_policy_run.proofs.beside.records_cut.Goals as goal

pub lend-requires : goal.lend-requires
lend-requires c =
    let h = c.args.snapshot.now.history in
    let e = c.extents-extents in
    may_lend h c.args.number c.args.table.now e.result.now c.requires.stands e.ensures.records (e.ensures.typed c.args.table.now c.requires.stands) e.ensures.small

pub all_rows-requires : goal.all_rows-requires
all_rows-requires c =
    let h = c.args.snapshot.now.history in
    let t = c.args.table.now in
    let e = c.extents-extents in
    subst (λ (fs : List Field). same_width (map row_of (held_records (wide_held fs e.result.now)))) (sym c.as_slice.ensures)
    (wide_rows h c.args.number t e.result.now c.requires.stands e.ensures.records (e.ensures.typed t c.requires.stands))

pub returns-then-columns-len-clause-same : goal.returns-then-columns-len-clause-same
returns-then-columns-len-clause-same c =
    let h = c.args.snapshot.now.history in
    let t = c.args.table.now in
    let e = c.extents-extents in
    let all : length c.args.columns.now ≡ length t.schema = omega (arith, c.if-columns-len.true, c.len.ensures.count) in
    of_given c.lend.result (rows_held (wide_held t.schema e.result.now)) (λ rs. Same rs (cut_to c.args.columns.now (rows_in h c.args.number))) c.lend.ensures
    (whole_same h c.args.number t e.result.now c.requires.stands e.ensures.records (e.ensures.typed t c.requires.stands) c.args.columns.now c.requires.first all)

pub returns-then-columns-len-clause-typed : goal.returns-then-columns-len-clause-typed
returns-then-columns-len-clause-typed c =
    let h = c.args.snapshot.now.history in
    let t = c.args.table.now in
    let e = c.extents-extents in
    let all : length c.args.columns.now ≡ length t.schema = omega (arith, c.if-columns-len.true, c.len.ensures.count) in
    of_given c.lend.result (rows_held (wide_held t.schema e.result.now)) (All (HasTypes c.args.columns.now)) c.lend.ensures
    (whole_typed h c.args.number t e.result.now c.requires.stands e.ensures.records (e.ensures.typed t c.requires.stands) c.args.columns.now c.requires.first all)

pub returns-in_ok-cut-clause-same : goal.returns-in_ok-cut-clause-same
returns-in_ok-cut-clause-same c =
    let h = c.args.snapshot.now.history in
    let t = c.args.table.now in
    let e = c.extents-extents in
    let cut = take (length c.args.columns.now) in
    let all : c.in_ok-all.all ≡ rows_held (wide_held t.schema e.result.now) = c.in_ok-all.ensures ∙ ap (λ (fs : List Field). rows_held (wide_held fs e.result.now)) c.as_slice.ensures in
    let is : c.own.result ≡ map cut (rows_held (wide_held t.schema e.result.now)) = c.own.ensures ∙ c.in_ok-cut.ensures ∙ ap (map cut) all in
    subst (λ (rs : List Row). Same rs (cut_to c.args.columns.now (rows_in h c.args.number))) (sym is)
    (cut_same h c.args.number t e.result.now c.requires.stands e.ensures.records (e.ensures.typed t c.requires.stands) c.args.columns.now c.requires.first)

pub returns-in_ok-cut-clause-typed : goal.returns-in_ok-cut-clause-typed
returns-in_ok-cut-clause-typed c =
    let h = c.args.snapshot.now.history in
    let t = c.args.table.now in
    let e = c.extents-extents in
    let cut = take (length c.args.columns.now) in
    let all : c.in_ok-all.all ≡ rows_held (wide_held t.schema e.result.now) = c.in_ok-all.ensures ∙ ap (λ (fs : List Field). rows_held (wide_held fs e.result.now)) c.as_slice.ensures in
    let is : c.own.result ≡ map cut (rows_held (wide_held t.schema e.result.now)) = c.own.ensures ∙ c.in_ok-cut.ensures ∙ ap (map cut) all in
    subst (All (HasTypes c.args.columns.now)) (sym is)
    (cut_typed h c.args.number t e.result.now c.requires.stands e.ensures.records (e.ensures.typed t c.requires.stands) c.args.columns.now c.requires.first)
