use Rattle.std.proofs.Common.{◌∙◌, ap, sym, refl, inr, ◌∷◌, [], ◌++◌}
use Rattle.std.proofs.lemmas.Result.{err_from_is_err_and}
use Rattle.csv.specs.Reading.{Reached, strip_bom}
use Rattle.csv.specs.Records.{fields_of}
use Rattle.kq_store_extent.specs.Coming.{ComingRows}
use Rattle.kq_store_ingest.specs.Ingestion.{records_of}
use Rattle.kq_store_ingest.proofs.HasRead.{left-text, read-all, read-first, read-more}
use Rattle.kq_store_ingest.proofs.RowLemmas.{rows_typed}
use Rattle.kq_store_ingest.proofs.Texts.{strip_bom-text}
use Rattle.kq_store_ingest.proofs.Taking.{taken-added, taken-all, taken-fault, taken-skipped, taken-start}
use Rattle.kq_store_ingest.proofs.rows.read_rows.Goals as goal

pub loop-row-init : goal.loop-row-init
unfolding Reached
loop-row-init c =
    let fr = c.from_reader-reader.ensures in
    let h = c.has_headers.ensures in
    let f = c.flexible.ensures in
    rw c.in_ok-rows.ensures (
      c.new-row.ensures.items,
      refl,
      [],
      strip_bom c.args.body.now,
      record {
        plain = record {
          untrimmed = rw (f, h) at fr.trim ∙ c.new.ensures.trim;
          ready = inr (inr (rw (f, h) at fr.has_headers, fr.headers));
          flexible = rw f at fr.flexible;
        };
        config = rw (f, h) at fr.config ∙ c.new.ensures.config;
        source = rw c.as_bytes.ensures.value at fr.source;
        reached = (sym fr.state, refl);
        outside = rw fr.state tt;
        utf8 = strip_bom-text c.args.body.now c.utf8.body;
      },
      taken-start c.args.schema.now c.args.skip_first c.args.limit,
    )

pub loop-row-preserved-then-skip : goal.loop-row-preserved-then-skip
loop-row-preserved-then-skip c =
    let (empty, types, seen, left, before, taken) = c.loop-row.invariant in
    let cells = fields_of c.read_record.new.cells in
    let (rest, after, less) = read-more c.args.body.now c.loop-row.reader c.read_record.new.reader seen left cells before c.in_ok-read_record.ensures.plain (rw c.if-branch.true at c.in_ok-read_record.ensures.read) in
    (empty, types, seen ++ cells ∷ [], rest, after, taken-skipped c.args.schema.now c.args.skip_first c.args.limit seen c.loop-row.rows.rows cells (rw c.if-skip.true at taken))

pub loop-row-preserved : goal.loop-row-preserved
loop-row-preserved c =
    let (empty, types, seen, left, before, taken) = c.loop-row.invariant in
    let cells = fields_of c.read_record.new.cells in
    let (rest, after, less) = read-more c.args.body.now c.loop-row.reader c.read_record.new.reader seen left cells before c.in_ok-read_record.ensures.plain (rw c.if-branch.true at c.in_ok-read_record.ensures.read) in
    let good = c.in_ok-rows-2.ensures in
    let more = ap (λ (b : ComingRows). b.rows) good.added in (
      good.left,
      ap (λ (b : ComingRows). b.types) good.added ∙ types,
      seen ++ cells ∷ [],
      rest,
      after,
      rw c.if-skip.false (taken-added c.args.schema.now c.args.skip_first c.args.limit seen c.loop-row.rows.rows _ cells (rw c.if-skip.false at taken) more good.narrow good.room),
    )

pub loop-row-smaller-then-skip : goal.loop-row-smaller-then-skip
loop-row-smaller-then-skip c =
    let (empty, types, seen, left, before, taken) = c.loop-row.invariant in
    let (rest, after, less) = read-more c.args.body.now c.loop-row.reader c.read_record.new.reader seen left (fields_of c.read_record.new.cells) before c.in_ok-read_record.ensures.plain (rw c.if-branch.true at c.in_ok-read_record.ensures.read) in
    rw (before.source, after.source) less

pub loop-row-smaller : goal.loop-row-smaller
loop-row-smaller c =
    let (empty, types, seen, left, before, taken) = c.loop-row.invariant in
    let (rest, after, less) = read-more c.args.body.now c.loop-row.reader c.read_record.new.reader seen left (fields_of c.read_record.new.cells) before c.in_ok-read_record.ensures.plain (rw c.if-branch.true at c.in_ok-read_record.ensures.read) in
    rw (before.source, after.source) less

pub read_record-requires : goal.read_record-requires
read_record-requires c =
    let (empty, types, seen, left, before, taken) = c.loop-row.invariant in
    record { plain = before.plain; text = left-text c.args.body.now c.loop-row.reader seen left before }

pub add_row-requires-clause-types : goal.add_row-requires-clause-types
add_row-requires-clause-types c = c.loop-row.invariant.1

pub add_row-requires-clause-empty : goal.add_row-requires-clause-empty
add_row-requires-clause-empty c = c.loop-row.invariant.0

pub returns-in_err-read_record-clause-fault : goal.returns-in_err-read_record-clause-fault
returns-in_err-read_record-clause-fault c =
    let p = err_from_is_err_and c.from_residual-in_err-read_record.result c.from_residual-in_err-read_record.ensures.1 in
    rw (p.1, p.2) (λ free. absurd (free c.in_err-read_record.ensures.fault))

pub returns-in_err-rows-2-clause-fault : goal.returns-in_err-rows-2-clause-fault
returns-in_err-rows-2-clause-fault c =
    let (empty, types, seen, left, before, taken) = c.loop-row.invariant in
    let cells = fields_of c.read_record.new.cells in
    let (rest, after, less) = read-more c.args.body.now c.loop-row.reader c.read_record.new.reader seen left cells before c.in_ok-read_record.ensures.plain (rw c.if-branch.true at c.in_ok-read_record.ensures.read) in
    let (more, all) = read-first c.args.body.now c.read_record.new.reader (seen ++ cells ∷ []) rest after in
    let fault = taken-fault c.args.schema.now c.args.skip_first c.args.limit seen more (records_of c.args.body.now) c.loop-row.rows.rows cells _ (rw c.if-skip.false at taken) all c.in_err-rows-2.ensures.fault in
    let p = err_from_is_err_and c.from_residual-in_err-rows-2.result c.from_residual-in_err-rows-2.ensures.1 in
    rw (p.1, p.2) fault

pub returns-clause-rows : goal.returns-clause-rows
returns-clause-rows c =
    let (empty, types, seen, left, before, taken) = c.loop-row.invariant in
    let all = read-all c.args.body.now c.loop-row.reader c.read_record.new.reader seen left (fields_of c.read_record.new.cells) before (rw c.if-branch.false at c.in_ok-read_record.ensures.read) in
    c.in_ok-finish.ensures ∙ (taken-all _ _ _ _ seen _ _ taken all).0

pub returns-clause-sound : goal.returns-clause-sound
returns-clause-sound c =
    let (empty, types, seen, left, before, taken) = c.loop-row.invariant in
    let all = read-all c.args.body.now c.loop-row.reader c.read_record.new.reader seen left (fields_of c.read_record.new.cells) before (rw c.if-branch.false at c.in_ok-read_record.ensures.read) in
    (taken-all _ _ _ _ seen _ _ taken all).1

pub returns-clause-typed : goal.returns-clause-typed
returns-clause-typed c =
    let (empty, types, seen, left, before, taken) = c.loop-row.invariant in
    rw (c.in_ok-finish.ensures, taken.rows_are) (rows_typed c.args.schema.now _)
