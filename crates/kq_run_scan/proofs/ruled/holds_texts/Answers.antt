use Rattle.std.proofs.Common.{Some, ap, sym, ◌∙◌}
use Rattle.std.proofs.lemmas.Bool.{false≢true}
use Rattle.std.proofs.lemmas.Option.{slice_get-get_or, slice_get_past}
use Rattle.kq_run_scan.proofs.LeftOut.{field_null, past_null}
use Rattle.kq_run_scan.proofs.ruled.holds_texts.Goals as goal

pub returns-in-Some : goal.returns-in-Some
returns-in-Some c other =
    let fields = c.args.fields.now in
    let field = c.in-Some.field.now in
    field_null fields c.args.column field (slice_get-get_or fields c.args.column field c.in-Some.ensures.lookup.3.0 ∙ ap Some (sym c.in-Some.ensures.lookup.1)) (λ is. false≢true (sym other ∙ c.same.ensures.same.1 is))

pub returns-in-None : goal.returns-in-None
returns-in-None c other = past_null c.args.fields.now c.args.column (slice_get_past c.args.fields.now c.args.column c.in-None.ensures.lookup.3)
