use Rattle.std.proofs.Common.{◌≡◌, ◌∷◌, [], ◌++◌, ℕ, Some, length, sym, ap, ◌∙◌, slice_get, arith, subst}
use Rattle.std.proofs.lemmas.Option.{slice_get_read}
use Rattle.kq_value.specs.declared.schema.Field.{Field}
use Rattle.kq_value.specs.declared.value.Value.{Value}
use Rattle.kq_value.specs.Typed.{missing_of}
use Rattle.kq_store_rows.specs.Widened.{widened}
use Rattle.kq_store_rows.proofs.WidenedLemmas.{widened-next, widened-whole}
use Rattle.kq_store_rows.proofs.widened.widen.Goals as goal

pub loop-alloc-preserved : goal.loop-alloc-preserved
loop-alloc-preserved c =
    let fields = c.args.fields.now in
    let row = c.loop-alloc.row.items in
    let f = c.index-fields-len.result in
    let n : c.len-in-loop-alloc.result ≡ length row = omega (arith, c.len-in-loop-alloc.ensures) in
    let at : slice_get fields (length row) ≡ Some f = subst (λ (k : ℕ). slice_get fields k ≡ Some f) n (slice_get_read fields (length fields) c.len-in-loop-alloc.result f (omega arith) (omega arith) c.index-fields-len.is) in
    ap (widened fields) (c.in_ok-push.ensures.items ∙ ap (λ (v : Value). row ++ v ∷ []) (c.in_ok-cell.ensures.missing ∙ ap (λ (x : Field). missing_of x.ty) (sym c.index-fields-len.is))) ∙ widened-next fields row f at ∙ c.loop-alloc.invariant

pub returns : goal.returns
returns c =
    let fields = c.args.fields.now in
    let row = c.loop-alloc.row.items in
    sym (widened-whole fields row (omega (arith, c.len.ensures))) ∙ c.loop-alloc.invariant
