use Rattle.std.proofs.Common.{◌≡◌, ◌<◌, ◌++◌, ◌∷◌, [], false, true, ℕ, List, length, take, get_or, ap, sym, ◌∙◌, arith, append-nil}
use Rattle.kq_value.specs.declared.record_id.RecordId.{RecordId}
use Rattle.kq_run_scan.specs.Ranges.{is_between, is_taken, places_between}
use Rattle.kq_run_scan.proofs.InRange.{id_at, nobody, places_more}
use Rattle.kq_run_scan.proofs.ranged.places_among.Goals as goal
use Rattle.kq_run_scan.proofs.ranged.places_among.Goals.{then-is_between+in_ok-push, else-is_between}

pub loop-i-preserved : goal.loop-i-preserved
loop-i-preserved c =
    let rs = c.args.extent.now.records in
    let i = c.loop-i.i in
    let above = c.args.above in
    let to = c.args.to in
    let d = nobody c.id_of.result in
    let within : i < length rs = omega (arith, c.loop-i-test.true, c.len-i-end.ensures.count) in
    let taken : is_taken above to (get_or rs i d) ≡ c.is_between.result =
    ap (λ (id : RecordId). is_between above to id.cursor) (id_at rs i c.id_of.result d within c.id_of.ensures) ∙ sym c.is_between.ensures in
    elim c.if-is_between.branch [
      | then-is_between+in_ok-push w ↦
          rw w.pairs-is
          (w.in_ok-push.ensures.items ∙ ap (λ (ps : List (ℕ × ℕ)). ps ++ (i, 0) ∷ []) c.loop-i.invariant ∙ sym (places_more above to rs i d true within (taken ∙ w.if-is_between.true)))
      | else-is_between w ↦
          rw w.pairs-is
          (c.loop-i.invariant ∙ sym (append-nil (places_between above to 0 (take i rs))) ∙ sym (places_more above to rs i d false within (taken ∙ w.if-is_between.false)))
    ]
