use Rattle.std.proofs.Common.{◌≡◌, List, [], ◌∷◌, ◌++◌, ap, sym, ◌∙◌, subst, arith, All, length, take}
use Rattle.std.proofs.lemmas.List.{take_all}
use Rattle.kq_store_column.specs.Growing.{Grown}
use Rattle.kq_store_extent.specs.Coming.{cells_grown, types_grown}
use Rattle.kq_store_extent.proofs.Coming.{begun_all, begun_more, types-begun_all, whole_none}
use Rattle.kq_store_extent.proofs.columns_builder.ColumnsBuilder.new.Goals as goal

pub loop-field-preserved : goal.loop-field-preserved
loop-field-preserved c =
    c.in_ok-push.ensures.items ∙ (λ t. c.loop-field.invariant t ++ c.in_ok-new.ensures t ∷ []) ∙ sym (begun_more c.as_slice-fields.result.now c.loop-field.field-index c.field-item.result (omega arith) c.field-item.is)

pub invariant_of-result : goal.invariant_of-result
invariant_of-result c = record {
  long = subst (λ (gs : List Grown). All (λ cs. length cs ≡ 0) (cells_grown gs)) (sym c.loop-field.invariant) (whole_none (take c.loop-field.field-index c.as_slice-fields.result.now));
  small = omega arith;
}

pub returns : goal.returns
returns c =
    let all : take c.loop-field.field-index c.as_slice-fields.result.now ≡ c.args.schema.now = take_all c.loop-field.field-index c.as_slice-fields.result.now (omega arith) ∙ c.as_slice-fields.ensures in
    λ t. record { types = (ap types_grown (c.loop-field.invariant ∙ ap begun_all all) ∙ types-begun_all c.args.schema.now) t; rows = [] }
