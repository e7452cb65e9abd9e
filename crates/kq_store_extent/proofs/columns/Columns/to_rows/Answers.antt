use Rattle.std.proofs.Common.{◌++◌, List, sym, subst, ◌∙◌}
use Rattle.kq_value.specs.declared.value.Value.{Value}
use Rattle.kq_store_rows.specs.Chunks.{same_width}
use Rattle.kq_store_extent.proofs.Across.{map-widened_none}
use Rattle.kq_store_extent.proofs.columns.Columns.to_rows.Goals as goal

pub push_rows-requires : goal.push_rows-requires
push_rows-requires c = rw c.new-rows.ensures (subst (λ (rs : List (List Value)). same_width rs) (sym (map-widened_none c.args.self.now)) c.requires)

pub returns : goal.returns
returns c = c.in_ok-push_rows.ensures.ok ∙ (λ t. c.new-rows.ensures t ++ map-widened_none c.args.self.now t)
