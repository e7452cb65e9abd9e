-- The test of columns decides whether they are the same.
use Rattle.std.proofs.Common.{sym, ◌∙◌}
use Rattle.kq_policy_entries.proofs.columns.has_columns.Goals as goal
use Rattle.kq_value.proofs.Fields.{same_fields-Decides}

pub returns : goal.returns
returns c =
    let decides = same_fields-Decides c.columns_given.result.now c.args.columns.now in
    (λ same. sym c.columns_given.ensures ∙ decides.0 (sym c.are_same.ensures ∙ same), λ are. c.are_same.ensures ∙ decides.1 (c.columns_given.ensures ∙ are))
