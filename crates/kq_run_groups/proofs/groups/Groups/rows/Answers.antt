use Rattle.std.proofs.Common.{◌≡◌, ◌<◌, ◌+◌, ◌++◌, List, length, drop, sym, ap, ◌∙◌, subst, rules, Err}
use Rattle.std.specs.List.{All}
use Rattle.std.proofs.lemmas.Result.{err_from_is_err_and}
use Rattle.std.proofs.lemmas.List.Elements.{All-push}
use Rattle.kq_value.specs.Computed.{AnswersAs, Is, and_then}
use Rattle.kq_store_rows.specs.Chunks.{HasWidth, row_at}
use Rattle.kq_value.specs.declared.value.Value.{Value}
use Rattle.kq_run_groups.specs.Groups.{Grouping, cells_from}
use Rattle.kq_run_groups.proofs.Finishing.{columns_of, row_after, row_length, rows_after, rows_more, fault_rows}
use Rattle.kq_run_groups.proofs.groups.Groups.rows.Goals as goal

pub returns-in_err-put_row : goal.returns-in_err-put_row
returns-in_err-put_row c =
    let g = c.args.self.now in
    let i = c.loop-group.group in
    let out = c.put_row.new.out.items in
    let within : i < length g.keys = search rules in
    let p = err_from_is_err_and c.from_residual.result c.from_residual.ensures.1 in
    let lost = fault_rows g i c.loop-group.rows out c.in_err-put_row.field-0.0 c.loop-group.invariant.whole within
    (subst (λ (b : List Value). AnswersAs {A = Unit {0}} (λ done. out) (and_then (cells_from g.states i) (λ cells. Is (b ++ row_at g.keys i ++ cells))) (Err c.in_err-put_row.field-0.0)) c.loop-group.invariant.empty c.in_err-put_row.ensures) in
    rw (p.1, p.2) lost

pub push_from-requires : goal.push_from-requires
push_from-requires c =
    let g = c.args.self.now in
    let i = c.loop-group.group in
    let out = c.put_row.new.out.items in
    let within : i < length g.keys = search rules in
    let wide : All (HasWidth g.width) g.keys = subst (λ (those : Grouping). All (HasWidth those.width) those.keys) c.self.view_is c.self.invariant.wide in
    let made : row_after g i ≡ Is out =
    subst (λ (b : List Value). and_then (cells_from g.states i) (λ cells. Is (b ++ row_at g.keys i ++ cells)) ≡ Is out) c.loop-group.invariant.empty c.in_ok-put_row.ensures in
    λ k d h. c.loop-group.invariant.wide k d h ∙ sym (row_length g i out wide c.requires.whole c.requires.wide within made)

pub loop-group-preserved : goal.loop-group-preserved
loop-group-preserved c =
    let g = c.args.self.now in
    let i = c.loop-group.group in
    let out = c.put_row.new.out.items in
    let within : i < length g.keys = search rules in
    let wide : All (HasWidth g.width) g.keys = subst (λ (those : Grouping). All (HasWidth those.width) those.keys) c.self.view_is c.self.invariant.wide in
    let made : row_after g i ≡ Is out =
    subst (λ (b : List Value). and_then (cells_from g.states i) (λ cells. Is (b ++ row_at g.keys i ++ cells)) ≡ Is out) c.loop-group.invariant.empty c.in_ok-put_row.ensures in
    let long = row_length g i out wide c.requires.whole c.requires.wide within made in
    let rows = c.loop-group.rows in
    record {
      whole = c.loop-group.invariant.whole ∙ rows_more g.states g.keys i rows out within made ∙ ap (rows_after g.states (drop (i + 1) g.keys) (i + 1)) (sym c.in_ok-push_from.ensures.ok);
      wide = subst (All (HasWidth (g.width + columns_of g.states))) (sym c.in_ok-push_from.ensures.ok) (All-push (HasWidth (g.width + columns_of g.states)) rows out c.loop-group.invariant.wide long);
      empty = c.in_ok-push_from.ensures.left;
    }
