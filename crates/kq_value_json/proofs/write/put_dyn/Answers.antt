use Rattle.std.proofs.Common.{◌≡◌, Some, Result, Ok, Err, sym, ap, ◌∙◌, false}
use Rattle.std.specs.Prelude.{OnOk}
use Rattle.std.specs.Option.{option_and_then}
use Rattle.serde_json.specs.Read.{read}
use Rattle.serde_json.specs.View.{view}
use Rattle.serde_json.specs.Written.{compact_text, has_float}
use Rattle.kq_value.specs.Seen.{tree_of}
use Rattle.kq_value_formats.specs.Json.{json_of, dynamic_text, tree_from, data_from}
use Rattle.kq_value_formats.proofs.JsonLemmas.{has_float-data_from}
use Rattle.kq_value_json.proofs.write.put_dyn.Goals as goal

OnOk-always : {A E : Type 0} {P : Type 0} (r : Result A E) → P → OnOk r P
OnOk-always (Ok a) p = p
OnOk-always (Err e) p = tt

pub returns-clause-ok : goal.returns-clause-ok
unfolding dynamic_text
returns-clause-ok c =
    let d = c.in_ok-json.ensures.json in
    let whole : has_float (view c.in_ok-json.json) ≡ false = ap has_float d ∙ has_float-data_from (tree_of c.args.value.now) in
    let text : c.in_ok-text.text.items ≡ compact_text (data_from (tree_of c.args.value.now)) = c.in_ok-text.ensures.text whole ∙ ap compact_text d in
    rw (← text, ← c.as_slice.ensures.value) c.extend.ensures.ok

pub returns-clause-reads_back : goal.returns-clause-reads_back
unfolding dynamic_text json_of
returns-clause-reads_back c =
    let d = c.in_ok-json.ensures.json in
    let whole : has_float (view c.in_ok-json.json) ≡ false = ap has_float d ∙ has_float-data_from (tree_of c.args.value.now) in
    let text : c.in_ok-text.text.items ≡ compact_text (data_from (tree_of c.args.value.now)) = c.in_ok-text.ensures.text whole ∙ ap compact_text d in
    let back : read (compact_text (data_from (tree_of c.args.value.now))) ≡ Some (data_from (tree_of c.args.value.now)) = ap read (sym text) ∙ c.in_ok-text.ensures.reads_back c.in_ok-json.ensures.shallow ∙ ap Some d in
    let whole_back : option_and_then tree_from (read (compact_text (data_from (tree_of c.args.value.now)))) ≡ Some (tree_of c.args.value.now) = rw back c.in_ok-json.ensures.back in
    OnOk-always c.extend.result whole_back
