use Rattle.std.proofs.Common.{◌≡◌, string_bytes, ap, ◌∙◌, false}
use Rattle.serde_json.specs.View.{view}
use Rattle.serde_json.specs.Written.{compact_text, has_float}
use Rattle.std.proofs.lemmas.Result.{IfOk-weaker}
use Rattle.kq_value.specs.Seen.{tree_of}
use Rattle.kq_value_formats.specs.Json.{dynamic_text, data_from}
use Rattle.kq_value_formats.proofs.JsonLemmas.{has_float-data_from}
use Rattle.kq_value_json.proofs.write.dyn_text.Goals as goal

pub returns : goal.returns
unfolding dynamic_text
returns c =
    let d = c.in_ok-json.ensures.json in
    let whole : has_float (view c.in_ok-json.json) ≡ false = ap has_float d ∙ has_float-data_from (tree_of c.args.value.now) in
    IfOk-weaker c.to_string.result
    (λ s. has_float (view c.in_ok-json.json) ≡ false → string_bytes s ≡ compact_text (view c.in_ok-json.json))
    (λ s. string_bytes s ≡ compact_text (data_from (tree_of c.args.value.now)))
    (λ s h. h whole ∙ ap compact_text d) c.to_string.ensures.text
