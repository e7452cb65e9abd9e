use Rattle.std.proofs.Common.{◌≡◌, ◌∙◌, take, ap, arith}
use Rattle.std.proofs.lemmas.List.{take_all}
use Rattle.kq_value.specs.Seen.{trees_of}
use Rattle.kq_engine_show.specs.ExtentRows.{strings}
use Rattle.kq_engine_show.proofs.ExtentLemmas.{texts-flat, trees_of-texts}
use Rattle.kq_engine_show.proofs.extents.tags_cell.Goals as goal

pub from_vec-requires : goal.from_vec-requires
from_vec-requires c = texts-flat (take c.loop-text.text-index c.as_slice-texts.result.now) c.loop-text.items.items c.loop-text.invariant

pub returns : goal.returns
returns c =
    let texts = c.as_slice-texts.result.now in
    let i = c.loop-text.text-index in
    let all = take_all i texts (omega (arith, c.loop-text-test.false)) in
    let same : c.from_vec.result ≡ strings c.args.tags.now =
    c.from_vec.ensures ∙ ap trees_of c.loop-text.invariant ∙ trees_of-texts (take i texts) ∙ ap strings (all ∙ c.as_slice-texts.ensures) in
    rw same at c.dynamic.ensures
