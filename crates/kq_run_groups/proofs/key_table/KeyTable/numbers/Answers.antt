use Rattle.std.proofs.Common.{◌≡◌, ◌+◌, ◌++◌, ◌∷◌, [], List, length, take, ap, sym, ◌∙◌, rules}
use Rattle.std.proofs.lemmas.List.{take_more}
use Rattle.std.proofs.lemmas.Option.{get_or_from_slice_get}
use Rattle.kq_value.specs.declared.value.Value.{Value}
use Rattle.kq_run_groups.proofs.Tables.{Numbers-step}
use Rattle.kq_run_groups.proofs.key_table.KeyTable.numbers.Goals as goal

pub loop-i-preserved : goal.loop-i-preserved
loop-i-preserved c =
    let keys = c.args.keys.now in
    let i = c.loop-i.i in
    let row = c.row.result.now in
    let next : take (i + 1) keys ≡ take i keys ++ row ∷ [] = take_more keys i row (search rules) ∙ ap (λ (r : List Value). take i keys ++ r ∷ []) (get_or_from_slice_get keys i row row c.row.ensures) in
    record {
      table = c.in_ok-number.ensures.table;
      width = c.number.ensures.width ∙ c.loop-i.invariant.width;
      numbers = rw (next, c.in_ok-push.ensures.items)
          (Numbers-step c.args.self.now.keys c.loop-i.self.keys c.number.new.self.keys c.loop-i.numbers.items (take i keys) c.in_ok-number.number row c.loop-i.invariant.numbers
          c.in_ok-number.ensures.keys c.in_ok-number.ensures.number.0 c.in_ok-number.ensures.number.1);
    }

pub number-requires-clause-wide : goal.number-requires-clause-wide
number-requires-clause-wide c =
    let keys = c.args.keys.now in
    let i = c.loop-i.i in
    let row = c.row.result.now in
    sym (ap length (get_or_from_slice_get keys i row row c.row.ensures)) ∙ c.requires.wide i row (search rules) ∙ sym c.loop-i.invariant.width
