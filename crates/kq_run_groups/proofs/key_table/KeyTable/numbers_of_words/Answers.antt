use Rattle.std.proofs.Common.{◌<◌, ◌∙◌, length, get_or, map, take, refl, subst, arith, rules}
use Rattle.std.proofs.lemmas.List.{length-map, take_all}
use Rattle.kq_run_aggregates.specs.Alone.{alone, each_alone}
use Rattle.kq_store_column_view.specs.Vectors.{cell_of}
use Rattle.kq_run_groups.specs.Keys.{Numbers}
use Rattle.kq_run_groups.proofs.ColumnKeys.{Numbers-none, known_none, take_words}
use Rattle.kq_run_groups.proofs.Tables.{Numbers-step}
use Rattle.kq_run_groups.proofs.key_table.KeyTable.numbers_of_words.Goals as goal

pub loop-i-preserved : goal.loop-i-preserved
loop-i-preserved c =
    let words = c.args.words.now in
    let codes = c.args.codes.now in
    let i = c.loop-i.i in
    let h : i < length codes = omega arith in
    let rows = each_alone (map (cell_of words) codes) in
    record {
      table = c.in_ok-number.ensures.table;
      width = c.number_of_code.ensures.width ∙ c.loop-i.invariant.width;
      numbers = rw (take_words words codes i h, c.in_ok-push.ensures.items)
          (Numbers-step c.args.self.now.keys c.loop-i.self.keys c.number_of_code.new.self.keys c.loop-i.numbers.items (take i rows) c.in_ok-number.number (alone (cell_of words (get_or codes i 0))) c.loop-i.invariant.numbers
          c.in_ok-number.ensures.keys c.in_ok-number.ensures.number.0 c.in_ok-number.ensures.number.1);
      known = c.in_ok-number.ensures.known;
    }

pub loop-i-init : goal.loop-i-init
loop-i-init c =
    let keys = c.args.self.now.keys in
    let words = c.args.words.now in
    let known = c.in_ok-known.ensures.items_if_clones_equal (λ y same. search rules) in
    record {
      table = c.requires.table;
      width = refl;
      numbers = rw c.in_ok-numbers.ensures.items (Numbers-none keys c.requires.table.apart);
      known = rw known (known_none keys words (length words));
    }

pub returns-clause-numbers : goal.returns-clause-numbers
returns-clause-numbers c =
    let cells = map (cell_of c.args.words.now) c.args.codes.now in
    subst (Numbers c.args.self.now.keys c.loop-i.self.keys c.loop-i.numbers.items) (take_all c.loop-i.i (each_alone cells) (omega (arith, length-map cells alone, length-map c.args.codes.now (cell_of c.args.words.now)))) c.loop-i.invariant.numbers
