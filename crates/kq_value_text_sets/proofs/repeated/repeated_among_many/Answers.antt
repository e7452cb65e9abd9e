use Rattle.std.proofs.Common.{◌≡◌, ◌<◌, ◌∙◌, true, false, length, map, ap, sym, take, arith}
use Rattle.kq_value_text_sets.specs.Names.{is_among}
use Rattle.kq_value_text_sets.proofs.Repeats.{HasFirst-next, has, held, new, repeat-found, repeat-more}
use Rattle.kq_value_text_sets.proofs.repeated.repeated_among_many.Goals as goal

pub returns-then-not-branch : goal.returns-then-not-branch
returns-then-not-branch g c =
    let name_of = g.T.Named.name_of in
    let items = c.args.items.now in
    let x = c.index-items-i.result in
    let within : c.loop-i.i < length items = omega arith in
    let named : c.as_str.result.now ≡ name_of x = c.as_str.ensures ∙ c.name.ensures in
    let not_added : c.in_ok-insert.field-0 ≡ false = grind arith in
    let known : has c.loop-i.seen c.as_str.result.now ≡ true = held c.in_ok-insert.field-0 _ c.in_ok-insert.ensures.added not_added in
    let found : is_among (name_of x) (map name_of (take c.loop-i.i items)) ≡ true = sym (c.loop-i.invariant.1 (name_of x)) ∙ ap (has c.loop-i.seen) (sym named) ∙ known in
    sym (repeat-found name_of items c.loop-i.i x within c.index-items-i.is found) ∙ c.loop-i.invariant.0

pub loop-i-preserved : goal.loop-i-preserved
loop-i-preserved g c =
    let name_of = g.T.Named.name_of in
    let items = c.args.items.now in
    let x = c.index-items-i.result in
    let within : c.loop-i.i < length items = omega arith in
    let named : c.as_str.result.now ≡ name_of x = c.as_str.ensures ∙ c.name.ensures in
    let added : c.in_ok-insert.field-0 ≡ true = grind arith in
    let unknown : has c.loop-i.seen c.as_str.result.now ≡ false = new c.in_ok-insert.field-0 _ c.in_ok-insert.ensures.added added in
    let fresh : is_among (name_of x) (map name_of (take c.loop-i.i items)) ≡ false = sym (c.loop-i.invariant.1 (name_of x)) ∙ ap (has c.loop-i.seen) (sym named) ∙ unknown in (
      sym (repeat-more name_of items c.loop-i.i x within c.index-items-i.is fresh) ∙ c.loop-i.invariant.0,
      HasFirst-next name_of c.loop-i.seen c.insert.new.self items c.loop-i.i x within c.index-items-i.is c.as_str.result named c.loop-i.invariant.1 c.in_ok-insert.ensures.updates,
    )
