use Rattle.std.proofs.Common.{rules, arith, ◌≡◌, ◌≤◌, ◌++◌, ◌==◌, ◌||◌, length, take, drop, ap, sym, ◌∙◌, length-append, length-drop}
use Rattle.std.proofs.lemmas.List.{length-take-le, nil_from_length}
use Rattle.kq_world.proofs.Handed.{front_handed, taken_handed, left_handed, rest_is}
use Rattle.kq_script_generated.proofs.Reading.{met-end}
use Rattle.kq_script_generated.proofs.source.ScriptSourceSource.read.Goals as goal
use Rattle.kq_script_generated.proofs.source.ScriptSourceSource.read.Goals.{then-self, else-self}

pub returns-clause-takes : goal.returns-clause-takes
returns-clause-takes c =
    let at = c.self.inside.at in
    let text = c.self.inside.text in
    let slice = c.as_slice.result.now in
    let n = c.min-n.result in
    let buf = c.args.buf.now in
    let front = c.copy_from_slice.new.self in
    let rest = rest_is text slice at c.as_slice.ensures in
    let rest_len = ap length rest in
    let few : n ≤ length buf = omega arith in
    let within : n ≤ length (drop at text) = omega (arith, rest_len) in
    let is : front ≡ take n (drop at text) = c.copy_from_slice.ensures.after ∙ ap (take n) rest in
    let front_len : length front ≡ n = ap length is ∙ length-take-le n (drop at text) within in
    let given = front_handed text front (drop n buf) at n is front_len in
    let met : c.if-self.self ≡ (c.self.inside.ended || (n == 0)) = elim c.if-self.branch [ then-self w ↦ search rules | else-self w ↦ search rules ] in
    rw (sym c.self.view_is) (record {
      within = omega (arith, length-append front (drop n buf), front_len);
      gives = record {
        taken = taken_handed text (take n (front ++ drop n buf)) at n given;
        left = left_handed text (take n (front ++ drop n buf)) at n given;
      };
      ended = met-end c.self.inside.ended c.if-self.self at n (length text) c.self.invariant.1 (omega (arith, rest_len, length-drop at text)) (λ none. omega (arith, rest_len, length-drop at text, none, c.self.invariant.0)) met;
      at_end = λ none. nil_from_length (drop at text) (omega (arith, rest_len, none, c.self.invariant));
    })
