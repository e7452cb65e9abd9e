use Rattle.std.proofs.Common.{◌≡◌, ◌==◌, ◌≤◌, ◌∷◌, ◌++◌, get_or, length, drop, true, sym, ap, ◌∙◌, arith, rules}
use Rattle.std.proofs.lemmas.Bool.Decides.{nat_tests}
use Rattle.std.proofs.lemmas.List.{take_rest}
use Rattle.kq_view_body.specs.Said.{bytes_ahead}
use Rattle.kq_view_body.proofs.Escapes.{character_at, character_closed, character_text}
use Rattle.kq_view_body.proofs.said.escaped.Goals as goal
use Rattle.kq_read_literals.proofs.StringLemmas.{escape_long}
use Rattle.kq_read_literals.specs.Strings.{unescaped}

pub slice_bounds-character_of-end : goal.slice_bounds-character_of-end
slice_bounds-character_of-end c =
    let u : (get_or c.args.behind.now 0 0 == 117) ≡ true = grind (arith, nat_tests, c.if-behind-eq117.true) in
    let long : 5 ≤ length c.args.behind.now = escape_long c.args.quote c.args.behind.now c.requires u in
    search rules

pub character_of-byte-requires-clause-digits : goal.character_of-byte-requires-clause-digits
character_of-byte-requires-clause-digits c =
    let u : (get_or c.args.behind.now 0 0 == 117) ≡ true = grind (arith, nat_tests, c.if-behind-eq117.true) in
    (character_at c.args.quote c.args.behind.now c.requires u).numeral

pub character_of-byte-requires-clause-scalar : goal.character_of-byte-requires-clause-scalar
character_of-byte-requires-clause-scalar c =
    let u : (get_or c.args.behind.now 0 0 == 117) ≡ true = grind (arith, nat_tests, c.if-behind-eq117.true) in
    (character_at c.args.quote c.args.behind.now c.requires u).scalar

pub quoted-requires : goal.quoted-requires
quoted-requires c =
    let u : (get_or c.args.behind.now 0 0 == 117) ≡ true = grind (arith, nat_tests, c.if-behind-eq117.true) in
    rw (take_rest c.args.behind.now 5) (character_closed c.args.quote c.args.behind.now c.requires u)

pub returns-then-behind-eq117 : goal.returns-then-behind-eq117
returns-then-behind-eq117 c =
    let bs = c.args.behind.now in
    let quote = c.args.quote in
    let first = c.character_of-byte.result.0 in
    let ahead = bytes_ahead c.character_of-byte.result.1 in
    let u : (get_or bs 0 0 == 117) ≡ true = grind (arith, nat_tests, c.if-behind-eq117.true) in (
      character_text quote bs c.requires u
          ∙ ap (λ l. l ++ unescaped quote 0 (drop 5 bs)) c.character_of-byte.ensures
          ∙ ap (λ l. first ∷ (ahead ++ unescaped quote 0 l)) (sym (take_rest bs 5))
          ∙ ap (λ l. first ∷ l) (sym c.quoted.ensures.content),
      c.quoted.ensures.readable,
    )
