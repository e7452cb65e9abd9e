use Rattle.std.proofs.Common.{◌≡◌, ◌++◌, ◌+◌, true, drop}
use Rattle.kq_read_tokens.specs.declared.delimited.Within.TheVariants.{Quoted}
use Rattle.kq_read_tokens.specs.Delimited.{closes, step}
use Rattle.kq_read_literals.specs.Strings.{unescaped}
use Rattle.kq_read_literals.proofs.strings.unescape.Given as goal

-- the text so far and that of what is left, which a quote closes
abbrev pub invariant-loop-i : goal.invariant-loop-i
invariant-loop-i l = record {
  text : l.text.items ++ unescaped l.quote l.passed (drop l.i l.bytes) ≡ unescaped l.quote 0 l.bytes;
  closed : closes step (Quoted l.quote) (drop (l.i + l.passed) l.bytes) ≡ true;
}
