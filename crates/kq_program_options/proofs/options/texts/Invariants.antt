use Rattle.std.proofs.Common.{◌≡◌, map, take, string_bytes}
use Rattle.std.specs.List.{All}
use Rattle.std.specs.Str.{IsUtf8}
use Rattle.kq_program_options.proofs.options.texts.Given as goal

abbrev pub invariant-loop-word : goal.invariant-loop-word
invariant-loop-word l = record {
  texts : map (λ t. t.now) l.texts.items ≡ map string_bytes (take l.word-index l.words);
  utf8 : All IsUtf8 (map (λ t. t.now) l.texts.items);
}
