use Rattle.std.proofs.Common.{◌≡◌, ◌∙◌, ◌∷◌, [], ◌++◌, ap, ap₂, map, sym, subst, string_bytes}
use Rattle.std.specs.List.{All}
use Rattle.std.proofs.lemmas.List.{map-append, take_more}
use Rattle.std.specs.Str.{IsUtf8}
use Rattle.std.proofs.lemmas.List.Elements.{All-push}
use Rattle.kq_program_options.proofs.Lists.{now_of}
use Rattle.kq_program_options.proofs.options.texts.Goals as goal

pub loop-word-preserved : goal.loop-word-preserved
loop-word-preserved c =
    let after : now_of c.push.new.self.items ≡ now_of c.loop-word.texts.items ++ c.as_str.result.now ∷ [] =
    ap now_of c.in_ok-push.ensures.items ∙ map-append _ c.loop-word.texts.items (c.as_str.result ∷ []) in
    record {
      texts = after ∙ ap₂ (λ xs x. xs ++ x ∷ []) c.loop-word.invariant.texts (c.as_str.ensures.value ∙ ap string_bytes c.word-item.is)
          ∙ sym (ap (map string_bytes) (take_more c.args.words.now c.loop-word.word-index c.word-item.result c.loop-word-test.true) ∙ map-append string_bytes _ _);
      utf8 = subst (All IsUtf8) (sym after) (All-push IsUtf8 (now_of c.loop-word.texts.items) c.as_str.result.now c.loop-word.invariant.utf8 c.as_str.utf8);
    }
