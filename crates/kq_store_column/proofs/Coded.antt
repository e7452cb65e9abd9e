-- One code more.
use Rattle.std.proofs.Common.{◌≡◌, ◌<◌, ◌≤◌, ◌+◌, ℕ, List, [], ◌∷◌, ◌++◌, Some, All, length, map, take, refl, sym, ap, ◌∙◌, arith, slice_get}
use Rattle.std.proofs.lemmas.List.{map_push, get_or-take, length-take}
use Rattle.std.proofs.lemmas.List.Elements.{All-head, All-tail, All-push, All-weaker}
use Rattle.std.proofs.lemmas.Option.{slice_get_within, get_or_from_slice_get}
use Rattle.kq_value.specs.declared.ty.Ty.TheVariants as ty
use Rattle.kq_value.specs.declared.value.Value.{Value}
use Rattle.kq_value.specs.declared.value.Value.TheVariants.{Null}
use Rattle.kq_store_column.specs.Words.{word_at}
use Rattle.kq_store_column.proofs.Cellwise.{take_got}

same_word : (words more : List Value) (code : ℕ) → take (length words) more ≡ words → code < length words → word_at more code ≡ word_at words code
same_word words more code kept within = sym (get_or-take (length words) more code (Null ty.Long) within) ∙ ap (λ (ws : List Value). word_at ws code) kept

pub same_words : (words more : List Value) (codes : List ℕ) → take (length words) more ≡ words → All (λ code. code < length words) codes → map (word_at more) codes ≡ map (word_at words) codes
same_words words more [] kept known = refl
same_words words more (c ∷ codes) kept known = λ i. same_word words more c kept (All-head (λ code. code < length words) c codes known) i ∷ same_words words more codes kept (All-tail (λ code. code < length words) c codes known) i

-- the cells of the rows so far and of one more
pub coded_more : (words more : List Value) (codes : List ℕ) (code : ℕ) (cells : List Value) (i : ℕ) (v : Value) → take (length words) more ≡ words → All (λ c. c < length words) codes
    → map (word_at words) codes ≡ take i cells → slice_get more code ≡ Some v → slice_get cells i ≡ Some v → map (word_at more) (codes ++ code ∷ []) ≡ take (i + 1) cells
coded_more words more codes code cells i v kept known so_far got there =
    map_push (word_at more) codes code ∙ (λ j. (same_words words more codes kept known ∙ so_far) j ++ get_or_from_slice_get more code v (Null ty.Long) got j ∷ []) ∙ sym (take_got cells i v there)

pub known_more : (words more : List Value) (codes : List ℕ) (code : ℕ) (v : Value) → take (length words) more ≡ words → All (λ c. c < length words) codes → slice_get more code ≡ Some v
    → All (λ c. c < length more) (codes ++ code ∷ [])
known_more words more codes code v kept known got =
    let longer : length words ≤ length more = omega (arith, length-take (length words) more, ap length kept) in
    All-push (λ c. c < length more) codes code (All-weaker (λ c. c < length words) (λ c. c < length more) (λ c h. omega arith) codes known) (slice_get_within more code v got)
