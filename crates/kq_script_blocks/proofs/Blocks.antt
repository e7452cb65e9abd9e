-- The block of a run of lines, from the run's text.
use Rattle.std.proofs.Common.{◌≡◌, ℕ, ◌+◌, ◌-◌, ◌<◌, ◌≤◌, ◌&&◌, Bool, true, false, List, [], ◌∷◌, ◌++◌, length, take, nat_lt, if◌then◌else◌, refl, sym, ap, ◌∙◌, subst, arith, append-nil, append_assoc, length-append}
use Rattle.std.specs.List.{flat_map, join_with_byte, list_all}
use Rattle.std.proofs.lemmas.List.Concat.{flat_map-append}
use Rattle.std.proofs.lemmas.List.Folds.{list_all-append}
use Rattle.kq_script_blocks.specs.Line.{shows_blank, shows_comment}
use Rattle.kq_script_blocks.proofs.Lines.{shows_blank-shown, shows_comment-shown}
use Rattle.std.proofs.lemmas.List.{take_at, take_all, take-append-le, take-take, length-take, length_push}
use Rattle.std.proofs.lemmas.Bool.{le-leb}
use Rattle.std.proofs.lemmas.Bool.Decides.{nat_tests}
use Rattle.kq_script_blocks.specs.Script.{command, too_long, block_of, is_comment, is_blank}
use Rattle.kq_script_blocks.specs.Open.{text_of, IsOpen}
use Rattle.kq_script_blocks.specs.declared.line.Line.TheVariants.{Spaces}
use Rattle.kq_script_blocks.specs.declared.block.OpenBlock.{OpenBlock}

-- the text of whole lines is their block and an LF
pub text_of-join : (l : List ℕ) (ls : List (List ℕ)) → text_of (l ∷ ls) [] ≡ join_with_byte 10 (l ∷ ls) ++ 10 ∷ []
text_of-join l [] = simp append-nil
text_of-join l (k ∷ ls) =
    let rest = flat_map (λ (m : List ℕ). m ++ 10 ∷ []) (k ∷ ls) in
    append_assoc (l ++ 10 ∷ []) rest [] ∙ append_assoc l (10 ∷ []) (rest ++ []) ∙ ap (λ t. l ++ 10 ∷ t) (text_of-join k ls) ∙ sym (append_assoc l (10 ∷ join_with_byte 10 (k ∷ ls)) (10 ∷ []))

-- with a line after them
pub text_of-front : (run : List (List ℕ)) (line : List ℕ) → text_of run line ≡ text_of run [] ++ line
text_of-front run line = ap (λ l. l ++ line) (sym (append-nil (flat_map (λ l. l ++ 10 ∷ []) run)))

pub block_of-long : (limit : ℕ) (l : List ℕ) (ls : List (List ℕ)) → limit < length (join_with_byte 10 (l ∷ ls)) → block_of limit (l ∷ ls) ≡ too_long (length (join_with_byte 10 (l ∷ ls))) ∷ []
block_of-long limit l ls h = grind (arith, nat_tests)

pub block_of-comment : (limit : ℕ) (l : List ℕ) (ls : List (List ℕ)) → length (join_with_byte 10 (l ∷ ls)) ≤ limit → list_all is_comment (l ∷ ls) ≡ true → block_of limit (l ∷ ls) ≡ []
block_of-comment limit l ls h e = rw (le-leb (length (join_with_byte 10 (l ∷ ls))) limit h, e)

pub block_of-command : (limit : ℕ) (l : List ℕ) (ls : List (List ℕ)) → length (join_with_byte 10 (l ∷ ls)) ≤ limit → list_all is_comment (l ∷ ls) ≡ false → block_of limit (l ∷ ls) ≡ command (join_with_byte 10 (l ∷ ls)) ∷ []
block_of-command limit l ls h e = rw (le-leb (length (join_with_byte 10 (l ∷ ls))) limit h, e)

pub length-join : (n : ℕ) (l : List ℕ) (ls : List (List ℕ)) → n + 1 ≡ length (text_of (l ∷ ls) []) → length (join_with_byte 10 (l ∷ ls)) ≡ n
length-join n l ls e = let f = ap length (text_of-join l ls) in omega (arith, length-append (join_with_byte 10 (l ∷ ls)) (10 ∷ []))

-- what stands of the text up to the last LF of the whole lines
pub take-text_of : (limit n : ℕ) (l : List ℕ) (ls : List (List ℕ)) (line : List ℕ) → n + 1 ≡ length (text_of (l ∷ ls) []) → n ≤ limit → take n (take limit (text_of (l ∷ ls) line)) ≡ join_with_byte 10 (l ∷ ls)
take-text_of limit n l ls line e h =
    let join = join_with_byte 10 (l ∷ ls) in
    let text : text_of (l ∷ ls) line ≡ join ++ (10 ∷ line) = text_of-front (l ∷ ls) line ∙ ap (λ t. t ++ line) (text_of-join l ls) ∙ append_assoc join (10 ∷ []) line in
    take-take n limit (text_of (l ∷ ls) line) h ∙ ap (take n) text ∙ take_at join (10 ∷ line) n (length-join n l ls e)

-- what the open block says of its whole lines, where there are any
pub open_long : (b : OpenBlock) (run : List (List ℕ)) (line : List ℕ) → IsOpen b run line → (b.start ≡ 0 → ⊥) → b.limit < b.start - 1 → block_of b.limit run ≡ too_long (b.start - 1) ∷ []
open_long b [] line h some long = absurd (some h.started)
open_long b (l ∷ ls) line h some long =
    let e = length-join (b.start - 1) l ls (omega (arith, h.started)) in
    subst (λ n. block_of b.limit (l ∷ ls) ≡ too_long n ∷ []) e (block_of-long b.limit l ls (omega arith))

pub open_comment : (b : OpenBlock) (run : List (List ℕ)) (line : List ℕ) → IsOpen b run line → (b.start ≡ 0 → ⊥) → b.start - 1 ≤ b.limit → b.comment ≡ true → block_of b.limit run ≡ []
open_comment b [] line h some fits comment = refl
open_comment b (l ∷ ls) line h some fits comment =
    let e = length-join (b.start - 1) l ls (omega (arith, h.started)) in
    block_of-comment b.limit l ls (omega arith) (sym h.comment ∙ comment)

pub open_command : (b : OpenBlock) (run : List (List ℕ)) (line : List ℕ) → IsOpen b run line → (b.start ≡ 0 → ⊥) → b.start - 1 ≤ b.limit → b.comment ≡ false → (length (join_with_byte 10 run) ≤ b.limit) × (block_of b.limit run ≡ command (join_with_byte 10 run) ∷ [])
open_command b [] line h some fits comment = absurd (some h.started)
open_command b (l ∷ ls) line h some fits comment =
    let e = length-join (b.start - 1) l ls (omega (arith, h.started)) in
    (omega arith, block_of-command b.limit l ls (omega arith) (sym h.comment ∙ comment))

pub open_kept : (b : OpenBlock) (run : List (List ℕ)) (line : List ℕ) → IsOpen b run line → (b.start ≡ 0 → ⊥) → b.start - 1 ≤ b.limit → b.lost ≡ false → take (b.start - 1) b.kept.items ≡ join_with_byte 10 run
open_kept b [] line h some fits kept = absurd (some h.started)
open_kept b (l ∷ ls) line h some fits kept =
    ap (take (b.start - 1)) (h.kept kept) ∙ take-text_of b.limit (b.start - 1) l ls line (omega (arith, h.started)) fits

-- a line ends
pub text_of-push : (run : List (List ℕ)) (line : List ℕ) → text_of (run ++ line ∷ []) [] ≡ text_of run line ++ 10 ∷ []
text_of-push run line =
    let ended : List ℕ → List ℕ = λ l. l ++ 10 ∷ [] in
    append-nil (flat_map ended (run ++ line ∷ [])) ∙ flat_map-append ended run (line ∷ []) ∙ ap (λ t. flat_map ended run ++ t) (append-nil (line ++ 10 ∷ [])) ∙ sym (append_assoc (flat_map ended run) line (10 ∷ []))

-- one byte more, of which the first `limit` are kept
pub take-push : (limit : ℕ) (text : List ℕ) (b : ℕ) → take limit (text ++ b ∷ []) ≡ (if nat_lt (length (take limit text)) limit then (take limit text ++ b ∷ []) else take limit text)
take-push limit text b = grind (arith, nat_tests, take_all {A = ℕ}, take-append-le {A = ℕ}, length-take {A = ℕ}, length_push {X = ℕ})

pub shows_blank-open : (b : OpenBlock) (run : List (List ℕ)) (line : List ℕ) → IsOpen b run line → shows_blank b.line ≡ is_blank line
shows_blank-open b run line h = ap shows_blank h.line_shown ∙ shows_blank-shown line

and_true : (v : Bool) → (v && true) ≡ v
and_true true = refl
and_true false = refl

pub IsOpen-end : (b n : OpenBlock) (run : List (List ℕ)) (line : List ℕ) → IsOpen b run line → n.limit ≡ b.limit → n.count ≡ b.count + 1 → n.start ≡ n.count → n.comment ≡ (b.comment && shows_comment b.line) → n.line ≡ Spaces
    → (n.lost ≡ false → (b.lost ≡ false) × (n.kept.items ≡ (if nat_lt (length b.kept.items) b.limit then (b.kept.items ++ 10 ∷ []) else b.kept.items))) → IsOpen n (run ++ line ∷ []) []
IsOpen-end b n run line h limit count start comment line_shown kept =
    let text = text_of-push run line in
    let e = ap length text ∙ length_push (text_of run line) 10 in
    let shows : shows_comment b.line ≡ is_comment line = ap shows_comment h.line_shown ∙ shows_comment-shown line in
    record {
      counted = omega (arith, h.counted);
      started = omega (arith, h.counted);
      comment = comment ∙ ap (λ v. v && shows_comment b.line) h.comment ∙ ap (λ v. list_all is_comment run && v) (shows ∙ sym (and_true (is_comment line))) ∙ sym (list_all-append is_comment run (line ∷ []));
      line_shown = line_shown;
      kept = λ l.
          let k = kept l in
          let first = take-push b.limit (text_of run line) 10 in
          k.1 ∙ ap (λ ks. if nat_lt (length ks) b.limit then (ks ++ 10 ∷ []) else ks) (h.kept k.0) ∙ sym first ∙ ap (take b.limit) (sym text) ∙ ap (λ m. take m (text_of (run ++ line ∷ []) [])) (sym limit);
    }
