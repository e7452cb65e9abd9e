use Rattle.std.proofs.Common.{Bor, List, ℕ, map, subst}
use Rattle.std.specs.List.Sorted.{IsPermutation}
use Rattle.std.specs.Ordering.{nat_cmp}
use Rattle.std.specs.Cmp.Lexicographic.{slice_cmp}
use Rattle.std.proofs.lemmas.List.Sorted.{IsPermutation-map}
use Rattle.kq_reply.proofs.Arranged.{IsSorted-map}
use Rattle.kq_reply.proofs.lines.sorted.Goals as goal

abbrev shown : Bor (List ℕ) → List ℕ
shown line = line.now

pub returns : goal.returns
returns c =
    let moved = IsPermutation-map shown _ c.sort_unstable.new.self.items c.sort_unstable.ensures.permutation in
    (subst (λ (lines : List (List ℕ)). IsPermutation lines (map shown c.sort_unstable.new.self.items)) c.in_ok-lines.ensures moved, IsSorted-map shown (slice_cmp nat_cmp) c.sort_unstable.new.self.items c.sort_unstable.ensures.sorted)
