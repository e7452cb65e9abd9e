use Rattle.std.proofs.Common.{◌≡◌, ◌<◌, All, get_or, length, map, take}
use Rattle.kq_store_column.proofs.dictionary.renamed.Given as goal

-- the codes so far
abbrev pub invariant-loop-code : goal.invariant-loop-code
invariant-loop-code l =
    record {
      known : All (λ c. c < length l.new) (take l.code-index l.old);
      codes : l.codes.items ≡ map (λ c. get_or l.new c 0) (take l.code-index l.old);
    }
