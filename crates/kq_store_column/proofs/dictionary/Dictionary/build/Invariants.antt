use Rattle.std.proofs.Common.{◌≡◌, ◌<◌, All, map, take, length}
use Rattle.kq_store_column.specs.Cells.{column_of}
use Rattle.kq_store_column.specs.Words.{word_at}
use Rattle.kq_store_column.proofs.dictionary.Dictionary.build.Given as goal

-- the codes of the rows so far
abbrev pub invariant-loop-i : goal.invariant-loop-i
invariant-loop-i l =
    record {
      known : All (λ code. code < length l.words.items) l.codes.items;
      cells : map (word_at l.words.items) l.codes.items ≡ take l.i (column_of l.column l.rows);
    }
