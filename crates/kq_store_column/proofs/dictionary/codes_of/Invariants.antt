use Rattle.std.proofs.Common.{◌≡◌, length, take}
use Rattle.kq_store_column.specs.Built.{AreCoded}
use Rattle.kq_store_column.proofs.dictionary.codes_of.Given as goal

-- the cells so far, and no word was taken away
abbrev pub invariant-loop-i : goal.invariant-loop-i
invariant-loop-i l =
    record {
      coded : AreCoded l.words.items l.codes.items (take l.i l.cells);
      kept : take (length l.fn.words.items) l.words.items ≡ l.fn.words.items;
    }
