use Rattle.std.proofs.Common.{◌≡◌, ◌+◌, ◌≤◌, ◌++◌, ℕ, List, take, false}
use Rattle.kq_script_blocks.specs.Script.{script_blocks}
use Rattle.kq_script_blocks.specs.Open.{IsOpen, open_run, open_line}
use Rattle.kq_script_blocks.proofs.block.OpenBlock.add_all.Given as goal

abbrev pub invariant-loop-i : goal.invariant-loop-i
invariant-loop-i l = record {
  limit : l.self.limit ≡ l.fn.self.limit;
  count : l.self.count ≤ l.fn.self.count + l.i;
  adds : (looked : List ℕ) → IsOpen l.fn.self (open_run looked) (open_line looked)
      → IsOpen l.self (open_run (looked ++ take l.i l.bytes)) (open_line (looked ++ take l.i l.bytes))
      × (script_blocks l.fn.self.limit (looked ++ take l.i l.bytes) false ≡ script_blocks l.fn.self.limit looked false);
}
