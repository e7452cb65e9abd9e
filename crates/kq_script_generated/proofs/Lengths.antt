-- How long the script is.
use Rattle.std.proofs.Common.{◌≡◌, ℕ, zero, suc, ◌+◌, ◌*◌, ◌%◌, ◌==◌, ◌<◌, ◌≤◌, ◌^◌, Bool, true, false, cond, List, [], ◌∷◌, ◌++◌, length, ap, arith, length-append, lit<, lit≤}
use Rattle.std.specs.Prelude.{codes, decimal}
use Rattle.std.proofs.lemmas.Fmt.{length-decimal-le}
use Rattle.std.proofs.lemmas.Grind.{flat_map-append}
use Rattle.std.proofs.lemmas.List.FromFn.{length-map-range_with_len}
use Rattle.itertools.specs.List.{chunks_from}
use Rattle.kq_script_generated.specs.Commands.{batch_commands, batches, commands_from, each_behind, ingestion, row_text, rows_from, script, upkeep}

-- no row is longer than 15 bytes
AreShort : List (List ℕ) → Type 0
AreShort [] = Unit {0}
AreShort (row ∷ rows) = (length row ≤ 15) × AreShort rows

row_short : (i : ℕ) → i < 10000000 → length (row_text i) ≤ 15
row_short i below =
    let key : length (decimal (i % 10)) ≤ 7 = length-decimal-le 7 (i % 10) (lit< tt) (omega arith) (omega arith) in
    let value : length (decimal i) ≤ 7 = length-decimal-le 7 i (lit< tt) below (omega arith) in
    omega (arith, key, value, length-append (decimal (i % 10) ++ codes ",") (decimal i), length-append (decimal (i % 10)) (codes ","))

rows_short : (i count : ℕ) → i + count ≤ 10000000 → AreShort (rows_from i count)
unfolding AreShort
rows_short i zero below = tt
rows_short i (suc count) below = (row_short i (omega arith), rows_short (i + 1) count (omega arith))

AreShort-append : (rows more : List (List ℕ)) → AreShort rows → AreShort more → AreShort (rows ++ more)
unfolding AreShort
AreShort-append [] more short others = others
AreShort-append (row ∷ rows) more short others = (short.0, AreShort-append rows more short.1 others)

-- pieces behind a separator, one after another
length-each_behind-cons : (separator piece : List ℕ) (pieces : List (List ℕ)) → length (each_behind separator (piece ∷ pieces)) ≡ length separator + length piece + length (each_behind separator pieces)
length-each_behind-cons separator piece pieces = omega (arith, length-append (separator ++ piece) (each_behind separator pieces), length-append separator piece)

length-each_behind-append : (separator : List ℕ) (pieces more : List (List ℕ)) → length (each_behind separator (pieces ++ more)) ≡ length (each_behind separator pieces) + length (each_behind separator more)
length-each_behind-append separator pieces more =
    let split = ap length (flat_map-append (λ (piece : List ℕ). separator ++ piece) pieces more) in
    omega (arith, split, length-append (each_behind separator pieces) (each_behind separator more))

lines_short : (rows : List (List ℕ)) → AreShort rows → length (each_behind (codes "\n") rows) ≤ 16 * length rows
unfolding AreShort
lines_short [] short = lit≤ tt
lines_short (row ∷ rows) short = omega (arith, length-each_behind-cons (codes "\n") row rows, short.0, lines_short rows short.1)

ingestion_short : (rows : List (List ℕ)) → AreShort rows → length (ingestion rows) ≤ 30 + 16 * length rows
ingestion_short rows short = omega (arith, length-append (codes ".ingest inline into table G <|") (each_behind (codes "\n") rows), lines_short rows short)

upkeep_short : (b : Bool) → length (each_behind (codes "\n\n") (cond b upkeep [])) ≤ 20
upkeep_short true = lit≤ tt
upkeep_short false = lit≤ tt

batch_short : (number : ℕ) (rows : List (List ℕ)) → AreShort rows → length (each_behind (codes "\n\n") (batch_commands (number, rows))) ≤ 52 + 16 * length rows
batch_short number rows short =
    omega (arith, length-each_behind-cons (codes "\n\n") (ingestion rows) (cond (number % 10 == 0) upkeep []), ingestion_short rows short, upkeep_short (number % 10 == 0))

-- the commands of a batch and of those behind it
batches_cons : (number : ℕ) (rows : List (List ℕ)) (more : List (List (List ℕ))) → length (each_behind (codes "\n\n") (commands_from number (rows ∷ more))) ≡ length (each_behind (codes "\n\n") (batch_commands (number, rows))) + length (each_behind (codes "\n\n") (commands_from (number + 1) more))
batches_cons number rows more = length-each_behind-append (codes "\n\n") (batch_commands (number, rows)) (commands_from (number + 1) more)

batches_short : (k number : ℕ) (front rows : List (List ℕ)) → AreShort front → AreShort rows → length (each_behind (codes "\n\n") (commands_from number (chunks_from k front rows))) ≤ 68 * (length front + length rows)
unfolding AreShort
batches_short k number [] [] short others = lit≤ tt
batches_short k number (row ∷ front) [] short others = omega (arith, batches_cons number (row ∷ front) [], batch_short number (row ∷ front) short)
batches_short k number front (row ∷ rows) short others =
    let longer = AreShort-append front (row ∷ []) short (others.0, tt) in
    by_size (length front + 1 == k) longer (batches_short k (number + 1) [] rows tt others.1) (batches_short k number (front ++ row ∷ []) rows longer others.1)
  where
    by_size : (b : Bool) → AreShort (front ++ row ∷ [])
        → length (each_behind (codes "\n\n") (commands_from (number + 1) (chunks_from k [] rows))) ≤ 68 * (length {A = List ℕ} [] + length rows)
        → length (each_behind (codes "\n\n") (commands_from number (chunks_from k (front ++ row ∷ []) rows))) ≤ 68 * (length (front ++ row ∷ []) + length rows)
        → length (each_behind (codes "\n\n") (commands_from number (cond b ((front ++ row ∷ []) ∷ chunks_from k [] rows) (chunks_from k (front ++ row ∷ []) rows)))) ≤ 68 * (length front + length (row ∷ rows))
    by_size true longer next same = omega (arith, batches_cons number (front ++ row ∷ []) (chunks_from k [] rows), batch_short number (front ++ row ∷ []) longer, length-append front (row ∷ []), next)
    by_size false longer next same = omega (arith, length-append front (row ∷ []), same)

-- the script of n rows is shorter than what a session may read
pub length-script : (n : ℕ) → n ≤ 1000000 → length (script n) < 2 ^ 32
unfolding AreShort
length-script n few =
    let middle = commands_from 1 (batches (rows_from 0 n)) in
    let short : length (each_behind (codes "\n\n") middle) ≤ 68 * (0 + length (rows_from 0 n)) = batches_short 1000 1 [] (rows_from 0 n) tt (rows_short 0 n (omega arith)) in
    let rows = length-map-range_with_len row_text 0 n in
    let front = codes ".create table G (k:long, v:long)" in
    let view = codes ".create materialized-view GV on table G { G | summarize n = count(), s = sum(v), m = max(v) by k }" in
    let queries = codes "G | count" ∷ codes "GV | summarize total = sum(s), groups = count()" ∷ [] in
    let behind = each_behind (codes "\n\n") (view ∷ middle ++ queries) in
    omega (arith, length-append (front ++ behind) (codes "\n"), length-append front behind, length-each_behind-cons (codes "\n\n") view (middle ++ queries), length-each_behind-append (codes "\n\n") middle queries, short, rows)
