-- Scripts of few rows, whole, and what stands behind the ninth and the tenth batch.
use Rattle.std.proofs.Common.{◌≡◌, ℕ, List, [], ◌∷◌, refl}
use Rattle.std.specs.Prelude.{codes}
use Rattle.std.specs.Fmt.{digits}
use Rattle.kq_script_generated.specs.Commands.{batch_commands, ingestion, script}

no_rows : script 0 ≡ codes ".create table G (k:long, v:long)\n\n.create materialized-view GV on table G { G | summarize n = count(), s = sum(v), m = max(v) by k }\n\nG | count\n\nGV | summarize total = sum(s), groups = count()\n"
no_rows = refl

two_rows : script 2 ≡ codes ".create table G (k:long, v:long)\n\n.create materialized-view GV on table G { G | summarize n = count(), s = sum(v), m = max(v) by k }\n\n.ingest inline into table G <|\n0,0\n1,1\n\nG | count\n\nGV | summarize total = sum(s), groups = count()\n"
unfolding digits
two_rows = refl

twenty_five_rows : script 25 ≡ codes ".create table G (k:long, v:long)\n\n.create materialized-view GV on table G { G | summarize n = count(), s = sum(v), m = max(v) by k }\n\n.ingest inline into table G <|\n0,0\n1,1\n2,2\n3,3\n4,4\n5,5\n6,6\n7,7\n8,8\n9,9\n0,10\n1,11\n2,12\n3,13\n4,14\n5,15\n6,16\n7,17\n8,18\n9,19\n0,20\n1,21\n2,22\n3,23\n4,24\n\nG | count\n\nGV | summarize total = sum(s), groups = count()\n"
unfolding digits
twenty_five_rows = refl

ninth_batch : (rows : List (List ℕ)) → batch_commands (9, rows) ≡ ingestion rows ∷ []
ninth_batch rows = refl

tenth_batch : (rows : List (List ℕ)) → batch_commands (10, rows) ≡ ingestion rows ∷ codes "#fold GV" ∷ codes "#merge G" ∷ []
tenth_batch rows = refl
