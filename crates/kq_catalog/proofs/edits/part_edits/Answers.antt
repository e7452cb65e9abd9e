use Rattle.std.proofs.Common.{refl, rules, ◌≡◌, ◌<◌, ◌+◌, ℕ, List, [], ◌∷◌, ◌++◌, length, map, take, ap, sym, ◌∙◌, subst, arith, cond, nat_eq}
use Rattle.std.specs.Arc.{arc_value}
use Rattle.std.proofs.lemmas.Iterator.Adapters.{YieldsList-from_vec}
use Rattle.std.proofs.lemmas.Iterator.Consumers.{YieldsList-turn, YieldsList-so_far, YieldsList-end}
use Rattle.std.proofs.lemmas.List.{map-id, map_push, length_push}
use Rattle.kq_store_rows.specs.Numbered.{numbered}
use Rattle.kq_catalog_journal.specs.declared.batch.Batch.{Batch}
use Rattle.kq_catalog_journal.specs.declared.event.Commit.TheVariants.{Ingest}
use Rattle.kq_catalog_journal.specs.Edits.{new_extents}
use Rattle.kq_catalog_journal.specs.Records.{rows_to}
use Rattle.kq_catalog_journal.proofs.Records.{rows_to-push}
use Rattle.kq_catalog.specs.declared.edit.Change.TheVariants.{PutExtent}
use Rattle.kq_catalog.specs.declared.intent.Part.{Part}
use Rattle.kq_catalog.specs.Edits.{edit_with, edits_by}
use Rattle.kq_catalog.specs.Intents.{batch_of}
use Rattle.kq_catalog.proofs.Planning.{ordinals_fit, edits_more, count_changes}
use Rattle.kq_catalog.proofs.edits.part_edits.Goals as goal

pub stamp-requires : goal.stamp-requires
stamp-requires c =
    let p = c.in-Some.part in
    let parts = c.args.parts.items in
    let done = c.loop-part.yielded in
    let all = YieldsList-from_vec {s = c.into_iter-part-iterator.result} parts (search rules) (search rules) in
    let turn = YieldsList-turn all done c.loop-part.part-iterator c.loop-part.yielded_by c.next.result c.next.new.self p c.in-Some.is c.next.ensures.steps in
    let before : done ≡ take (length done) parts = sym (map-id done) ∙ YieldsList-so_far all done c.loop-part.part-iterator c.loop-part.yielded_by in
    let first : c.rows_given-first.result ≡ rows_to p.table (map batch_of done) = c.rows_given-first.ensures ∙ c.loop-part.invariant.3 p.table in
    subst (λ (n : ℕ). n + length p.draft.rows < 9223372036854775808) (sym first) (ordinals_fit parts done p before turn.0 turn.1 c.requires.rows)

pub give_rows-requires : goal.give_rows-requires
give_rows-requires c =
    let p = c.in-Some.part in
    let parts = c.args.parts.items in
    let done = c.loop-part.yielded in
    let all = YieldsList-from_vec {s = c.into_iter-part-iterator.result} parts (search rules) (search rules) in
    let turn = YieldsList-turn all done c.loop-part.part-iterator c.loop-part.yielded_by c.next.result c.next.new.self p c.in-Some.is c.next.ensures.steps in
    let before : done ≡ take (length done) parts = sym (map-id done) ∙ YieldsList-so_far all done c.loop-part.part-iterator c.loop-part.yielded_by in
    let counted : c.len-count.result ≡ length p.draft.rows = c.len-count.ensures.count ∙ ap length c.recorded-rows.ensures in
    let few = ordinals_fit parts done p before turn.0 turn.1 c.requires.rows in
    omega (arith, c.loop-part.invariant.3 p.table, counted, few)

pub loop-part-preserved : goal.loop-part-preserved
loop-part-preserved c =
    let p = c.in-Some.part in
    let done = c.loop-part.yielded in
    let cs = c.loop-part.changes.items in
    let cursor = c.args.cursor in
    let id = c.args.id in
    let first : c.rows_given-first.result ≡ rows_to p.table (map batch_of done) = c.rows_given-first.ensures ∙ c.loop-part.invariant.3 p.table in
    let tags : c.in_ok-tags.tags ≡ p.draft.tags = c.in_ok-tags.ensures ∙ c.tags.ensures in
    let batch : Batch = record { table = p.table; rows = c.recorded-rows.result; tags = c.in_ok-tags.tags } in
    let same : batch ≡ batch_of p = cc (c.recorded-rows.ensures, tags) in
    let counted : c.len-count.result ≡ length p.draft.rows = c.len-count.ensures.count ∙ ap length c.recorded-rows.ensures in
    let extent : arc_value c.in_ok-extent.extent ≡ record { id = id + length done; records = numbered cursor (rows_to p.table (map batch_of done)) p.draft.rows; tags = p.draft.tags } =
    cc (c.in_ok-extent.ensures.ok, c.stamp.ensures, first, c.loop-part.invariant.2) in (
      c.in_ok-push-2.ensures.ok ∙ ap (λ (bs : List Batch). bs ++ batch ∷ []) c.loop-part.invariant.0 ∙ ap (λ (b : Batch). map batch_of done ++ b ∷ []) same ∙ sym (map_push batch_of done p),
      ap edits_by c.in_ok-push.ensures.items ∙ edits_more cursor id done p cs (PutExtent p.table c.in_ok-extent.extent) c.loop-part.invariant.1 (ap (edit_with p.table) extent),
      omega (arith, c.loop-part.invariant.2, length_push done p),
      λ t. c.in_ok-give_rows.ensures t ∙ ap (λ (n : ℕ). n + cond (nat_eq p.table t) c.len-count.result 0) (c.loop-part.invariant.3 t) ∙ ap (λ (n : ℕ). rows_to t (map batch_of done) + cond (nat_eq p.table t) n 0) counted
          ∙ sym (rows_to-push t (map batch_of done) (batch_of p)) ∙ ap (rows_to t) (sym (map_push batch_of done p)),
    )

pub returns : goal.returns
returns c =
    let parts = c.args.parts.items in
    let done = c.loop-part.yielded in
    let cs = c.loop-part.changes.items in
    let all = YieldsList-from_vec {s = c.into_iter-part-iterator.result} parts (search rules) (search rules) in
    let ended = YieldsList-end all done c.loop-part.part-iterator c.loop-part.yielded_by c.next.result c.next.new.self c.in-None.is c.next.ensures.steps in
    let whole : done ≡ parts = sym (map-id done) ∙ ended.0 in
    let counted : c.len-2.result ≡ length cs = search rules in
    let batches : c.loop-part.batches ≡ map batch_of parts = c.loop-part.invariant.0 ∙ ap (map batch_of) whole in
    record {
      is = ap (λ (bs : List Batch). Ingest bs c.args.failures) batches;
      edits = c.loop-part.invariant.1 ∙ ap (λ (ps : List Part). new_extents c.args.cursor c.args.id [] (map batch_of ps)) whole;
      view = refl;
      made = counted ∙ count_changes c.args.cursor c.args.id done cs c.loop-part.invariant.1 ∙ ap (λ (ps : List Part). length (map batch_of ps)) whole;
    }
