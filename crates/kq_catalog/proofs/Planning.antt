-- Parts that become extents one after another.
use Rattle.std.proofs.Common.{◌≡◌, ◌<◌, ◌+◌, subst, ℕ, List, [], ◌∷◌, ◌++◌, length, map, take, get_or, ap, sym, ◌∙◌, arith}
use Rattle.std.proofs.lemmas.List.{map_push, length-map, take-map, get_or-map}
use Rattle.kq_store_rows.specs.Numbered.{numbered}
use Rattle.kq_catalog_journal.specs.declared.batch.Batch.{Batch}
use Rattle.kq_catalog_journal.specs.Edits.{Edit, new_extents}
use Rattle.kq_catalog_journal.specs.Edits.Edit.{NewExtent}
use Rattle.kq_catalog_journal.specs.Records.{rows_to}
use Rattle.kq_catalog_journal.proofs.Extents.{new_extents-push, length-new_extents, rows_before}
use Rattle.kq_catalog.specs.declared.edit.Change.{Change}
use Rattle.kq_catalog.specs.declared.intent.Part.{Part}
use Rattle.kq_catalog.specs.Edits.{edit_of, edits_by, total_rows}
use Rattle.kq_catalog.specs.Intents.{batch_of}

batches_before : (parts done : List Part) → done ≡ take (length done) parts → map batch_of done ≡ take (length done) (map batch_of parts)
batches_before parts done before = ap (map batch_of) before ∙ sym (take-map batch_of (length done) parts)

-- and the ordinals of the next part's rows are small
pub ordinals_fit : (parts done : List Part) (p : Part) → done ≡ take (length done) parts → length done < length parts → p ≡ get_or parts (length done) p → total_rows (map batch_of parts) < 9223372036854775808
    → rows_to p.table (map batch_of done) + length p.draft.rows < 9223372036854775808
ordinals_fit parts done p before within is few =
    let here : batch_of p ≡ get_or (map batch_of parts) (length done) (batch_of p) = ap batch_of is ∙ sym (get_or-map batch_of parts (length done) p (batch_of p) within) in
    let inside : length done < length (map batch_of parts) = subst (λ (n : ℕ). length done < n) (sym (length-map parts batch_of)) within in
    subst (λ (bs : List Batch). rows_to p.table bs + length p.draft.rows < 9223372036854775808) (sym (batches_before parts done before))
    (let rows = rows_before p.table (length done) (map batch_of parts) (batch_of p) inside here in omega (arith, rows, few))

-- a part more is a batch more and an extent more
pub edits_more : (cursor id : ℕ) (done : List Part) (p : Part) (cs : List Change) (c : Change) → edits_by cs ≡ new_extents cursor id [] (map batch_of done)
    → edit_of c ≡ NewExtent p.table (id + length done) (numbered cursor (rows_to p.table (map batch_of done)) p.draft.rows) p.draft.tags → edits_by (cs ++ c ∷ []) ≡ new_extents cursor id [] (map batch_of (done ++ p ∷ []))
edits_more cursor id done p cs c are is =
    let bs = map batch_of done in
    let rows = numbered cursor (rows_to p.table bs) p.draft.rows in
    map_push edit_of cs c ∙ ap (λ (es : List Edit). es ++ edit_of c ∷ []) are ∙ ap (λ (e : Edit). new_extents cursor id [] bs ++ e ∷ []) is
    ∙ ap (λ (n : ℕ). new_extents cursor id [] bs ++ NewExtent p.table (id + n) rows p.draft.tags ∷ []) (sym (length-map done batch_of))
    ∙ sym (new_extents-push cursor id [] bs (batch_of p)) ∙ ap (new_extents cursor id []) (sym (map_push batch_of done p))

-- as many changes as parts
pub count_changes : (cursor id : ℕ) (done : List Part) (cs : List Change) → edits_by cs ≡ new_extents cursor id [] (map batch_of done) → length cs ≡ length (map batch_of done)
count_changes cursor id done cs are = sym (length-map cs edit_of) ∙ ap length are ∙ length-new_extents cursor id [] (map batch_of done)
