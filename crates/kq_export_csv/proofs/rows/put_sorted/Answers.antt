use Rattle.std.proofs.Common.{◌≡◌, ◌++◌, Bor, List, ℕ, false, flat_map, map}
use Rattle.std.proofs.lemmas.Result.{on_ok_weaker}
use Rattle.kq_reply.specs.Lines.{AreArranged, ended}
use Rattle.kq_export_csv.specs.Artefacts.{row_line}
use Rattle.kq_reply.specs.Lines.{pieces}
use Rattle.kq_reply.proofs.Cut.{pieces-lines, sizes_fit}
use Rattle.kq_export_csv.proofs.rows.put_sorted.Goals as goal

abbrev shown : Bor (List ℕ) → List ℕ
shown line = line.now

pub sorted-requires : goal.sorted-requires
sorted-requires c = rw (c.as_slice.ensures, c.as_slice-2.ensures.value) (sizes_fit (map row_line c.args.rows.now) c.in_ok-held.held.bytes c.in_ok-held.held.sizes.items c.in_ok-held.ensures)

pub returns : goal.returns
returns c =
    let rows = map row_line c.args.rows.now in
    let cut : pieces c.as_slice-2.result.now c.as_slice.result.now ≡ rows =
    rw (c.as_slice.ensures, c.as_slice-2.ensures.value) (pieces-lines rows c.in_ok-held.held.bytes c.in_ok-held.held.sizes.items c.in_ok-held.ensures) in
    let sorted : AreArranged false (pieces c.as_slice-2.result.now c.as_slice.result.now) (map shown c.in_ok-lines.lines.items) = c.in_ok-lines.ensures in
    let arranged : AreArranged false rows (map shown c.as_slice-3.result.now) = rw (c.as_slice-3.ensures.value, ← cut) sorted in
    on_ok_weaker c.put_lines.result
    (λ (whole : c.put_lines.new.text ≡ c.args.text.now ++ flat_map ended (map shown c.as_slice-3.result.now)). record { lines = map shown c.as_slice-3.result.now; arranged = arranged; whole = whole })
    c.put_lines.ensures
