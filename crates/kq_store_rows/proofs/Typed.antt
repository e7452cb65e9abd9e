-- Rows of typed cells are of one width.
use Rattle.std.proofs.Common.{ℕ, suc, List, [], ◌∷◌, length, get_or, sym, ◌∙◌, arith}
use Rattle.std.specs.List.{All}
use Rattle.kq_value.specs.declared.schema.Field.{Field}
use Rattle.kq_value.specs.declared.value.Value.{Value}
use Rattle.kq_value.specs.Typed.{HasTypes}
use Rattle.kq_value.proofs.Types.{length-HasTypes}
use Rattle.kq_store_rows.specs.Chunks.{HasWidth, same_width}

pub typed_width : (schema : List Field) (rows : List (List Value)) → All (HasTypes schema) rows → All (HasWidth (length schema)) rows
typed_width schema rows typed k d within = sym (length-HasTypes schema (get_or rows k d) (typed k d within))

-- typed rows are as wide as a further one
pub typed_next : (schema : List Field) (rows : List (List Value)) (row : List Value) → All (HasTypes schema) rows → HasTypes schema row → All (HasWidth (length row)) rows
typed_next schema rows row typed next k d within = typed_width schema rows typed k d within ∙ length-HasTypes schema row next

pub same_width-wide : {T : Type 0} (w : ℕ) (rows : List (List T)) → All (HasWidth w) rows → same_width rows
same_width-wide w [] wide = tt
same_width-wide {T} w (r ∷ rows) wide = later
  where
    later : All (HasWidth (length r)) rows
    later k d within = wide (suc k) d (omega arith) ∙ sym (wide 0 d (omega arith))

pub same_width-typed : (schema : List Field) (rows : List (List Value)) → All (HasTypes schema) rows → same_width rows
same_width-typed schema rows typed = same_width-wide (length schema) rows (typed_width schema rows typed)
