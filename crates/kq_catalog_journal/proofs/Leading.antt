-- Rows that lack the last columns of their table.
use Rattle.std.proofs.Common.{List, [], ◌∷◌, ◌++◌, All, length, map, take, drop, sym, subst}
use Rattle.std.proofs.Math.Seq.{take-append_seam}
use Rattle.std.proofs.lemmas.List.{take-append-drop}
use Rattle.std.proofs.lemmas.List.Elements.{All-nil, All-cons, All-head, All-tail, All-weaker}
use Rattle.kq_value.specs.declared.schema.Field.{Field}
use Rattle.kq_value.specs.declared.value.Value.{Value}
use Rattle.kq_value.specs.Typed.{HasTypes}
use Rattle.kq_store_rows.specs.Widened.{widened}
use Rattle.kq_store_rows.proofs.WidenedLemmas.{widened-typed}
use Rattle.kq_catalog_journal.specs.Derived.{Row}
use Rattle.kq_catalog_journal.specs.Typed.{IsLead}

-- a row that lacks the last columns alone is widened to all, and then has their types
pub lead-typed : (fields : List Field) (row : List Value) → IsLead fields row → HasTypes fields (widened fields row)
lead-typed fields row lead =
    subst (λ (fs : List Field). HasTypes fs (widened fs row)) (take-append-drop lead.count fields) (widened-typed (take lead.count fields) (drop lead.count fields) row lead.typed)

pub leads-typed : (fields : List Field) (rows : List Row) → All (IsLead fields) rows → All (HasTypes fields) (map (widened fields) rows)
leads-typed fields [] leads = All-nil (HasTypes fields)
leads-typed fields (r ∷ rows) leads =
    All-cons (HasTypes fields) (widened fields r) (map (widened fields) rows) (lead-typed fields r (All-head (IsLead fields) r rows leads)) (leads-typed fields rows (All-tail (IsLead fields) r rows leads))

-- rows of the types of some columns lack those that came behind them
pub leads-first : (first more : List Field) (rows : List Row) → All (HasTypes first) rows → All (IsLead (first ++ more)) rows
leads-first first more rows all =
    All-weaker (HasTypes first) (IsLead (first ++ more)) (λ row typed. record { count = length first; typed = subst (λ (fs : List Field). HasTypes fs row) (sym (take-append_seam first more)) typed }) rows all
