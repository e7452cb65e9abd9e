-- The query of one entry, and rows widened to its target's columns.
use Rattle.std.proofs.Common.{◌≡◌, ◌+◌, ℕ, List, [], ◌∷◌, ◌++◌, All, Err, Some, length, map, take, get_or, ◌<◌, refl, ap, sym, ◌∙◌, subst, arith}
use Rattle.std.proofs.lemmas.List.{map-append, take_more}
use Rattle.std.proofs.lemmas.List.Elements.{All-head, All-tail, All-push}
use Rattle.std.proofs.lemmas.Option.{get_or_from_slice_get}
use Rattle.std.specs.List.{slice_get}
use Rattle.kq_store_rows.specs.Chunks.{HasWidth}
use Rattle.kq_value.specs.declared.schema.Field.{Field}
use Rattle.kq_value.specs.declared.value.Value.{Value}
use Rattle.kq_value.specs.Typed.{HasTypes}
use Rattle.kq_store_rows.specs.Widened.{widened}
use Rattle.kq_store_rows.proofs.WidenedLemmas.{widened-whole, typed-long}
use Rattle.kq_catalog_journal.specs.declared.policy.Due.{Due}
use Rattle.kq_policy_cascade.specs.declared.tables.QueryFault.{QueryFault}
use Rattle.kq_policy_cascade.specs.declared.tables.QueryFault.TheVariants.{Fails, Memory}
use Rattle.kq_catalog_journal.specs.Derived.{Row, Queries, gave_none}
use Rattle.kq_policy_cascade.specs.Queried.{AnswersEntry, IsQueried}
use Rattle.kq_catalog_journal.specs.Typed.{IsLead, IsTyped}
use Rattle.kq_catalog_journal.specs.declared.batch.Batch.{Batch}
use Rattle.kq_catalog_journal.proofs.Leading.{lead-typed, leads-typed}

pub Queried-err : (q : Queries) (d : Due) (rows : List Row) (fault : QueryFault) → AnswersEntry (q d rows) (Err fault) → IsQueried q d rows (Err fault)
Queried-err q d rows (Fails cause) answer = gave_none answer
Queried-err q d rows Memory answer = tt

-- rows that lack no column stay
pub widened-all : (fields : List Field) (rows : List Row) → All (HasWidth (length fields)) rows → map (widened fields) rows ≡ rows
widened-all fields [] wide = refl
widened-all fields (r ∷ rows) wide =
    let here : length r ≡ length fields = All-head (HasWidth (length fields)) r rows wide in
    ap (λ (x : Row). x ∷ map (widened fields) rows) (widened-whole fields r (omega (arith, here)))
    ∙ ap (λ (xs : List Row). r ∷ xs) (widened-all fields rows (All-tail (HasWidth (length fields)) r rows wide))

pub lead-wide : (fields : List Field) (row : List Value) → IsLead fields row → length (widened fields row) ≡ length fields
lead-wide fields row lead = typed-long fields (widened fields row) (lead-typed fields row lead)

pub next-typed : (columns : ℕ → List Field) (fields : List Field) (given rows : List Row) (target : ℕ) (tags : List (List ℕ)) (b : Batch) → b ≡ record { table = target; rows = rows; tags = tags } → rows ≡ map (widened fields) given
    → fields ≡ columns target → All (IsLead (columns target)) given → IsTyped columns b
next-typed columns fields given rows target tags b is wide same leads =
    let all : All (HasTypes (columns target)) rows = subst (λ (xs : List Row). All (HasTypes (columns target)) xs) (sym (wide ∙ ap (λ (fs : List Field). map (widened fs) given) same)) (leads-typed (columns target) given leads) in
    subst (IsTyped columns) (sym is) all

-- the row at a place, copied to an empty row and widened
pub row_widened : (fields : List Field) (rows : List Row) (i : ℕ) (row start copy wide : Row) → i < length rows → slice_get rows i ≡ Some row → start ≡ [] → copy ≡ start ++ row → wide ≡ widened fields copy → All (IsLead fields) rows
    → (wide ≡ widened fields (get_or rows i [])) × (length wide ≡ length fields)
row_widened fields rows i row start copy wide within at empty copied is leads =
    let here : get_or rows i [] ≡ row = get_or_from_slice_get rows i row [] at in
    let same : copy ≡ get_or rows i [] = copied ∙ ap (λ (x : Row). x ++ row) empty ∙ sym here in
    let whole : wide ≡ widened fields (get_or rows i []) = is ∙ ap (widened fields) same in
    (whole, ap (λ (x : Row). length x) whole ∙ lead-wide fields (get_or rows i []) (leads i [] within))

pub widened-more : (fields : List Field) (rows wide more : List Row) (row : Row) (i : ℕ) → i < length rows → wide ≡ map (widened fields) (take i rows) → row ≡ widened fields (get_or rows i []) → more ≡ wide ++ row ∷ []
    → more ≡ map (widened fields) (take (i + 1) rows)
widened-more fields rows wide more row i within so_far here is =
    is ∙ ap (λ (xs : List Row). xs ++ row ∷ []) so_far ∙ ap (λ (x : Row). map (widened fields) (take i rows) ++ x ∷ []) here
    ∙ sym (map-append (widened fields) (take i rows) (get_or rows i [] ∷ [])) ∙ ap (map (widened fields)) (sym (take_more rows i [] within))

pub wide-push : (n : ℕ) (wide more : List Row) (row : Row) → All (HasWidth n) wide → length row ≡ n → more ≡ wide ++ row ∷ [] → All (HasWidth n) more
wide-push n wide more row all here is = subst (All (HasWidth n)) (sym is) (All-push (HasWidth n) wide row all here)
