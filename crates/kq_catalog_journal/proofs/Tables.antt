-- Tables stay, under their numbers.
use Rattle.std.proofs.Common.{◌≡◌, ◌<◌, ◌≤◌, ◌⊎◌, inl, inr, ℕ, zero, suc, ◌+◌, Bool, true, false, cond, List, [], ◌∷◌, ◌++◌, length, get_or, Option, Some, nat_eq, refl, ap, sym, ◌∙◌, append_assoc, append-nil, arith, add-zero, zero-add, subst}
use Rattle.std.specs.List.{All, slice_get}
use Rattle.std.specs.Cmp.Lexicographic.{pointwise}
use Rattle.std.specs.Option.{option_map}
use Rattle.std.proofs.lemmas.List.{length_push}
use Rattle.std.proofs.lemmas.List.Elements.{All-nil, All-push, All-weaker}
use Rattle.std.proofs.lemmas.Option.{get_or_from_slice_get, slice_get_within}
use Rattle.kq_value.specs.declared.schema.Field.{Field}
use Rattle.kq_catalog_journal.specs.declared.table.Table.{Table}
use Rattle.kq_catalog_journal.specs.declared.event.Commit.{Commit}
use Rattle.kq_catalog_journal.specs.declared.event.Commit.TheVariants.{CreateTable, SetPolicy, CreateView, AlterMerge, Ingest}
use Rattle.kq_catalog_journal.specs.Changed.{changed}
use Rattle.kq_catalog_journal.specs.History.{Log, tables, tables_from, tables_with, widened_table, NumberedTable, numbered_from, table_numbered, table_named}
use native.Mathlib.Numerals.{unary_clauses}
use Rattle.kq_catalog_journal.proofs.Changed.{All-changed}
use Rattle.kq_catalog_journal.proofs.Histories.{tables-push}

cond-some : (is : Bool) (a n : NumberedTable) (x y : Option NumberedTable) → (x ≡ Some n → y ≡ Some n) → cond is (Some a) x ≡ Some n → cond is (Some a) y ≡ Some n
cond-some true a n x y f e = e
cond-some false a n x y f e = f e

numbered_from-go_on : (k : ℕ) (name : List ℕ) (ts more : List Table) (n : NumberedTable) → numbered_from k name ts ≡ Some n → numbered_from k name (ts ++ more) ≡ Some n
numbered_from-go_on k name [] more n e = cc
numbered_from-go_on k name (t ∷ ts) more n e =
    cond-some (pointwise nat_eq t.name name) (record { number = k; table = t }) n (numbered_from (k + 1) name ts) (numbered_from (k + 1) name (ts ++ more)) (numbered_from-go_on (k + 1) name ts more n) e

-- a name keeps its table and its number
pub table_numbered-go_on : (name : List ℕ) (ts more : List Table) (n : NumberedTable) → table_numbered name ts ≡ Some n → table_numbered name (ts ++ more) ≡ Some n
table_numbered-go_on = numbered_from-go_on 0

next_get : (t : Table) (ts : List Table) (i : ℕ) → slice_get (t ∷ ts) (i + 1) ≡ slice_get ts i
next_get t ts i = simp unary_clauses refl

numbered_from-at : (k : ℕ) (name : List ℕ) (ts : List Table) (n : NumberedTable) → numbered_from k name ts ≡ Some n → (i : ℕ) × (n.number ≡ k + i) × (i < length ts) × (slice_get ts i ≡ Some n.table)
numbered_from-at k name [] n e = cc
numbered_from-at k name (t ∷ ts) n e = by_test (pointwise nat_eq t.name name) e (numbered_from-at (k + 1) name ts n)
  where
    by_test : (is : Bool) → cond is (Some (let m : NumberedTable = record { number = k; table = t } in m)) (numbered_from (k + 1) name ts) ≡ Some n
        → (numbered_from (k + 1) name ts ≡ Some n → (i : ℕ) × (n.number ≡ (k + 1) + i) × (i < length ts) × (slice_get ts i ≡ Some n.table))
        → (i : ℕ) × (n.number ≡ k + i) × (i < length (t ∷ ts)) × (slice_get (t ∷ ts) i ≡ Some n.table)
    by_test true e later =
        let m : NumberedTable = record { number = k; table = t } in
        let same : m ≡ n = cc in
        (0, ap (λ (x : NumberedTable). x.number) (sym same) ∙ sym (add-zero k), omega arith, ap (λ (x : NumberedTable). Some x.table) same)
    by_test false e later =
        let found = later e in
        (found.0 + 1, (let at = found.1 in omega (arith, at)), (let within = found.2 in omega (arith, within)), next_get t ts found.0 ∙ found.3)

-- and it stands at its number
pub table_numbered-at : (name : List ℕ) (ts : List Table) (n : NumberedTable) → table_numbered name ts ≡ Some n → (n.number < length ts) × (slice_get ts n.number ≡ Some n.table)
table_numbered-at name ts n e =
    let found = numbered_from-at 0 name ts n e in
    let at : n.number ≡ found.0 = found.1 ∙ zero-add found.0 in
    (subst (λ (k : ℕ). k < length ts) (sym at) found.2, subst (λ (k : ℕ). slice_get ts k ≡ Some n.table) (sym at) found.3)

numbered_from-named : (k : ℕ) (name : List ℕ) (ts : List Table) → table_named name ts ≡ option_map (λ (n : NumberedTable). n.table) (numbered_from k name ts)
numbered_from-named k name [] = refl
numbered_from-named k name (t ∷ ts) = by_test (pointwise nat_eq t.name name) (numbered_from-named (k + 1) name ts)
  where
    by_test : (is : Bool) → table_named name ts ≡ option_map (λ (n : NumberedTable). n.table) (numbered_from (k + 1) name ts)
        → cond is (Some t) (table_named name ts) ≡ option_map (λ (n : NumberedTable). n.table) (cond is (Some (let m : NumberedTable = record { number = k; table = t } in m)) (numbered_from (k + 1) name ts))
    by_test true more = refl
    by_test false more = more

-- with its number or without, it is the same table
pub table_numbered-named : (name : List ℕ) (ts : List Table) → table_named name ts ≡ option_map (λ (n : NumberedTable). n.table) (table_numbered name ts)
table_numbered-named = numbered_from-named 0

-- ---- a longer log

-- a table's name stays, and where the table isn't the same it was widened past a cursor
pub record IsGrown (n : ℕ) (t u : Table) : Type 0 where
  pub named : u.name ≡ t.name
  pub same : (u ≡ t) ⊎ (n < u.widened)

-- so much is left of what a name found
pub record StillFinds (n : ℕ) (name : List ℕ) (ts : List Table) (found : NumberedTable) : Type 0 where
  pub table : Table
  pub finds : table_numbered name ts ≡ Some (record { number = found.number; table = table })
  pub grown : IsGrown n found.table table

record FindsFrom (k n : ℕ) (name : List ℕ) (ts : List Table) (found : NumberedTable) : Type 0 where
  table : Table
  finds : numbered_from k name ts ≡ Some (record { number = found.number; table = table })
  grown : IsGrown n found.table table

grown_widened : (k n m : ℕ) (columns : List Field) (name : List ℕ) (ts : List Table) (found : NumberedTable) → numbered_from k name ts ≡ Some found → FindsFrom k n name (changed (widened_table (n + 1) columns) m ts) found
grown_widened k n m columns name [] found e = cc
grown_widened k n zero columns name (t ∷ ts) found e = by_test (pointwise nat_eq t.name name) refl e
  where
    wider : Table
    wider = widened_table (n + 1) columns t

    by_test : (is : Bool) → pointwise nat_eq t.name name ≡ is → cond is (Some (let m : NumberedTable = record { number = k; table = t } in m)) (numbered_from (k + 1) name ts) ≡ Some found → FindsFrom k n name (wider ∷ ts) found
    by_test true test e =
        let m : NumberedTable = record { number = k; table = t } in
        let same : m ≡ found = cc in
        record {
          table = wider;
          finds = ap (λ (b : Bool). cond b (Some (let m : NumberedTable = record { number = k; table = wider } in m)) (numbered_from (k + 1) name ts)) test ∙ ap (λ (x : NumberedTable). Some (let m : NumberedTable = record { number = x.number; table = wider } in m)) same;
          grown = record { named = ap (λ (x : NumberedTable). x.table.name) same; same = inr (omega arith) };
        }
    by_test false test e = record {
      table = found.table;
      finds = ap (λ (b : Bool). cond b (Some (let m : NumberedTable = record { number = k; table = wider } in m)) (numbered_from (k + 1) name ts)) test ∙ e;
      grown = record { named = refl; same = inl refl };
    }
grown_widened k n (suc m) columns name (t ∷ ts) found e = by_test (pointwise nat_eq t.name name) refl e (grown_widened (k + 1) n m columns name ts found)
  where
    rest : List Table
    rest = changed (widened_table (n + 1) columns) m ts

    by_test : (is : Bool) → pointwise nat_eq t.name name ≡ is → cond is (Some (let m : NumberedTable = record { number = k; table = t } in m)) (numbered_from (k + 1) name ts) ≡ Some found
        → (numbered_from (k + 1) name ts ≡ Some found → FindsFrom (k + 1) n name rest found) → FindsFrom k n name (t ∷ rest) found
    by_test true test e later = record {
      table = found.table;
      finds = ap (λ (b : Bool). cond b (Some (let m : NumberedTable = record { number = k; table = t } in m)) (numbered_from (k + 1) name rest)) test ∙ e;
      grown = record { named = refl; same = inl refl };
    }
    by_test false test e later =
        let f = later e in
        record {
          table = f.table;
          finds = ap (λ (b : Bool). cond b (Some (let m : NumberedTable = record { number = k; table = t } in m)) (numbered_from (k + 1) name rest)) test ∙ f.finds;
          grown = f.grown;
        }

one_commit : (n : ℕ) (c : Commit) (name : List ℕ) (ts : List Table) (found : NumberedTable) → table_numbered name ts ≡ Some found → StillFinds n name (tables_with (n + 1) c ts) found
one_commit n (CreateTable given schema) name ts found e = record {
  table = found.table;
  finds = table_numbered-go_on name ts (record { name = given; schema = schema; made = n + 1; widened = n + 1 } ∷ []) found e;
  grown = record { named = refl; same = inl refl };
}
one_commit n (CreateView view) name ts found e = record { table = found.table; finds = e; grown = record { named = refl; same = inl refl } }
one_commit n (SetPolicy table entries) name ts found e = record { table = found.table; finds = e; grown = record { named = refl; same = inl refl } }
one_commit n (AlterMerge table columns) name ts found e =
    let f = grown_widened 0 n table columns name ts found e in
    record { table = f.table; finds = f.finds; grown = f.grown }
one_commit n (Ingest batches failures) name ts found e = record { table = found.table; finds = e; grown = record { named = refl; same = inl refl } }

grown_then : (n : ℕ) (t u v : Table) → IsGrown n t u → IsGrown (n + 1) u v → IsGrown n t v
grown_then n t u v first second = record { named = second.named ∙ first.named; same = by_case second.same }
  where
    by_case : (v ≡ u) ⊎ (n + 1 < v.widened) → (v ≡ t) ⊎ (n < v.widened)
    by_case (inl same) = subst (λ (x : Table). (x ≡ t) ⊎ (n < x.widened)) (sym same) first.same
    by_case (inr past) = inr (omega (arith, past))

-- a name keeps its number in a longer log, and its table is the same or was widened since
pub still_found : (l more : Log) (name : List ℕ) (found : NumberedTable) → table_numbered name (tables l) ≡ Some found → StillFinds (length l) name (tables (l ++ more)) found
still_found l [] name found e = record { table = found.table; finds = ap (λ (m : Log). table_numbered name (tables m)) (append-nil l) ∙ e; grown = record { named = refl; same = inl refl } }
still_found l (c ∷ more) name found e =
    let one = one_commit (length l) c name (tables l) found e in
    let next : NumberedTable = record { number = found.number; table = one.table } in
    let rest = still_found (l ++ c ∷ []) more name next (ap (table_numbered name) (tables-push l c) ∙ one.finds) in
    let longer : length (l ++ c ∷ []) ≡ length l + 1 = length_push l c in
    record {
      table = rest.table;
      finds = ap (λ (m : Log). table_numbered name (tables m)) (sym (append_assoc l (c ∷ []) more)) ∙ rest.finds;
      grown = grown_then (length l) found.table one.table rest.table one.grown (subst (λ (n : ℕ). IsGrown n one.table rest.table) longer rest.grown);
    }

-- no table was widened past the log
abbrev IsUpTo : ℕ → Table → Type 0
IsUpTo n t = t.widened ≤ n

up_to_more : (n : ℕ) (c : Commit) (ts : List Table) → All (IsUpTo n) ts → All (IsUpTo (n + 1)) (tables_with (n + 1) c ts)
up_to_more n (CreateTable name schema) ts all =
    All-push (IsUpTo (n + 1)) ts (record { name = name; schema = schema; made = n + 1; widened = n + 1 }) (All-weaker (IsUpTo n) (IsUpTo (n + 1)) (λ t le. omega (arith, le)) ts all) (omega arith)
up_to_more n (CreateView view) ts all = All-weaker (IsUpTo n) (IsUpTo (n + 1)) (λ t le. omega (arith, le)) ts all
up_to_more n (SetPolicy table entries) ts all = All-weaker (IsUpTo n) (IsUpTo (n + 1)) (λ t le. omega (arith, le)) ts all
up_to_more n (AlterMerge table columns) ts all =
    All-changed (IsUpTo (n + 1)) (widened_table (n + 1) columns) table ts (λ t le. omega arith) (All-weaker (IsUpTo n) (IsUpTo (n + 1)) (λ t le. omega (arith, le)) ts all)
up_to_more n (Ingest batches failures) ts all = All-weaker (IsUpTo n) (IsUpTo (n + 1)) (λ t le. omega (arith, le)) ts all

up_to_from : (n : ℕ) (ts : List Table) (l : Log) → All (IsUpTo n) ts → All (IsUpTo (n + length l)) (tables_from n ts l)
up_to_from n ts [] all = subst (λ (k : ℕ). All (IsUpTo k) ts) (sym (add-zero n)) all
up_to_from n ts (c ∷ l) all =
    let same : n + 1 + length l ≡ n + length (c ∷ l) = omega arith in
    subst (λ (k : ℕ). All (IsUpTo k) (tables_from (n + 1) (tables_with (n + 1) c ts) l)) same (up_to_from (n + 1) (tables_with (n + 1) c ts) l (up_to_more n c ts all))

pub widened-within : (l : Log) (i : ℕ) (t : Table) → slice_get (tables l) i ≡ Some t → t.widened ≤ length l
widened-within l i t at =
    let all : All (IsUpTo (0 + length l)) (tables l) = up_to_from 0 [] l (All-nil (IsUpTo 0)) in
    let within = slice_get_within (tables l) i t at in
    let here : get_or (tables l) i t ≡ t = get_or_from_slice_get (tables l) i t t at in
    subst (λ (x : Table). x.widened ≤ length l) here (subst (λ (n : ℕ). (get_or (tables l) i t).widened ≤ n) (zero-add (length l)) (all i t within))

some_same : {X : Type 0} {x z : X} → Some x ≡ Some z → x ≡ z
some_same h = cc

-- a name finds what it found where the table of its number was not widened since
pub still_same : (l more : Log) (name : List ℕ) (found : NumberedTable) (t : Table) → table_numbered name (tables l) ≡ Some found → slice_get (tables (l ++ more)) found.number ≡ Some t → t.widened ≡ found.table.widened
    → table_numbered name (tables (l ++ more)) ≡ Some found
still_same l more name found t e at widened =
    let still = still_found l more name found e in
    let now : NumberedTable = record { number = found.number; table = still.table } in
    let same : t ≡ still.table = some_same (sym at ∙ (table_numbered-at name (tables (l ++ more)) now still.finds).1) in
    by_case same still.finds still.grown.same
  where
    by_case : {u : Table} → t ≡ u → table_numbered name (tables (l ++ more)) ≡ Some (record { number = found.number; table = u }) → (u ≡ found.table) ⊎ (length l < u.widened) → table_numbered name (tables (l ++ more)) ≡ Some found
    by_case same finds (inl is) = finds ∙ ap (λ (x : Table). Some (let m : NumberedTable = record { number = found.number; table = x } in m)) is
    by_case same finds (inr past) =
        let before = widened-within l found.number found.table (table_numbered-at name (tables l) found e).1 in
        let here = ap (λ (x : Table). x.widened) same in
        absurd (omega (arith, past, before, here, widened))
