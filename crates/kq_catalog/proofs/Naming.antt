-- The place of a name is the number of its table.
use Rattle.std.proofs.Common.{◌≡◌, ◌<◌, ◌+◌, refl, subst, ℕ, suc, Bool, true, false, cond, List, [], ◌∷◌, length, map, nat_eq, Option, Some, None, ap, sym, ◌∙◌, arith, zero-add}
use Rattle.std.specs.List.{slice_get}
use Rattle.std.specs.Cmp.Lexicographic.{pointwise}
use Rattle.kq_catalog_indexes.specs.Places.{place_from, place_of}
use Rattle.kq_catalog_journal.specs.declared.table.Table.{Table}
use Rattle.kq_catalog_journal.specs.History.{NumberedTable, numbered_from, table_numbered, table_named}
use Rattle.kq_catalog.specs.Held.{HeldTable, tables_in}

abbrev pub names_in : List HeldTable → List (List ℕ)
names_in = map (λ (h : HeldTable). h.table.name)

none_from : (k : ℕ) (name : List ℕ) (hs : List HeldTable) → place_from k name (names_in hs) ≡ None → numbered_from k name (tables_in hs) ≡ None
none_from k name [] e = refl
none_from k name (h ∷ hs) e = by_test (pointwise nat_eq h.table.name name) e (none_from (k + 1) name hs)
  where
    by_test : (is : Bool) → cond is (Some k) (place_from (k + 1) name (names_in hs)) ≡ None → (place_from (k + 1) name (names_in hs) ≡ None → numbered_from (k + 1) name (tables_in hs) ≡ None)
        → cond is (Some (let m : NumberedTable = record { number = k; table = h.table } in m)) (numbered_from (k + 1) name (tables_in hs)) ≡ None
    by_test true e later = cc
    by_test false e later = later e

-- a name without a place has no table
pub numbered-none : (name : List ℕ) (hs : List HeldTable) → place_of name (names_in hs) ≡ None → table_numbered name (tables_in hs) ≡ None
numbered-none = none_from 0

-- the table at a place is the one with the name
record IsNumbered (k : ℕ) (name : List ℕ) (hs : List HeldTable) (n : ℕ) : Type 0 where
  index : ℕ
  at : n ≡ k + index
  within : index < length hs
  is : (h : HeldTable) → slice_get hs index ≡ Some h → numbered_from k name (tables_in hs) ≡ Some (record { number = n; table = h.table })

-- a table under its number
abbrev pub some_table : ℕ → Table → Option NumberedTable
some_table n t = Some (record { number = n; table = t })

some_from : (k : ℕ) (name : List ℕ) (hs : List HeldTable) (n : ℕ) → place_from k name (names_in hs) ≡ Some n → IsNumbered k name hs n
some_from k name [] n e = cc
some_from k name (h ∷ hs) n e = by_test (pointwise nat_eq h.table.name name) refl e (some_from (k + 1) name hs n)
  where
    by_test : (is : Bool) → pointwise nat_eq h.table.name name ≡ is → cond is (Some k) (place_from (k + 1) name (names_in hs)) ≡ Some n → (place_from (k + 1) name (names_in hs) ≡ Some n → IsNumbered (k + 1) name hs n)
        → IsNumbered k name (h ∷ hs) n
    by_test true test e later =
        let same : k ≡ n = cc in
        record {
          index = 0;
          at = omega (arith, same);
          within = omega arith;
          is = λ x at.
              let here : h ≡ x = cc in
              ap (λ (b : Bool). cond b (Some (let m : NumberedTable = record { number = k; table = h.table } in m)) (numbered_from (k + 1) name (tables_in hs))) test
              ∙ ap (λ (m : ℕ). some_table m h.table) same ∙ ap (λ (y : HeldTable). some_table n y.table) here;
        }
    by_test false test e later =
        let found = later e in
        record {
          index = suc found.index;
          at = let at = found.at in omega (arith, at);
          within = let within = found.within in omega (arith, within);
          is = λ x at.
              ap (λ (b : Bool). cond b (Some (let m : NumberedTable = record { number = k; table = h.table } in m)) (numbered_from (k + 1) name (tables_in hs))) test ∙ found.is x at;
        }

-- a name at a place has the table that stands there, with the place as its number
pub numbered-some : (name : List ℕ) (hs : List HeldTable) (n : ℕ) → place_of name (names_in hs) ≡ Some n → (n < length hs) × ((h : HeldTable) → slice_get hs n ≡ Some h → table_numbered name (tables_in hs) ≡ Some (record { number = n; table = h.table }))
numbered-some name hs n e =
    let found = some_from 0 name hs n e in
    let at : n ≡ found.index = found.at ∙ zero-add found.index in
    (subst (λ (i : ℕ). i < length hs) (sym at) found.within, λ h here. found.is h (ap (slice_get hs) (sym at) ∙ here))

unnamed_from : (k : ℕ) (name : List ℕ) (hs : List HeldTable) → table_named name (tables_in hs) ≡ None → place_from k name (names_in hs) ≡ None
unnamed_from k name [] e = refl
unnamed_from k name (h ∷ hs) e = by_test (pointwise nat_eq h.table.name name) e (unnamed_from (k + 1) name hs)
  where
    by_test : (is : Bool) → cond is (Some h.table) (table_named name (tables_in hs)) ≡ None → (table_named name (tables_in hs) ≡ None → place_from (k + 1) name (names_in hs) ≡ None)
        → cond is (Some k) (place_from (k + 1) name (names_in hs)) ≡ None
    by_test true e later = cc
    by_test false e later = later e

-- a name without a table has no place
pub unnamed : (name : List ℕ) (hs : List HeldTable) → table_named name (tables_in hs) ≡ None → place_of name (names_in hs) ≡ None
unnamed = unnamed_from 0
