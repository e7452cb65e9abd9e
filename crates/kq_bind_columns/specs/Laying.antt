-- Columns laid over others: what `extend` and `mv-expand` do.
use Rattle.std.specs.Prelude.{ℕ, suc, List, [], ◌∷◌, ◌++◌, Option, Some, None, slice_set}
use Rattle.std.specs.List.{zip}
use Rattle.kq_bind_columns.specs.Items.{Making}
use Rattle.kq_bind_expressions.specs.Lookup.{first_named}
use Rattle.kq_plan_expressions.specs.Terms.{Term, column}
use Rattle.kq_value.specs.declared.schema.Field.{Field}
use Rattle.kq_value.specs.declared.ty.Ty.{Ty}

-- what each column is, and the columns
abbrev pub Columns : Type 0
Columns = List Term × List Field

-- each column as it is, where they are numbered from i
abbrev pub as_they_are : ℕ → List Field → List Term
as_they_are i [] = []
as_they_are i (c ∷ cs) = column i ∷ as_they_are (suc i) cs

-- in the place of the column of its name, or else last
abbrev pub laid_at : Columns → Term × Field → Option (ℕ × Ty) → Columns
laid_at p x (Some k) = (slice_set p.0 k.0 x.0, slice_set p.1 k.0 x.1)
laid_at p x None = (p.0 ++ x.0 ∷ [], p.1 ++ x.1 ∷ [])

abbrev pub laid : Columns → Term × Field → Columns
laid p x = laid_at p x (first_named 0 p.1 x.1.name)

abbrev pub all_laid : Columns → List (Term × Field) → Columns
all_laid p [] = p
all_laid p (x ∷ xs) = all_laid (laid p x) xs

-- what is made, over the columns that come
abbrev pub over : List Field → Making → Columns
over cs m = all_laid (as_they_are 0 cs, cs) (zip m.terms m.fields)
