-- What a join matches on, and the columns that it gives.
use Rattle.std.specs.Prelude.{ℕ, Bool, ◌&&◌, not, List, [], ◌∷◌, ◌++◌, Option, Some, None, Ok, Err, if◌then◌else◌}
use Rattle.kq_bind_columns.specs.Chosen.{place_in}
use Rattle.kq_bind_columns.specs.Items.{field}
use Rattle.kq_bind_columns.specs.Naming.{free_name}
use Rattle.kq_bind_expressions.specs.Verdicts.{Verdict, mistyped, and_then}
use Rattle.kq_read_grammar.specs.declared.clause.JoinKey.{JoinKey}
use Rattle.kq_read_grammar.specs.declared.clause.JoinKey.TheVariants as key
use Rattle.kq_read_grammar.specs.declared.expression.Name.{Name}
use Rattle.kq_read_grammar.specs.declared.expression.Name.TheVariants as shown
use Rattle.kq_plan.specs.declared.work.JoinKind.{JoinKind}
use Rattle.kq_plan.specs.declared.work.JoinKind.TheVariants as join
use Rattle.kq_bind_columns.specs.kq_read_meanings.Names.{name_place}
use Rattle.kq_read_symbols.specs.declared.kind.Kind.{Kind}
use Rattle.kq_read_symbols.specs.declared.kind.Kind.TheVariants as kind
use Rattle.kq_read_symbols.specs.declared.kind.Quoted.TheVariants as quoted
use Rattle.kq_read_symbols.specs.declared.word.JoinKind.{JoinKind as Said}
use Rattle.kq_read_symbols.specs.declared.word.JoinKind.TheVariants as said
use Rattle.kq_read_symbols.specs.declared.word.Word.TheVariants as word
use Rattle.kq_value.specs.declared.schema.Field.{Field}
use Rattle.kq_value.specs.declared.ty.Ty.{Ty}
use Rattle.kq_value.specs.declared.ty.Ty.TheVariants as ty
use Rattle.kq_value.specs.Ty.{same_ty}

-- ---- the kind

abbrev pub kind_said : Said → JoinKind
kind_said said.InnerUnique = join.InnerUnique
kind_said said.Inner = join.Inner
kind_said said.LeftOuter = join.LeftOuter
kind_said said.RightOuter = join.RightOuter
kind_said said.FullOuter = join.FullOuter
kind_said said.LeftSemi = join.LeftSemi
kind_said said.RightSemi = join.RightSemi
kind_said said.LeftAnti = join.LeftAnti
kind_said said.RightAnti = join.RightAnti

-- a word, or a string that says one; another symbol, which doesn't stand there, counts as the default
abbrev pub kind_of : Kind → JoinKind
kind_of (kind.Word (word.Join k)) = kind_said k
kind_of (kind.String (quoted.JoinKind k)) = kind_said k
kind_of _ = join.InnerUnique

abbrev pub join_kind : Option Name → JoinKind
join_kind None = join.InnerUnique
join_kind (Some (shown.Word t)) = kind_of t.kind
join_kind (Some (shown.Bracketed first t)) = kind_of t.kind

-- ---- the keys

-- two columns match where their types are equal and none is a dynamic
abbrev pub is_key : Ty → Ty → Bool
is_key t u = same_ty t u && not (same_ty t ty.Dynamic)

abbrev pub matched : ℕ → ℕ × Ty → ℕ × Ty → Verdict (ℕ × ℕ)
matched at p q = if is_key p.1 q.1 then Ok (p.0, q.0) else Err (mistyped at)

-- a column of the left rows and one of the right, looked up in the order of the text
abbrev pub on_key : List ℕ → List Field → List Field → JoinKey → Verdict (ℕ × ℕ)
on_key text ls rs (key.Both n) = and_then (place_in text ls n) (λ p. and_then (place_in text rs n) (matched (name_place n) p))
on_key text ls rs (key.LeftRight a t b) = and_then (place_in text ls a) (λ p. and_then (place_in text rs b) (matched t.from p))
on_key text ls rs (key.RightLeft b t a) = and_then (place_in text rs b) (λ q. and_then (place_in text ls a) (λ p. matched t.from p q))

abbrev pub on_keys : List ℕ → List Field → List Field → List JoinKey → Verdict (List (ℕ × ℕ))
on_keys text ls rs [] = Ok []
on_keys text ls rs (k ∷ ks) = and_then (on_key text ls rs k) (λ x. and_then (on_keys text ls rs ks) (λ xs. Ok (x ∷ xs)))

-- ---- the columns

-- the right columns behind the left ones, each with a free name
abbrev pub beside : List Field → List Field → List Field
beside taken [] = taken
beside taken (c ∷ cs) = beside (taken ++ field (free_name taken [] c.name) c.ty ∷ []) cs

-- semi and anti joins give the rows of their side
abbrev pub join_columns : JoinKind → List Field → List Field → List Field
join_columns join.LeftSemi ls rs = ls
join_columns join.LeftAnti ls rs = ls
join_columns join.RightSemi ls rs = rs
join_columns join.RightAnti ls rs = rs
join_columns _ ls rs = beside ls rs
