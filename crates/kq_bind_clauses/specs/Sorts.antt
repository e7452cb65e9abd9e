-- What rows are sorted by.
use Rattle.std.specs.Prelude.{ℕ, Bool, true, false, not, List, [], ◌∷◌, Option, Some, None, Ok}
use Rattle.kq_bind_columns.specs.Items.{operand}
use Rattle.kq_bind_expressions.specs.Names.{Names}
use Rattle.kq_bind_expressions.specs.Unsupported.{or_later, unsupported_in}
use Rattle.kq_bind_expressions.specs.Verdicts.{Verdict, and_then}
use Rattle.kq_plan_expressions.specs.Terms.{Bound}
use Rattle.kq_read_grammar.specs.Trees.{KeyTree}
use Rattle.kq_plan.specs.Plans.{Sorting}
use Rattle.kq_read_symbols.specs.declared.kind.Kind.{Kind}
use Rattle.kq_read_symbols.specs.declared.kind.Kind.TheVariants as kind
use Rattle.kq_read_symbols.specs.declared.kind.Symbol.{Symbol}
use Rattle.kq_read_symbols.specs.declared.word.ClauseWord.TheVariants as clause
use Rattle.kq_read_symbols.specs.declared.word.Word.TheVariants as word
use Rattle.kq_value.specs.declared.schema.Field.{Field}

abbrev pub is_ascending : Kind → Bool
is_ascending (kind.Word (word.Clause clause.Asc)) = true
is_ascending _ = false

abbrev pub is_first : Kind → Bool
is_first (kind.Word (word.Clause clause.First)) = true
is_first _ = false

-- rows descend, unless they are said not to
abbrev pub descends : Option Symbol → Bool
descends None = true
descends (Some t) = not (is_ascending t.kind)

-- nulls come last where the rows descend and first where they ascend, unless it is said
abbrev pub nulls_come_first : Option Symbol → Option Symbol → Bool
nulls_come_first direction None = not (descends direction)
nulls_come_first direction (Some t) = is_first t.kind

abbrev pub sorting : KeyTree → Bound → Sorting
sorting k x = record { value = x.0; descending = descends k.direction; nulls_first = nulls_come_first k.direction k.nulls }

abbrev pub sort_key : Names → List Field → KeyTree → Verdict Sorting
sort_key s cs k = and_then (operand s cs true k.value) (λ x. Ok (sorting k x))

abbrev pub sort_keys : Names → List Field → List KeyTree → Verdict (List Sorting)
sort_keys s cs [] = Ok []
sort_keys s cs (k ∷ ks) = and_then (sort_key s cs k) (λ x. and_then (sort_keys s cs ks) (λ xs. Ok (x ∷ xs)))

abbrev pub unsupported_keys : List ℕ → List KeyTree → Option ℕ
unsupported_keys text [] = None
unsupported_keys text (k ∷ ks) = or_later (unsupported_in text k.value) (unsupported_keys text ks)
