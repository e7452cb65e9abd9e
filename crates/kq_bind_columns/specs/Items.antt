-- The columns that an operator makes, one after another.
use Rattle.std.specs.Prelude.{ℕ, ◌+◌, Bool, true, false, List, [], ◌∷◌, ◌++◌, Option, Some, None, Ok, Err, codes, if◌then◌else◌}
use Rattle.kq_bind_columns.specs.Defaults.{first_token, default_name}
use Rattle.kq_bind_columns.specs.Naming.{is_taken, free_name, numbered}
use Rattle.kq_bind_expressions.specs.Bound.{bound}
use Rattle.kq_bind_expressions.specs.Names.{Names}
use Rattle.kq_bind_expressions.specs.Unsupported.{or_later, unsupported_in}
use Rattle.kq_bind_expressions.specs.Verdicts.{Verdict, mistyped, and_then}
use Rattle.kq_plan_expressions.specs.Terms.{Term, Bound}
use Rattle.kq_read_grammar.specs.declared.expression.Name.{Name}
use Rattle.kq_read_grammar.specs.Trees.{Tree, ItemTree, plain, named}
use Rattle.kq_bind_expressions.specs.kq_read_meanings.Names.{name_said, name_place}
use Rattle.kq_value.specs.declared.schema.Field.{Field}
use Rattle.kq_value.specs.declared.ty.Ty.{Ty}
use Rattle.kq_value.specs.declared.ty.Ty.TheVariants as ty
use Rattle.kq_value.specs.Ty.{same_ty}

abbrev pub field : List ℕ → Ty → Field
field name t = record { name = name; ty = t }

-- what the operator has made so far, and how many of these had no name
pub record Making : Type 0 where
  pub terms : List Term
  pub fields : List Field
  pub unnamed : ℕ

abbrev pub nothing_made : Making
nothing_made = record { terms = []; fields = []; unnamed = 0 }

abbrev pub put : Making → ℕ → Bound → List ℕ → Making
put m unnamed x name = record { terms = m.terms ++ x.0 ∷ []; fields = m.fields ++ field name x.1 ∷ []; unnamed = unnamed }

-- under a default name; a suffix avoids these columns too
abbrev pub put_default : List Field → Making → Bound → List ℕ → Making
put_default avoided m x name = put m m.unnamed x (free_name m.fields avoided name)

-- under the name that it has of itself, or as one column more without a name
abbrev pub put_own : List Field → Making → Bound → Option (List ℕ) → Making
put_own avoided m x (Some name) = put_default avoided m x name
put_own avoided m x None = put m (m.unnamed + 1) x (free_name m.fields avoided (numbered (codes "Column") (m.unnamed + 1)))

-- under the name that it is given, which the operator may not have given before
abbrev pub put_given : List ℕ → Making → Bound → Name → Verdict Making
put_given text m x n = if is_taken m.fields (name_said text n) then Err (mistyped (name_place n)) else Ok (put m m.unnamed x (name_said text n))

-- ---- items

-- a dynamic is no key
abbrev pub as_key : Bool → ℕ → Bound → Verdict Bound
as_key true at x = if same_ty x.1 ty.Dynamic then Err (mistyped at) else Ok x
as_key false at x = Ok x

abbrev pub operand : Names → List Field → Bool → Tree → Verdict Bound
operand s cs keys e = and_then (bound s cs e) (as_key keys (first_token e))

-- the expression is bound before its given name is tested
abbrev pub item_made : Names → List Field → List Field → Bool → Making → ItemTree → Verdict Making
item_made s cs avoided keys m (plain e) = and_then (operand s cs keys e) (λ x. Ok (put_own avoided m x (default_name s.text cs e)))
item_made s cs avoided keys m (named n e) = and_then (operand s cs keys e) (λ x. put_given s.text m x n)

abbrev pub items_made : Names → List Field → List Field → Bool → Making → List ItemTree → Verdict Making
items_made s cs avoided keys m [] = Ok m
items_made s cs avoided keys m (i ∷ is) = and_then (item_made s cs avoided keys m i) (λ n. items_made s cs avoided keys n is)

-- ---- what isn't supported

abbrev pub unsupported_item : List ℕ → ItemTree → Option ℕ
unsupported_item text (plain e) = unsupported_in text e
unsupported_item text (named n e) = unsupported_in text e

abbrev pub unsupported_items : List ℕ → List ItemTree → Option ℕ
unsupported_items text [] = None
unsupported_items text (i ∷ is) = or_later (unsupported_item text i) (unsupported_items text is)
