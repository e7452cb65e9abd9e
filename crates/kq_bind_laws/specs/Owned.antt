-- The name that an expression has of itself.
use Rattle.std.specs.Prelude.{ℕ, List, [], ◌∷◌, ◌++◌, codes}
use Rattle.kq_bind_query.specs.Suffixes.{IsNamed}
use Rattle.kq_bind_query.specs.United.{Has}
use Rattle.kq_read_grammar.specs.declared.expression.Name.{Name}
use Rattle.kq_read_grammar.specs.Trees.{Tree, name, group, call, path, Trees, and_tree, member, no_step}
use Rattle.kq_read_meanings.specs.Names.{name_said}
use Rattle.kq_read_meanings.specs.Pieces.{piece}
use Rattle.kq_read_symbols.specs.declared.kind.Symbol.{Symbol}
use Rattle.kq_value.specs.declared.schema.Field.{Field}

-- the functions that leave the name of a column
abbrev pub column_words : List (List ℕ)
column_words = codes "bin" ∷ codes "floor" ∷ codes "startofday" ∷ codes "startofweek" ∷ codes "startofmonth" ∷ codes "startofyear" ∷ []

-- those that leave the name that their argument alone would have, where that is a column or a member of one
abbrev pub conversion_words : List (List ℕ)
conversion_words = codes "tostring" ∷ codes "tolong" ∷ codes "toint" ∷ codes "tobool" ∷ codes "todatetime" ∷ codes "totimespan" ∷ []

-- an expression that is a column has its name, in parentheses too
pub data SaysColumn (text : List ℕ) (cs : List Field) : Tree → List ℕ → Type 0 where
  by_name : (n : Name) → IsNamed cs (name_said text n) → SaysColumn text cs (name n) (name_said text n)
  within : (t : Symbol) (e : Tree) (said : List ℕ) → SaysColumn text cs e said → SaysColumn text cs (group t e) said

-- one that is a member of a column has the names of both
pub data SaysPath (text : List ℕ) (cs : List Field) : Tree → List ℕ → Type 0 where
  by_column : (n : Name) → IsNamed cs (name_said text n) → SaysPath text cs (name n) (name_said text n)
  by_member : (e : Tree) (d : Symbol) (n : Name) (said : List ℕ) → SaysColumn text cs e said
      → SaysPath text cs (path e (member d n) no_step) (said ++ codes "_" ++ name_said text n)
  enclosed : (t : Symbol) (e : Tree) (said : List ℕ) → SaysPath text cs e said → SaysPath text cs (group t e) said

-- these expressions have a name of themselves, and no others
pub data OwnsName (text : List ℕ) (cs : List Field) : Tree → List ℕ → Type 0 where
  of_path : (e : Tree) (said : List ℕ) → SaysPath text cs e said → OwnsName text cs e said
  of_part : (t : Symbol) (e : Tree) (es : Trees) (said : List ℕ) → Has column_words (piece text t) → SaysColumn text cs e said
      → OwnsName text cs (call t (and_tree e es)) said
  of_conversion : (t : Symbol) (e : Tree) (es : Trees) (said : List ℕ) → Has conversion_words (piece text t) → SaysPath text cs e said
      → OwnsName text cs (call t (and_tree e es)) said
  of_group : (t : Symbol) (e : Tree) (said : List ℕ) → OwnsName text cs e said → OwnsName text cs (group t e) said
