-- The words of the language and what spells them.
use Rattle.std.specs.Prelude.{ℕ, Bool, List, [], ◌∷◌, Option, codes}
use Rattle.std.specs.List.{find}
use Rattle.std.specs.Option.{unwrap_or}
use Rattle.kq_read_symbols.specs.declared.word.ReservedWord.{ReservedWord}
use Rattle.kq_read_symbols.specs.declared.word.ReservedWord.TheVariants as reserved
use Rattle.kq_read_symbols.specs.declared.word.SourceWord.{SourceWord}
use Rattle.kq_read_symbols.specs.declared.word.SourceWord.TheVariants as source
use Rattle.kq_read_symbols.specs.declared.word.OperatorWord.{OperatorWord}
use Rattle.kq_read_symbols.specs.declared.word.OperatorWord.TheVariants as operator
use Rattle.kq_read_symbols.specs.declared.word.ClauseWord.{ClauseWord}
use Rattle.kq_read_symbols.specs.declared.word.ClauseWord.TheVariants as clause
use Rattle.kq_read_symbols.specs.declared.word.JoinKind.{JoinKind}
use Rattle.kq_read_symbols.specs.declared.word.JoinKind.TheVariants as join
use Rattle.kq_read_symbols.specs.declared.word.ControlWord.{ControlWord}
use Rattle.kq_read_symbols.specs.declared.word.ControlWord.TheVariants as control
use Rattle.kq_read_symbols.specs.declared.word.Word.{Word}
use Rattle.kq_read_symbols.specs.declared.word.Word.TheVariants as word
use Rattle.kq_read_tokens.specs.Bytes.{is_text}

abbrev pub reserved_word_spelling : ReservedWord → List ℕ
reserved_word_spelling reserved.And = codes "and"
reserved_word_spelling reserved.Or = codes "or"
reserved_word_spelling reserved.By = codes "by"
reserved_word_spelling reserved.True = codes "true"
reserved_word_spelling reserved.False = codes "false"
reserved_word_spelling reserved.Let = codes "let"
reserved_word_spelling reserved.In = codes "in"
reserved_word_spelling reserved.Between = codes "between"
reserved_word_spelling reserved.Has = codes "has"
reserved_word_spelling reserved.HasCs = codes "has_cs"
reserved_word_spelling reserved.Contains = codes "contains"
reserved_word_spelling reserved.ContainsCs = codes "contains_cs"
reserved_word_spelling reserved.StartsWith = codes "startswith"
reserved_word_spelling reserved.StartsWithCs = codes "startswith_cs"
reserved_word_spelling reserved.EndsWith = codes "endswith"
reserved_word_spelling reserved.EndsWithCs = codes "endswith_cs"

abbrev pub source_word_spelling : SourceWord → List ℕ
source_word_spelling source.Print = codes "print"
source_word_spelling source.Range = codes "range"
source_word_spelling source.Datatable = codes "datatable"
source_word_spelling source.Union = codes "union"
source_word_spelling source.MaterializedView = codes "materialized_view"

abbrev pub operator_word_spelling : OperatorWord → List ℕ
operator_word_spelling operator.Where = codes "where"
operator_word_spelling operator.Filter = codes "filter"
operator_word_spelling operator.Extend = codes "extend"
operator_word_spelling operator.Project = codes "project"
operator_word_spelling operator.Take = codes "take"
operator_word_spelling operator.Limit = codes "limit"
operator_word_spelling operator.Count = codes "count"
operator_word_spelling operator.Sort = codes "sort"
operator_word_spelling operator.Order = codes "order"
operator_word_spelling operator.Top = codes "top"
operator_word_spelling operator.Distinct = codes "distinct"
operator_word_spelling operator.Summarize = codes "summarize"
operator_word_spelling operator.Join = codes "join"

abbrev pub clause_word_spelling : ClauseWord → List ℕ
clause_word_spelling clause.From = codes "from"
clause_word_spelling clause.To = codes "to"
clause_word_spelling clause.Step = codes "step"
clause_word_spelling clause.Kind = codes "kind"
clause_word_spelling clause.Outer = codes "outer"
clause_word_spelling clause.Asc = codes "asc"
clause_word_spelling clause.Desc = codes "desc"
clause_word_spelling clause.Nulls = codes "nulls"
clause_word_spelling clause.First = codes "first"
clause_word_spelling clause.Last = codes "last"
clause_word_spelling clause.On = codes "on"
clause_word_spelling clause.Typeof = codes "typeof"

abbrev pub join_kind_spelling : JoinKind → List ℕ
join_kind_spelling join.InnerUnique = codes "innerunique"
join_kind_spelling join.Inner = codes "inner"
join_kind_spelling join.LeftOuter = codes "leftouter"
join_kind_spelling join.RightOuter = codes "rightouter"
join_kind_spelling join.FullOuter = codes "fullouter"
join_kind_spelling join.LeftSemi = codes "leftsemi"
join_kind_spelling join.RightSemi = codes "rightsemi"
join_kind_spelling join.LeftAnti = codes "leftanti"
join_kind_spelling join.RightAnti = codes "rightanti"

abbrev pub control_word_spelling : ControlWord → List ℕ
control_word_spelling control.Create = codes "create"
control_word_spelling control.Table = codes "table"
control_word_spelling control.Ingest = codes "ingest"
control_word_spelling control.Inline = codes "inline"
control_word_spelling control.Into = codes "into"
control_word_spelling control.With = codes "with"
control_word_spelling control.Alter = codes "alter"
control_word_spelling control.Policy = codes "policy"
control_word_spelling control.Update = codes "update"
control_word_spelling control.Async = codes "async"
control_word_spelling control.IfNotExists = codes "ifnotexists"
control_word_spelling control.Show = codes "show"
control_word_spelling control.Ingestion = codes "ingestion"
control_word_spelling control.Failures = codes "failures"
control_word_spelling control.Extents = codes "extents"
control_word_spelling control.Journal = codes "journal"
control_word_spelling control.Fold = codes "fold"
control_word_spelling control.Merge = codes "merge"
control_word_spelling control.Export = codes "export"
control_word_spelling control.Over = codes "over"

-- nothing, for a word that is none of the language
abbrev pub spelling : Word → List ℕ
spelling (word.Reserved w) = reserved_word_spelling w
spelling (word.Source w) = source_word_spelling w
spelling (word.Operator w) = operator_word_spelling w
spelling (word.Clause w) = clause_word_spelling w
spelling (word.Join w) = join_kind_spelling w
spelling (word.Control w) = control_word_spelling w
spelling word.Other = []

abbrev pub spells_word : Word → List ℕ → Bool
spells_word w bytes = is_text (spelling w) bytes

abbrev pub words : List Word
words = word.Reserved reserved.And ∷ word.Reserved reserved.Or ∷ word.Reserved reserved.By ∷ word.Reserved reserved.True ∷ word.Reserved reserved.False ∷ word.Reserved reserved.Let ∷ word.Reserved reserved.In ∷ word.Reserved reserved.Between ∷ word.Reserved reserved.Has ∷ word.Reserved reserved.HasCs ∷ word.Reserved reserved.Contains ∷ word.Reserved reserved.ContainsCs ∷ word.Reserved reserved.StartsWith ∷ word.Reserved reserved.StartsWithCs ∷ word.Reserved reserved.EndsWith ∷ word.Reserved reserved.EndsWithCs ∷ word.Source source.Print ∷ word.Source source.Range ∷ word.Source source.Datatable ∷ word.Source source.Union ∷ word.Source source.MaterializedView ∷ word.Operator operator.Where ∷ word.Operator operator.Filter ∷ word.Operator operator.Extend ∷ word.Operator operator.Project ∷ word.Operator operator.Take ∷ word.Operator operator.Limit ∷ word.Operator operator.Count ∷ word.Operator operator.Sort ∷ word.Operator operator.Order ∷ word.Operator operator.Top ∷ word.Operator operator.Distinct ∷ word.Operator operator.Summarize ∷ word.Operator operator.Join ∷ word.Clause clause.From ∷ word.Clause clause.To ∷ word.Clause clause.Step ∷ word.Clause clause.Kind ∷ word.Clause clause.Outer ∷ word.Clause clause.Asc ∷ word.Clause clause.Desc ∷ word.Clause clause.Nulls ∷ word.Clause clause.First ∷ word.Clause clause.Last ∷ word.Clause clause.On ∷ word.Clause clause.Typeof ∷ word.Join join.InnerUnique ∷ word.Join join.Inner ∷ word.Join join.LeftOuter ∷ word.Join join.RightOuter ∷ word.Join join.FullOuter ∷ word.Join join.LeftSemi ∷ word.Join join.RightSemi ∷ word.Join join.LeftAnti ∷ word.Join join.RightAnti ∷ word.Control control.Create ∷ word.Control control.Table ∷ word.Control control.Ingest ∷ word.Control control.Inline ∷ word.Control control.Into ∷ word.Control control.With ∷ word.Control control.Alter ∷ word.Control control.Policy ∷ word.Control control.Update ∷ word.Control control.Async ∷ word.Control control.IfNotExists ∷ word.Control control.Show ∷ word.Control control.Ingestion ∷ word.Control control.Failures ∷ word.Control control.Extents ∷ word.Control control.Journal ∷ word.Control control.Fold ∷ word.Control control.Merge ∷ word.Control control.Export ∷ word.Control control.Over ∷ []

-- the word of the language that has this spelling
abbrev pub known_word : List ℕ → Option Word
known_word bytes = find (λ w. spells_word w bytes) words

abbrev pub word_of : List ℕ → Word
word_of bytes = unwrap_or (known_word bytes) word.Other
