-- The trees of commands, as plain data.
use Rattle.std.specs.Prelude.{List, Option}
use Rattle.kq_read_control.specs.declared.tree.Property.{Property}
use Rattle.kq_read_grammar.specs.declared.clause.Column.{Column}
use Rattle.kq_read_grammar.specs.declared.expression.Name.{Name}
use Rattle.kq_read_grammar.specs.Trees.{TabularTree, QueryTree}
use Rattle.kq_read_symbols.specs.declared.kind.Symbol.{Symbol}
use Rattle.kq_read_symbols.specs.Located.{Located}

-- one column or more
abbrev pub ColumnsTree : Type 0
ColumnsTree = Column × List Column

abbrev pub PropertiesTree : Type 0
PropertiesTree = Property × List Property

-- a query in braces, with its first and its last symbol
abbrev pub BodyTree : Type 0
BodyTree = Located Symbol TabularTree

pub record ViewTree : Type 0 where
  pub at_leisure : Option Symbol
  pub unless_there : Option Symbol
  pub properties : Option PropertiesTree
  pub name : Name
  pub table : Name
  pub body : BodyTree

pub record ExportTree : Type 0 where
  pub table : Name
  pub body : BodyTree

pub data ControlTree : Type 0 where
  create_table : Name → ColumnsTree → ControlTree
  -- with the sign behind which the rows stand
  ingest : Name → Option PropertiesTree → Symbol → ControlTree
  set_policy : Name → Symbol → ControlTree
  alter_merge : Name → ColumnsTree → ControlTree
  create_view : ViewTree → ControlTree
  show_view : Name → ControlTree
  show_failures : ControlTree
  show_extents : Name → ControlTree
  show_journal : ControlTree
  fold : Name → ControlTree
  merge : Name → ControlTree
  export : Symbol → Option ExportTree → ControlTree

pub data StatementTree : Type 0 where
  query : QueryTree → StatementTree
  control : ControlTree → StatementTree
