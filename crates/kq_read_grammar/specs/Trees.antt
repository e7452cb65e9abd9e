-- The trees of the grammar, as plain data.
use Rattle.std.specs.Prelude.{List, Option}
use Rattle.kq_read_grammar.specs.declared.expression.Name.{Name}
use Rattle.kq_read_grammar.specs.declared.clause.Cell.{Cell}
use Rattle.kq_read_grammar.specs.declared.clause.Column.{Column}
use Rattle.kq_read_grammar.specs.declared.clause.JoinKey.{JoinKey}
use Rattle.kq_read_symbols.specs.declared.kind.Symbol.{Symbol}
use Rattle.kq_read_symbols.specs.Choices.{Right}

pub data Precedence : Type 0 where
  disjunction : Precedence
  conjunction : Precedence
  sum : Precedence
  product : Precedence

mutual
  pub data Tree : Type 0 where
    name : Name → Tree
    literal : Symbol → Tree
    group : Symbol → Tree → Tree
    call : Symbol → Trees → Tree
    -- an operand and one step or more
    path : Tree → OneStep → Steps → Tree
    signed : Symbol → Tree → Tree
    compare : Tree → Symbol → Tree → Tree
    -- an operand, `in`, and one value or more
    within : Tree → Symbol → Tree → Trees → Tree
    between : Tree → Symbol → Tree → Tree → Tree
    -- an operand and one link or more, of one precedence
    chain : Precedence → Tree → Symbol → Tree → Links → Tree

  pub data Trees : Type 0 where
    no_tree : Trees
    and_tree : Tree → Trees → Trees

  pub data Links : Type 0 where
    no_link : Links
    and_link : Symbol → Tree → Links → Links

  pub data OneStep : Type 0 where
    member : Symbol → Name → OneStep
    index : Symbol → Tree → OneStep

  pub data Steps : Type 0 where
    no_step : Steps
    and_step : OneStep → Steps → Steps

-- an operator of an interval, and the ends
pub record IntervalEnds : Type 0 where
  pub operator : Symbol
  pub low : Tree
  pub high : Tree

-- ---- what operators and sources are made of

pub data ItemTree : Type 0 where
  plain : Tree → ItemTree
  named : Name → Tree → ItemTree

pub record KeyTree : Type 0 where
  pub value : Tree
  pub direction : Option Symbol
  pub nulls : Option Symbol

pub data ArgumentTree : Type 0 where
  value : Tree → ArgumentTree
  all : Symbol → ArgumentTree

pub record AggregateTree : Type 0 where
  pub given : Option Name
  pub function : Symbol
  pub arguments : List ArgumentTree

-- one item or more
abbrev pub GroupingTree : Type 0
GroupingTree = ItemTree × List ItemTree

-- ---- sources and operators

mutual
  pub data TabularTree : Type 0 where
    pipeline : SourceTree → Operators → TabularTree

  pub data SourceTree : Type 0 where
    table : Name → SourceTree
    nested : Symbol → TabularTree → SourceTree
    worded : Symbol → FromTree → SourceTree

  -- a source without its word
  pub data FromTree : Type 0 where
    view : Symbol → FromTree
    print : ItemTree → List ItemTree → FromTree
    range : Name → Tree → Tree → Tree → FromTree
    datatable : Column → List Column → List Cell → FromTree
    union : UnionTree → FromTree

  pub data UnionTree : Type 0 where
    arms : Option Symbol → ArmTree → Arms → UnionTree

  pub data ArmTree : Type 0 where
    named_arm : Name → ArmTree
    nested_arm : Symbol → TabularTree → ArmTree

  pub data Arms : Type 0 where
    no_arm : Arms
    and_arm : ArmTree → Arms → Arms

  pub data Operators : Type 0 where
    no_operator : Operators
    and_operator : Symbol → BodyTree → Operators → Operators

  -- an operator without its word
  pub data BodyTree : Type 0 where
    filter : Tree → BodyTree
    extend : ItemTree → List ItemTree → BodyTree
    project : ItemTree → List ItemTree → BodyTree
    project_away : Name → List Name → BodyTree
    project_rename : Name × Name → List (Name × Name) → BodyTree
    take : Symbol → BodyTree
    count : BodyTree
    sort : KeyTree → List KeyTree → BodyTree
    top : Symbol → KeyTree → BodyTree
    distinct : Name → List Name → BodyTree
    distinct_all : Symbol → BodyTree
    summarize : AggregateTree → List AggregateTree → Option GroupingTree → BodyTree
    summarize_by : GroupingTree → BodyTree
    join : Option Name → TabularTree → JoinKey → List JoinKey → BodyTree
    unite : UnionTree → BodyTree
    mv_expand : ItemTree → Option Symbol → BodyTree

-- ---- queries

pub record LetTree : Type 0 where
  pub name : Name
  pub right : Right Tree TabularTree

pub record QueryTree : Type 0 where
  pub lets : List LetTree
  pub tabular : TabularTree
