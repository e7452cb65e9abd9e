-- No source with its operators has a semicolon in it.
use Rattle.std.proofs.Common.{◌≡◌, true, false, List, [], ◌∷◌, inl, inr, Option, Some, None, refl, sym, subst}
use Rattle.kq_read_grammar.specs.declared.clause.Cell.{Cell}
use Rattle.kq_read_grammar.specs.declared.clause.Column.{Column}
use Rattle.kq_read_grammar.specs.declared.clause.JoinKey.{JoinKey}
use Rattle.kq_read_grammar.specs.declared.clause.JoinKey.TheVariants as pair
use Rattle.kq_read_grammar.specs.declared.expression.Name.{Name}
use Rattle.kq_read_grammar.specs.declared.expression.Name.TheVariants as shown
use Rattle.kq_read_grammar.specs.Clauses as grammar
use Rattle.kq_read_grammar.specs.Clauses.{called}
use Rattle.kq_read_grammar.specs.Expressions.{Text, name_text, spells}
use Rattle.kq_read_grammar.specs.Tabulars.{source_key, source_of, source_word, leading_key, operator_of, operator_key, table_word, table_text, view_text, union_kind_text, kind_text, typeof_text, keys_on, tabular_text, source_text, from_text, union_text, arm_text, arms_text, operators_text, body_text}
use Rattle.kq_read_grammar.specs.Trees.{Tree, ItemTree, plain, named, KeyTree, ArgumentTree, value, all, AggregateTree, GroupingTree, TabularTree, pipeline, SourceTree, table, nested, worded, FromTree, view, print, range, datatable, union, UnionTree, arms, ArmTree, named_arm, nested_arm, Arms, no_arm, and_arm, Operators, no_operator, and_operator, BodyTree, filter, extend, project, project_away, project_rename, take, count, sort, top, distinct, distinct_all, summarize, summarize_by, join, unite, mv_expand}
use Rattle.kq_read_grammar.specs.declared.tabular.OperatorKey.{OperatorKey}
use Rattle.kq_read_symbols.specs.declared.kind.Kind.{Kind}
use Rattle.kq_read_symbols.specs.declared.kind.Kind.TheVariants as kind
use Rattle.kq_read_symbols.specs.declared.kind.Symbol.{Symbol}
use Rattle.kq_read_symbols.specs.declared.word.ClauseWord.TheVariants as w
use Rattle.kq_read_symbols.specs.declared.word.ReservedWord.TheVariants as r
use Rattle.kq_read_symbols.specs.declared.word.SourceWord.{SourceWord}
use Rattle.kq_read_tokens.specs.declared.kind.Side.TheVariants as side
use Rattle.kq_read_symbols.specs.Classes as k
use Rattle.kq_read_symbols.specs.Classes.{Class, of}
use Rattle.kq_read_symbols.specs.Forms.{one, some, ◌⨾◌, Many, Maybe}
use Rattle.kq_read_symbols.specs.Switching.{Marks}
use Rattle.kq_read_symbols.proofs.ClassLemmas.{apart}
use Rattle.kq_read_expressions.proofs.SemicolonLaws.{free, free_joined, free_one, free_some, no_semicolon_in_name, no_semicolon}

-- ---- forms

-- no text of the form has a semicolon
abbrev pub Free : Text → Type 0
Free text = (u : List Symbol) → text u → free u

free_empty : (u : List Symbol) → u ≡ [] → free u
free_empty u e = subst free (sym e) tt

free_then : (first second : Text) → Free first → Free second → Free (first ⨾ second)
free_then first second a b u s = free_joined u s.left s.right s.joined (a s.left s.before) (b s.right s.after)

-- a symbol of a class, and then
free_behind : (is : Class) → ((t : Symbol) → of is t ≡ true → of k.semicolon t ≡ false) → (second : Text) → Free second → Free (some (of is) ⨾ second)
free_behind is off second b = free_then (some (of is)) second (free_some is off) b

free_open : (t : Symbol) (second : Text) → Free second → Free (one (of k.open_parenthesis) t ⨾ second)
free_open t second b = free_then (one (of k.open_parenthesis) t) second (free_one k.open_parenthesis (apart k.open_parenthesis k.semicolon refl) t) b

free_to_close : (text : Text) → Free text → Free (text ⨾ some (of k.close_parenthesis))
free_to_close text a = free_then text (some (of k.close_parenthesis)) a (free_some k.close_parenthesis (apart k.close_parenthesis k.semicolon refl))

free_in_parentheses : (text : Text) → Free text → Free (some (of k.open_parenthesis) ⨾ text ⨾ some (of k.close_parenthesis))
free_in_parentheses text a = free_behind k.open_parenthesis (apart k.open_parenthesis k.semicolon refl) (text ⨾ some (of k.close_parenthesis)) (free_to_close text a)

module _ {A : Type 0} (form : A → Text) (off : (x : A) → Free (form x)) where
  free_maybe : (o : Option A) → Free (Maybe form o)
  free_maybe None u s = free_empty u s
  free_maybe (Some x) u s = off x u s

  free_many : (xs : List A) → Free (Many form xs)
  free_many [] u s = free_empty u s
  free_many (x ∷ xs) u s = free_joined u s.0 s.1 s.2 (off x s.0 s.3) (free_many xs s.1 s.4)

module _ {A : Type 0} (form : A → Text) (off : (x : A) → Free (form x)) where
  free_listed : (p : A × List A) → Free (grammar.listed form p)
  free_listed p = free_then (form p.0) (Many (λ y. some (of k.comma) ⨾ form y) p.1) (off p.0) (free_many (λ y. some (of k.comma) ⨾ form y) (λ y. free_behind k.comma (apart k.comma k.semicolon refl) (form y) (off y)) p.1)

-- ---- clauses

free_item : (i : ItemTree) → Free (grammar.item_text i)
free_item (plain e) = no_semicolon e
free_item (named n e) = free_then (name_text n) (some (of k.assign) ⨾ spells e) (no_semicolon_in_name n) (free_behind k.assign (apart k.assign k.semicolon refl) (spells e) (no_semicolon e))

free_nulls : (t : Symbol) → Free (grammar.nulls_text t)
free_nulls t = free_behind (k.clause w.Nulls) (apart (k.clause w.Nulls) k.semicolon refl) (one (of k.extreme) t) (free_one k.extreme (apart k.extreme k.semicolon refl) t)

free_key : (q : KeyTree) → Free (grammar.key_text q)
free_key q =
    free_then (spells q.value) (Maybe (one (of k.direction)) q.direction ⨾ Maybe grammar.nulls_text q.nulls) (no_semicolon q.value)
    (free_then (Maybe (one (of k.direction)) q.direction) (Maybe grammar.nulls_text q.nulls) (free_maybe (one (of k.direction)) (free_one k.direction (apart k.direction k.semicolon refl)) q.direction) (free_maybe grammar.nulls_text free_nulls q.nulls))

free_argument : (a : ArgumentTree) → Free (grammar.argument_text a)
free_argument (value e) = no_semicolon e
free_argument (all t) = free_one k.star (apart k.star k.semicolon refl) t

free_arguments : (es : List ArgumentTree) → Free (grammar.arguments_text es)
free_arguments [] = free_empty
free_arguments (a ∷ es) = free_listed grammar.argument_text free_argument (a, es)

free_given : (n : Name) → Free (grammar.given_text n)
free_given n = free_then (name_text n) (some (of k.assign)) (no_semicolon_in_name n) (free_some k.assign (apart k.assign k.semicolon refl))

free_call : (t : Symbol) (es : List ArgumentTree) → Free (grammar.call_text t es)
free_call t es = free_then (one (of called) t) (some (of k.open_parenthesis) ⨾ grammar.arguments_text es ⨾ some (of k.close_parenthesis)) (free_one called (apart called k.semicolon refl) t) (free_in_parentheses (grammar.arguments_text es) (free_arguments es))

free_aggregate : (a : AggregateTree) → Free (grammar.aggregate_text a)
free_aggregate a = free_then (Maybe grammar.given_text a.given) (grammar.call_text a.function a.arguments) (free_maybe grammar.given_text free_given a.given) (free_call a.function a.arguments)

free_grouping : (g : GroupingTree) → Free (grammar.grouping_text g)
free_grouping g = free_behind (k.reserved r.By) (apart (k.reserved r.By) k.semicolon refl) (grammar.items g) (free_listed grammar.item_text free_item g)

free_assigned : (n : Name) → Free (some (of k.assign) ⨾ name_text n)
free_assigned n = free_behind k.assign (apart k.assign k.semicolon refl) (name_text n) (no_semicolon_in_name n)

free_renaming : (p : Name × Name) → Free (grammar.renaming_text p)
free_renaming p = free_then (name_text p.0) (some (of k.assign) ⨾ name_text p.1) (no_semicolon_in_name p.0) (free_assigned p.1)

free_join_kind : (n : Name) → Free (grammar.join_kind_text n)
free_join_kind (shown.Word t) = free_one k.join_kind (apart k.join_kind k.semicolon refl) t
free_join_kind (shown.Bracketed t x) =
    free_then (one (of k.open_bracket) t) (one (of k.quoted_join_kind) x ⨾ some (of k.close_bracket)) (free_one k.open_bracket (apart k.open_bracket k.semicolon refl) t)
    (free_then (one (of k.quoted_join_kind) x) (some (of k.close_bracket)) (free_one k.quoted_join_kind (apart k.quoted_join_kind k.semicolon refl) x) (free_some k.close_bracket (apart k.close_bracket k.semicolon refl)))

free_dotted : (n : Name) → Free (some (of k.dot) ⨾ name_text n)
free_dotted n = free_behind k.dot (apart k.dot k.semicolon refl) (name_text n) (no_semicolon_in_name n)

free_left : (n : Name) → Free (some (of (k.side side.Left)) ⨾ some (of k.dot) ⨾ name_text n)
free_left n = free_behind (k.side side.Left) (apart (k.side side.Left) k.semicolon refl) (some (of k.dot) ⨾ name_text n) (free_dotted n)

free_right : (n : Name) → Free (some (of (k.side side.Right)) ⨾ some (of k.dot) ⨾ name_text n)
free_right n = free_behind (k.side side.Right) (apart (k.side side.Right) k.semicolon refl) (some (of k.dot) ⨾ name_text n) (free_dotted n)

free_equal : (t : Symbol) (first second : Text) → Free first → Free second → Free (first ⨾ one (of k.equals) t ⨾ second)
free_equal t first second a b = free_then first (one (of k.equals) t ⨾ second) a (free_then (one (of k.equals) t) second (free_one k.equals (apart k.equals k.semicolon refl) t) b)

free_join_key : (j : JoinKey) → Free (grammar.join_key_text j)
free_join_key (pair.Both n) = no_semicolon_in_name n
free_join_key (pair.LeftRight a t b) = free_equal t (some (of (k.side side.Left)) ⨾ some (of k.dot) ⨾ name_text a) (some (of (k.side side.Right)) ⨾ some (of k.dot) ⨾ name_text b) (free_left a) (free_right b)
free_join_key (pair.RightLeft a t b) = free_equal t (some (of (k.side side.Right)) ⨾ some (of k.dot) ⨾ name_text a) (some (of (k.side side.Left)) ⨾ some (of k.dot) ⨾ name_text b) (free_right a) (free_left b)

free_column : (c : Column) → Free (grammar.column_text c)
free_column c = free_then (name_text c.name) (some (of k.colon) ⨾ one (of k.any_word) c.ty) (no_semicolon_in_name c.name) (free_behind k.colon (apart k.colon k.semicolon refl) (one (of k.any_word) c.ty) (free_one k.any_word (apart k.any_word k.semicolon refl) c.ty))

free_cell : (c : Cell) → Free (grammar.cell_text c)
free_cell c = free_then (Maybe (one (of k.minus)) c.minus) (one (of k.literal) c.literal) (free_maybe (one (of k.minus)) (free_one k.minus (apart k.minus k.semicolon refl)) c.minus) (free_one k.literal (apart k.literal k.semicolon refl) c.literal)

free_more_cells : (cs : List Cell) → Free (grammar.more_cells cs)
free_more_cells [] u (inl e) = free_empty u e
free_more_cells [] u (inr s) = free_some k.comma (apart k.comma k.semicolon refl) u s
free_more_cells (c ∷ cs) u s = free_behind k.comma (apart k.comma k.semicolon refl) (grammar.cell_text c ⨾ grammar.more_cells cs) (free_then (grammar.cell_text c) (grammar.more_cells cs) (free_cell c) (free_more_cells cs)) u s

free_cells : (cs : List Cell) → Free (grammar.cells_text cs)
free_cells [] = free_empty
free_cells (c ∷ cs) = free_then (grammar.cell_text c) (grammar.more_cells cs) (free_cell c) (free_more_cells cs)

-- ---- parts of sources and operators

free_table : (n : Name) → Free (table_text n)
free_table (shown.Word t) = free_one table_word (apart table_word k.semicolon refl) t
free_table (shown.Bracketed t x) = no_semicolon_in_name (shown.Bracketed t x)

free_view : (t : Symbol) → Free (view_text t)
free_view t = free_in_parentheses (one (of k.text) t) (free_one k.text (apart k.text k.semicolon refl) t)

free_union_kind : (t : Symbol) → Free (union_kind_text t)
free_union_kind t = free_behind (k.clause w.Kind) (apart (k.clause w.Kind) k.semicolon refl) (some (of k.assign) ⨾ one (of k.union_kind) t) (free_behind k.assign (apart k.assign k.semicolon refl) (one (of k.union_kind) t) (free_one k.union_kind (apart k.union_kind k.semicolon refl) t))

free_kind : (n : Name) → Free (kind_text n)
free_kind n = free_behind (k.clause w.Kind) (apart (k.clause w.Kind) k.semicolon refl) (some (of k.assign) ⨾ grammar.join_kind_text n) (free_behind k.assign (apart k.assign k.semicolon refl) (grammar.join_kind_text n) (free_join_kind n))

free_typeof : (t : Symbol) → Free (typeof_text t)
free_typeof t =
    free_behind (k.clause w.To) (apart (k.clause w.To) k.semicolon refl) (some (of (k.clause w.Typeof)) ⨾ some (of k.open_parenthesis) ⨾ one (of k.any_word) t ⨾ some (of k.close_parenthesis))
    (free_behind (k.clause w.Typeof) (apart (k.clause w.Typeof) k.semicolon refl) (some (of k.open_parenthesis) ⨾ one (of k.any_word) t ⨾ some (of k.close_parenthesis))
    (free_in_parentheses (one (of k.any_word) t) (free_one k.any_word (apart k.any_word k.semicolon refl) t)))

free_keys_on : (p : JoinKey × List JoinKey) → Free (keys_on p)
free_keys_on p = free_behind (k.clause w.On) (apart (k.clause w.On) k.semicolon refl) (grammar.listed grammar.join_key_text p) (free_listed grammar.join_key_text free_join_key p)

free_ends : (a b c : Tree) → Free ((some (of (k.clause w.From)) ⨾ spells a) ⨾ (some (of (k.clause w.To)) ⨾ spells b) ⨾ (some (of (k.clause w.Step)) ⨾ spells c))
free_ends a b c =
    free_then (some (of (k.clause w.From)) ⨾ spells a) ((some (of (k.clause w.To)) ⨾ spells b) ⨾ (some (of (k.clause w.Step)) ⨾ spells c)) (free_behind (k.clause w.From) (apart (k.clause w.From) k.semicolon refl) (spells a) (no_semicolon a))
    (free_then (some (of (k.clause w.To)) ⨾ spells b) (some (of (k.clause w.Step)) ⨾ spells c) (free_behind (k.clause w.To) (apart (k.clause w.To) k.semicolon refl) (spells b) (no_semicolon b))
    (free_behind (k.clause w.Step) (apart (k.clause w.Step) k.semicolon refl) (spells c) (no_semicolon c)))

free_datatable : (c : Column) (cs : List Column) (ls : List Cell) → Free (from_text (datatable c cs ls))
free_datatable c cs ls =
    free_then (some (of k.open_parenthesis) ⨾ grammar.columns_text (c, cs) ⨾ some (of k.close_parenthesis)) (some (of k.open_bracket) ⨾ grammar.cells_text ls ⨾ some (of k.close_bracket)) (free_in_parentheses (grammar.columns_text (c, cs)) (free_listed grammar.column_text free_column (c, cs)))
    (free_behind k.open_bracket (apart k.open_bracket k.semicolon refl) (grammar.cells_text ls ⨾ some (of k.close_bracket))
    (free_then (grammar.cells_text ls) (some (of k.close_bracket)) (free_cells ls) (free_some k.close_bracket (apart k.close_bracket k.semicolon refl))))

source_kind : (x : Kind) (a : SourceWord) → source_key x ≡ Some a → k.semicolon x ≡ false
source_kind (kind.Punctuation s) a e = absurd (cc e)
source_kind _ a e = refl

operator_kind : (x : Kind) (a : OperatorKey) → leading_key x ≡ Some a → k.semicolon x ≡ false
operator_kind (kind.Punctuation s) a e = absurd (cc e)
operator_kind _ a e = refl

free_source_mark : (p : Symbol × SourceWord) → Free (Marks source_of p)
free_source_mark p u s = subst free (sym s.1) (source_kind p.0.kind p.1 s.0, tt)

free_operator_mark : (p : Symbol × OperatorKey) → Free (Marks operator_of p)
free_operator_mark p u s = subst free (sym s.1) (operator_kind p.0.kind p.1 s.0, tt)

-- ---- sources and operators

mutual
  pub free_tabular : (q : TabularTree) → Free (tabular_text q)
  free_tabular (pipeline x os) = free_then (source_text x) (operators_text os) (free_source x) (free_operators os)

  free_source : (x : SourceTree) → Free (source_text x)
  free_source (table n) = free_table n
  free_source (nested t q) = free_open t (tabular_text q ⨾ some (of k.close_parenthesis)) (free_to_close (tabular_text q) (free_tabular q))
  free_source (worded t b) = free_then (Marks source_of (t, source_word b)) (from_text b) (free_source_mark (t, source_word b)) (free_from b)

  free_from : (b : FromTree) → Free (from_text b)
  free_from (view t) = free_view t
  free_from (print i is) = free_listed grammar.item_text free_item (i, is)
  free_from (range n a b c) = free_then (name_text n) ((some (of (k.clause w.From)) ⨾ spells a) ⨾ (some (of (k.clause w.To)) ⨾ spells b) ⨾ (some (of (k.clause w.Step)) ⨾ spells c)) (no_semicolon_in_name n) (free_ends a b c)
  free_from (datatable c cs ls) = free_datatable c cs ls
  free_from (union x) = free_union x

  free_union : (x : UnionTree) → Free (union_text x)
  free_union (arms o a more) = free_then (Maybe union_kind_text o) (arm_text a ⨾ arms_text more) (free_maybe union_kind_text free_union_kind o) (free_then (arm_text a) (arms_text more) (free_arm a) (free_arms more))

  free_arm : (a : ArmTree) → Free (arm_text a)
  free_arm (named_arm n) = no_semicolon_in_name n
  free_arm (nested_arm t q) = free_open t (tabular_text q ⨾ some (of k.close_parenthesis)) (free_to_close (tabular_text q) (free_tabular q))

  free_arms : (more : Arms) → Free (arms_text more)
  free_arms no_arm = free_empty
  free_arms (and_arm a more) = free_then (some (of k.comma) ⨾ arm_text a) (arms_text more) (free_behind k.comma (apart k.comma k.semicolon refl) (arm_text a) (free_arm a)) (free_arms more)

  free_operators : (os : Operators) → Free (operators_text os)
  free_operators no_operator = free_empty
  free_operators (and_operator t b os) =
      free_then (some (of k.pipe) ⨾ Marks operator_of (t, operator_key b) ⨾ body_text b) (operators_text os)
      (free_behind k.pipe (apart k.pipe k.semicolon refl) (Marks operator_of (t, operator_key b) ⨾ body_text b) (free_then (Marks operator_of (t, operator_key b)) (body_text b) (free_operator_mark (t, operator_key b)) (free_body b)))
      (free_operators os)

  free_body : (b : BodyTree) → Free (body_text b)
  free_body (filter e) = no_semicolon e
  free_body (extend i is) = free_listed grammar.item_text free_item (i, is)
  free_body (project i is) = free_listed grammar.item_text free_item (i, is)
  free_body (project_away n ns) = free_listed name_text no_semicolon_in_name (n, ns)
  free_body (project_rename p ps) = free_listed grammar.renaming_text free_renaming (p, ps)
  free_body (take t) = free_one k.whole_number (apart k.whole_number k.semicolon refl) t
  free_body count = free_empty
  free_body (sort q qs) = free_behind (k.reserved r.By) (apart (k.reserved r.By) k.semicolon refl) (grammar.listed grammar.key_text (q, qs)) (free_listed grammar.key_text free_key (q, qs))
  free_body (top t q) = free_then (one (of k.whole_number) t) (some (of (k.reserved r.By)) ⨾ grammar.key_text q) (free_one k.whole_number (apart k.whole_number k.semicolon refl) t) (free_behind (k.reserved r.By) (apart (k.reserved r.By) k.semicolon refl) (grammar.key_text q) (free_key q))
  free_body (distinct n ns) = free_listed name_text no_semicolon_in_name (n, ns)
  free_body (distinct_all t) = free_one k.star (apart k.star k.semicolon refl) t
  free_body (summarize a more g) = free_then (grammar.listed grammar.aggregate_text (a, more)) (Maybe grammar.grouping_text g) (free_listed grammar.aggregate_text free_aggregate (a, more)) (free_maybe grammar.grouping_text free_grouping g)
  free_body (summarize_by g) = free_grouping g
  free_body (join o q j js) =
      free_then (Maybe kind_text o) ((some (of k.open_parenthesis) ⨾ tabular_text q ⨾ some (of k.close_parenthesis)) ⨾ keys_on (j, js)) (free_maybe kind_text free_kind o)
      (free_then (some (of k.open_parenthesis) ⨾ tabular_text q ⨾ some (of k.close_parenthesis)) (keys_on (j, js)) (free_in_parentheses (tabular_text q) (free_tabular q)) (free_keys_on (j, js)))
  free_body (unite x) = free_union x
  free_body (mv_expand i o) = free_then (grammar.item_text i) (Maybe typeof_text o) (free_item i) (free_maybe typeof_text free_typeof o)
