-- The expressions that have a name of themselves are those that the definition names.
use Rattle.std.proofs.Common.{◌≡◌, ℕ, zero, suc, Bool, true, false, cond, List, [], ◌∷◌, ◌++◌, map, Option, Some, None, refl, sym, ap, ◌∙◌, subst}
use Rattle.std.specs.Prelude.{codes, nat_eq, slice_get}
use Rattle.std.specs.Cmp.Lexicographic.{pointwise}
use Rattle.std.specs.List.{filter}
use Rattle.kq_bind_columns.specs.Defaults.{if_column, column_of, joined_names, path_name, keeps_column, keeps_path, name_at, name_kept, default_name}
use Rattle.kq_bind_columns.specs.Naming.{is_taken}
use Rattle.kq_plan_functions.specs.declared.function.Function.{Function}
use Rattle.kq_plan_functions.specs.declared.function.Function.TheVariants as f
use Rattle.kq_plan_functions.specs.Names.{function_names, first_named, function_named}
use Rattle.kq_read_grammar.specs.declared.expression.Name.{Name}
use Rattle.kq_read_grammar.specs.Trees.{Tree, name, literal, group, call, path, signed, compare, within as among, between, chain, Trees, no_tree, and_tree, member, index, no_step, and_step}
use Rattle.kq_read_meanings.specs.Names.{name_said}
use Rattle.kq_read_meanings.specs.Pieces.{piece}
use Rattle.kq_read_symbols.specs.declared.kind.Symbol.{Symbol}
use Rattle.kq_value.specs.declared.schema.Field.{Field}
use Rattle.kq_bind_query.specs.Suffixes.{IsNamed}
use Rattle.kq_bind_query.specs.United.{Has}
use Rattle.kq_bind_query.proofs.Apart.{same_text_is}
use Rattle.kq_bind_query.proofs.Suffixed.{taken_named, named_taken}
use Rattle.kq_bind_laws.specs.Owned.{column_words, conversion_words, SaysColumn, by_name, within, SaysPath, by_column, by_member, enclosed, OwnsName, of_path, of_part, of_conversion, of_group}

-- ---- words of functions

abbrev word_of : List ℕ × Function → List ℕ
word_of p = p.0

-- the words of a table whose functions pass
abbrev words_of : (Function → Bool) → List (List ℕ × Function) → List (List ℕ)
words_of test table = map word_of (filter (λ p. test p.1) table)

later_word : (w x : List ℕ) (ws : List (List ℕ)) → Has ws w → Has (x ∷ ws) w
later_word w x ws h = record { number = suc h.number; there = h.there }

word_there : (test : Function → Bool) (table : List (List ℕ × Function)) (w : List ℕ) (g : Function) → first_named table w ≡ Some g → test g ≡ true
    → Has (words_of test table) w
word_there test [] w g e h = absurd (cc)
word_there test (p ∷ ps) w g e h = by (pointwise nat_eq p.0 w) refl e (λ k. word_there test ps w g k h) where
  more : List (List ℕ × Function)
  more = filter (λ q. test q.1) ps

  here : (b : Bool) → test p.1 ≡ b → b ≡ true → p.0 ≡ w → Has (map word_of (cond b (p ∷ more) more)) w
  here true is so same = record { number = 0; there = ap (λ (z : List ℕ). Some z) same }
  here false is so same = absurd (cc)

  later : (b : Bool) → Has (map word_of more) w → Has (map word_of (cond b (p ∷ more) more)) w
  later true k = later_word w p.0 (map word_of more) k
  later false k = k

  by : (b : Bool) → pointwise nat_eq p.0 w ≡ b → cond b (Some p.1) (first_named ps w) ≡ Some g → (first_named ps w ≡ Some g → Has (map word_of more) w)
      → Has (map word_of (cond (test p.1) (p ∷ more) more)) w
  by true is k rest =
      let one : p.1 ≡ g = cc in
      here (test p.1) refl (subst (λ (z : Function). test z ≡ true) (sym one) h) (same_text_is p.0 w is)
  by false is k rest = later (test p.1) (rest k)

column_word : (w : List ℕ) (g : Function) → function_named w ≡ Some g → keeps_column g ≡ true → Has column_words w
column_word w g e h = word_there keeps_column function_names w g e h

conversion_word : (w : List ℕ) (g : Function) → function_named w ≡ Some g → keeps_path g ≡ true → Has conversion_words w
conversion_word w g e h = word_there keeps_path function_names w g e h

-- the function of a word, and what it keeps
record Keeps (w : List ℕ) (alone whole : Bool) : Type 0 where
  function : Function
  called : function_named w ≡ Some function
  by_itself : keeps_column function ≡ alone
  with_members : keeps_path function ≡ whole

keeps_so : (w said : List ℕ) (alone whole : Bool) → Some said ≡ Some w → Keeps said alone whole → Keeps w alone whole
keeps_so w said alone whole e k = let one : said ≡ w = cc in subst (λ (z : List ℕ). Keeps z alone whole) one k

column_keeps : (w : List ℕ) (n : ℕ) → slice_get column_words n ≡ Some w → Keeps w true false
column_keeps w zero e = keeps_so w (codes "bin") true false e (record { function = f.Bin; called = refl; by_itself = refl; with_members = refl })
column_keeps w (suc zero) e = keeps_so w (codes "floor") true false e (record { function = f.Bin; called = refl; by_itself = refl; with_members = refl })
column_keeps w (suc (suc zero)) e = keeps_so w (codes "startofday") true false e (record { function = f.StartOfDay; called = refl; by_itself = refl; with_members = refl })
column_keeps w (suc (suc (suc zero))) e = keeps_so w (codes "startofweek") true false e (record { function = f.StartOfWeek; called = refl; by_itself = refl; with_members = refl })
column_keeps w (suc (suc (suc (suc zero)))) e = keeps_so w (codes "startofmonth") true false e (record { function = f.StartOfMonth; called = refl; by_itself = refl; with_members = refl })
column_keeps w (suc (suc (suc (suc (suc zero))))) e = keeps_so w (codes "startofyear") true false e (record { function = f.StartOfYear; called = refl; by_itself = refl; with_members = refl })
column_keeps w (suc (suc (suc (suc (suc (suc n)))))) e = absurd (cc)

conversion_keeps : (w : List ℕ) (n : ℕ) → slice_get conversion_words n ≡ Some w → Keeps w false true
conversion_keeps w zero e = keeps_so w (codes "tostring") false true e (record { function = f.ToText; called = refl; by_itself = refl; with_members = refl })
conversion_keeps w (suc zero) e = keeps_so w (codes "tolong") false true e (record { function = f.ToLong; called = refl; by_itself = refl; with_members = refl })
conversion_keeps w (suc (suc zero)) e = keeps_so w (codes "toint") false true e (record { function = f.ToInt; called = refl; by_itself = refl; with_members = refl })
conversion_keeps w (suc (suc (suc zero))) e = keeps_so w (codes "tobool") false true e (record { function = f.ToBool; called = refl; by_itself = refl; with_members = refl })
conversion_keeps w (suc (suc (suc (suc zero)))) e = keeps_so w (codes "todatetime") false true e (record { function = f.ToMoment; called = refl; by_itself = refl; with_members = refl })
conversion_keeps w (suc (suc (suc (suc (suc zero))))) e = keeps_so w (codes "totimespan") false true e (record { function = f.ToSpan; called = refl; by_itself = refl; with_members = refl })
conversion_keeps w (suc (suc (suc (suc (suc (suc n)))))) e = absurd (cc)

-- ---- columns

column_if : (cs : List Field) (said out : List ℕ) → if_column cs said ≡ Some out → IsNamed cs said × (said ≡ out)
column_if cs said out e = by (is_taken cs said) refl e where
  by : (b : Bool) → is_taken cs said ≡ b → cond {A = Option (List ℕ)} b (Some said) None ≡ Some out → IsNamed cs said × (said ≡ out)
  by true is k = (taken_named cs said is, (cc))
  by false is k = absurd (cc)

if_named : (cs : List Field) (said : List ℕ) → IsNamed cs said → if_column cs said ≡ Some said
if_named cs said h = ap (λ b. cond {A = Option (List ℕ)} b (Some said) None) (named_taken cs said h)

column_to : (text : List ℕ) (cs : List Field) (e : Tree) (said : List ℕ) → column_of text cs e ≡ Some said → SaysColumn text cs e said
column_to text cs (name n) said e =
    let p = column_if cs (name_said text n) said e in subst (SaysColumn text cs (name n)) p.1 (by_name n p.0)
column_to text cs (group t e) said k = within t e said (column_to text cs e said k)
column_to text cs (literal t) said e = absurd (cc)
column_to text cs (call t es) said e = absurd (cc)
column_to text cs (path e p ps) said k = absurd (cc)
column_to text cs (signed t e) said k = absurd (cc)
column_to text cs (compare a t b) said k = absurd (cc)
column_to text cs (among a t e es) said k = absurd (cc)
column_to text cs (between a t b c) said k = absurd (cc)
column_to text cs (chain l a t b ls) said k = absurd (cc)

column_from : (text : List ℕ) (cs : List Field) {e : Tree} {said : List ℕ} → SaysColumn text cs e said → column_of text cs e ≡ Some said
column_from text cs (by_name n h) = if_named cs (name_said text n) h
column_from text cs (within t e said h) = column_from text cs h

-- ---- members

joined_to : (text : List ℕ) (cs : List Field) (e : Tree) (d : Symbol) (n : Name) (said : List ℕ) → joined_names (column_of text cs e) (name_said text n) ≡ Some said
    → SaysPath text cs (path e (member d n) no_step) said
joined_to text cs e d n said k = by (column_of text cs e) refl k where
  by : (o : Option (List ℕ)) → column_of text cs e ≡ o → joined_names o (name_said text n) ≡ Some said → SaysPath text cs (path e (member d n) no_step) said
  by (Some a) is k =
      let one : a ++ codes "_" ++ name_said text n ≡ said = cc in
      subst (SaysPath text cs (path e (member d n) no_step)) one (by_member e d n a (column_to text cs e a is))
  by None is k = absurd (cc)

path_to : (text : List ℕ) (cs : List Field) (e : Tree) (said : List ℕ) → path_name text cs e ≡ Some said → SaysPath text cs e said
path_to text cs (name n) said e =
    let p = column_if cs (name_said text n) said e in subst (SaysPath text cs (name n)) p.1 (by_column n p.0)
path_to text cs (group t e) said k = enclosed t e said (path_to text cs e said k)
path_to text cs (path e (member d n) no_step) said k = joined_to text cs e d n said k
path_to text cs (path e (member d n) (and_step p ps)) said k = absurd (cc)
path_to text cs (path e (index d i) ps) said k = absurd (cc)
path_to text cs (literal t) said e = absurd (cc)
path_to text cs (call t es) said e = absurd (cc)
path_to text cs (signed t e) said k = absurd (cc)
path_to text cs (compare a t b) said k = absurd (cc)
path_to text cs (among a t e es) said k = absurd (cc)
path_to text cs (between a t b c) said k = absurd (cc)
path_to text cs (chain l a t b ls) said k = absurd (cc)

path_from : (text : List ℕ) (cs : List Field) {e : Tree} {said : List ℕ} → SaysPath text cs e said → path_name text cs e ≡ Some said
path_from text cs (by_column n h) = if_named cs (name_said text n) h
path_from text cs (by_member e d n said h) = ap (λ o. joined_names o (name_said text n)) (column_from text cs h)
path_from text cs (enclosed t e said h) = path_from text cs h

path_own : (text : List ℕ) (cs : List Field) {e : Tree} {said : List ℕ} → SaysPath text cs e said → default_name text cs e ≡ Some said
path_own text cs (by_column n h) = if_named cs (name_said text n) h
path_own text cs (by_member e d n said h) = ap (λ o. joined_names o (name_said text n)) (column_from text cs h)
path_own text cs (enclosed t e said h) = path_own text cs h

-- ---- calls

call_to : (text : List ℕ) (cs : List Field) (t : Symbol) (e : Tree) (es : Trees) (said : List ℕ) → name_kept text cs e (function_named (piece text t)) ≡ Some said
    → OwnsName text cs (call t (and_tree e es)) said
call_to text cs t e es said k = by (function_named (piece text t)) refl k where
  kept : (g : Function) (a b : Bool) → function_named (piece text t) ≡ Some g → keeps_column g ≡ a → keeps_path g ≡ b → name_at text cs e a b ≡ Some said
      → OwnsName text cs (call t (and_tree e es)) said
  kept g true b is alone whole at = of_part t e es said (column_word (piece text t) g is alone) (column_to text cs e said at)
  kept g false true is alone whole at = of_conversion t e es said (conversion_word (piece text t) g is whole) (path_to text cs e said at)
  kept g false false is alone whole at = absurd (cc)

  by : (o : Option Function) → function_named (piece text t) ≡ o → name_kept text cs e o ≡ Some said → OwnsName text cs (call t (and_tree e es)) said
  by (Some g) is at = kept g (keeps_column g) (keeps_path g) is refl refl at
  by None is at = absurd (cc)

call_from : (text : List ℕ) (cs : List Field) (t : Symbol) (e : Tree) (alone whole : Bool) (said : List ℕ) → Keeps (piece text t) alone whole
    → name_at text cs e alone whole ≡ Some said → name_kept text cs e (function_named (piece text t)) ≡ Some said
call_from text cs t e alone whole said k at =
    ap (name_kept text cs e) k.called ∙ ap (λ b. name_at text cs e b (keeps_path k.function)) k.by_itself ∙ ap (name_at text cs e alone) k.with_members ∙ at

-- ---- all of them

pub own_to : (text : List ℕ) (cs : List Field) (e : Tree) (said : List ℕ) → default_name text cs e ≡ Some said → OwnsName text cs e said
own_to text cs (name n) said e = of_path (name n) said (path_to text cs (name n) said e)
own_to text cs (group t e) said k = of_group t e said (own_to text cs e said k)
own_to text cs (path e p ps) said k = of_path (path e p ps) said (path_to text cs (path e p ps) said k)
own_to text cs (call t (and_tree e es)) said k = call_to text cs t e es said k
own_to text cs (call t no_tree) said k = absurd (cc)
own_to text cs (literal t) said e = absurd (cc)
own_to text cs (signed t e) said k = absurd (cc)
own_to text cs (compare a t b) said k = absurd (cc)
own_to text cs (among a t e es) said k = absurd (cc)
own_to text cs (between a t b c) said k = absurd (cc)
own_to text cs (chain l a t b ls) said k = absurd (cc)

pub own_from : (text : List ℕ) (cs : List Field) {e : Tree} {said : List ℕ} → OwnsName text cs e said → default_name text cs e ≡ Some said
own_from text cs (of_path e said h) = path_own text cs h
own_from text cs (of_part t e es said h k) =
    call_from text cs t e true false said (column_keeps (piece text t) h.number h.there) (column_from text cs k)
own_from text cs (of_conversion t e es said h k) =
    call_from text cs t e false true said (conversion_keeps (piece text t) h.number h.there) (path_from text cs k)
own_from text cs (of_group t e said h) = own_from text cs h
