-- What a sort and a top are by, and what is so unless it is said.
use Rattle.std.proofs.Common.{◌≡◌, ◌≢◌, ℕ, Bool, true, false, not, List, [], ◌∷◌, Option, Some, None, Ok, refl, ap, ◌∙◌, subst}
use Rattle.std.specs.Prelude.{pos, option_and_then}
use Rattle.kq_bind_query.specs.kq_bind_operators.Clauses.{sorted_by, topped_by}
use Rattle.kq_bind_query.specs.kq_bind_operators.Flows.{Flowing, columns, after}
use Rattle.kq_bind_query.specs.kq_bind_operators.Operators.{natural, row_number}
use Rattle.kq_bind_query.specs.kq_bind_operators.Scopes.{Scoping, names}
use Rattle.kq_bind_clauses.specs.Sorts.{is_ascending, is_first, descends, nulls_come_first, sorting, sort_key, sort_keys}
use Rattle.kq_bind_columns.specs.Items.{operand}
use Rattle.kq_bind_expressions.specs.Names.{Names}
use Rattle.kq_bind_expressions.specs.Verdicts.{and_then, unsupported}
use Rattle.kq_read_grammar.specs.Trees.{KeyTree}
use Rattle.kq_plan.specs.Plans.{Sorting, sorted, topped}
use Rattle.kq_read_meanings.specs.Literals.{literal_value}
use Rattle.kq_read_symbols.specs.declared.kind.Kind.{Kind}
use Rattle.kq_read_symbols.specs.declared.kind.Kind.TheVariants as kind
use Rattle.kq_read_symbols.specs.declared.kind.Symbol.{Symbol}
use Rattle.kq_read_symbols.specs.declared.word.ClauseWord.TheVariants as clause
use Rattle.kq_read_symbols.specs.declared.word.Word.TheVariants as word
use Rattle.kq_value.specs.declared.schema.Field.{Field}
use Rattle.kq_value.specs.declared.value.Value.{Value}
use Rattle.kq_value.specs.declared.value.Value.TheVariants as cell
use Rattle.kq_bind_query.proofs.Columns.{found_ok}
use Rattle.kq_bind_query.proofs.Items.{operand_typed}
use Rattle.kq_bind_query.proofs.Progress.{then_ok, done, done_is}
use Rattle.kq_bind_laws.specs.Columns.{AreEach}
use Rattle.kq_bind_laws.specs.Sorted.{asc_word, first_word, IsSaid, IsKey, IsSorted, IsTopped}
use Rattle.kq_bind_laws.proofs.Each.{no_each, one_each}
use Rattle.kq_bind_laws.proofs.Items.{operand_bound}
use Rattle.kq_bind_laws.proofs.Steps.{next_following}

-- ---- what is said

not_false : (b : Bool) → not b ≡ false → b ≡ true
not_false true e = refl
not_false false e = absurd (cc)

is_asc : (k : Kind) → is_ascending k ≡ true → k ≡ asc_word
is_asc (kind.Word (word.Clause clause.Asc)) e = refl
is_asc _ e = absurd (cc)

is_the_first : (k : Kind) → is_first k ≡ true → k ≡ first_word
is_the_first (kind.Word (word.Clause clause.First)) e = refl
is_the_first _ e = absurd (cc)

-- a symbol is said
symbol_said : (t : Symbol) (k : Kind) → t.kind ≡ k → IsSaid (Some t) k
symbol_said t k e = record { symbol = t; there = refl; so = e }

said_kind : (t : Symbol) (k : Kind) → IsSaid (Some t) k → t.kind ≡ k
said_kind t k h = let there = h.there in let one : t ≡ h.symbol = cc in ap (λ (z : Symbol). z.kind) one ∙ h.so

none_said : (k : Kind) → IsSaid None k → ⊥
none_said k h = let there = h.there in absurd (cc)

ascends_to : (o : Option Symbol) → descends o ≡ false → IsSaid o asc_word
ascends_to None e = absurd (cc)
ascends_to (Some t) e = symbol_said t asc_word (is_asc t.kind (not_false (is_ascending t.kind) e))

ascends_from : (o : Option Symbol) → IsSaid o asc_word → descends o ≡ false
ascends_from None h = absurd (none_said asc_word h)
ascends_from (Some t) h = ap (λ k. not (is_ascending k)) (said_kind t asc_word h)

first_to : (d o : Option Symbol) → o ≢ None → nulls_come_first d o ≡ true → IsSaid o first_word
first_to d None some e = absurd (some refl)
first_to d (Some t) some e = symbol_said t first_word (is_the_first t.kind e)

first_from : (d o : Option Symbol) → o ≢ None → IsSaid o first_word → nulls_come_first d o ≡ true
first_from d None some h = absurd (some refl)
first_from d (Some t) some h = ap is_first (said_kind t first_word h)

-- ---- keys

key_so : (s : Names) (cs : List Field) (k : KeyTree) (x : Sorting) → sort_key s cs k ≡ Ok x → IsKey s cs k x
key_so s cs k x e =
    let y = then_ok (operand s cs true k.value) (λ y. done (sorting k y)) x e in
    let typed = operand_typed s cs true k.value y.0 y.1 in
    let key : IsKey s cs k (sorting k y.0) = record {
      of_type = y.0.1;
      value = operand_bound s cs true k.value y.0 y.1;
      is_key = typed.1;
      ascends = (ascends_to k.direction, ascends_from k.direction);
      nulls = λ none. ap (nulls_come_first k.direction) none;
      nulls_said = λ some. (first_to k.direction k.nulls some, first_from k.direction k.nulls some);
    } in
    subst (IsKey s cs k) (done_is (sorting k y.0) x y.2) key

keys_so : (s : Names) (cs : List Field) (ks : List KeyTree) (xs : List Sorting) → sort_keys s cs ks ≡ Ok xs → AreEach (IsKey s cs) ks xs
keys_so s cs [] xs e = subst (AreEach (IsKey s cs) []) (done_is [] xs e) (no_each (IsKey s cs))
keys_so s cs (k ∷ ks) xs e =
    let x = then_ok (sort_key s cs k) (λ x. and_then (sort_keys s cs ks) (λ more. done (x ∷ more))) xs e in
    let more = then_ok (sort_keys s cs ks) (λ more. done (x.0 ∷ more)) xs x.2 in
    subst (AreEach (IsKey s cs) (k ∷ ks)) (done_is (x.0 ∷ more.0) xs more.2)
    (one_each (IsKey s cs) k ks x.0 more.0 (key_so s cs k x.0 x.1) (keys_so s cs ks more.0 more.1))

pub sorted_so : (s : Scoping) (w v : Flowing) (ks : List KeyTree) → sorted_by s w ks ≡ Ok v → IsSorted s w v ks
sorted_so s w v ks e =
    let xs = then_ok (sort_keys (names s) (columns w) ks) (λ xs. done (after w (λ i. sorted i xs) (columns w))) v e in
    record {
      keys = xs.0;
      are = keys_so (names s) (columns w) ks xs.0 xs.1;
      next = next_following w.progress v (sorted w.input xs.0) (columns w) (done_is (after w (λ i. sorted i xs.0) (columns w)) v xs.2);
    }

-- ---- numbers

some_then : {A B : Type 0} (k : A → Option B) (o : Option A) (y : B) → option_and_then k o ≡ Some y → (x : A) × (o ≡ Some x) × (k x ≡ Some y)
some_then k (Some x) y e = (x, refl, e)
some_then k None y e = absurd (cc)

natural_is : (v : Value) (n : ℕ) → natural v ≡ Some n → v ≡ cell.Long (pos n)
natural_is (cell.Long (pos m)) n e = let one : m ≡ n = cc in ap (λ k. cell.Long (pos k)) one
natural_is _ n e = absurd (cc)

pub number_said : (s : Scoping) (t : Symbol) (n : ℕ) → row_number s t ≡ Ok n → literal_value s.text t ≡ Some (cell.Long (pos n))
number_said s t n e =
    let v = some_then natural (literal_value s.text t) n (found_ok (unsupported t.from) (option_and_then natural (literal_value s.text t)) n e) in
    v.1 ∙ ap (λ (z : Value). Some z) (natural_is v.0 n v.2)

pub topped_so : (s : Scoping) (w v : Flowing) (t : Symbol) (k : KeyTree) → topped_by s w t k ≡ Ok v → IsTopped s w v t k
topped_so s w v t k e =
    let n = then_ok (row_number s t) (λ n. and_then (sort_key (names s) (columns w) k) (λ x. done (after w (λ i. topped i n x) (columns w)))) v e in
    let x = then_ok (sort_key (names s) (columns w) k) (λ x. done (after w (λ i. topped i n.0 x) (columns w))) v n.2 in
    record {
      number = n.0;
      said = number_said s t n.0 n.1;
      key = x.0;
      is = key_so (names s) (columns w) k x.0 x.1;
      next = next_following w.progress v (topped w.input n.0 x.0) (columns w) (done_is (after w (λ i. topped i n.0 x.0) (columns w)) v x.2);
    }
