-- A text is one query at most, and none where it is refused or is another command.
use Rattle.std.proofs.Common.{◌≡◌, ℕ, List, [], ◌∷◌, ◌++◌, Option, Err, sym, ◌∙◌, subst, append_assoc, append-nil, arith, inl, inr}
use Rattle.kq_bind_query.specs.Queries.{query_bound}
use Rattle.kq_bind_expressions.specs.declared.fault.BindFault.{BindFault}
use Rattle.kq_bind_expressions.specs.declared.fault.BindFault.TheVariants as binder
use Rattle.kq_bind_expressions.specs.Verdicts.{Fault, unsupported, unknown, mistyped, AnswersVerdict}
use Rattle.kq_policy_entries.specs.declared.query_fault.PolicyFault.{PolicyFault}
use Rattle.kq_policy_entries.specs.declared.query_fault.PolicyFault.TheVariants as fault
use Rattle.kq_policy_entries.specs.Answers.{IsQuery, BindsTo, ReadsQuery, AnswersPolicy}
use Rattle.kq_policy_entries.specs.Faults.{of_reader, of_binder}
use Rattle.kq_read_control.specs.Controls.{statement_text}
use Rattle.kq_read_control.specs.ControlTrees.{ControlTree, StatementTree, query, control}
use Rattle.kq_read_control.specs.Statements.{IsStatement, IsNone, IsRefusedText}
use Rattle.kq_read_control.specs.Symbols.{symbols_of}
use Rattle.kq_read_grammar.specs.Expressions.{Text}
use Rattle.kq_read_grammar.specs.Trees.{QueryTree}
use Rattle.kq_read_queries.specs.declared.asking.ParseFault.{ParseFault}
use Rattle.kq_read_queries.specs.declared.asking.ParseFault.TheVariants as reader
use Rattle.kq_read_queries.specs.Depth.{IsShallow, IsDeepAt}
use Rattle.kq_read_queries.specs.Places.{BreaksForm, RefusesAt}
use Rattle.kq_read_queries.specs.Places as places
use Rattle.kq_plan.specs.Names.{Known}
use Rattle.kq_plan.specs.Plans.{Planned, planned_of}
use Rattle.kq_read_symbols.specs.declared.kind.Symbol.{Symbol}
use Rattle.kq_read_tokens.specs.declared.token.Token.{Token}
use Rattle.kq_read_tokens.specs.Reading.{AreTokens}
use Rattle.kq_value.specs.declared.schema.Field.{Field}
use Rattle.kq_read_tokens.proofs.UniqueTokens.{tokens_same, tokens_or_break}

-- symbols that break off are no text of the form
breaks_never : {A : Type 0} (form : A → Text) (ts rest : List Symbol) → BreaksForm form ts rest → (x : A) → form x ts → ⊥
breaks_never form ts [] b x s = b.ends x (subst (form x) (b.split ∙ append-nil b.front) s)
breaks_never form ts (t ∷ rest) b x s = b.ends (x, rest, subst (form x) (b.split ∙ sym (append_assoc b.front (t ∷ []) rest)) s)

deep_never : (ts : List Symbol) (place : ℕ) → IsDeepAt ts place → IsShallow ts → ⊥
deep_never ts place d shallow =
    let few = shallow (d.front ++ d.symbol ∷ []) d.rest (d.split ∙ sym (append_assoc d.front (d.symbol ∷ []) d.rest)) in
    let many = d.deep in
    omega (arith, few, many)

-- its symbols are those of its tokens, however these are found
spelled_by : (text : List ℕ) (s : StatementTree) (tokens : List Token) → IsStatement text s → AreTokens text tokens → places.AcceptsOnly statement_text (symbols_of text tokens) s
spelled_by text s tokens a are = subst (λ (us : List Token). places.AcceptsOnly statement_text (symbols_of text us) s) (tokens_same text a.tokens tokens a.are are) a.is

none_never : (text : List ℕ) (f : ParseFault) (s : StatementTree) → (n : IsNone text f) → (f ≡ reader.Memory → ⊥) → IsStatement text s → ⊥
none_never text (reader.Syntax place) s n told a =
    let so = spelled_by text s n.tokens a n.are in
    breaks_never statement_text (symbols_of text n.tokens) n.refused.1.0 n.refused.1.2 s so.1.spelled
none_never text (reader.Deep place) s n told a = deep_never (symbols_of text n.tokens) place n.refused (spelled_by text s n.tokens a n.are).0
none_never text reader.Memory s n told a = absurd (told (cc))

refused_never : (text : List ℕ) (f : ParseFault) (s : StatementTree) → IsRefusedText text f → (f ≡ reader.Memory → ⊥) → IsStatement text s → ⊥
refused_never text (reader.Syntax place) s (inl breaks) told a = tokens_or_break text a.tokens place a.are breaks
refused_never text (reader.Syntax place) s (inr n) told a = none_never text (reader.Syntax place) s n told a
refused_never text (reader.Deep place) s n told a = none_never text (reader.Deep place) s n told a
refused_never text reader.Memory s r told a = absurd (told (cc))

-- a text is one command at most
one_statement : (text : List ℕ) (s t : StatementTree) → IsStatement text s → IsStatement text t → s ≡ t
one_statement text s t a b = b.is.1.only s (spelled_by text s b.tokens a b.are).1.spelled

pub refused_reads : (text : List ℕ) (f : ParseFault) → IsRefusedText text f → ReadsQuery text (Err (of_reader f))
refused_reads text (reader.Syntax place) r = λ q. refused_never text (reader.Syntax place) (query q) r (λ e. cc)
refused_reads text (reader.Deep place) r = λ q. refused_never text (reader.Deep place) (query q) r (λ e. cc)
refused_reads text reader.Memory r = tt

pub control_reads : (text : List ℕ) (c : ControlTree) → IsStatement text (control c) → (q : QueryTree) → IsQuery text q → ⊥
control_reads text c a q b = let same : query q ≡ control c = one_statement text (query q) (control c) b a in cc

-- ---- what is bound

unread_unbound : (text : List ℕ) (known : List ℕ → Option Known) → ((q : QueryTree) → IsQuery text q → ⊥) → (p : Planned) → BindsTo text known p → ⊥
unread_unbound text known none p b = none b.tree b.is

faulty_unbound : (text : List ℕ) (known : List ℕ → Option Known) (q : QueryTree) (f : Fault) → IsQuery text q → query_bound text known q ≡ Err f → (p : Planned) → BindsTo text known p → ⊥
faulty_unbound text known q f is e p b =
    let same : query b.tree ≡ query q = one_statement text (query b.tree) (query q) b.is is in
    let tree : b.tree ≡ q = cc in
    let fails : query_bound text known b.tree ≡ Err f = subst (λ t. query_bound text known t ≡ Err f) (sym tree) e in
    let gives = b.bound in
    cc

-- what isn't read isn't bound
pub unread_answers : (text source : List ℕ) (target : List Field) (known : List ℕ → Option Known) (f : PolicyFault) → ReadsQuery text (Err f) → AnswersPolicy text source target known (Err f)
unread_answers text source target known fault.Query none = unread_unbound text known none
unread_answers text source target known fault.Body wrong = absurd wrong
unread_answers text source target known fault.Schema wrong = absurd wrong
unread_answers text source target known fault.Memory r = tt

-- a fault of the binder
pub unbound_answers : (text source : List ℕ) (target : List Field) (known : List ℕ → Option Known) (q : QueryTree) (f : BindFault) → IsQuery text q → AnswersVerdict planned_of (query_bound text known q) (Err f)
    → AnswersPolicy text source target known (Err (of_binder f))
unbound_answers text source target known q (binder.Unsupported at) is e = faulty_unbound text known q (unsupported at) is e
unbound_answers text source target known q (binder.Unknown at) is e = faulty_unbound text known q (unknown at) is e
unbound_answers text source target known q (binder.Mistyped at) is e = faulty_unbound text known q (mistyped at) is e
unbound_answers text source target known q binder.Memory is e = tt
