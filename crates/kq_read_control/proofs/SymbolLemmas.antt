-- The symbol of a token at an index.
use Rattle.std.proofs.Common.{◌≡◌, ◌<◌, ◌+◌, ℕ, suc, List, [], ◌∷◌, ◌++◌, length, map, take, sym, ◌∙◌, ap, subst, arith, get_or}
use Rattle.std.proofs.Math.Seq.{take-suc}
use Rattle.std.proofs.lemmas.List.{map_push}
use Rattle.std.specs.Prelude.{IfSome, slice_get, slice_range}
use Rattle.std.proofs.lemmas.Option.{slice_get-get_or}
use Rattle.kq_read_control.specs.Symbols.{kind_of, symbol_of}
use Rattle.kq_read_symbols.specs.declared.kind.Kind.{Kind}
use Rattle.kq_read_symbols.specs.declared.kind.Symbol.{Symbol}
use Rattle.kq_read_tokens.specs.declared.token.Token.{Token}

pub symbol_is : (text : List ℕ) (tokens slice : List Token) (index : ℕ) (d : Token) (bytes : List ℕ) (kind : Kind) → index < length tokens → slice ≡ tokens → kind ≡ kind_of (get_or slice index d).kind bytes → IfSome (slice_get tokens index) (λ t. bytes ≡ slice_range text t.from t.to) → IfSome (slice_get tokens index) (λ t. ◌≡◌ {A = Symbol} (record { kind = kind; from = (get_or slice index d).from; to = (get_or slice index d).to }) (symbol_of text t))
symbol_is text tokens slice index d bytes kind within same e h =
    let found = slice_get-get_or tokens index d within in
    let here : bytes ≡ slice_range text (get_or tokens index d).from (get_or tokens index d).to = subst (λ o. IfSome o (λ t. bytes ≡ slice_range text t.from t.to)) found h in
    let is : kind ≡ kind_of (get_or tokens index d).kind bytes = subst (λ (ts : List Token). kind ≡ kind_of (get_or ts index d).kind bytes) same e in
    let all = is ∙ ap (kind_of (get_or tokens index d).kind) here in
    subst (λ o. IfSome o (λ t. ◌≡◌ {A = Symbol} (record { kind = kind; from = (get_or slice index d).from; to = (get_or slice index d).to }) (symbol_of text t))) (sym found)
    (subst (λ (ts : List Token). ◌≡◌ {A = Symbol} (record { kind = kind; from = (get_or ts index d).from; to = (get_or ts index d).to }) (symbol_of text (get_or tokens index d))) (sym same)
    (λ i. record { kind = all i; from = (get_or tokens index d).from; to = (get_or tokens index d).to }))

-- one more symbol behind those of the tokens before it
pub one_more : (text : List ℕ) (tokens : List Token) (index : ℕ) (d : Token) (list : List Symbol) (s : Symbol) → index < length tokens → list ≡ map (symbol_of text) (take index tokens) → IfSome (slice_get tokens index) (λ t. s ≡ symbol_of text t) → list ++ s ∷ [] ≡ map (symbol_of text) (take (index + 1) tokens)
one_more text tokens index d list s within so_far h =
    let is : s ≡ symbol_of text (get_or tokens index d) = subst (λ o. IfSome o (λ t. s ≡ symbol_of text t)) (slice_get-get_or tokens index d within) h in
    let turn : suc index ≡ index + 1 = omega arith in
    let all : take (index + 1) tokens ≡ take index tokens ++ (get_or tokens index d ∷ []) = ap (λ n. take n tokens) (sym turn) ∙ take-suc tokens index d within in
    (λ i. so_far i ++ is i ∷ []) ∙ sym (map_push (symbol_of text) (take index tokens) (get_or tokens index d)) ∙ ap (map (symbol_of text)) (sym all)
