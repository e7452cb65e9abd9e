-- What the calls on a parse give.
use Rattle.std.proofs.Common.{◌≡◌, ◌∙◌, refl, sym, ap, List, [], Option, Some, None, option_map, unwrap_or, ℕ, Result, Ok, Err, codes}
use Rattle.std.specs.Result.{IsErrAnd, IsErrOf}
use Rattle.std.specs.Borrow.{Bor}
use Rattle.clap.specs.Matches.{raw_values, matched_of}
use Rattle.clap.specs.Words.{Row, rows_of}
use Rattle.clap.specs.declared.parser.matches.Found.{Found}
use Rattle.clap.proofs.WalkLemmas.{raw_values-rows}
use Rattle.kq_program_options.specs.Command.{given_to, asked_in}
use Rattle.kq_program_options.specs.Words.{WordText, all_asked, number_given, feeds_given}
use Rattle.kq_program_options.proofs.Lists.{now_of, no_generate}

or_none : (o : Option (Bor (List (Bor WordText)))) (d : Bor (List (Bor WordText))) → d.now ≡ [] → now_of (unwrap_or o d).now ≡ unwrap_or (option_map (λ (s : Bor (List (Bor WordText))). now_of s.now) o) []
or_none None d e = ap now_of e
or_none (Some s) d e = refl

pub given-is : (f : Found) (id : WordText) (o : Option (Bor (List (Bor WordText)))) (d r : Bor (List (Bor WordText))) → option_map (λ (s : Bor (List (Bor WordText))). now_of s.now) o ≡ option_map raw_values (matched_of f id) → r ≡ unwrap_or o d → d.now ≡ []
    → now_of r.now ≡ given_to id (rows_of f)
given-is f id o d r values e none = ap (λ (s : Bor (List (Bor WordText))). now_of s.now) e ∙ or_none o d none ∙ ap (λ v. unwrap_or v []) (values ∙ raw_values-rows f id)

no_feeds : (w g : Option (Option ℕ)) → all_asked w g None ≡ None
no_feeds None g = refl
no_feeds (Some w) None = refl
no_feeds (Some w) (Some g) = refl

abbrev workers_in : List Row → Option (Option ℕ)
workers_in rows = number_given 0 8 (given_to (codes "workers") rows)

abbrev generate_in : List Row → Option (Option ℕ)
generate_in rows = number_given 1 1000000 (given_to (codes "generate") rows)

abbrev feeds_in : List Row → Option (List WordText)
feeds_in rows = feeds_given (given_to (codes "feeds") rows)

pub asked_in-no_workers : (rows : List Row) (ws : List WordText) → ws ≡ given_to (codes "workers") rows → number_given 0 8 ws ≡ None → asked_in rows ≡ None
asked_in-no_workers rows ws given none = ap (λ w. all_asked w (generate_in rows) (feeds_in rows)) (sym (ap (number_given 0 8) given) ∙ none)

pub asked_in-no_generate : (rows : List Row) (gs : List WordText) → gs ≡ given_to (codes "generate") rows → number_given 1 1000000 gs ≡ None → asked_in rows ≡ None
asked_in-no_generate rows gs given none = ap (λ g. all_asked (workers_in rows) g (feeds_in rows)) (sym (ap (number_given 1 1000000) given) ∙ none) ∙ no_generate (workers_in rows) (feeds_in rows)

pub asked_in-no_feeds : (rows : List Row) (fs : List WordText) → fs ≡ given_to (codes "feeds") rows → feeds_given fs ≡ None → asked_in rows ≡ None
asked_in-no_feeds rows fs given none = ap (λ f. all_asked (workers_in rows) (generate_in rows) f) (sym (ap feeds_given given) ∙ none) ∙ no_feeds (workers_in rows) (generate_in rows)

pub asked_in-some : (rows : List Row) (ws gs fs feeds : List WordText) (w g : Option ℕ) (n : ℕ) → ws ≡ given_to (codes "workers") rows → gs ≡ given_to (codes "generate") rows → fs ≡ given_to (codes "feeds") rows
    → number_given 0 8 ws ≡ Some w → number_given 1 1000000 gs ≡ Some g → feeds_given fs ≡ Some feeds → n ≡ unwrap_or w 0 → asked_in rows ≡ Some (record { workers = n; generate = g; feeds = feeds })
asked_in-some rows ws gs fs feeds w g n workers generate feed a b d e =
    ap (λ v. all_asked v (generate_in rows) (feeds_in rows)) (sym (ap (number_given 0 8) workers) ∙ a)
    ∙ ap (λ v. all_asked (Some w) v (feeds_in rows)) (sym (ap (number_given 1 1000000) generate) ∙ b)
    ∙ ap (λ v. all_asked (Some w) (Some g) v) (sym (ap feeds_given feed) ∙ d)
    ∙ ap (λ v. Some (record { workers = v; generate = g; feeds = feeds })) (sym e)

-- an error that was passed up is the one that came
pub passed_up : {T E : Type 0} (r : Result T E) (x k : E) → IsErrAnd r (λ e. e ≡ x) → IsErrOf r k → x ≡ k
passed_up (Ok v) x k and is = absurd and
passed_up (Err e) x k and is = cc
