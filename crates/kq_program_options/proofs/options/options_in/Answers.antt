use Rattle.std.proofs.Common.{◌≡◌, ap, refl, codes, Err}
use Rattle.clap.specs.Words.{rows_of, found_of}
use Rattle.kq_program_options.specs.Command.{given_to}
use Rattle.kq_program_options.proofs.Lists.{now_of}
use Rattle.kq_program_options.proofs.Given.{given-is, asked_in-no_workers, asked_in-no_generate, asked_in-no_feeds, asked_in-some, passed_up}
use Rattle.kq_program_options.specs.declared.options.OptionsError.TheVariants as error
use Rattle.kq_program_options.proofs.options.options_in.Goals as goal

pub returns-in_err-workers-clause-form : goal.returns-in_err-workers-clause-form
returns-in_err-workers-clause-form c =
    let found = found_of c.args.matches.now in
    let given : now_of c.unwrap_or.result.now ≡ given_to (codes "workers") (rows_of found) = given-is found (codes "workers") c.get_strs.result _ c.unwrap_or.result c.get_strs.ensures c.unwrap_or.ensures refl in
    λ _. asked_in-no_workers (rows_of found) _ given (c.in_err-workers.ensures.form refl)

pub returns-in_err-generate-clause-form : goal.returns-in_err-generate-clause-form
returns-in_err-generate-clause-form c =
    let found = found_of c.args.matches.now in
    let given : now_of c.unwrap_or-2.result.now ≡ given_to (codes "generate") (rows_of found) = given-is found (codes "generate") c.get_strs-2.result _ c.unwrap_or-2.result c.get_strs-2.ensures c.unwrap_or-2.ensures refl in
    λ _. asked_in-no_generate (rows_of found) _ given (c.in_err-generate.ensures.form refl)

pub returns-in_err-feeds-clause-form : goal.returns-in_err-feeds-clause-form
returns-in_err-feeds-clause-form c =
    let found = found_of c.args.matches.now in
    let given : now_of c.unwrap_or-3.result.now ≡ given_to (codes "feeds") (rows_of found) = given-is found (codes "feeds") c.get_strs-3.result _ c.unwrap_or-3.result c.get_strs-3.ensures c.unwrap_or-3.ensures refl in
    λ is_form. asked_in-no_feeds (rows_of found) _ given (c.in_err-feeds.ensures.form (ap Err (passed_up c.from_residual-in_err-feeds.result c.in_err-feeds.field-0.0 error.Form c.from_residual-in_err-feeds.ensures.1 is_form)))

pub returns-clause-ok : goal.returns-clause-ok
returns-clause-ok c =
    let found = found_of c.args.matches.now in
    let workers : now_of c.unwrap_or.result.now ≡ given_to (codes "workers") (rows_of found) = given-is found (codes "workers") c.get_strs.result _ c.unwrap_or.result c.get_strs.ensures c.unwrap_or.ensures refl in
    let generate : now_of c.unwrap_or-2.result.now ≡ given_to (codes "generate") (rows_of found) = given-is found (codes "generate") c.get_strs-2.result _ c.unwrap_or-2.result c.get_strs-2.ensures c.unwrap_or-2.ensures refl in
    let feeds : now_of c.unwrap_or-3.result.now ≡ given_to (codes "feeds") (rows_of found) = given-is found (codes "feeds") c.get_strs-3.result _ c.unwrap_or-3.result c.get_strs-3.ensures c.unwrap_or-3.ensures refl in
    asked_in-some (rows_of found) _ _ _ c.in_ok-feeds.feeds.items c.in_ok-workers.workers c.in_ok-generate.generate c.unwrap_or-4.result workers generate feeds c.in_ok-workers.ensures.ok c.in_ok-generate.ensures.ok c.in_ok-feeds.ensures.ok c.unwrap_or-4.ensures
