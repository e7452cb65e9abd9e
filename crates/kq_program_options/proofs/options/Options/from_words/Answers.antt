use Rattle.std.proofs.Common.{◌≡◌, ◌∙◌, ap, sym, subst, map, string_bytes, Option, Some, Err, IfOk}
use Rattle.std.specs.List.{All}
use Rattle.std.specs.Str.{IsUtf8}
use Rattle.clap.specs.Words.{rows_of, found_of}
use Rattle.kq_program_options.specs.Command.{asked_in}
use Rattle.kq_program_options.specs.Words.{Asked, asked, as_asked}
use Rattle.kq_program_options.specs.declared.options.OptionsError.TheVariants as error
use Rattle.kq_program_options.proofs.Lists.{now_of}
use Rattle.kq_program_options.proofs.Given.{passed_up}
use Rattle.kq_program_options.proofs.Once.{asked-parsed, asked-unparsed}
use Rattle.kq_program_options.proofs.options.Options.from_words.Goals as goal

pub returns-in_err-matches-clause-form : goal.returns-in_err-matches-clause-form
returns-in_err-matches-clause-form c =
    let whole : now_of c.as_slice.result.now ≡ map string_bytes c.args.words.now = ap now_of c.as_slice.ensures.value ∙ c.in_ok-texts.ensures.texts in
    let texts = subst (All IsUtf8) c.in_ok-texts.ensures.texts c.in_ok-texts.ensures.utf8 in
    λ is_form. asked-unparsed (map string_bytes c.args.words.now) (now_of c.as_slice.result.now) whole texts
    (c.in_err-matches.ensures.form (ap Err (passed_up c.from_residual-in_err-matches.result c.in_err-matches.field-0.0 error.Form c.from_residual-in_err-matches.ensures.1 is_form)))

pub returns-clause-ok : goal.returns-clause-ok
returns-clause-ok c =
    let whole : now_of c.as_slice.result.now ≡ map string_bytes c.args.words.now = ap now_of c.as_slice.ensures.value ∙ c.in_ok-texts.ensures.texts in
    let texts = subst (All IsUtf8) c.in_ok-texts.ensures.texts c.in_ok-texts.ensures.utf8 in
    let parsed = asked-parsed (map string_bytes c.args.words.now) (now_of c.as_slice.result.now) (rows_of (found_of c.in_ok-matches.matches)) whole texts c.in_ok-matches.ensures.fault c.in_ok-matches.ensures.rows in
    subst (λ (a : Option Asked). IfOk c.options_in.result (λ o. a ≡ Some (as_asked o))) (sym parsed) c.options_in.ensures.ok

pub returns-clause-form : goal.returns-clause-form
returns-clause-form c =
    let whole : now_of c.as_slice.result.now ≡ map string_bytes c.args.words.now = ap now_of c.as_slice.ensures.value ∙ c.in_ok-texts.ensures.texts in
    let texts = subst (All IsUtf8) c.in_ok-texts.ensures.texts c.in_ok-texts.ensures.utf8 in
    λ is_form. asked-parsed (map string_bytes c.args.words.now) (now_of c.as_slice.result.now) (rows_of (found_of c.in_ok-matches.matches)) whole texts c.in_ok-matches.ensures.fault c.in_ok-matches.ensures.rows
    ∙ c.options_in.ensures.form is_form
