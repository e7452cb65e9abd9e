use Rattle.std.proofs.Common.{◌≡◌, cond, not, ltb, length, Some, None, refl, rules}
use Rattle.std.specs.List.{position_or_len}
use Rattle.std.proofs.lemmas.Iterator.{YieldsList-from_slice}
use Rattle.std.proofs.lemmas.Iterator.Search.{position_from_yields_List}
use borrow.Author.Tests.{tests}
use Rattle.kq_value_formats.specs.Datetimes.{is_time_byte}
use Rattle.kq_value_time.proofs.TimespanLemmas.{prefix_found}
use Rattle.kq_value_time.proofs.datetime.time_len.Goals as goal

pub returns : goal.returns
returns c =
    let found : c.position-end.result ≡ cond (ltb (position_or_len (λ x. not (is_time_byte x)) c.args.text.now) (length c.args.text.now)) (Some (position_or_len (λ x. not (is_time_byte x)) c.args.text.now)) None = position_from_yields_List (λ x. not (is_time_byte x)) _ _ c.position-end.result c.position-end.ensures.ran (YieldsList-from_slice c.args.text.now cc) (λ x b q k. search (rules, tests)) in
    prefix_found is_time_byte c.args.text.now c.position-end.result _ c.unwrap_or.result refl found c.unwrap_or.ensures
