use Rattle.std.proofs.Common.{◌∙◌, inl, inr, ℕ, List, Option, None, ap, get_or, length, sym}
use Rattle.std.proofs.lemmas.Bool.{cases_lt}
use Rattle.kq_run_aggregates.specs.Alone.{alone}
use Rattle.kq_store_column_view.specs.Vectors.{cell_of}
use Rattle.kq_run_groups.specs.Keys.{AreKnown}
use Rattle.kq_run_groups.proofs.ColumnKeys.{known_more, known_noted}
use Rattle.kq_run_groups.proofs.key_table.KeyTable.number_of_code.Goals as goal

pub returns-clause-known : goal.returns-clause-known
returns-clause-known c =
    let words = c.args.words.now in
    let at = c.args.code in
    let known = c.args.known.now.items in
    let keys = c.number_of_word.new.self.keys in
    let n = c.in_ok-number.number in
    let more : AreKnown keys words known = known_more c.args.self.now.keys keys words known (alone (cell_of words at)) c.in_ok-number.ensures.keys c.requires.known in
    elim (cases_lt at (length known)) [
      | inl within ↦ rw (c.note.ensures.within within) (known_noted keys words known at n within c.in_ok-number.ensures.number.0 c.in_ok-number.ensures.number.1 more)
      | inr past ↦ rw (c.note.ensures.past past) more
    ]

pub returns-in-Some-clause-number : goal.returns-in-Some-clause-number
returns-in-Some-clause-number c =
    c.requires.known c.args.code c.in-Some.number (sym (ap (λ (known : List (Option ℕ)). get_or known c.args.code None) c.deref.ensures.value) ∙ sym c.known_at.ensures ∙ c.in-Some.is)
