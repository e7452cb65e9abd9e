use Rattle.std.proofs.Common.{Err, List, Ok, Result, subst, sym, ℕ}
use Rattle.kq_policy_entries.specs.Answers.{AnswersPolicy}
use Rattle.kq_policy_entries.specs.declared.fault.EntryFault.{EntryFault}
use Rattle.kq_policy_entries.specs.Entries.{BindsQuery}
use Rattle.kq_policy_entries.proofs.Binding.{bad_query}
use Rattle.kq_policy_entries.proofs.entry.bind_query.Goals as goal

pub returns-in-Err : goal.returns-in-Err
returns-in-Err g c =
    let known = g.N.Names.known c.args.names.now in
    let target = c.args.target.now in
    let w = c.args.written.now in
    let fault = c.in-Err.fault in
    let answer = subst (λ (t : List ℕ). AnswersPolicy t w.source target known (Err fault)) c.as_str.ensures c.in-Err.ensures.answer in
    subst (λ (f : EntryFault). BindsQuery known target w c.args.source (Err f)) (sym c.fault_of.ensures) (bad_query known target w c.args.source fault answer)
