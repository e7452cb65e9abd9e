use Rattle.std.proofs.Common.{◌≡◌, refl, rules, w64, to_z, of_z}
use Rattle.std.proofs.lemmas.Int.{to_z-of_z}
use Rattle.kq_value.specs.Computed.{Is}
use Rattle.kq_run_plan.proofs.step.sort.Goals as goal

pub returns-in-Ok : goal.returns-in-Ok
returns-in-Ok c =
    let same : to_z w64 (of_z w64 c.args.now) ≡ c.args.now = search (rules, to_z-of_z) in
    record {
      came = Is c.in-Ok.rows;
      sorted_so = rw same at c.in-Ok.ensures;
      is = refl;
    }
