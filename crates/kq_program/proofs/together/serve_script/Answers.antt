use Rattle.std.proofs.Common.{refl}
use Rattle.kq_program.proofs.Scripting.{ServedOne-script, ServedOne-unserved}
use Rattle.kq_program.proofs.together.serve_script.Goals as goal

pub returns-in-Err : goal.returns-in-Err
returns-in-Err g c = rw c.unserved.ensures (ServedOne-unserved c.args.shared.now.limits c.args.pass c.args.actor c.args.rows _ _ c.args.name _ c.requires.exporter)

pub returns : goal.returns
returns g c =
    let served = rw (← c.pass.view_is) at c.serve.ensures in
    let explained = served.explained in
    ServedOne-script c.args.shared.now.limits _ _ c.args.actor c.args.rows _ _ c.args.name c.in-Ok.script c.pass.inside.parts.source _ _ c.in-Ok.ensures.script explained.ends explained.by_end explained.short served.pass served.exporter refl refl served.source served.sink
