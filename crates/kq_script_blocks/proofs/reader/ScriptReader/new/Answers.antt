use Rattle.std.proofs.Common.{refl, arith, []}
use Rattle.kq_script_blocks.specs.Script.{script_blocks}
use Rattle.kq_world.proofs.Told.{Delivers-none}
use Rattle.kq_script_blocks.proofs.reader.ScriptReader.new.Goals as goal

pub returns-clause-reading : goal.returns-clause-reading
returns-clause-reading c = λ source. record {
  command_limit = c.new.ensures.limit;
  input_limit = refl;
  counted = refl;
  within = omega arith;
  gives = Delivers-none source;
  prefix = (script_blocks c.args.command [] source.ended, refl);
  state = (record { looked = []; ahead = refl; given_all = refl; block = c.new.ensures.empty }, refl);
}
