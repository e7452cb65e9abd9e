use Rattle.std.proofs.Common.{◌≡◌, drop, map}
use Rattle.kq_view_body.specs.Exports.{moment_in_keys}
use Rattle.kq_view_body.proofs.exports.in_keys.Given as goal
use Rattle.kq_read_grammar.specs.Views.{key_view}

abbrev pub invariant-loop-key : goal.invariant-loop-key
invariant-loop-key l = moment_in_keys l.text (map key_view l.others) ≡ moment_in_keys l.text (map key_view (drop l.key-index l.others))
