use Rattle.std.proofs.Common.{◌≡◌, map, sym, ◌∙◌}
use Rattle.std.proofs.lemmas.List.{take_all}
use Rattle.kq_value.specs.Tree.{items_of, keys_of}
use Rattle.kq_value.specs.Seen.{entries_of}
use Rattle.kq_value_formats.specs.Members.{strings}
use Rattle.kq_value_conversions.proofs.Trees.{items_of-strings, key_of, keys-map, same_items}
use Rattle.kq_value_conversions.proofs.parts.keys.Goals as goal

pub returns : goal.returns
returns c =
    let ms = c.as_slice-member-items.result.now in
    let all : items_of c.loop-member.keys ≡ map key_of ms = rw (take_all c.loop-member.member-index ms c.loop-member-test.false) at c.loop-member.invariant in
    rw (← c.as_slice-member-items.ensures.members) (same_items c.loop-member.keys (strings (keys_of (entries_of ms))) (all ∙ sym (keys-map ms) ∙ sym (items_of-strings (entries_of ms))))
