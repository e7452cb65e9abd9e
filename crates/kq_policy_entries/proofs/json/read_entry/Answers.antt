use Rattle.std.proofs.Common.{refl}
use Rattle.kq_policy_entries.specs.PolicyTexts.{entry_of}
use Rattle.kq_policy_entries.proofs.json.read_entry.Goals as goal

pub returns-in_default : goal.returns-in_default
unfolding entry_of
returns-in_default c = rw (← c.in_default.ensures) refl

pub returns-in_default-string_member : goal.returns-in_default-string_member
unfolding entry_of
returns-in_default-string_member c = rw (← c.in-Some.ensures, ← c.in_default-string_member.ensures) refl

pub returns-in_default-string_member-2 : goal.returns-in_default-string_member-2
unfolding entry_of
returns-in_default-string_member-2 c = rw (← c.in-Some.ensures, ← c.in-Some-string_member.ensures, ← c.in_default-string_member-2.ensures) refl

pub returns-in_default-bool_member : goal.returns-in_default-bool_member
unfolding entry_of
returns-in_default-bool_member c =
    rw (← c.in-Some.ensures, ← c.in-Some-string_member.ensures, ← c.in-Some-string_member-2.ensures, ← c.in_default-bool_member.ensures) refl

pub returns-in_default-bool_member-2 : goal.returns-in_default-bool_member-2
unfolding entry_of
returns-in_default-bool_member-2 c =
    rw (← c.in-Some.ensures, ← c.in-Some-string_member.ensures, ← c.in-Some-string_member-2.ensures, ← c.in-Some-bool_member.ensures, ← c.in_default-bool_member-2.ensures) refl

pub returns : goal.returns
unfolding entry_of
returns c =
    rw (← c.in-Some.ensures, ← c.in-Some-string_member.ensures, ← c.in-Some-string_member-2.ensures, ← c.in-Some-bool_member.ensures, ← c.in-Some-bool_member-2.ensures)
    (rw (c.in_ok-source.ensures, c.in_ok-query.ensures) refl)
