use Rattle.std.proofs.Common.{inl, inr, refl, sym, ap, ◌∙◌}
use Rattle.std.specs.Ordering.{is_le}
use Rattle.kq_store_column.proofs.Order.{IsAtMost-self, IsAtMost-turned}
use Rattle.kq_store_column.proofs.cells.lesser.Goals as goal

pub returns-then-is_le : goal.returns-then-is_le
returns-then-is_le c = record {
  either = inl refl;
  first = IsAtMost-self c.args.a.now;
  second = ap is_le (sym c.cmp.ensures) ∙ sym c.is_le.ensures ∙ c.if-is_le.true;
}

pub returns-else-is_le : goal.returns-else-is_le
returns-else-is_le c = record {
  either = inr refl;
  first = IsAtMost-turned c.args.a.now c.args.b.now (ap is_le (sym c.cmp.ensures) ∙ sym c.is_le.ensures ∙ c.if-is_le.false);
  second = IsAtMost-self c.args.b.now;
}
