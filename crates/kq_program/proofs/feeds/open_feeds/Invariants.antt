use Rattle.std.proofs.Common.{◌≡◌, ◌≤◌, length, vec_capacity, vec_len}
use Rattle.std.specs.Vec.Iter.{into_iter_items, into_iter_len}
use Rattle.kq_program.proofs.Opening.{Opening}
use Rattle.kq_program.proofs.feeds.open_feeds.Given as goal

abbrev pub invariant-loop-name : goal.invariant-loop-name
invariant-loop-name g l = record {
  can_next : (goal.iterator-loop-name g).can_next l.name-iterator;
  finite : (goal.iterator-loop-name g).is_finite l.name-iterator;
  left : into_iter_len l.name-iterator ≡ length (into_iter_items l.name-iterator);
  opening : Opening
      (g.W.World.feed_contents l.fn.world)
      (g.W.World.feed_contents l.world)
      (g.W.World.first_contents l.fn.world)
      (g.W.World.first_contents l.world)
      (g.W.World.asked l.fn.world)
      (g.W.World.asked l.world)
      (g.W.World.faults l.fn.world)
      (g.W.World.faults l.world)
      l.fn.names.items
      l.yielded
      (into_iter_items l.name-iterator)
      l.feeds.items;
  begun : g.W.World.begun l.world ≡ g.W.World.begun l.fn.world;
  given : g.W.World.given l.world ≡ g.W.World.given l.fn.world;
  count : vec_len l.feeds ≡ length l.yielded;
  room : length l.fn.names.items ≤ vec_capacity l.feeds;
}
