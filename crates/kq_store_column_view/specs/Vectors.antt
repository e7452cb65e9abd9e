-- Columns as lists of cells.
use Rattle.std.specs.Prelude.{ℕ, List, map, replicate, slice_get, unwrap_or, Option, option_map}
use Rattle.kq_value.specs.declared.ty.Ty.TheVariants as ty
use Rattle.kq_value.specs.declared.value.Value.{Value}
use Rattle.kq_value.specs.declared.value.Value.TheVariants.{Null, Long, Bool as Truth, Moment, Span, Dynamic}
use Rattle.kq_value.specs.declared.dynamic.Dyn.{Dyn}
use Rattle.kq_value.specs.declared.dynamic.Dyn.TheVariants as dyn
use Rattle.kq_value.specs.Bags.{value_at}
use Rattle.kq_value.specs.Seen.{dyn_of}
use Rattle.kq_value.specs.Tree.{null}
use Rattle.kq_store_column_view.specs.Bags.{bags_in}
use Rattle.kq_store_column_view.specs.Numbers.{marked, number_cell}
use Rattle.kq_store_column_view.specs.declared.vector.Vector.{Vector}
use Rattle.kq_store_column_view.specs.declared.vector.Vector.TheVariants.{Longs, Moments, Spans, Truths, Cells, LentLongs, LentMoments, LentSpans, LentCells, Marked, Words, Picked, Placed, Bags, Parts, Same}

-- the cell at a place, and a null past the end
abbrev pub cell_of : List Value → ℕ → Value
cell_of cells i = unwrap_or (slice_get cells i) (Null ty.Long)

-- the dynamic, or the null of dynamics
abbrev pub dynamic_of : Option Dyn → Value
dynamic_of found = Dynamic (unwrap_or found dyn.Null)

-- the value at a key of a dynamic that is a bag, and null of any other value
abbrev pub member_at : List ℕ → Value → Value
member_at key (Dynamic (dyn.Bag es)) = Dynamic (dyn_of (unwrap_or (value_at key es) null))
member_at key v = Dynamic dyn.Null

abbrev pub cells_of : Vector → List Value
cells_of (Longs longs) = map Long longs.items
cells_of (Moments ticks) = map Moment ticks.items
cells_of (Spans ticks) = map Span ticks.items
cells_of (Truths truths) = map Truth truths.items
cells_of (Cells cells) = cells.items
cells_of (LentLongs longs) = map Long longs.now
cells_of (LentMoments ticks) = map Moment ticks.now
cells_of (LentSpans ticks) = map Span ticks.now
cells_of (LentCells cells) = cells.now
cells_of (Marked numbers) = map (number_cell numbers.ty) (marked numbers.nulls.now numbers.numbers.now)
cells_of (Words words codes) = map (cell_of words.now) codes.now
cells_of (Picked words codes) = map (cell_of words.now) codes.items
cells_of (Placed cells places) = map (cell_of cells.now) places.items
cells_of (Bags bags places) = map (cell_of (bags_in bags.parts.now bags.count)) places.items
cells_of (Parts parts) = map (λ o. dynamic_of (option_map (λ d. d.now) o)) parts.items
cells_of (Same value count) = replicate count value
