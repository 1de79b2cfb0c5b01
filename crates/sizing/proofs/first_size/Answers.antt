-- `sizing::first_size` meets its contract. Assumes nothing.
use Rattle.sizing.proofs.Steps.{size_square, size_axes}
use Rattle.sizing.proofs.first_size.Goals as goal

pub returns-in-Square : goal.returns-in-Square
returns-in-Square c = size_square _ _ _ c.in-Square.is c.square_side-side.ensures

pub returns-in-Axes : goal.returns-in-Axes
returns-in-Axes c =
    size_axes _ _ _ c.in-Axes.is c.nearest_u64_to_f64.ensures
    c.square_root-s.ensures c.side_on.ensures c.side_on-in-Axes.ensures
