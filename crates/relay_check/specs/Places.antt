-- What the code of a check's update has on the way: for private contracts, and no part of what a reader must believe. Definitions only. Assumes nothing.
use Rattle.std.specs.Prelude.{ℕ, false, cond, List, Float, get_or}
use Rattle.std.specs.Float.{nan, inf}
use Rattle.std.specs.Float.Ieee.{lt}
use Rattle.numbers.specs.Floats.{zero⁺, saturation}
use Rattle.numbers.specs.Loops.{table}

-- `saturated`, of a magnitude
unfoldable pub saturated_magnitude : Float → Float
saturated_magnitude x = cond (lt x (inf false)) x saturation

-- one of two for each of the first n messages, by its sign
unfoldable pub by_signs : Float → Float → List Float → ℕ → List Float
by_signs minus plus messages n = table n (λ i. cond (lt (get_or messages i nan) zero⁺) minus plus)
