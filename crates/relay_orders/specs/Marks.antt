-- What the code of tests 23 and 24 writes down on the way: for private contracts, and no part of what a reader must believe. Definitions only.
-- Assumes nothing.
use Rattle.std.specs.Prelude.{ℕ, max, Bool, cond, ltb, get_or, set}
use mathlib.Core.List.{List, foldl}
use Rattle.graph_lists.specs.Lists.{has}
use Rattle.relay_orders.specs.Order.{any_of}

-- the highest check of those named that has the mechanism v; 0 if none has it
unfoldable pub highest : (ℕ → List ℕ) → List ℕ → ℕ → ℕ
highest entries named v = foldl (λ (t d : ℕ). cond (has (entries d) v) (max t d) t) 0 named

-- x at each place that es names
unfoldable pub marked_at : ℕ → List ℕ → List ℕ → List ℕ
marked_at x l es = foldl (λ (m : List ℕ) (v : ℕ). set m v x) l es

-- a place that es names holds more than x
unfoldable pub overtaken : ℕ → List ℕ → List ℕ → Bool
overtaken x last es = any_of (λ v. ltb x (get_or last v 0)) es
