-- How the private functions write a text into a list. No part of what a reader must believe. Definitions only. Assumes nothing.
use Rattle.std.specs.Prelude.{ℕ, ◌≤◌, ◌≡◌, List, ◌++◌, take, drop}

-- behind the first `at` bytes of `old` stands the text w, up to r, and from there on all is as it was
pub record Put (w old : List ℕ) (at : ℕ) (new : List ℕ) (r : ℕ) : Type 0 where
  pub front : take r new ≡ take at old ++ w
  pub rest : drop r new ≡ drop r old
  pub on : at ≤ r
