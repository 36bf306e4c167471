-- Which orders 23 takes, and that the index order passes 23 and 24. Assumes nothing.
use Prim.Native.Nat.{ℕ}
use mathlib.Core.Path.{◌≡◌}
use mathlib.Core.List.{List}
use Rattle.std.specs.Prelude.{Ok}
use Rattle.refusals.specs.Tests.{unless, or_else}
use Rattle.refusals.proofs.Tests.{unless_done}
use Rattle.numbers.specs.Loops.{upto}
use Rattle.graph_lists.specs.Graph.{Graph}
use Rattle.graph_lists.specs.Sound.{Keys}
use Rattle.relay_settings.specs.declared.Schedule.{Schedule}
use Rattle.relay_orders.specs.Order.{NamesOnce, names_fault, exchange_fault}
use Rattle.relay_orders.proofs.All.{all_at}
use Rattle.relay_orders.proofs.Counts.{names_below, names_once_is}
use Rattle.relay_orders.proofs.OrderWords.{upto_names, index_taken}

module _ (checks : ℕ) where
  -- an order that 23 takes names each check once
  pub names_told : (order : List ℕ) → names_fault checks order ≡ Ok tt → NamesOnce checks order
  unfolding names_fault
  names_told order h = (names_once_is checks order).0 (unless_done _ _ h)

  -- and so names checks
  pub names_entries : (order : List ℕ) → names_fault checks order ≡ Ok tt → Keys checks order
  names_entries order h = record { small = λ k l. all_at (names_below (names_told order h)) k l }

  -- one that names each check once is taken
  pub names_taken : (order : List ℕ) → NamesOnce checks order → names_fault checks order ≡ Ok tt
  unfolding names_fault unless
  names_taken order h = rw ((names_once_is checks order).1 h)

-- the index order is taken by both
pub index_passes : (schedule : Schedule) (g : Graph) → or_else (names_fault g.checks (upto g.checks)) (exchange_fault schedule g (upto g.checks)) ≡ Ok tt
unfolding or_else
index_passes schedule g = rw (names_taken g.checks (upto g.checks) (upto_names g.checks), index_taken schedule g)
