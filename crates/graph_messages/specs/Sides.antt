-- The graph that its two sides are. Definitions only. Assumes nothing.
use Rattle.std.specs.Prelude.{[]}
use Rattle.graph_lists.specs.Graph.{Graph}
use Rattle.graph_messages.specs.Needs.{walked}
use Rattle.graph_messages.specs.declared.rows.Rows.{Rows}

-- by the variables of its checks and the messages of its variables
abbrev pub sides : Rows → Rows → Graph
sides checks variables =
    walked checks.rows variables.rows checks.entries.now checks.offsets.now variables.entries.now variables.offsets.now

-- the checks alone
abbrev pub checks_alone : Rows → Graph
checks_alone checks = walked checks.rows 0 checks.entries.now checks.offsets.now [] []

-- the variables alone
abbrev pub variables_alone : Rows → Graph
variables_alone variables = walked 0 variables.rows [] [] variables.entries.now variables.offsets.now
