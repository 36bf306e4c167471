-- `graph_messages::rows::Rows::end` meets its contract. A row's part ends within the entries. Assumes nothing.
use Rattle.std.proofs.Common.{refl}
use Rattle.graph_lists.proofs.Cuts.{cut_bounds}
use Rattle.graph_messages.proofs.rows.Rows.end.Goals as goal

pub returns-clause-within : goal.returns-clause-within
returns-clause-within c = (cut_bounds _ _ _ c.args.r _ _ c.args.self.now.walks.parts c.requires refl c.at.ensures).1
