-- `stream_table::model_fault` meets its contract. A model within the room is built, another one refused. Assumes nothing.
use Rattle.stream_table.proofs.Laws.{counts_fit_lem, model_within, model_beyond}
use Rattle.stream_table.proofs.model_fault.Goals as goal

pub built_within-requires : goal.built_within-requires
built_within-requires c = counts_fit_lem _ _ c.within.ensures c.if-not-within.false

pub returns-then-not-within : goal.returns-then-not-within
returns-then-not-within c = model_beyond _ _ _ c.read_counts-c.ensures c.within.ensures c.if-not-within.true

pub returns : goal.returns
returns c = model_within _ _ _ c.read_counts-c.ensures c.within.ensures _ c.if-not-within.false c.built_within.ensures
