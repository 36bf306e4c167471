-- `stream_table::decode_shot` meets its contract. A shot over a model within the room is decoded, over another one refused. Assumes nothing.
use mathlib.Core.Path.{◌∙◌}
use borrow.Author.Rules.{part_to_end}
use Rattle.stream_grammar.specs.Stream.{syndrome}
use Rattle.stream_table.proofs.Laws.{counts_fit_lem, shot_within, shot_beyond}
use Rattle.stream_table.proofs.decode_shot.Goals as goal

pub decoded_within-requires : goal.decoded_within-requires
decoded_within-requires c = counts_fit_lem _ _ c.within.ensures c.if-within.true

pub returns-then-within : goal.returns-then-within
unfolding syndrome
returns-then-within c =
    shot_within _ _ _ c.read_counts-c.ensures
    c.within.ensures _ _ _ _ _ _ c.if-within.true
    (part_to_end c.args.payload.now
    c.front-from.result ∙ c.front-from.ensures.2)
    c.read_seed-seed.ensures c.decoded_within.ensures

pub returns : goal.returns
returns c = shot_beyond _ _ _ c.read_counts-c.ensures c.within.ensures _ _ _ c.if-within.false
