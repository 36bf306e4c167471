-- `stream_grammar::fields::schedule_of` meets its contract. Either way.
-- Assumes nothing.
use Rattle.std.proofs.Common.{eq-eqb, ne_eqb}
use Rattle.stream_grammar.specs.Fields.{schedule_read}
use Rattle.stream_grammar.proofs.fields.schedule_of.Goals as goal

pub returns-then-byte-eq0 : goal.returns-then-byte-eq0
unfolding schedule_read
returns-then-byte-eq0 c = rw (eq-eqb _ _ c.if-byte-eq0.true)

pub returns : goal.returns
unfolding schedule_read
returns c = rw (ne_eqb _ _ c.if-byte-eq0.false)
