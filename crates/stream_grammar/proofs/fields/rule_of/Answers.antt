-- `stream_grammar::fields::rule_of` meets its contract. Each arm answers by the comparison that led there.
-- Assumes nothing.
use Rattle.std.proofs.Common.{eq-eqb, ne_eqb}
use Rattle.stream_grammar.specs.Fields.{rule_read}
use Rattle.stream_grammar.proofs.fields.rule_of.Goals as goal

pub returns-then-kind-eq2 : goal.returns-then-kind-eq2
unfolding rule_read
returns-then-kind-eq2 c = rw (eq-eqb _ _ c.if-kind-eq2.true)

pub returns : goal.returns
unfolding rule_read
returns c = rw (ne_eqb _ _ c.if-kind-eq2.false)
