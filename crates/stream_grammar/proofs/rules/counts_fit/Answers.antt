-- `stream_grammar::rules::counts_fit` meets its contract. Each test leaves room for the difference that comes next.
-- Assumes nothing.
use Rattle.stream_grammar.proofs.Lengths.{counts_small, counts_mechanisms, counts_edges, counts_last}
use Rattle.stream_grammar.proofs.rules.counts_fit.Goals as goal

pub returns-then-size-lt12 : goal.returns-then-size-lt12
returns-then-size-lt12 c = counts_small _ _ _ c.if-size-lt12.true

pub returns-then-rest-mechanisms : goal.returns-then-rest-mechanisms
returns-then-rest-mechanisms c = counts_mechanisms _ _ _ c.if-size-lt12.false c.if-rest-mechanisms.true

pub returns-then-last-edges : goal.returns-then-last-edges
returns-then-last-edges c = counts_edges _ _ _ c.if-size-lt12.false c.if-rest-mechanisms.false c.if-last-edges.true

pub returns : goal.returns
returns c = counts_last _ _ _ c.if-size-lt12.false c.if-rest-mechanisms.false
