-- `stream_writing::piece` meets its contract. The invariant: the bytes passed have left what the definition says. Assumes nothing.
use Rattle.stream_session.specs.Shots.{told, taken, left}
use Rattle.stream_writing.proofs.Turns.{Passed}
use Rattle.stream_writing.proofs.piece.Given as goal

abbrev pub invariant-loop-i : goal.invariant-loop-i
invariant-loop-i g l =
    Passed l.bytes (left (taken (told l.initial.s l.initial.line) l.initial.model) l.initial.payload) (left (taken (told l.s l.line) l.model) l.payload) l.i
