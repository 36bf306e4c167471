-- `stream_writing::piece` meets its contract. Each turn is the definition's. Assumes nothing.
use mathlib.Core.Bool.{false≢true}
use Rattle.std.proofs.Common.{◌≡◌, length, arith}
use Rattle.stream_session.specs.Shots.{told, taken, left}
use Rattle.stream_writing.proofs.Turns.{piece_turn, piece_left}
use Rattle.stream_writing.proofs.piece.Goals as goal

pub returns-then-not-say : goal.returns-then-not-say
returns-then-not-say g c =
    piece_left _ _ _ _ _ (omega arith) (λ e. absurd (false≢true e))
    (piece_turn _ _ (left (taken (told c.loop-i.s c.loop-i.line) c.loop-i.model) c.loop-i.payload) _ c.loop-i.i (omega arith) c.loop-i.invariant c.take-s.ensures)

pub loop-i-preserved : goal.loop-i-preserved
loop-i-preserved g c =
    piece_turn _ _ (left (taken (told c.loop-i.s c.loop-i.line) c.loop-i.model) c.loop-i.payload) _ c.loop-i.i (omega arith) c.loop-i.invariant c.take-s.ensures

pub returns : goal.returns
returns g c =
    let e : c.loop-i.i ≡ length c.args.bytes.now = omega arith in
    piece_left _ _ (left (taken (told c.loop-i.s c.loop-i.line) c.loop-i.model) c.loop-i.payload) _ _ (omega arith) (λ _. omega arith)
    (rw e at c.loop-i.invariant)
