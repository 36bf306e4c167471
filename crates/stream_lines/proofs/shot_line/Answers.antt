-- `stream_lines::shot_line` meets its contract. Part by part, past the test for too many bits. Assumes nothing.
use mathlib.Core.Path.{refl, ap}
use native.Mathlib.Omega.{arith}
use borrow.Author.Tests.{le-leb, lt-leb}
use Rattle.stream_lines.specs.Lines.{numbered, space, shot_line, unless_too_long}
use Rattle.stream_lines.proofs.Puts.{retext, then, line}
use Rattle.stream_lines.proofs.shot_line.Goals as goal

pub returns-then-bits-gt-ROOM_MECHANISMS : goal.returns-then-bits-gt-ROOM_MECHANISMS
unfolding unless_too_long
returns-then-bits-gt-ROOM_MECHANISMS c = rw (lt-leb _ _ c.if-bits-gt-ROOM_MECHANISMS.true) (refl, refl)

pub returns : goal.returns
unfolding shot_line unless_too_long
returns c =
    let b' = retext _ _ _ _ _ _ (ap (numbered space) c.flag.ensures) c.put_numbered-b.ensures.1 in
    let four = then _ _ _ _ _ _ _ _ (then _ _ _ _ _ _ _ _ (then _ _ _ _ _ _ _ _ c.put_numbered-a.ensures.1 b') c.put_numbered-c.ensures.1) c.put_numbered-d.ensures.1 in
    rw (le-leb _ _ c.if-bits-gt-ROOM_MECHANISMS.false)
    (line _ _ _ _ (then _ _ _ _ _ _ _ _ (then _ _ _ _ _ _ _ _ four c.put_after-e.ensures.1) c.put_word.ensures.1)
    (omega (arith, c.put_numbered-arg-2-1.given, c.if-bits-gt-ROOM_MECHANISMS.false, c.put_numbered-a.ensures.0, c.put_numbered-b.ensures.0, c.put_numbered-c.ensures.0, c.put_numbered-d.ensures.0, c.put_after-e.ensures.0, c.put_word.ensures.0))
    (omega (arith, c.put_numbered-a.auto.out, c.put_numbered-b.auto.out, c.put_numbered-c.auto.out, c.put_numbered-d.auto.out, c.put_after-e.auto.out, c.put_word.auto.out)))
