-- What a decode answers. Definitions only. Assumes nothing.
use Rattle.std.specs.Prelude.{Result}
use Rattle.refusals.specs.declared.Refusal.{Refusal}
use Rattle.relay_calls.specs.declared.Decoded.{Decoded}

-- what was found, or what is refused: `Result<Decoded, Refusal>`
abbrev pub DecodeAnswer : Type 0
DecodeAnswer = Result Decoded Refusal
