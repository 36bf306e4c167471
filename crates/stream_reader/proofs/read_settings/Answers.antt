-- `stream_reader::read_settings` meets its contract. Field by field.
-- Assumes nothing.
use Rattle.stream_grammar.specs.Stream.{alpha_bits, gamma0_bits, pre_iterations, leg_iterations, low_bits, high_bits, stop}
use Rattle.stream_grammar.specs.Fields.{settings_read}
use Rattle.stream_reader.proofs.read_settings.Goals as goal

pub returns : goal.returns
unfolding settings_read alpha_bits gamma0_bits pre_iterations leg_iterations low_bits high_bits stop
returns c =
    rw (
      c.rule_of.ensures,
      c.number4-3.ensures.0,
      c.float_at-4.ensures,
      c.float_at-3.ensures,
      c.number4-2.ensures.0,
      c.legs.ensures,
      c.number4.ensures.0,
      c.float_at-2.ensures,
      c.float_at.ensures,
      c.schedule_of.ensures,
      c.schedule_byte.ensures,
    )
