-- `relay_check::update_check` meets its contract: its closure leaves a message as it is. Assumes nothing.
use Rattle.std.proofs.Common.{rules}
use Rattle.relay_settings.specs.declared.Clip.TheVariants.{Off}
use Rattle.relay_check.specs.Check.{clipped}
use Rattle.relay_check.proofs.update_check.Goals as goal

pub returns : goal.returns
unfolding clipped
returns c = c.update_with.ensures Off (λ x r e. search rules)
