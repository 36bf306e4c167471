-- `relay_check::clipped_check` meets its contract: its closure clips a message. Assumes nothing.
use Rattle.std.proofs.Common.{rules}
use Rattle.relay_settings.specs.declared.Clip.TheVariants.{On}
use Rattle.relay_check.specs.Check.{clipped}
use Rattle.relay_check.proofs.clipped_check.Goals as goal

pub returns : goal.returns
unfolding clipped
returns c = c.update_with.ensures (On c.args.limit) (λ x r e. search rules)
