-- `exports_compare::single::chowderkite_alpha_good` meets its contract: it answers the bit of the test. Assumes nothing.
use mathlib.Core.Path.{◌∙◌, ap}
use Rattle.relay_settings.specs.Settings.{alpha_good}
use Rattle.exports_values.specs.Codes.{bit_of}
use Rattle.exports_compare.proofs.single.chowderkite_alpha_good.Goals as goal

pub returns : goal.returns
unfolding alpha_good
returns c = c.bit.ensures ∙ ap bit_of c.finite_positive.ensures
