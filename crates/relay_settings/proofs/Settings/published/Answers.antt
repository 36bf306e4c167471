-- `relay_settings::Settings::published` meets its contract. Each literal is the definition's float, bit for bit. Assumes nothing.
use mathlib.Core.Path.{refl}
use lib.Ieee.{of_bits, neg}
use Rattle.relay_settings.proofs.Settings.published.Goals as goal

pub returns : goal.returns
unfolding of_bits neg
returns c = refl
