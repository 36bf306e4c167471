-- The 64-bit outputs behind the gammas of a leg. Definitions only. Assumes nothing.
use Rattle.std.specs.Prelude.{ℕ, suc}
use Rattle.numbers.specs.Draw.{mixed}
use Rattle.relay_settings.specs.declared.DrawRule.{DrawRule}
use Rattle.relay_settings.specs.declared.Settings.{Settings}
use Rattle.relay_gammas.specs.Gammas.{start_of, drawn}

-- the state of the generator of `gamma_of`, after n draws of the leg r
unfoldable pub state_of : Settings → DrawRule → ℕ → ℕ → ℕ → ℕ
state_of t rule seed r n = (drawn t.gamma_low t.gamma_high (start_of rule seed r) n).state

-- the output that its v-th gamma comes of, from 0 on
unfoldable pub output_of : Settings → DrawRule → ℕ → ℕ → ℕ → ℕ
output_of t rule seed r v = mixed (state_of t rule seed r (suc v))
