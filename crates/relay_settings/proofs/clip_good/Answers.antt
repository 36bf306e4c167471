-- `relay_settings::clip_good` meets its contract. Each arm answers what the definition says of its clip. Assumes nothing.
use Rattle.relay_settings.specs.Settings.{clip_good}
use Rattle.relay_settings.proofs.clip_good.Goals as goal

pub returns-in-Off : goal.returns-in-Off
unfolding clip_good
returns-in-Off c = rw c.in-Off.is

pub returns-in-On : goal.returns-in-On
unfolding clip_good
returns-in-On c = rw (c.finite_positive.ensures, c.in-On.is)
