-- `relay_stores::stores_each` meets its contract. Each schedule has its own formula. Assumes nothing.
use Rattle.relay_stores.proofs.Squares.{each_serial}
use Rattle.relay_stores.proofs.stores_each.Goals as goal

pub returns-in-CheckSerial : goal.returns-in-CheckSerial
returns-in-CheckSerial c =
    each_serial c.args.schedule c.args.mechanisms c.args.check_var.now c.args.var_message.now c.args.var_offset.now _ c.in-CheckSerial.is c.squared_degrees.ensures.sum
