-- `relay_orders::exchange_fault` meets its contract. Each arm answers what the definition says of its schedule. Assumes nothing.
use Rattle.relay_orders.specs.Order.{exchange_fault}
use Rattle.relay_orders.proofs.exchange_fault.Goals as goal

pub returns-in-Flooding : goal.returns-in-Flooding
unfolding exchange_fault
returns-in-Flooding c = rw c.in-Flooding.is

pub returns-in-CheckSerial : goal.returns-in-CheckSerial
unfolding exchange_fault
returns-in-CheckSerial c = rw c.in-CheckSerial.is c.exchanged_check.ensures
