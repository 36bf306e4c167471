-- `stream_table::settings_answer` meets its contract. The settings read, then tested. Assumes nothing.
use Rattle.stream_table.specs.Table.{settings_answer}
use Rattle.stream_table.proofs.settings_answer.Goals as goal

pub returns : goal.returns
unfolding settings_answer
returns c = rw (c.check_settings.ensures, c.read_settings.ensures)
