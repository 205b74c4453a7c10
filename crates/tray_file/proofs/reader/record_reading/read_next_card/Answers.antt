use Rattle.std.proofs.Common.{refl}
use Rattle.tray_file.proofs.reader.record_reading.read_next_card.Goals as goal

pub returns : goal.returns
returns c = (c.in_ok-read_card.field-0, c.in_ok-read_card.ensures.read, refl)
