use Rattle.std.proofs.Common.{◌≡◌, ℕ, List, length, Err, rules}
use Rattle.std.proofs.lemmas.Result.{err_from_is_err_and}
use Rattle.algebra.specs.Meaning.{Arithmetic}
use Rattle.codes.specs.Code.{Code}
use Rattle.codes.specs.declared.cell.Cell.{Cell}
use Rattle.decoding.specs.reading.Reading.{Reading}
use Rattle.decoding.specs.declared.reading.read_answer.ReadRefusal.{ReadRefusal}
use Rattle.tray_report.specs.WordReading.{CellsRead}
use Rattle.tray_report.proofs.word_reading.word_under.Goals as goal

not_read : (A : Arithmetic) (code : Code) (before after : List ℕ) (cells : List Cell) (refusal : ReadRefusal) →
    Reading A code cells before after (Err refusal) → length before ≡ length code.locators → CellsRead A code cells after (Err refusal)
not_read A code before after cells refusal reading long = record { before = before; long = long; reading = reading }

pub returns-in_err-counts : goal.returns-in_err-counts
returns-in_err-counts g c =
    let p = err_from_is_err_and c.from_residual.result c.from_residual.ensures.1 in
    rw (p.1, p.2) (c.read_cells.new.word, not_read _ _ _ _ _ _ c.in_err-counts.ensures.outcome (search rules))
