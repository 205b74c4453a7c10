-- The calls of a run, and the sheet that they make.
use Rattle.std.specs.Prelude.{List, length, fold}
use Rattle.std.specs.Str.{chars}
use Rattle.codes.specs.Code.{Code}
use Rattle.codes.specs.declared.cell.Cell.{Cell}
use Rattle.tags.specs.tag.Sheet.{blank_sheet, after_note, after_wipe, after_line}
use Rattle.tags.specs.declared.runs.call.Call.{Call}
use Rattle.tags.specs.declared.runs.call.Call.TheVariants.{Note, Wipe, Line, Read}
use Rattle.tags.specs.declared.runs.event.Event.{Event}
use Rattle.tags.specs.declared.runs.event.Event.TheVariants as event

-- the sheet after a call; a read leaves it
abbrev pub after_call : Code → List Cell → Call → List Cell
after_call code sheet (Note cell letter) = after_note code cell letter sheet
after_call code sheet (Wipe cell) = after_wipe code cell sheet
after_call code sheet (Line text) = after_line code (chars text.now) sheet
after_call code sheet (Read length) = sheet

-- the sheet of a run: blank at first, and then fed the calls, one after another
abbrev pub sheet_of : Code → List Call → List Cell
sheet_of code calls = fold (after_call code) (blank_sheet code) calls

-- the call that an event is of
abbrev pub call_of : Event → Call
call_of (event.Note cell letter answer) = Note cell letter
call_of (event.Wipe cell answer) = Wipe cell
call_of (event.Line text answer) = Line text
call_of (event.Read answer shown) = Read (length shown.now)
