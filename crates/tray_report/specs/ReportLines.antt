-- The bytes of each line.
use Rattle.std.specs.Prelude.{ℕ, List, ◌++◌, codes, decimal}
use Rattle.tray_file.specs.declared.fault.layer.Layer.{Layer}
use Rattle.tray_file.specs.declared.fault.layer.Layer.TheVariants.{Field, Card, Tag, File}
use Rattle.decoding.specs.reading.Reading.{read_number}
use Rattle.tray_file.specs.fault.Faults.{fault_number}
use Rattle.codes.specs.WordText.{word_text}
use Rattle.tray_report.specs.declared.line.LostLine.{LostLine}
use Rattle.tray_report.specs.declared.line.EndLine.{EndLine}
use Rattle.tray_report.specs.declared.line.FaultLine.{FaultLine}

-- LOST, the record's place and the refusal's number
abbrev pub lost_text : LostLine → List ℕ
lost_text l = codes "LOST " ++ (decimal l.place ++ (codes " " ++ decimal (read_number l.refusal)))

-- END, how many read and how many do not
abbrev pub end_text : EndLine → List ℕ
end_text l = codes "END " ++ (decimal l.read ++ (codes " " ++ decimal l.lost))

-- the layers by name
abbrev pub layer_word : Layer → List ℕ
layer_word (Field fault) = codes " FIELD "
layer_word (Card cause) = codes " CARD "
layer_word (Tag cause) = codes " TAG "
layer_word (File cause) = codes " FILE "

-- FAULT, its place, its layer and its number
abbrev pub fault_text : FaultLine → List ℕ
fault_text l =
    codes "FAULT " ++ (decimal l.fault.place
    ++ (layer_word l.fault.layer ++ decimal (fault_number l.fault)))

-- READ, the record's place, how many cells are wrong and how many blank, and the word
abbrev pub read_bytes : ℕ → ℕ → ℕ → List ℕ → List ℕ
read_bytes place wrong blank letters =
    codes "READ " ++ (decimal place
    ++ (codes " " ++ (decimal wrong
    ++ (codes " " ++ (decimal blank ++ word_text letters)))))
