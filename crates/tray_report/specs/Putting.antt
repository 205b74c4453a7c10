-- What a writer that may fail has taken.
use Rattle.std.specs.Prelude.{◌≡◌, ℕ, List, ◌++◌, Ok, Err, Option, Result, decimal, flat_map}
use Rattle.std.specs.Io.KnownBytes.{Appends}
use Rattle.tray_report.specs.FileText.{FileText}
use Rattle.tray_report.specs.declared.report.putting.Field.{Field}

-- known bytes grow by a beginning of bs
abbrev pub AppendsBeginning : Option (List ℕ) → Option (List ℕ) → List ℕ → Type 0
AppendsBeginning old new bs =
    (front : List ℕ) × (rest : List ℕ) × (bs ≡ front ++ rest) × Appends old new front

-- A writer whose bytes are known took all of bs, or where it failed a beginning of bs.
abbrev pub Puts : {E : Type 0} → Option (List ℕ) → Option (List ℕ) → List ℕ
    → Result (Unit {0}) E → Type 0
Puts old new bs (Ok done) = Appends old new bs
Puts old new bs (Err error) = AppendsBeginning old new bs

-- The same of the text of a file. Where the writer failed, the text is whichever the file has.
abbrev pub LinesWritten : {E : Type 0} → Option (List ℕ) → Option (List ℕ) → List ℕ
    → Result (Unit {0}) E → Type 0
LinesWritten old new file (Ok done) = (text : List ℕ) × FileText file text × Appends old new text
LinesWritten old new file (Err error) =
    (text : List ℕ) → FileText file text → AppendsBeginning old new text

-- each number after its label
abbrev pub fields_text : List Field → List ℕ
fields_text fields = flat_map (λ (f : Field). f.label.now ++ decimal f.number) fields
