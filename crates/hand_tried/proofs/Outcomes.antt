-- From a near word, from none, or from too many blanks to the only outcome of a read.
use Rattle.std.proofs.Common.{◌≡◌, ℕ, ◌<◌, ◌≤◌, true, List, length, Result, sym, refl, ◌∙◌}
use Rattle.algebra.specs.Meaning.{Meaning}
use Rattle.codes.specs.Code.{Code}
use Rattle.codes.specs.Checked.{Checked}
use Rattle.codes.specs.Cells.{blanks}
use Rattle.codes.specs.Standings.{Lettered}
use Rattle.codes.specs.declared.cell.Cell.{Cell}
use Rattle.decoding.specs.reading.Reading.{wrong, reach, Near, Reading}
use Rattle.decoding.specs.declared.reading.read_answer.Counts.{Counts}
use Rattle.decoding.specs.declared.reading.read_answer.ReadRefusal.{ReadRefusal}
use Rattle.decoding.specs.declared.reading.read_answer.ReadRefusal.TheVariants.{TooBlank, Lost}
use Rattle.decoding.proofs.reading_lemmas.NearWords.{near_only}
use Rattle.decoding.proofs.reading_lemmas.OneReading.{one_reading}
use Rattle.hand_tried.specs.Outcomes.{Outcome, Places, OnTag, Shows, Refuses}
use Rattle.hand_tried.proofs.NearWords.{all_lettered, lettered_by}

module _ (m : Meaning) (code : Code) (checked : Checked m code) (cells : List Cell) (long : length cells ≡ length code.locators) (letters : all_lettered code.letters cells ≡ true) where
  lettered : Lettered code.letters cells
  lettered = lettered_by code.letters cells letters

  on_tag : OnTag m code cells
  on_tag = record { checked = checked; long = long; lettered = lettered }

  -- an outcome that meets the relation is the only one
  the_only : (left : List ℕ → List ℕ) (answer : Result Counts ReadRefusal) →
      ((before : List ℕ) → length before ≡ length code.locators → Reading m.arithmetic code cells before (left before) answer) →
      Outcome (Places (length code.locators)) (Reading m.arithmetic code cells) left answer
  the_only left answer this = record {
    this = this;
    only = λ before room after other reads.
        let one = one_reading m code checked cells long lettered before in
        let given = one.3 (left before) answer (this before room) in
        let found = one.3 after other reads in
        (found.0 ∙ sym given.0, found.1 ∙ sym given.1);
  }

  pub shows : (word : List ℕ) → Near m.arithmetic code cells word → Shows m code cells word (wrong cells word) (blanks cells)
  shows word near = (on_tag, the_only (λ before. word) _ (λ before room. (room, near, (λ other also. near_only m code checked cells long lettered other word also near), refl, refl)))

  pub refuses_lost : blanks cells ≤ reach code → ((word : List ℕ) → Near m.arithmetic code cells word → ⊥) → Refuses m code cells 24
  refuses_lost few none = (on_tag, (Lost, refl, the_only (λ before. before) _ (λ before room. (refl, room, few, none, refl))))

  pub refuses_too_blank : reach code < blanks cells → Refuses m code cells 23
  refuses_too_blank many = (on_tag, (TooBlank, refl, the_only (λ before. before) _ (λ before room. (refl, room, many, refl))))
