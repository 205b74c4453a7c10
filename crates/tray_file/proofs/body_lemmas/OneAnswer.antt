-- A body has one answer, as a card and as cells.
use Rattle.std.proofs.Common.{length, Ok, Err, sym, refl, ap, ◌∙◌}
use Rattle.tray_file.specs.declared.body.cells_refusal.CellsRefusal.TheVariants.{WrongLength, Body}
use Rattle.tray_file.specs.body.OneReading.{OneCardAnswer, OneCellsAnswer}
use Rattle.tray_file.proofs.body_lemmas.OneCard.{card_never}
use Rattle.tray_file.proofs.body_lemmas.EqualCards.{one_card}
use Rattle.tray_file.proofs.body_lemmas.SameCells.{cells_never, same_cells}
use Rattle.tray_file.proofs.body_lemmas.OneFault.{one_card_fault, one_cells_fault}

pub one_card_answer : OneCardAnswer
one_card_answer body (Ok a) (Ok b) is also = ap (λ c. Ok c) (one_card body a b is also)
one_card_answer body (Ok a) (Err g) is refused = absurd (card_never body a g is refused)
one_card_answer body (Err f) (Ok b) refused is = absurd (card_never body b f is refused)
one_card_answer body (Err f) (Err g) refused also = ap (λ c. Err c) (one_card_fault body f g refused also)

pub one_cells_answer : OneCellsAnswer
one_cells_answer code body before after other (Ok done) (Ok done_2) read also =
    (refl, same_cells (length code.locators) code.letters body other also.1 after read.1)
one_cells_answer code body before after other (Ok done) (Err WrongLength) read wrong = absurd (wrong.1 read.0)
one_cells_answer code body before after other (Ok done) (Err (Body g)) read refused =
    absurd (cells_never (length code.locators) code.letters body after read.1 g refused.2)
one_cells_answer code body before after other (Err WrongLength) (Ok done) wrong read = absurd (wrong.1 read.0)
one_cells_answer code body before after other (Err WrongLength) (Err WrongLength) wrong also = (refl, wrong.2 ∙ sym also.2)
one_cells_answer code body before after other (Err WrongLength) (Err (Body g)) wrong refused = absurd (wrong.1 refused.1)
one_cells_answer code body before after other (Err (Body f)) (Ok done) refused read =
    absurd (cells_never (length code.locators) code.letters body other read.1 f refused.2)
one_cells_answer code body before after other (Err (Body f)) (Err WrongLength) refused wrong = absurd (wrong.1 refused.1)
one_cells_answer code body before after other (Err (Body f)) (Err (Body g)) refused also =
    (ap (λ c. Err (Body c)) (one_cells_fault (length code.locators) code.letters body f g refused.2 also.2), refused.3 ∙ sym also.3)
