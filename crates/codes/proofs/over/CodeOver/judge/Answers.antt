use Rattle.std.proofs.Common.{◌≡◌, ℕ, List, length, sym, refl, ap, ◌∙◌, subst, arith}
use Rattle.algebra.specs.Meaning.{Arithmetic}
use Rattle.codes.specs.Code.{Code, code_of}
use Rattle.codes.specs.Sums.{syndromes}
use Rattle.codes.specs.Cells.{blanks, noted}
use Rattle.codes.specs.Standings.{Lettered, AllZero}
use Rattle.codes.specs.Codeword.{Codeword}
use Rattle.codes.specs.declared.cell.Cell.{Cell}
use Rattle.codes.proofs.Words.{letters_of, noted_letters}
use Rattle.codes.proofs.Codewords.{codeword_from_noted, noted_lettered, noted_zeros}
use Rattle.std.proofs.lemmas.Bool.{false≢true}
use Rattle.codes.proofs.over.CodeOver.judge.Goals as goal
use Rattle.codes.proofs.over.CodeOver.judge.Goals.{else-lettered-via-then-lettered+else-all_zero, else-lettered-via-else-lettered}

module _ (A : Arithmetic) (code : Code) (cells : List Cell) (sums : List ℕ) (sums_are : sums ≡ syndromes A code cells) where
  a_codeword : length cells ≡ length code.locators → blanks cells ≡ 0 → Lettered code.letters cells → AllZero sums → (word : List ℕ) × (cells ≡ noted word) × Codeword A code word
  a_codeword long none lettered zeros =
      let is = noted_letters cells none in
      let word = letters_of cells in (
        word,
        is,
        codeword_from_noted A code word
            (ap length (sym is) ∙ long)
            (subst (Lettered code.letters) is lettered)
            (subst (λ (xs : List Cell). AllZero (syndromes A code xs)) is (subst AllZero sums_are zeros)),
      )

  tested : (word : List ℕ) → cells ≡ noted word → Codeword A code word → Lettered code.letters cells × AllZero sums
  tested word is c = (
    subst (Lettered code.letters) (sym is) (noted_lettered A code word c),
    subst AllZero (sym sums_are) (subst (λ (xs : List Cell). AllZero (syndromes A code xs)) (sym is) (noted_zeros A code word c)),
  )

pub returns-then-all_zero : goal.returns-then-all_zero
returns-then-all_zero g c =
    let summed = c.in_ok-sums.ensures in
    let none : blanks c.args.cells.now ≡ 0 = omega arith in (
      summed.0,
      summed.1,
      a_codeword _ (code_of c.args.self.code) c.args.cells.now c.sums.new.sums summed.1 summed.0.a_cell_each none (c.if-lettered.ensures.0 refl) (c.if-all_zero.ensures.0 refl),
    )

pub returns-else-lettered : goal.returns-else-lettered
returns-else-lettered g c =
    let summed = c.in_ok-sums.ensures in
    let none : blanks c.args.cells.now ≡ 0 = omega arith in
    let tests = tested _ (code_of c.args.self.code) c.args.cells.now c.sums.new.sums summed.1 in (
      summed.0,
      summed.1,
      (
        none,
        λ word is codeword.
            elim c.else-lettered.branch [
              | else-lettered-via-then-lettered+else-all_zero w ↦ false≢true (w.if-all_zero.ensures.1 (tests word is codeword).1)
              | else-lettered-via-else-lettered w ↦ false≢true (w.if-lettered.ensures.1 (tests word is codeword).0)
            ],
      ),
    )
