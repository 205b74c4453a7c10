use Rattle.std.proofs.Common.{◌≡◌, ℕ, ◌+◌, ◌<◌, List, length, get_or, Some, None, Option, sym, ap, ◌∙◌, ap₂, add-one, arith}
use Rattle.std.proofs.lemmas.List.{get_or-replicate}
use Rattle.std.proofs.lemmas.List.FromFn.{fill_by_all}
use Rattle.algebra.specs.Meaning.{Arithmetic}
use Rattle.algebra.specs.Power.{times_power}
use Rattle.codes.specs.declared.cell.Cell.{Cell}
use Rattle.codes.specs.Code.{Code, code_of}
use Rattle.codes.specs.Sums.{sum_to, add_cell, syndromes}
use Rattle.codes.specs.Cells.{blank_cell}
use Rattle.codes.proofs.over.CodeOver.sums.Goals as goal
use Rattle.codes.proofs.over.CodeOver.sums.Goals.{in-Some, in_default}

pub loop-j-init : goal.loop-j-init
unfolding sum_to
loop-j-init g c k h =
    let cleared = c.fill.ensures.after (λ y e. e) in
    let within : k < length c.args.sums.now = omega (arith, c.fill.ensures.len) in
    ap (λ (xs : List ℕ). get_or xs k 0) cleared ∙ get_or-replicate _ k 0 0 within

-- a turn adds the cell's part to every row
turn : (A : Arithmetic) (code : Code) (cells : List Cell) (k j : ℕ) (letter : Option ℕ) (x before : ℕ) → (get_or cells j blank_cell).letter ≡ letter → before ≡ sum_to A code cells k j → x ≡ add_cell A code k j letter before → x ≡ sum_to A code cells k (j + 1)
unfolding sum_to
turn A code cells k j letter x before is so_far e =
    e ∙ ap₂ (add_cell A code k j) (sym is) so_far ∙ ap (sum_to A code cells k) (sym (add-one j))

pub loop-j-preserved : goal.loop-j-preserved
loop-j-preserved g c k h =
    let A = (g.F.Field.meaning c.args.self.field.now).arithmetic in
    let code = code_of c.args.self.code in
    let before = get_or c.loop-j.sums k 0 in
    let at_j = turn A code c.args.cells.now k c.loop-j.j in
    let long = c.match-cell.auto.sums in
    let so_far = c.loop-j.invariant k (omega arith) in
    elim c.match-cell.branch [
      | in-Some w ↦
          (let same = w.sums-is in
          let weighted = w.mul-weighted.ensures in
          let within : k < length w.add_powers.new.sums = omega (arith, ap length same) in
          at_j (Some w.in-Some.letter) _ before w.in-Some.is so_far
          (ap (λ (xs : List ℕ). get_or xs k 0) same ∙ w.add_powers.ensures k within
          ∙ ap (λ x. A.plus before (times_power A x (get_or code.locators c.loop-j.j 0) k)) weighted))
      | in_default w ↦ at_j None _ before w.in_default.is so_far (ap (λ (xs : List ℕ). get_or xs k 0) w.sums-is)
    ]

pub returns : goal.returns
unfolding syndromes
returns g c =
    let whole : c.loop-j.j ≡ length c.args.cells.now = omega arith in
    let rows : length c.loop-j.sums ≡ c.args.self.code.rows = omega (arith, c.fill.ensures.len) in (
      record { a_multiplier_each = c.if-code-n.false; a_cell_each = c.if-cells-n.false; a_place_each = c.if-sums-code.false },
      fill_by_all _ c.loop-j.sums c.args.self.code.rows 0 rows
          (λ k h. c.loop-j.invariant k (omega arith) ∙ ap (sum_to _ (code_of c.args.self.code) c.args.cells.now k) whole),
    )
