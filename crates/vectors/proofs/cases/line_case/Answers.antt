use Rattle.std.proofs.Common.{◌≡◌, ◌++◌, ℕ, List, Ok, Err, Some, Result, length, take, drop, replicate, codes, ap, ◌∙◌, sym, subst₂, arith}
use Rattle.std.proofs.Math.Seq.{take-append_seam}
use Rattle.std.proofs.lemmas.Result.{IfOk-weaker}
use Rattle.std.proofs.lemmas.Str.Pattern.{split_once_first}
use Rattle.std.specs.Str.{chars}
use Rattle.codes.specs.WordText.{cells_text}
use Rattle.codes.specs.declared.cell.Cell.{Cell}
use Rattle.tags.specs.marks.Lines.{LineRead}
use Rattle.tags.specs.declared.marks.line.LineRefusal.{LineRefusal}
use Rattle.vectors.specs.Parts.{numbers_in}
use Rattle.vectors.proofs.CodeCases.{two}
use Rattle.vectors.proofs.cases.line_case.Goals as goal

-- the same line, of what is the same
moved : (letters : ℕ) {marks marks' : List ℕ} {before before' : List Cell} (after : List Cell) (answer : Result (Unit {0}) LineRefusal) → marks ≡ marks' → before ≡ before' → LineRead letters (chars marks) before after answer → LineRead letters (chars marks') before' after answer
moved letters {marks} {marks'} {before} {before'} after answer a b = subst₂ (λ (m : List ℕ) (h : List Cell). LineRead letters (chars m) h after answer) a b

pub returns-in-Ok : goal.returns-in-Ok
returns-in-Ok c =
    let parts = split_once_first 59 c.args.argument.now (Some (c.in-Some.head, c.in-Some.marks)) c.in-Some.ensures.cases (omega arith) in
    let numbers = c.as_slice.ensures.value ∙ c.in_ok-numbers.ensures ∙ ap numbers_in parts.1 in
    let are = two c.as_slice.result.now (omega (arith, c.in-len2.len_at_least)) (omega (arith, c.in-len2.len_below)) in
    let blanks = c.as_mut_slice.ensures.value ∙ c.in_ok-cells.ensures.items_if_clones_equal (λ y e. e) ∙ ap (replicate _) c.blank.ensures in
    let after = c.read_line.new.cells in
    let long = sym c.as_mut_slice.ensures.len ∙ sym c.in-Ok.ensures.0 ∙ sym c.in-Ok.ensures.2.long in
    let row = c.as_slice-in-Ok.ensures.value ∙ ap (λ (n : ℕ). take n (after ++ drop (length after) c.in_ok-cells.cells.items)) long ∙ take-append_seam after _ in
    let text = c.in_ok-format-in-Ok.ensures.ok ∙ ap (λ (cells : List Cell). codes "line" ++ cells_text cells) row in
    (_, _, c.read_line.new.cells, Ok c.in-Ok.field-0, sym numbers ∙ are, moved _ c.read_line.new.cells (Ok c.in-Ok.field-0) parts.2 blanks c.in-Ok.ensures, text)

pub returns : goal.returns
returns c =
    let parts = split_once_first 59 c.args.argument.now (Some (c.in-Some.head, c.in-Some.marks)) c.in-Some.ensures.cases (omega arith) in
    let numbers = c.as_slice.ensures.value ∙ c.in_ok-numbers.ensures ∙ ap numbers_in parts.1 in
    let are = two c.as_slice.result.now (omega (arith, c.in-len2.len_at_least)) (omega (arith, c.in-len2.len_below)) in
    let blanks = c.as_mut_slice.ensures.value ∙ c.in_ok-cells.ensures.items_if_clones_equal (λ y e. e) ∙ ap (replicate _) c.blank.ensures in
    IfOk-weaker c.line_refused.result _ _
    (λ text told. (_, _, c.read_line.new.cells, Err c.in-Err.refusal, sym numbers ∙ are, moved _ c.read_line.new.cells (Err c.in-Err.refusal) parts.2 blanks c.in-Err.ensures, told))
    c.line_refused.ensures
