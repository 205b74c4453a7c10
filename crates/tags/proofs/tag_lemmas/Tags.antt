-- The size of a tag, and a line that is read into its own cells.
use Rattle.std.proofs.Common.{◌≡◌, ℕ, ◌-◌, ◌≤◌, List, length, take, Result, ap, ◌∙◌, subst₂, arith}
use Rattle.std.proofs.lemmas.List.{length-take-le}
use Rattle.algebra.specs.Limits.{largest_cells}
use Rattle.codes.specs.declared.cell.Cell.{Cell}
use Rattle.tags.specs.marks.Lines.{LineRead}
use Rattle.tags.specs.declared.marks.line.LineRefusal.{LineRefusal}

-- a line that was read into the first n cells, in an alphabet of q letters
pub record OwnLine (n q : ℕ) (cells after : List Cell) (marks : List ℕ) (r : Result (Unit {0}) LineRefusal) : Type 0 where
  pub before_long : length (take n cells) ≡ n
  pub after_long : length after ≡ n
  pub read : LineRead q marks (take n cells) after r

-- the tag hands on its width w and its alphabet size l
pub own_line : (n q : ℕ) (cells after : List Cell) (marks : List ℕ) (r : Result (Unit {0}) LineRefusal) (w l : ℕ) → n ≤ largest_cells → w ≡ n → l ≡ q → length cells ≡ largest_cells → length after ≡ length (take (w - 0) cells) → LineRead l marks (take (w - 0) cells) after r → OwnLine n q cells after marks r
own_line n q cells after marks r w l fits own letters table same read =
    let before_long = length-take-le n cells (omega arith) in
    let part : w - 0 ≡ n = omega arith in
    record {
      before_long = before_long;
      after_long = same ∙ ap (λ m. length (take m cells)) part ∙ before_long;
      read = subst₂ (λ (k m : ℕ). LineRead k marks (take m cells) after r) letters part read;
    }
