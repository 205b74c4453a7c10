use Rattle.vectors.specs.WorkedSums.{book_code, book_cells}
use Rattle.vectors.proofs.WorkedSums.{book, eleven_listed, made, summed}
use Rattle.vectors.proofs.worked.sum_of_book_number.Goals as goal

pub unwrap-field-requires : goal.unwrap-field-requires
unwrap-field-requires c = made 11 c.new.result eleven_listed c.new.ensures

pub returns : goal.returns
returns c = record {
  sums = summed 11 c.new.result c.unwrap-field.result c.new.ensures c.unwrap-field.ensures book_code book_cells _ _ c.sums.result c.unwrap.result c.sums.ensures c.unwrap.ensures;
  value = book;
}
