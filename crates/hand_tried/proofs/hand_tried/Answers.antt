use Rattle.hand_tried.proofs.Shown.{undamaged, two_wrong, two_blank_one_wrong, four_blank, gaps_of_eight}
use Rattle.hand_tried.proofs.Refused.{three_blank_one_wrong, five_blank, three_wrong, gaps_of_two}
use Rattle.hand_tried.proofs.Steps.{wrong_sums, wrong_pair, encoded, empty_pair}
use Rattle.hand_tried.proofs.hand_tried.Goals as goal

pub returns : goal.returns
returns c = record {
  undamaged = undamaged;
  two_wrong = record { sums = wrong_sums; pair = wrong_pair; reads = two_wrong };
  two_blank_one_wrong = two_blank_one_wrong;
  three_blank_one_wrong = three_blank_one_wrong;
  four_blank = four_blank;
  five_blank = five_blank;
  three_wrong = three_wrong;
  encoded = encoded;
  two_gaps_read = record { of_eight = gaps_of_eight; of_two = gaps_of_two };
  empty_pair = empty_pair;
}
