-- The cases in which a word is shown.
use Rattle.std.proofs.Common.{ℕ, List, [], ◌∷◌, refl, lit≤}
use Rattle.codes.specs.Cells.{noted}
use Rattle.codes.specs.Sums.{sum_to, syndromes}
use Rattle.fields.specs.CarrylessProduct.{◌⊗◌}
use Rattle.fields.specs.LongDivision.{remainder}
use Rattle.decoding.specs.encoding.CodeExamples.{modulo_seven, small_code}
use Rattle.hand_tried.specs.HandTried.{modulo_eleven, seven_cells, blanks_then, two_gaps}
use Rattle.hand_tried.specs.Outcomes.{Shows}
use Rattle.hand_tried.proofs.Cards.{small_checked, eight_checked}
use Rattle.hand_tried.proofs.NearWords.{near_by}
use Rattle.hand_tried.proofs.Outcomes.{shows}

abbrev one_to_six : List ℕ
one_to_six = 1 ∷ 2 ∷ 3 ∷ 4 ∷ 5 ∷ 6 ∷ []

pub undamaged : Shows modulo_seven small_code (noted (1 ∷ 2 ∷ 3 ∷ 4 ∷ 5 ∷ 6 ∷ [])) one_to_six 0 0
unfolding sum_to syndromes
undamaged = shows _ _ small_checked _ refl refl one_to_six (near_by _ _ _ one_to_six refl refl refl (lit≤ tt))

pub two_wrong : Shows modulo_seven small_code (noted (1 ∷ 5 ∷ 3 ∷ 4 ∷ 0 ∷ 6 ∷ [])) one_to_six 2 0
unfolding sum_to syndromes
two_wrong = shows _ _ small_checked _ refl refl one_to_six (near_by _ _ _ one_to_six refl refl refl (lit≤ tt))

pub two_blank_one_wrong : Shows modulo_seven small_code (blanks_then 2 (3 ∷ 4 ∷ 0 ∷ 6 ∷ [])) one_to_six 1 2
unfolding sum_to syndromes
two_blank_one_wrong = shows _ _ small_checked _ refl refl one_to_six (near_by _ _ _ one_to_six refl refl refl (lit≤ tt))

pub four_blank : Shows modulo_seven small_code (blanks_then 4 (0 ∷ 6 ∷ [])) (3 ∷ 1 ∷ 1 ∷ 3 ∷ 0 ∷ 6 ∷ []) 0 4
unfolding sum_to syndromes
four_blank = shows _ _ small_checked _ refl refl _ (near_by _ _ _ (3 ∷ 1 ∷ 1 ∷ 3 ∷ 0 ∷ 6 ∷ []) refl refl refl (lit≤ tt))

pub gaps_of_eight : Shows modulo_eleven (seven_cells 8) two_gaps (1 ∷ 2 ∷ 0 ∷ 6 ∷ 0 ∷ 0 ∷ 0 ∷ []) 0 2
unfolding sum_to syndromes ◌⊗◌ remainder
gaps_of_eight = shows _ _ eight_checked _ refl refl _ (near_by _ _ _ (1 ∷ 2 ∷ 0 ∷ 6 ∷ 0 ∷ 0 ∷ 0 ∷ []) refl refl refl (lit≤ tt))
