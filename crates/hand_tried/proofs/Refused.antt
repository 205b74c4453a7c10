-- The cases in which a read is refused.
use Rattle.std.proofs.Common.{◌≡◌, ℕ, ◌<◌, [], ◌∷◌, refl, arith, lit≤}
use Rattle.codes.specs.Cells.{noted}
use Rattle.codes.specs.Sums.{sum_to, syndromes}
use Rattle.fields.specs.CarrylessProduct.{◌⊗◌}
use Rattle.fields.specs.LongDivision.{remainder}
use Rattle.minimal_pairs.specs.Poly.{up_to}
use Rattle.minimal_pairs.specs.MinimalPair.{state_after}
use Rattle.decoding.specs.filling.Fillings.{annihilator_below, filled_letter, filled}
use Rattle.decoding.specs.encoding.CodeExamples.{modulo_seven, small_code}
use Rattle.decoding.specs.reading.Erasing.{erased}
use Rattle.decoding.specs.reading.Decoding.{modified_syndromes}
use Rattle.hand_tried.specs.HandTried.{modulo_eleven, seven_cells, blanks_then, two_gaps}
use Rattle.hand_tried.specs.Outcomes.{Refuses}
use Rattle.hand_tried.proofs.Cards.{small_checked, two_checked}
use Rattle.hand_tried.proofs.Outcomes.{refuses_lost, refuses_too_blank}
use Rattle.hand_tried.proofs.NoneNear.{none_by_degree, none_by_word}

pub five_blank : Refuses modulo_seven small_code (blanks_then 5 (6 ∷ [])) 23
five_blank = refuses_too_blank _ _ small_checked _ refl refl (lit≤ tt)

-- one sum is left, and it is not 0, so the degree is 1: too high for no wrong cell
pub three_blank_one_wrong : Refuses modulo_seven small_code (blanks_then 3 (4 ∷ 0 ∷ 6 ∷ [])) 24
unfolding sum_to syndromes annihilator_below modified_syndromes state_after up_to
three_blank_one_wrong =
    refuses_lost _ _ small_checked _ refl refl (lit≤ tt)
    (none_by_degree _ _ small_checked (blanks_then 3 (4 ∷ 0 ∷ 6 ∷ [])) refl refl (lit≤ tt) (6 ∷ []) refl 1 refl (lit≤ tt))

-- The sums have the pair 1 + 2X + X², which has no root among the locators, so the cells themselves are found; but their sums are
-- not 0.
pub three_wrong : Refuses modulo_seven small_code (noted (1 ∷ 5 ∷ 3 ∷ 4 ∷ 0 ∷ 0 ∷ [])) 24
unfolding sum_to syndromes annihilator_below modified_syndromes state_after up_to erased filled filled_letter
three_wrong =
    refuses_lost _ _ small_checked _ refl refl (lit≤ tt)
    (none_by_word _ _ small_checked (noted (1 ∷ 5 ∷ 3 ∷ 4 ∷ 0 ∷ 0 ∷ [])) refl refl (lit≤ tt) (6 ∷ 2 ∷ 4 ∷ 4 ∷ []) refl 2 refl (1 ∷ 2 ∷ 1 ∷ []) refl
    (noted (1 ∷ 5 ∷ 3 ∷ 4 ∷ 0 ∷ 0 ∷ [])) refl (1 ∷ 5 ∷ 3 ∷ 4 ∷ 0 ∷ 0 ∷ []) refl (λ passes. let zero : ◌≡◌ {A = ℕ} 6 0 = passes.zeros 0 (lit≤ tt) in omega arith))

-- the gaps are filled as with eight letters, and 2 is none of two letters
pub gaps_of_two : Refuses modulo_eleven (seven_cells 2) two_gaps 24
unfolding sum_to syndromes annihilator_below modified_syndromes state_after up_to erased filled filled_letter ◌⊗◌ remainder
gaps_of_two =
    refuses_lost _ _ two_checked _ refl refl (lit≤ tt)
    (none_by_word _ _ two_checked two_gaps refl refl (lit≤ tt) [] refl 0 refl (1 ∷ []) refl two_gaps refl (1 ∷ 2 ∷ 0 ∷ 6 ∷ 0 ∷ 0 ∷ 0 ∷ []) refl
    (λ passes. let letter : 2 < 2 = passes.lettered 1 (lit≤ tt) in omega arith))
