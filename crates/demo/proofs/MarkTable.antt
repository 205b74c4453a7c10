-- The table of marks: each stands for the letter that is its place.
use Rattle.std.proofs.Common.{◌≡◌, ℕ, zero, suc, ◌+◌, ◌<◌, List, [], ◌∷◌, length, get_or, Some, refl, ap, ◌∙◌, arith}
use Rattle.codes.specs.Cells.{noted_cell}
use Rattle.tags.specs.marks.Marks.{cell_of_mark}

-- the marks stand for the letters from this one on
Stand : List ℕ → ℕ → Type 0
Stand [] letter = Unit {0}
Stand (mark ∷ marks) letter = (cell_of_mark mark ≡ Some (noted_cell letter)) × Stand marks (suc letter)

each : (marks : List ℕ) (letter : ℕ) → Stand marks letter → (i d : ℕ) → i < length marks → cell_of_mark (get_or marks i d) ≡ Some (noted_cell (letter + i))
unfolding Stand
each [] letter s i d h = absurd (omega arith)
each (mark ∷ marks) letter s zero d h = s.0 ∙ ap (λ x. Some (noted_cell x)) (omega arith)
each (mark ∷ marks) letter s (suc i) d h = each marks (suc letter) s.1 i d (omega arith) ∙ ap (λ x. Some (noted_cell x)) (omega arith)

unfoldable pub table : List ℕ
table = 48 ∷ 49 ∷ 50 ∷ 51 ∷ 52 ∷ 53 ∷ 54 ∷ 55 ∷ 56 ∷ 57 ∷ 65 ∷ 66 ∷ 67 ∷ 68 ∷ 69 ∷ 70 ∷ 71 ∷ 72 ∷ 73 ∷ 74 ∷ 75 ∷ 76 ∷ 77 ∷ 78 ∷ 79 ∷ 80 ∷ 81 ∷ 82 ∷ 83 ∷ 84 ∷ 85 ∷ 86 ∷ 87 ∷ 88 ∷ 89 ∷ 90 ∷ 45 ∷ []

stand : Stand table 0
unfolding Stand table cell_of_mark
stand = (refl, (refl, (refl, (refl, (refl, (refl, (refl, (refl, (refl, (refl, (refl, (refl, (refl, (refl, (refl, (refl, (refl, (refl, (refl, (refl, (refl, (refl, (refl, (refl, (refl, (refl, (refl, (refl, (refl, (refl, (refl, (refl, (refl, (refl, (refl, (refl, (refl, tt)))))))))))))))))))))))))))))))))))))

pub mark_at : (i d : ℕ) → i < 37 → cell_of_mark (get_or (48 ∷ 49 ∷ 50 ∷ 51 ∷ 52 ∷ 53 ∷ 54 ∷ 55 ∷ 56 ∷ 57 ∷ 65 ∷ 66 ∷ 67 ∷ 68 ∷ 69 ∷ 70 ∷ 71 ∷ 72 ∷ 73 ∷ 74 ∷ 75 ∷ 76 ∷ 77 ∷ 78 ∷ 79 ∷ 80 ∷ 81 ∷ 82 ∷ 83 ∷ 84 ∷ 85 ∷ 86 ∷ 87 ∷ 88 ∷ 89 ∷ 90 ∷ 45 ∷ []) i d) ≡ Some (noted_cell i)
unfolding table
mark_at i d h = each table 0 stand i d h ∙ ap (λ x. Some (noted_cell x)) (omega arith)
