-- The cells of a tag, noted one after another.
use Rattle.std.proofs.Common.{◌≡◌, ◌≢◌, ℕ, ◌+◌, ◌<◌, ◌≤◌, List, length, get_or, set, Some, None, Option, refl, sym, ap, subst, ⊎_elim, ◌∙◌, arith}
use Rattle.std.proofs.lemmas.Bool.{cases_eq}
use Rattle.std.proofs.lemmas.List.{get_or-set_same, get_or-set_other, length-set}
use Rattle.codes.specs.Cells.{blank_cell, noted_cell}
use Rattle.codes.specs.declared.cell.Cell.{Cell}
use Rattle.bench.specs.Damaged.{noted_letter}
use Rattle.bench.specs.Readings.{NotedDamaged, noted_over, cell_at}
use Rattle.bench.specs.declared.damage.Damage.{Damage}

-- the places below j are noted, and the others as they were
pub record NotedBefore (damage : Damage) (word : List ℕ) (before now : List Cell) (j : ℕ) : Type 0 where
  pub count : length now ≡ length before
  pub noted : (k : ℕ) → k < j → k < length before → cell_at now k ≡ noted_over (noted_letter damage k (get_or word k 0)) (cell_at before k)
  pub left : (k : ℕ) → j ≤ k → cell_at now k ≡ cell_at before k

-- the cells after the note of a letter at place j, if there is one
abbrev pub put : Option ℕ → List Cell → ℕ → List Cell
put None cells j = cells
put (Some letter) cells j = set cells j (noted_cell letter)

pub noted_none : (damage : Damage) (word : List ℕ) (before : List Cell) → NotedBefore damage word before before 0
noted_none damage word before = record { count = refl; noted = λ k below within. absurd (omega arith); left = λ k above. refl }

length-put : (o : Option ℕ) (cells : List Cell) (j : ℕ) → length (put o cells j) ≡ length cells
length-put None cells j = refl
length-put (Some letter) cells j = length-set cells j (noted_cell letter)

put_here : (o : Option ℕ) (cells : List Cell) (j : ℕ) → j < length cells → cell_at (put o cells j) j ≡ noted_over o (cell_at cells j)
put_here None cells j within = refl
put_here (Some letter) cells j within = get_or-set_same cells j (noted_cell letter) blank_cell within

put_elsewhere : (o : Option ℕ) (cells : List Cell) (j k : ℕ) → k ≢ j → cell_at (put o cells j) k ≡ cell_at cells k
put_elsewhere None cells j k other = refl
put_elsewhere (Some letter) cells j k other = get_or-set_other cells j k (noted_cell letter) blank_cell other

pub noted_more : (damage : Damage) (word : List ℕ) (before now after : List Cell) (j : ℕ) → j < length before
    → NotedBefore damage word before now j → after ≡ put (noted_letter damage j (get_or word j 0)) now j → NotedBefore damage word before after (j + 1)
noted_more damage word before now after j within so_far is =
    let o = noted_letter damage j (get_or word j 0) in
    let at : (k : ℕ) → cell_at after k ≡ cell_at (put o now j) k = λ k. ap (λ cells. cell_at cells k) is in
    record {
      count = ap length is ∙ length-put o now j ∙ so_far.count;
      noted = λ k below inside. ⊎_elim
          (λ same. subst (λ (k : ℕ). cell_at after k ≡ noted_over (noted_letter damage k (get_or word k 0)) (cell_at before k)) (sym same)
          (at j ∙ put_here o now j (omega (arith, so_far.count)) ∙ ap (noted_over o) (so_far.left j (omega arith))))
          (λ other. at k ∙ put_elsewhere o now j k other ∙ so_far.noted k (omega arith) inside)
          (cases_eq k j);
      left = λ k above. at k ∙ put_elsewhere o now j k (omega arith) ∙ so_far.left k (omega arith);
    }

pub noted_all : (damage : Damage) (word : List ℕ) (before after : List Cell) (j : ℕ) → length before ≤ j → NotedBefore damage word before after j → NotedDamaged damage word before after
noted_all damage word before after j all noted = record { count = noted.count; each = λ k within. noted.noted k (omega arith) within }
