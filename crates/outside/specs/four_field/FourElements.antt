-- The field of four elements, by tables. That they make a field is the law of its `Field`.
use Rattle.std.specs.Prelude.{ℕ, List, [], ◌∷◌, slice_index, slice_index_or}
use Rattle.kimzhadyr.specs.Meaning.{Arithmetic, Meaning, with_inverses}
use Rattle.outside.specs.declared.four_field.FourField.{FourField}

-- the sums; every element is its own negative, so they are the differences too
abbrev pub sums : List (List ℕ)
sums =
    (0 ∷ 1 ∷ 2 ∷ 3 ∷ [])
    ∷ (1 ∷ 0 ∷ 3 ∷ 2 ∷ [])
    ∷ (2 ∷ 3 ∷ 0 ∷ 1 ∷ [])
    ∷ (3 ∷ 2 ∷ 1 ∷ 0 ∷ [])
    ∷ []

abbrev pub products : List (List ℕ)
products =
    (0 ∷ 0 ∷ 0 ∷ 0 ∷ [])
    ∷ (0 ∷ 1 ∷ 2 ∷ 3 ∷ [])
    ∷ (0 ∷ 2 ∷ 3 ∷ 1 ∷ [])
    ∷ (0 ∷ 3 ∷ 1 ∷ 2 ∷ [])
    ∷ []

-- what stands in row a at b, and 0 outside the table
abbrev pub entry : List (List ℕ) → ℕ → ℕ → ℕ
entry table a b = slice_index (slice_index_or table a []) b

abbrev pub four_elements : Arithmetic
four_elements = record { size = 4; plus = entry sums; minus = entry sums; times = entry products }

abbrev pub four_meaning : FourField → Meaning
four_meaning field = with_inverses four_elements

-- there is one such field, and nothing to check
abbrev pub four_accepted : FourField → Type 0
four_accepted field = Unit {0}
