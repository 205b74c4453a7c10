-- Notes.
use Rattle.std.specs.Prelude.{ℕ, ◌<◌, ◌≤◌, List, length, slice_index}

-- the most bytes that a note may have
abbrev pub longest_note : ℕ
longest_note = 200

-- not too many bytes, and each from the blank to the tilde
pub record PlainNote (body : List ℕ) : Type 0 where
  pub short : length body ≤ longest_note
  pub plain : (j : ℕ) → j < length body → (32 ≤ slice_index body j) × (slice_index body j ≤ 126)
