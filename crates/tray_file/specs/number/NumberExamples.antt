-- Worked examples of the definitions.
use Rattle.std.specs.Prelude.{[], ◌∷◌}
use Rattle.tray_file.specs.number.NumberReading.{StandsFirst, NumberRefused}
use Rattle.tray_file.specs.declared.number.cause.NumberCause.TheVariants.{BadNumber}

pub record NumberExamples : Type 0 where
  -- FF FF 03 is 65,535
  pub largest : StandsFirst 65535 (255 ∷ 255 ∷ 3 ∷ [])
  -- 80 80 04 would be one more
  pub above : NumberRefused (128 ∷ 128 ∷ 4 ∷ []) BadNumber
  -- 80 00 would be 0, with a last group that is zero
  pub zero_group : NumberRefused (128 ∷ 0 ∷ []) BadNumber
