-- What the check of a cells record must know of its card.
use Rattle.std.specs.Prelude.{◌≡◌, length}
use Rattle.codes.specs.Code.{Code}
use Rattle.tray_file.specs.declared.body.card_shape.CardShape.{CardShape}

pub record ShapeOf (code : Code) (shape : CardShape) : Type 0 where
  pub cells : shape.cells ≡ length code.locators
  pub letters : shape.letters ≡ code.letters
