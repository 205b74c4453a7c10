use Rattle.std.proofs.Common.{subst, rules}
use Rattle.fields.specs.Binary.{BinaryFieldMade}
use Rattle.codes.specs.house.HouseRows.{punched}
use Rattle.codes.proofs.house_lemmas.HouseRows.{punched_row}
use Rattle.codes.proofs.house_lemmas.MadeFields.{over_binary}
use Rattle.codes.proofs.house.cards.punched_card.Goals as goal

pub unwrap-requires : goal.unwrap-requires
unwrap-requires c = let row = punched_row in search rules

pub row_card-requires : goal.row_card-requires
row_card-requires c = let checked = over_binary punched c.unwrap.result punched_row (subst (BinaryFieldMade punched.origin) c.unwrap.ensures c.new.ensures) in search rules
