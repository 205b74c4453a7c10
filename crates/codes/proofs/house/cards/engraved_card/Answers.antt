use Rattle.std.proofs.Common.{subst, rules}
use Rattle.fields.specs.Binary.{BinaryFieldMade}
use Rattle.codes.specs.house.HouseRows.{engraved}
use Rattle.codes.proofs.house_lemmas.HouseRows.{engraved_row}
use Rattle.codes.proofs.house_lemmas.MadeFields.{over_binary}
use Rattle.codes.proofs.house.cards.engraved_card.Goals as goal

pub unwrap-requires : goal.unwrap-requires
unwrap-requires c = let row = engraved_row in search rules

pub row_card-requires : goal.row_card-requires
row_card-requires c = let checked = over_binary engraved c.unwrap.result engraved_row (subst (BinaryFieldMade engraved.origin) c.unwrap.ensures c.new.ensures) in search rules
