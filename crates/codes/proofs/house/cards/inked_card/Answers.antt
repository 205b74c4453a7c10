use Rattle.std.proofs.Common.{subst, rules}
use Rattle.fields.specs.Prime.{PrimeFieldMade}
use Rattle.codes.specs.house.HouseRows.{inked}
use Rattle.codes.proofs.house_lemmas.HouseRows.{inked_row}
use Rattle.codes.proofs.house_lemmas.MadeFields.{over_prime}
use Rattle.codes.proofs.house.cards.inked_card.Goals as goal

pub unwrap-requires : goal.unwrap-requires
unwrap-requires c = let row = inked_row in search rules

pub row_card-requires : goal.row_card-requires
row_card-requires c = let checked = over_prime inked c.unwrap.result inked_row (subst (PrimeFieldMade inked.origin) c.unwrap.ensures c.new.ensures) in search rules
