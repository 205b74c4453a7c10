use Rattle.std.proofs.Common.{subst, rules}
use Rattle.fields.specs.Prime.{PrimeFieldMade}
use Rattle.fields.specs.Binary.{BinaryFieldMade}
use Rattle.codes.proofs.house_lemmas.HouseRows.{row_kinds}
use Rattle.codes.proofs.house_lemmas.MadeFields.{over_prime, over_binary}
use Rattle.codes.proofs.house.cards.house_card.Goals as goal

pub unwrap-requires : goal.unwrap-requires
unwrap-requires c = let row = (row_kinds c.args.number c.in_ok-row.row c.in_ok-row.ensures).0 c.in-Prime.is in search rules

pub row_card-requires-clause-checked : goal.row_card-requires-clause-checked
row_card-requires-clause-checked c =
    let row = c.in_ok-row.row in
    over_prime row c.unwrap.result ((row_kinds c.args.number row c.in_ok-row.ensures).0 c.in-Prime.is) (subst (PrimeFieldMade row.origin) c.unwrap.ensures c.new.ensures)

pub unwrap-requires-in-Binary : goal.unwrap-requires-in-Binary
unwrap-requires-in-Binary c = let row = (row_kinds c.args.number c.in_ok-row.row c.in_ok-row.ensures).1 c.in-Binary.is in search rules

pub row_card-requires-in-Binary-clause-checked : goal.row_card-requires-in-Binary-clause-checked
row_card-requires-in-Binary-clause-checked c =
    let row = c.in_ok-row.row in
    over_binary row c.unwrap-in-Binary.result ((row_kinds c.args.number row c.in_ok-row.ensures).1 c.in-Binary.is) (subst (BinaryFieldMade row.origin) c.unwrap-in-Binary.ensures c.new-in-Binary.ensures)
