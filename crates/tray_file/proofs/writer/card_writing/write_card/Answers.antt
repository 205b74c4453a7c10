use Rattle.std.proofs.Common.{sym, ap, ◌∙◌, subst, arith, rules}
use Rattle.fields.specs.Prime.{prime_meaning}
use Rattle.fields.specs.Binary.{binary_meaning}
use Rattle.fields.specs.declared.prime_field.PrimeField.{PrimeField}
use Rattle.fields.specs.declared.binary_field.BinaryField.{BinaryField}
use Rattle.fields.specs.ListedPrimes.{listed_small}
use Rattle.codes.specs.Code.{Code}
use Rattle.codes.specs.Cards.{card_code}
use Rattle.tray_file.specs.writer.Writers.{Writable}
use Rattle.tray_file.proofs.writer_lemmas.WritableValues.{writable}
use Rattle.tray_file.proofs.writer_lemmas.WrittenRecords.{card_comes_back, accepted_is_made}
use Rattle.tray_file.proofs.writer.card_writing.write_card.Goals as goal

pub write_values-requires : goal.write_values-requires
write_values-requires c =
    let card = c.in-Prime.card in
    let origin = c.prime-prime.ensures ∙ ap (λ (f : PrimeField). f.prime) c.field.ensures in
    let small = listed_small card.field.prime card.field.listed in
    subst (λ (code : Code). Writable 1 c.prime-prime.result code) (sym c.code.ensures)
    (writable (prime_meaning card.field) 1 c.prime-prime.result (card_code card) card.checked (omega arith) (omega arith))

pub write_values-requires-in-Binary : goal.write_values-requires-in-Binary
write_values-requires-in-Binary c =
    let card = c.in-Binary.card in
    let origin = c.modulus-modulus.ensures ∙ ap (λ (f : BinaryField). f.modulus) c.field-in-Binary.ensures in
    let small = card.field.bounded in
    subst (λ (code : Code). Writable 2 c.modulus-modulus.result code) (sym c.code-in-Binary.ensures)
    (writable (binary_meaning card.field) 2 c.modulus-modulus.result (card_code card) card.checked (omega arith) (omega arith))

pub returns-in-Prime : goal.returns-in-Prime
returns-in-Prime c = record { written = search rules; back = card_comes_back c.args.card.now; accepted = accepted_is_made }

pub returns-in-Binary : goal.returns-in-Binary
returns-in-Binary c = record { written = search rules; back = card_comes_back c.args.card.now; accepted = accepted_is_made }
