use Rattle.std.proofs.Common.{◌≡◌, ℕ, ◌≤◌, List, length, replicate, refl, subst₂, Ok, Err, Result, arith, rules}
use Rattle.algebra.specs.Meaning.{Meaning, with_inverses}
use Rattle.fields.specs.Modulo.{modulo}
use Rattle.codes.specs.Code.{Code}
use Rattle.codes.specs.house.HouseRows.{inked, row_code}
use Rattle.fields.specs.Elements.{AllBelow}
use Rattle.std.specs.Result.{IsOk}
use Rattle.decoding.specs.encoding.Encodings.{Encoded, EncodeRefused, EncodeLengths}
use Rattle.decoding.specs.declared.encoding.encode_refusal.EncodeRefusal.{EncodeRefusal}
use Rattle.decoding.specs.declared.encoding.encode_refusal.EncodeRefusal.TheVariants.{PartAlphabet, WrongLength, NoLetter}
use Rattle.demo.proofs.inked.monday.encoded.Goals as goal

granted : (m : Meaning) (code : Code) (letters buffer : List ℕ) → m.arithmetic.size ≤ code.letters → EncodeLengths code letters buffer → AllBelow code.letters letters → (refusal : EncodeRefusal) → EncodeRefused m code letters buffer refusal → ⊥
granted m code letters buffer all lengths below PartAlphabet r = let part = r.1 in omega arith
granted m code letters buffer all lengths below WrongLength r = r.2 lengths
granted m code letters buffer all lengths below NoLetter r = r.3 below

on_inked : (letters buffer : List ℕ) → length letters ≡ 12 → length buffer ≡ 20 → AllBelow 37 letters → (refusal : EncodeRefusal) → EncodeRefused (with_inverses (modulo 37)) (row_code inked) letters buffer refusal → ⊥
on_inked letters buffer twelve twenty below = granted (with_inverses (modulo 37)) (row_code inked) letters buffer (omega arith) (record { data_each = omega arith; a_place_each = twenty }) below

ok : (letters buffer after : List ℕ) (r : Result (Unit {0}) EncodeRefusal) → length letters ≡ 12 → length buffer ≡ 20 → AllBelow 37 letters → Encoded (with_inverses (modulo 37)) (row_code inked) letters buffer after r → IsOk r
ok letters buffer after (Ok done) twelve twenty below e = refl
ok letters buffer after (Err refusal) twelve twenty below e = absurd (on_inked letters buffer twelve twenty below refusal e.0)

pub unwrap-requires : goal.unwrap-requires
unwrap-requires c =
    let card = c.inked_card-card.ensures in
    let twelve : length c.args.letters.now ≡ 12 = search rules in
    ok c.args.letters.now (replicate 20 0) c.encode.new.word c.encode.result twelve refl c.requires
    (subst₂ (λ (m : Meaning) (code : Code). Encoded m code c.args.letters.now (replicate 20 0) c.encode.new.word c.encode.result) card.meaning card.values c.encode.ensures)
