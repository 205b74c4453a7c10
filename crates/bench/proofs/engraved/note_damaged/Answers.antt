use Rattle.std.proofs.Common.{◌≡◌, length, sym, ap, ◌∙◌, arith, rules, length-take}
use Rattle.codes.specs.Cards.{card_code}
use Rattle.codes.specs.Codeword.{Codeword}
use Rattle.tags.specs.tag.Sheet.{width}
use Rattle.tags.specs.tag.Tags.{tag_arithmetic, tag_code, tag_cells}
use Rattle.bench.proofs.NotedCells.{put, noted_more}
use Rattle.bench.proofs.GrantedNotes.{fits_note, after_granted}
use Rattle.bench.proofs.engraved.note_damaged.Goals as goal
use Rattle.bench.proofs.engraved.note_damaged.Goals.{in-Some, in_default}

pub loop-j-preserved : goal.loop-j-preserved
loop-j-preserved c =
    let first = c.args.tag.now in
    let tag = c.loop-j.tag in
    let word = c.args.word.now in
    let j = c.loop-j.j in
    let card = c.loop-j.invariant.0 in
    let same : tag_code tag ≡ tag_code first = ap card_code card in
    let checked = first.card.now.checked in
    let long : length word ≡ 64 = search rules in
    let more = λ (right : Codeword (tag_arithmetic first) (tag_code first) word). noted_more c.args.damage word (tag_cells first) (tag_cells tag) (tag_cells c.match-noted.tag) j
    (omega (arith, c.loop-j-test.true, right.long, long, length-take (width (tag_code first)) first.table.cells, first.long, checked.shape.sizes.most_cells)) (c.loop-j.invariant.1 right) in
    elim c.match-noted.branch [
      | in-Some w ↦ (
        ap (λ t. t.card.now) w.tag-is ∙ w.note.ensures.card ∙ card,
        λ right.
            let fits = fits_note (tag_code tag) (tag_code first) c.args.damage word j w.in-Some.letter same right.lettered right.long (omega (arith, long, c.loop-j-test.true)) checked.alphabet.two (sym c.noted.ensures ∙ w.in-Some.is) in
            more right (ap (λ t. tag_cells t) w.tag-is ∙ w.note.ensures.cells ∙ after_granted (tag_code tag) j w.in-Some.letter (tag_cells tag) fits
            ∙ ap (λ o. put o (tag_cells tag) j) (sym w.in-Some.is ∙ c.noted.ensures)),
      )
      | in_default w ↦ (
        ap (λ t. t.card.now) w.tag-is ∙ card,
        λ right. more right (ap (λ t. tag_cells t) w.tag-is ∙ ap (λ o. put o (tag_cells tag) j) (sym w.in_default.is ∙ c.noted.ensures)),
      )
    ]
