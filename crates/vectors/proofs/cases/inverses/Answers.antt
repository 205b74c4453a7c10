use Rattle.std.proofs.Common.{◌≡◌, ◌+◌, ℕ, ◌++◌, ap, ◌∙◌, codes, flat_map, string_bytes, arith}
use Rattle.std.specs.List.{range_with_len}
use Rattle.vectors.specs.InverseText.{inverse_text}
use Rattle.vectors.proofs.Texts.{piece_more}
use Rattle.vectors.proofs.cases.inverses.Goals as goal
use Rattle.vectors.proofs.cases.inverses.Goals.{else-loop-a-test, then-loop-a-test+in_ok-write+else-a-a-end}

pub loop-a-preserved : goal.loop-a-preserved
loop-a-preserved g c =
    let m = g.F.Field.meaning c.args.field.now in
    piece_more (λ a. inverse_text (m.inverse a)) (codes "inverses") (string_bytes c.loop-a.out) (string_bytes c.write.new.self) c.loop-a.a c.loop-a.invariant
    (c.in_ok-write.ensures.bytes ∙ ap (λ i. string_bytes c.loop-a.out ++ inverse_text i) c.invert.ensures)

pub returns : goal.returns
returns g c =
    let m = g.F.Field.meaning c.args.field.now in
    elim c.loop-a-test.branch [
      | else-loop-a-test w ↦ absurd (omega (arith, w.loop-a-test.false, c.loop-a.auto.a-end))
      | then-loop-a-test+in_ok-write+else-a-a-end w ↦
          let more = piece_more (λ a. inverse_text (m.inverse a)) (codes "inverses") (string_bytes c.loop-a.out) (string_bytes w.write.new.self) c.loop-a.a c.loop-a.invariant
          (w.in_ok-write.ensures.bytes ∙ ap (λ i. string_bytes c.loop-a.out ++ inverse_text i) w.invert.ensures) in
          let last : c.loop-a.a + 1 ≡ m.arithmetic.size + 1 = omega (arith, w.loop-a-test.true) in
          ap string_bytes w.out-is ∙ more ∙ ap (λ (n : ℕ). codes "inverses" ++ flat_map (λ a. inverse_text (m.inverse a)) (range_with_len 0 n)) last
    ]
