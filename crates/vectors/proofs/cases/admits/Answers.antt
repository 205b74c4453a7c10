use Rattle.std.proofs.Common.{◌≡◌, ℕ, ◌+◌, string_bytes, sym, ap, ◌∙◌, subst, arith}
use Rattle.std.proofs.lemmas.Bool.{false≢true}
use Rattle.vectors.proofs.AlphabetSizes.{SizesTold, told_none, told_more, told_same}
use Rattle.vectors.proofs.cases.admits.Goals as goal
use Rattle.vectors.proofs.cases.admits.Goals.{then-admits+in_ok-write, else-admits, else-loop-letters-test, then-loop-letters-test+else-letters-counter-letters-end}

pub loop-letters-init : goal.loop-letters-init
loop-letters-init g c = told_none (g.F.Field.meaning c.args.field.now).arithmetic (string_bytes c.in_ok-out.out) c.in_ok-out.ensures.ok

pub loop-letters-preserved : goal.loop-letters-preserved
loop-letters-preserved g c =
    let A = (g.F.Field.meaning c.args.field.now).arithmetic in
    let n = c.loop-letters.letters-counter in
    elim c.if-admits.branch [
      | then-admits+in_ok-write w ↦
          subst (SizesTold A (n + 1)) (sym (ap string_bytes w.out-is))
          (told_more A n (string_bytes c.loop-letters.out) (string_bytes w.write.new.self) c.loop-letters.invariant (c.admits.ensures.0 w.if-admits.true) w.in_ok-write.ensures.bytes)
      | else-admits w ↦
          subst (SizesTold A (n + 1)) (sym (ap string_bytes w.out-is))
          (told_same A n (string_bytes c.loop-letters.out) c.loop-letters.invariant (λ a. false≢true (sym w.if-admits.false ∙ c.admits.ensures.1 a)))
    ]

pub returns : goal.returns
returns g c =
    let A = (g.F.Field.meaning c.args.field.now).arithmetic in
    let n = c.loop-letters.letters-counter in
    elim c.loop-letters-test.branch [
      | else-loop-letters-test w ↦ absurd (omega (arith, w.loop-letters-test.false, c.loop-letters.auto.letters-counter-end))
      | then-loop-letters-test+else-letters-counter-letters-end w ↦
          let last : n + 1 ≡ A.size + 1 = omega (arith, w.loop-letters-test.true) in
          subst (λ (k : ℕ). SizesTold A k (string_bytes c.loop-letters-test.out)) last
          (elim w.if-admits.branch [
            | then-admits+in_ok-write w' ↦
                subst (SizesTold A (n + 1)) (sym (ap string_bytes w'.out-is) ∙ sym (ap string_bytes w.out-is))
                (told_more A n (string_bytes c.loop-letters.out) (string_bytes w'.write.new.self) c.loop-letters.invariant (w.admits.ensures.0 w'.if-admits.true) w'.in_ok-write.ensures.bytes)
            | else-admits w' ↦
                subst (SizesTold A (n + 1)) (sym (ap string_bytes w'.out-is) ∙ sym (ap string_bytes w.out-is))
                (told_same A n (string_bytes c.loop-letters.out) c.loop-letters.invariant (λ a. false≢true (sym w'.if-admits.false ∙ w.admits.ensures.1 a)))
          ])
    ]
