use Rattle.std.proofs.Common.{◌++◌, ◌∷◌, [], string_bytes, sym, ap, ◌∙◌}
use Rattle.std.proofs.lemmas.Iterator.{YieldsList-from_chars}
use Rattle.std.proofs.lemmas.Iterator.Consumers.{YieldsList-end}
use Rattle.std.proofs.lemmas.List.{append_assoc, append-nil, map-id}
use Rattle.vectors.specs.Spaced.{next, put_text, spaced_from, spaced_text}
use Rattle.vectors.proofs.spaced.spaced.Goals as goal

pub loop-c-preserved : goal.loop-c-preserved
unfolding spaced_from
loop-c-preserved c = λ rest.
    let text = string_bytes c.loop-c.text in
    let before = c.loop-c.before in
    ap (λ bytes. bytes ++ spaced_from c.next-before.result rest) c.in_ok-put.ensures
    ∙ ap (λ b. (text ++ put_text before c.in-Some.c) ++ spaced_from b rest) c.next-before.ensures
    ∙ append_assoc text (put_text before c.in-Some.c) (spaced_from (next before c.in-Some.c) rest)
    ∙ c.loop-c.invariant (c.in-Some.c ∷ rest)
    ∙ ap (spaced_text c.args.marks) (sym (append_assoc c.loop-c.yielded (c.in-Some.c ∷ []) rest))

pub returns : goal.returns
unfolding spaced_from
returns c =
    let road = YieldsList-from_chars c.args.line.now c.utf8.line (cc) in
    let end = YieldsList-end road c.loop-c.yielded _ c.loop-c.yielded_by _ _ c.in-None.is c.next.ensures.steps in
    sym (append-nil (string_bytes c.loop-c.text)) ∙ c.loop-c.invariant []
    ∙ ap (spaced_text c.args.marks) (append-nil c.loop-c.yielded ∙ sym (map-id c.loop-c.yielded) ∙ end.0)
