-- A list that is made piece by piece, one for each number from 0 up.
use Rattle.std.proofs.Common.{◌≡◌, ℕ, ◌+◌, List, [], ◌∷◌, ◌++◌, flat_map, sym, ap, ◌∙◌, arith}
use Rattle.std.proofs.lemmas.List.{flat_map_more, map-id}
use Rattle.std.specs.List.{range_with_len}
use Rattle.std.proofs.lemmas.List.FromFn.{map-range_with_len_more}

range_more : (n : ℕ) → range_with_len 0 (n + 1) ≡ range_with_len 0 n ++ n ∷ []
range_more n = sym (map-id (range_with_len 0 (n + 1))) ∙ map-range_with_len_more (λ x. x) 0 n n (omega arith) ∙ ap (λ (xs : List ℕ). xs ++ n ∷ []) (map-id (range_with_len 0 n))

pub piece_more : {X : Type 0} (f : ℕ → List X) (front before after : List X) (n : ℕ) → before ≡ front ++ flat_map f (range_with_len 0 n) → after ≡ before ++ f n → after ≡ front ++ flat_map f (range_with_len 0 (n + 1))
piece_more {X} f front before after n so_far made =
    made ∙ ap (λ (text : List X). text ++ f n) so_far ∙ flat_map_more f front (range_with_len 0 n) n ∙ ap (λ (ns : List ℕ). front ++ flat_map f ns) (sym (range_more n))
