-- Bytes put into a buffer, one after another.
use Rattle.std.proofs.Common.{◌≡◌, ℕ, zero, suc, ◌+◌, ◌<◌, ◌≤◌, List, [], ◌∷◌, ◌++◌, length, get_or, take, drop, sym, refl, ap, ◌∙◌, ap₂, ⊎_elim, add-zero, zero-add, arith}
use Rattle.std.proofs.lemmas.List.{append_assoc, length-append, length-drop, length-take-le, take_at, drop_at, drop-drop, take-append-drop, take_more}
use Rattle.tray_file.specs.number.Numbers.{largest_number, number_bytes}
use Rattle.tray_file.specs.number.NumberWriting.{put_at}
use Rattle.tray_file.proofs.number_lemmas.NumberBytes.{bytes_of}
use Rattle.tray_file.proofs.number_lemmas.WrittenBytes.{put_none}
use Rattle.tray_file.specs.writer.Pages.{Added}
use Rattle.tray_file.specs.declared.writer.page.Page.{Page}
use Rattle.tray_file.specs.body.NumberLists.{numbers, Small}
use Rattle.tray_file.proofs.body_lemmas.NumberLists.{numbers_append, numbers_one}

-- one part after another
pub put_join : (start : ℕ) (first second buffer : List ℕ) → start + length first ≤ length buffer →
    put_at (start + length first) second (put_at start first buffer) ≡ put_at start (first ++ second) buffer
put_join start first second buffer room =
    let end = start + length first in
    let front = take start buffer ++ first in
    let rest = drop end buffer in
    let put = put_at start first buffer in
    let split : put ≡ front ++ rest = sym (append_assoc (take start buffer) first rest) in
    let long : length front ≡ end = length-append (take start buffer) first ∙ ap (λ n. n + length first) (length-take-le start buffer (omega arith)) in
    let before : take end put ≡ front = ap (take end) split ∙ take_at front rest end long in
    let behind : drop end put ≡ rest = ap (drop end) split ∙ drop_at front rest end long in
    let last : drop (end + length second) put ≡ drop (end + length second) buffer =
    sym (drop-drop (length second) end put) ∙ ap (drop (length second)) behind ∙ drop-drop (length second) end buffer in
    let total : end + length second ≡ start + length (first ++ second) = omega (arith, length-append first second) in
    ap₂ (λ (a b : List ℕ). a ++ (second ++ b)) before (last ∙ ap (λ n. drop n buffer) total)
    ∙ append_assoc (take start buffer) first (second ++ drop (start + length (first ++ second)) buffer)
    ∙ ap (λ (l : List ℕ). take start buffer ++ l) (sym (append_assoc first second (drop (start + length (first ++ second)) buffer)))

pub length_put : (start : ℕ) (bytes buffer : List ℕ) → start + length bytes ≤ length buffer → length (put_at start bytes buffer) ≡ length buffer
length_put start bytes buffer room =
    let rest = drop (start + length bytes) buffer in
    omega (arith, length-append (take start buffer) (bytes ++ rest), length-append bytes rest, length-drop (start + length bytes) buffer, length-take-le start buffer (omega arith))

-- at the front
pub put_front : (bytes buffer : List ℕ) → put_at 0 bytes buffer ≡ bytes ++ drop (length bytes) buffer
put_front bytes buffer = ap (λ n. bytes ++ drop n buffer) (zero-add (length bytes))

pub three_at_most : (value : ℕ) → length (number_bytes value) ≤ 3
three_at_most value =
    ⊎_elim (λ o. omega (arith, ap length o.is)) (⊎_elim (λ o. omega (arith, ap length o.is)) (λ o. omega (arith, ap length o.is))) (bytes_of value)

pub numbers_more : (list : List ℕ) (j : ℕ) → j < length list → numbers (take (j + 1) list) ≡ numbers (take j list) ++ number_bytes (get_or list j 0)
numbers_more list j within =
    ap numbers (take_more list j 0 within) ∙ numbers_append (take j list) (get_or list j 0 ∷ [])
    ∙ ap (λ (l : List ℕ). numbers (take j list) ++ l) (numbers_one (get_or list j 0))

pub length_more : (list : List ℕ) (j : ℕ) → j < length list →
    length (numbers (take (j + 1) list)) ≡ length (numbers (take j list)) + length (number_bytes (get_or list j 0))
length_more list j within = ap length (numbers_more list j within) ∙ length-append (numbers (take j list)) (number_bytes (get_or list j 0))

-- the front of a list takes no more room than the list
pub front_within : (list : List ℕ) (j : ℕ) → length (numbers (take j list)) ≤ length (numbers list)
front_within list j =
    omega (arith, ap (λ (l : List ℕ). length (numbers l)) (take-append-drop j list), ap length (numbers_append (take j list) (drop j list)), length-append (numbers (take j list)) (numbers (drop j list)))

pub small_at : (list : List ℕ) (j : ℕ) → Small list → j < length list → get_or list j 0 ≤ largest_number
small_at [] j small within = absurd (omega arith)
small_at (v ∷ vs) zero small within = small.0
small_at (v ∷ vs) (suc j) small within = small_at vs j small.1 (omega arith)

-- a part put after others
pub put_next : (start end : ℕ) (first second before between after : List ℕ) → end ≡ start + length first → between ≡ put_at start first before →
    after ≡ put_at end second between → start + length first ≤ length before → after ≡ put_at start (first ++ second) before
put_next start end first second before between after is put next room =
    next ∙ ap₂ (λ n (l : List ℕ). put_at n second l) is put ∙ put_join start first second before room

-- nothing was put
pub added_none : (page : Page) → Added [] page page
added_none page = record { place = sym (add-zero page.place); bytes_are = sym (put_none page.place page.buffer.now); same_buffer = refl }

-- more bytes after others
pub added_next : (first second : List ℕ) (before between after : Page) → before.place + length first ≤ length before.buffer.now →
    Added first before between → Added second between after → Added (first ++ second) before after
added_next first second before between after room put next = record {
  place = omega (arith, put.place, next.place, length-append first second);
  bytes_are = put_next before.place between.place first second before.buffer.now between.buffer.now after.buffer.now put.place put.bytes_are next.bytes_are room;
  same_buffer = next.same_buffer ∙ put.same_buffer;
}
