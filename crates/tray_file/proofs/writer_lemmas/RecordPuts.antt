-- A record's bytes put into a buffer.
use Rattle.std.proofs.Common.{◌≡◌, ℕ, ◌+◌, ◌≤◌, List, ◌++◌, length, ap, ◌∙◌, subst, arith}
use Rattle.std.proofs.lemmas.List.{append_assoc, length-append}
use Rattle.tray_file.specs.number.Numbers.{number_bytes}
use Rattle.tray_file.specs.number.NumberWriting.{put_at}
use Rattle.tray_file.specs.reader.Entries.{record_bytes}
use Rattle.tray_file.specs.writer.Writing.{record_header, Put}
use Rattle.tray_file.specs.writer.Pages.{Added}
use Rattle.tray_file.specs.declared.writer.page.Page.{Page}
use Rattle.tray_file.proofs.writer_lemmas.Puts.{put_front, added_next}

header_body : (kind size : ℕ) (body : List ℕ) → size ≡ length body → record_header kind size ++ body ≡ record_bytes kind body
header_body kind size body is =
    append_assoc (number_bytes kind) (number_bytes size) body ∙ ap (λ n. number_bytes kind ++ (number_bytes n ++ body)) is

pub record_long : (kind size : ℕ) (body : List ℕ) → size ≡ length body → length (record_header kind size) + size ≡ length (record_bytes kind body)
record_long kind size body is = omega (arith, length-append (record_header kind size) body, ap length (header_body kind size body is))

pub record_put : (kind size : ℕ) (body before after : List ℕ) (end : ℕ) → size ≡ length body → length (record_header kind size) + size ≤ length before →
    after ≡ put_at 0 (record_header kind size ++ body) before → end ≡ length (record_header kind size) + size → Put kind body before after end
record_put kind size body before after end is room put place =
    let whole = header_body kind size body is in
    let long = record_long kind size body is in
    record {
      room = omega arith;
      bytes = put ∙ ap (λ (l : List ℕ). put_at 0 l before) whole ∙ put_front (record_bytes kind body) before;
      size = place ∙ long;
    }

pub header_long : (kind size : ℕ) → length (record_header kind size) ≡ length (number_bytes kind) + length (number_bytes size)
header_long kind size = length-append (number_bytes kind) (number_bytes size)

-- a header and three parts after it
pub added_three : (header a b d : List ℕ) (page p0 p1 p2 p3 : Page) → page.place + (length header + (length a + length b + length d)) ≤ length page.buffer.now →
    Added header page p0 → Added a p0 p1 → Added b p1 p2 → Added d p2 p3 → Added (header ++ (a ++ (b ++ d))) page p3
added_three header a b d page p0 p1 p2 p3 room e0 e1 e2 e3 =
    let ha = length-append header a in
    let hab = length-append (header ++ a) b in
    let q1 = added_next header a page p0 p1 (omega arith) e0 e1 in
    let q2 = added_next (header ++ a) b page p1 p2 (omega arith) q1 e2 in
    let q3 = added_next ((header ++ a) ++ b) d page p2 p3 (omega arith) q2 e3 in
    subst (λ (l : List ℕ). Added l page p3) (append_assoc (header ++ a) b d ∙ append_assoc header a (b ++ d)) q3
