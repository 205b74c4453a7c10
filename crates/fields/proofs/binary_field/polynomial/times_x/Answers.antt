use Rattle.std.proofs.Common.{◌≡◌, ℕ, suc, ◌*◌, ◌/◌, ◌%◌, ◌^◌, ◌<◌, ◌≤◌, sym, ap, ◌∙◌, mod-eq_of_lt, div-lt_iff_lt-mul, pow-suc, arith, pow_pos, pow_mono}
use lib.Bits.{bit_xor}
use Rattle.fields.specs.PolynomialDegrees.{degree_below, below_from}
use Rattle.fields.specs.PolynomialRemainders.{remainder_once, remainder_small}
use Rattle.fields.proofs.binary_field.polynomial.times_x.Goals as goal

-- the shift loses no bit
whole : (x k : ℕ) → x < 2 ^ k → k < 32 → x * 2 % 2 ^ 32 ≡ x * 2
whole x k h l = let m : 2 ^ suc k ≤ 2 ^ 32 = pow_mono l in mod-eq_of_lt (omega (arith, pow-suc 2 k))

pub overflow_shr-carry : goal.overflow_shr-carry
overflow_shr-carry c = degree_below c.args.f c.args.degree 32 c.requires.modulus c.ranges.f.fits

pub returns-then-carry-eq1 : goal.returns-then-carry-eq1
returns-then-carry-eq1 c =
    let (f, k, x) : ℕ × ℕ × ℕ = (c.args.f, c.args.degree, c.args.x) in
    let w = whole x k c.requires.element (degree_below f k 32 c.requires.modulus c.ranges.f.fits) in
    ap (λ (y : ℕ). bit_xor y f) w ∙ sym (remainder_once f k c.requires.modulus (x * 2) (ap (λ (y : ℕ). y / 2 ^ k) (sym w) ∙ c.if-carry-eq1.true))

pub returns-else-carry-eq1 : goal.returns-else-carry-eq1
returns-else-carry-eq1 c =
    let (f, k, x) : ℕ × ℕ × ℕ = (c.args.f, c.args.degree, c.args.x) in
    let w = whole x k c.requires.element (degree_below f k 32 c.requires.modulus c.ranges.f.fits) in
    let e = ap (λ (y : ℕ). y / 2 ^ k) w in
    let l = c.if-carry-eq1.false in
    let h : x * 2 / 2 ^ k < 2 = (div-lt_iff_lt-mul (pow_pos k)).1 (omega (arith, c.requires.element)) in
    w ∙ sym (remainder_small f k c.requires.modulus (x * 2) (below_from (x * 2) k (omega arith)))
