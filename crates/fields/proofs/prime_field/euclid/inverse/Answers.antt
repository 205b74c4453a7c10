use Rattle.std.proofs.Common.{ℕ, ◌/◌, ◌%◌, ◌<◌, sym, subst, mod-lt, div-add-mod', arith}
use Rattle.fields.proofs.Euclid.{Common, common_step, euclid_step, last_is_one, last_inverts}
use Rattle.fields.proofs.prime_field.euclid.inverse.Goals as goal

pub loop-v-preserved : goal.loop-v-preserved
loop-v-preserved c =
    let inv = c.loop-v.invariant in
    let p = c.args.p in
    let a = c.args.a in
    let u = c.loop-v.u in
    let v = c.loop-v.v in
    let nonzero = c.loop-v-test.true in
    let positive : 0 < p = omega arith in
    let next : 0 < v = omega arith in (
      omega arith,
      mod-lt u next,
      inv.3,
      mod-lt _ positive,
      inv.5,
      euclid_step p a u v c.loop-v.g c.loop-v.h (u / v) (u % v) positive (sym (div-add-mod' u v)) inv.4 inv.5,
      common_step p a u v inv.6,
    )

pub returns : goal.returns
returns c =
    let inv = c.loop-v.invariant in
    let pre = c.requires in
    let ended : Common c.args.p c.args.a c.loop-v.u 0 = subst (λ (v : ℕ). Common c.args.p c.args.a c.loop-v.u v) c.loop-v-test.false inv.6 in
    let one = last_is_one c.args.p c.args.a c.loop-v.u pre.prime pre.positive pre.element (omega arith) ended in
    record { below = inv.2; inverts = last_inverts c.args.p c.args.a c.loop-v.g c.loop-v.u pre.prime one inv.4 }
