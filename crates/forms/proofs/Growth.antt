-- The bounds on the numerators, input by input. Assumes nothing.
use Rattle.std.proofs.Common.{◌≡◌, ℕ, suc, ◌+◌, ◌*◌, ◌^◌, ◌<◌, ◌≤◌, mul-le-mul, add-one, arith}
use Rattle.forms.specs.Choose.{factorial}
use Rattle.forms.specs.Works.{summable, grown}
use Rattle.forms.proofs.Computed.{factorials_small}
use Rattle.forms.specs.Extra.{nats}

regroup : (A B C x y z b : ℕ) → C * (B * (A * (b * x) * y) * z) ≡ A * (B * C) * (x * (y * z)) * b
regroup A B C x y z b = simp nats

pub three_grown : (n1 n2 n3 : ℕ) → n1 < 8 → n2 < 8 → n3 < 8 → (n1 + 1) * ((n2 + 1) * (n3 + 1)) ≤ 64 → grown n3 (grown n2 (grown n1 (2 ^ 31))) ≤ summable
three_grown n1 n2 n3 l1 l2 l3 few =
    let small = factorials_small n1 n2 n3 l1 l2 l3 few in
    let few' : suc n1 * (suc n2 * suc n3) ≤ 64 = rw (← add-one n1, ← add-one n2, ← add-one n3) few in
    let most : suc n1 * (suc n2 * suc n3) * (factorial n1 * (factorial n2 * factorial n3)) ≤ 64 * 25401600 = mul-le-mul few' small in
    let same : 2 ^ 31 ≤ 2 ^ 31 = omega arith in
    let all : suc n1 * (suc n2 * suc n3) * (factorial n1 * (factorial n2 * factorial n3)) * 2 ^ 31 ≤ 64 * 25401600 * 2 ^ 31 = mul-le-mul most same in
    omega (arith, all, regroup (suc n1) (suc n2) (suc n3) (factorial n1) (factorial n2) (factorial n3) (2 ^ 31))
