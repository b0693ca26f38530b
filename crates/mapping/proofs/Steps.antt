-- Counts turned into steps in 64 bits. Assumes nothing.
use Rattle.std.proofs.Common.{◌≡◌, ℕ, ◌+◌, ◌*◌, ◌%◌, ◌^◌, ◌≤◌, ◌⊎◌, ℤ, pos, negsuc, ◌*ℤ◌, refl, ap, ◌∙◌, subst, inl, inr, arith, pow_mono, w32, w64, SFits, to_z, of_z}
use lib.IntN.{*ℤ_comm}
use borrow.Author.Differences.{up, down, fits_out, fits_in}
use Rattle.std.proofs.lemmas.Nat.{mul-le, one_shl}
use Rattle.std.proofs.lemmas.Int.{to_z-of_z, to_z_pos}
use Rattle.arith.proofs.Ring.{scale_is}

-- an end that fits 32 bits, times a factor of at most 2^15
fits_steps : (x : ℤ) (k : ℕ) → SFits w32 x → k ≤ 32768 → SFits w64 (x *ℤ pos k)
fits_steps x k f h =
    subst (SFits w64) (*ℤ_comm (pos k) x)
    (fits_in w64 (pos k *ℤ x)
    (omega (
      arith,
      scale_is k x,
      fits_out w32 x f,
      mul-le k (up x) 32768 (down x + 2147483648) h (omega (arith, fits_out w32 x f)),
      mul-le k (down x) 32768 (up x + 2147483648) h (omega (arith, fits_out w32 x f)),
      one_side x,
    )))
  where
    one_side : (z : ℤ) → (up z ≡ 0) ⊎ (down z ≡ 0)
    one_side (pos n) = inr refl
    one_side (negsuc n) = inl refl

pub in_steps : (x : ℤ) (q : ℕ) → SFits w32 x → q ≤ 15 → to_z w64 (of_z w64 (to_z w64 (of_z w64 x) *ℤ to_z w64 (1 * 2 ^ q % 2 ^ 64))) ≡ x *ℤ pos (2 ^ q)
in_steps x q f h =
    let small : 2 ^ q ≤ 32768 = pow_mono h in
    let narrow : SFits w64 x = record { sfits = omega (arith, f.sfits) } in
    let right : to_z w64 (1 * 2 ^ q % 2 ^ 64) ≡ pos (2 ^ q) = ap (to_z w64) (one_shl q 64 (omega arith)) ∙ to_z_pos w64 (2 ^ q) (omega arith) in
    ap (λ z. to_z w64 (of_z w64 (z *ℤ to_z w64 (1 * 2 ^ q % 2 ^ 64)))) (to_z-of_z w64 x narrow)
    ∙ ap (λ z. to_z w64 (of_z w64 (x *ℤ z))) right
    ∙ to_z-of_z w64 (x *ℤ pos (2 ^ q)) (fits_steps x (2 ^ q) f small)
