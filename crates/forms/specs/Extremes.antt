-- The least and the greatest number of a row and of a table: each is a bound, and each is reached. Assumes nothing.
use Rattle.std.specs.Prelude.{◌≡◌, ℕ, zero, suc, ◌≤◌, true, false, cond, ◌⊎◌, ℤ, neg_ℤ, ◌≤ℤ◌, int_lt, refl}
use Rattle.std.proofs.Common.{sym, ap, ◌∙◌, inl, inr, arith}
use Rattle.std.proofs.Math.Path.{fun_ext}
use Rattle.std.proofs.Math.Nat.{le-suc_iff}
use Rattle.std.proofs.Math.IntN.{neg_ℤ-neg_ℤ}
use Rattle.std.specs.Int.Signed.{≤ℤ_refl}
use Rattle.std.specs.Int.{int_min, int_max}
use Rattle.std.proofs.lemmas.Int.{ints, clamps}
use Rattle.forms.specs.Halving.{Row}
use Rattle.forms.specs.Polynomial.{Table}
use Rattle.forms.specs.Tables.{least, greatest, least_of, greatest_of}
use Rattle.arith.proofs.Ring.{lin}
use Rattle.arith.proofs.Order.{le_trans, le_eq, antisym}

min_left : (x y : ℤ) → int_min x y ≤ℤ x
min_left x y = omega (arith, ints, clamps)

min_right : (x y : ℤ) → int_min x y ≤ℤ y
min_right x y = omega (arith, ints, clamps)

min_one : (x y : ℤ) → (int_min x y ≡ x) ⊎ (int_min x y ≡ y)
min_one x y = elim (int_lt y x) as (λ b. (cond b y x ≡ x) ⊎ (cond b y x ≡ y)) [ true ↦ inr refl | false ↦ inl refl ]

max_min : (x y : ℤ) → int_max x y ≡ neg_ℤ (int_min (neg_ℤ x) (neg_ℤ y))
max_min x y = omega (arith, ints, clamps)

-- ---- rows

pub least_le : (n : ℕ) (r : Row) (k : ℕ) → k ≤ n → least n r ≤ℤ r k
unfolding least
least_le zero r k h = let e : k ≡ 0 = omega arith in rw e (≤ℤ_refl (r 0))
least_le (suc n) r k h =
    elim (le-suc_iff.0 h) [
      | inl l ↦ le_trans (min_left (least n r) (r (suc n))) (least_le n r k l)
      | inr e ↦ rw e (min_right (least n r) (r (suc n)))
    ]

pub least_at : (n : ℕ) (r : Row) → (k : ℕ) × (k ≤ n) × (least n r ≡ r k)
unfolding least
least_at zero r = (0, omega arith, refl)
least_at (suc n) r = go (least_at n r) (min_one (least n r) (r (suc n)))
  where
    go : ((k : ℕ) × (k ≤ n) × (least n r ≡ r k)) → (int_min (least n r) (r (suc n)) ≡ least n r) ⊎ (int_min (least n r) (r (suc n)) ≡ r (suc n))
        → (k : ℕ) × (k ≤ suc n) × (int_min (least n r) (r (suc n)) ≡ r k)
    go s (inl e) = let l : s.0 ≤ n = s.1 in (s.0, omega arith, e ∙ s.2)
    go s (inr e) = (suc n, omega arith, e)

pub greatest_least : (n : ℕ) (r : Row) → greatest n r ≡ neg_ℤ (least n (λ k. neg_ℤ (r k)))
unfolding greatest least
greatest_least zero r = sym (neg_ℤ-neg_ℤ (r 0))
greatest_least (suc n) r =
    max_min (greatest n r) (r (suc n))
    ∙ ap (λ z. neg_ℤ (int_min z (neg_ℤ (r (suc n))))) (ap neg_ℤ (greatest_least n r) ∙ neg_ℤ-neg_ℤ (least n (λ k. neg_ℤ (r k))))

-- ---- tables

pub least_of_le : (n1 n2 n3 : ℕ) (T : Table) (i j k : ℕ) → i ≤ n1 → j ≤ n2 → k ≤ n3 → least_of n1 n2 n3 T ≤ℤ T i j k
unfolding least_of
least_of_le n1 n2 n3 T i j k a b c =
    le_trans (least_le n1 (λ i. least n2 λ j. least n3 λ k. T i j k) i a)
    (le_trans (least_le n2 (λ j. least n3 λ k. T i j k) j b) (least_le n3 (T i j) k c))

-- z stands in the table
pub record Reached (n1 n2 n3 : ℕ) (T : Table) (z : ℤ) : Type 0 where
  pub i : ℕ
  pub j : ℕ
  pub k : ℕ
  pub i_le : i ≤ n1
  pub j_le : j ≤ n2
  pub k_le : k ≤ n3
  pub is : z ≡ T i j k

pub least_of_at : (n1 n2 n3 : ℕ) (T : Table) → Reached n1 n2 n3 T (least_of n1 n2 n3 T)
unfolding least_of
least_of_at n1 n2 n3 T =
    let s = least_at n1 (λ i. least n2 λ j. least n3 λ k. T i j k) in
    let t = least_at n2 (λ j. least n3 λ k. T s.0 j k) in
    let u = least_at n3 (T s.0 t.0) in
    record { i = s.0; j = t.0; k = u.0; i_le = s.1; j_le = t.1; k_le = u.1; is = s.2 ∙ t.2 ∙ u.2 }

pub greatest_of_least : (n1 n2 n3 : ℕ) (T : Table) → greatest_of n1 n2 n3 T ≡ neg_ℤ (least_of n1 n2 n3 (λ i j k. neg_ℤ (T i j k)))
unfolding greatest_of least_of
greatest_of_least n1 n2 n3 T =
    greatest_least n1 (λ i. greatest n2 λ j. greatest n3 λ k. T i j k)
    ∙ ap (λ r. neg_ℤ (least n1 r)) (fun_ext λ i.
    ap neg_ℤ (greatest_least n2 (λ j. greatest n3 λ k. T i j k)) ∙ neg_ℤ-neg_ℤ (least n2 (λ j. neg_ℤ (greatest n3 λ k. T i j k)))
    ∙ ap (least n2) (fun_ext λ j. ap neg_ℤ (greatest_least n3 (T i j)) ∙ neg_ℤ-neg_ℤ (least n3 (λ k. neg_ℤ (T i j k)))))

pub greatest_of_le : (n1 n2 n3 : ℕ) (T : Table) (i j k : ℕ) → i ≤ n1 → j ≤ n2 → k ≤ n3 → T i j k ≤ℤ greatest_of n1 n2 n3 T
greatest_of_le n1 n2 n3 T i j k a b c =
    let h : least_of n1 n2 n3 (λ i j k. neg_ℤ (T i j k)) ≤ℤ neg_ℤ (T i j k) = least_of_le n1 n2 n3 (λ i j k. neg_ℤ (T i j k)) i j k a b c in
    rw (greatest_of_least n1 n2 n3 T) (omega (arith, lin))

pub greatest_of_at : (n1 n2 n3 : ℕ) (T : Table) → Reached n1 n2 n3 T (greatest_of n1 n2 n3 T)
greatest_of_at n1 n2 n3 T =
    let s = least_of_at n1 n2 n3 (λ i j k. neg_ℤ (T i j k)) in
    record {
      i = s.i;
      j = s.j;
      k = s.k;
      i_le = s.i_le;
      j_le = s.j_le;
      k_le = s.k_le;
      is = greatest_of_least n1 n2 n3 T ∙ ap neg_ℤ s.is ∙ neg_ℤ-neg_ℤ (T s.i s.j s.k);
    }

-- ---- a number with both laws is the least, or the greatest

pub least_of_only : (n1 n2 n3 : ℕ) (T : Table) (z : ℤ) → ((i j k : ℕ) → i ≤ n1 → j ≤ n2 → k ≤ n3 → z ≤ℤ T i j k) → Reached n1 n2 n3 T z
    → z ≡ least_of n1 n2 n3 T
least_of_only n1 n2 n3 T z h r =
    let s = least_of_at n1 n2 n3 T in
    antisym (le_trans (h s.i s.j s.k s.i_le s.j_le s.k_le) (le_eq (sym s.is)))
    (le_trans (least_of_le n1 n2 n3 T r.i r.j r.k r.i_le r.j_le r.k_le) (le_eq (sym r.is)))
