-- Sums over the coefficients of a polynomial in three inputs: they are linear in the weights of each input.
--     total n1 n2 n3 F   the sum of F i j k over i ≤ n1, j ≤ n2, k ≤ n3
--     Under n r R        the numbers of the row r of degree n lie between 0 and those of R
-- Assumes nothing.
use Rattle.std.specs.Prelude.{◌≡◌, ℕ, suc, ◌≤◌, ℤ, pos, negsuc, ◌+ℤ◌, ◌*ℤ◌, neg_ℤ, ◌≤ℤ◌, unsigned_abs}
use Rattle.std.proofs.Math.Path.{refl, sym, ap, fun_ext}
use Rattle.std.proofs.Common.{◌∙◌, arith}
use Rattle.std.proofs.Math.IntN.{*ℤ_comm}
use Rattle.arith.specs.Sums.{sum}
use Rattle.forms.specs.Halving.{Row}
use Rattle.forms.specs.Polynomial.{Table, weighed}
use Rattle.mapping.specs.Polynomials.{poly, share}
use Rattle.forms.specs.Tables.{sizes}
use Rattle.forms.specs.Extra.{minus_one}
use Rattle.arith.proofs.Sums.{sum_add, sum_scale, sum_le, sum_ext}
use Rattle.forms.specs.Rows.{Linear}
use Rattle.arith.proofs.Ring.{ring, lin, *ℤ-assoc, neg-*ℤ}
use Rattle.arith.proofs.Order.{mul-le, mul_le_by, mul_nonneg, le_trans, le_eq}

abbrev total : ℕ → ℕ → ℕ → Table → ℤ
total n1 n2 n3 F = sum (suc n1) λ i. sum (suc n2) λ j. sum (suc n3) λ k. F i j k

total_add : (n1 n2 n3 : ℕ) (F G : Table) → total n1 n2 n3 (λ i j k. F i j k +ℤ G i j k) ≡ total n1 n2 n3 F +ℤ total n1 n2 n3 G
total_add n1 n2 n3 F G =
    ap (sum (suc n1)) (fun_ext λ i.
    ap (sum (suc n2)) (fun_ext λ j. sum_add (suc n3) (F i j) (G i j))
    ∙ sum_add (suc n2) (λ j. sum (suc n3) (F i j)) (λ j. sum (suc n3) (G i j)))
    ∙ sum_add (suc n1) (λ i. sum (suc n2) λ j. sum (suc n3) (F i j)) (λ i. sum (suc n2) λ j. sum (suc n3) (G i j))

total_scale : (n1 n2 n3 : ℕ) (c : ℤ) (F : Table) → total n1 n2 n3 (λ i j k. c *ℤ F i j k) ≡ c *ℤ total n1 n2 n3 F
total_scale n1 n2 n3 c F =
    ap (sum (suc n1)) (fun_ext λ i.
    ap (sum (suc n2)) (fun_ext λ j. sum_scale (suc n3) c (F i j))
    ∙ sum_scale (suc n2) c (λ j. sum (suc n3) (F i j)))
    ∙ sum_scale (suc n1) c (λ i. sum (suc n2) λ j. sum (suc n3) (F i j))

total_le : (n1 n2 n3 : ℕ) (F G : Table) → ((i j k : ℕ) → i ≤ n1 → j ≤ n2 → k ≤ n3 → F i j k ≤ℤ G i j k) → total n1 n2 n3 F ≤ℤ total n1 n2 n3 G
total_le n1 n2 n3 F G h =
    sum_le (suc n1) (λ i. sum (suc n2) λ j. sum (suc n3) (F i j)) (λ i. sum (suc n2) λ j. sum (suc n3) (G i j)) λ i a.
    sum_le (suc n2) (λ j. sum (suc n3) (F i j)) (λ j. sum (suc n3) (G i j)) λ j b.
    sum_le (suc n3) (F i j) (G i j) λ k c. h i j k (omega arith) (omega arith) (omega arith)

total_same : (n1 n2 n3 : ℕ) (F G : Table) → ((i j k : ℕ) → i ≤ n1 → j ≤ n2 → k ≤ n3 → F i j k ≡ G i j k) → total n1 n2 n3 F ≡ total n1 n2 n3 G
total_same n1 n2 n3 F G h =
    sum_ext (suc n1) (λ i. sum (suc n2) λ j. sum (suc n3) (F i j)) (λ i. sum (suc n2) λ j. sum (suc n3) (G i j)) λ i a.
    sum_ext (suc n2) (λ j. sum (suc n3) (F i j)) (λ j. sum (suc n3) (G i j)) λ j b.
    sum_ext (suc n3) (F i j) (G i j) λ k c. h i j k (omega arith) (omega arith) (omega arith)

-- ---- linear in the weights of each input

abbrev term : Table → Row → Row → Row → Table
term a x y z i j k = a i j k *ℤ (x i *ℤ (y j *ℤ z k))

add1 : (a x x' m : ℤ) → a *ℤ ((x +ℤ x') *ℤ m) ≡ (a *ℤ (x *ℤ m)) +ℤ (a *ℤ (x' *ℤ m))
add1 a x x' m = simp ring

add2 : (a x y y' z : ℤ) → a *ℤ (x *ℤ ((y +ℤ y') *ℤ z)) ≡ (a *ℤ (x *ℤ (y *ℤ z))) +ℤ (a *ℤ (x *ℤ (y' *ℤ z)))
add2 a x y y' z = simp ring

add3 : (a x y z z' : ℤ) → a *ℤ (x *ℤ (y *ℤ (z +ℤ z'))) ≡ (a *ℤ (x *ℤ (y *ℤ z))) +ℤ (a *ℤ (x *ℤ (y *ℤ z')))
add3 a x y z z' = simp ring

scale1 : (a c x m : ℤ) → a *ℤ ((c *ℤ x) *ℤ m) ≡ c *ℤ (a *ℤ (x *ℤ m))
scale1 a c x m = simp ring

scale2 : (a c x y z : ℤ) → a *ℤ (x *ℤ ((c *ℤ y) *ℤ z)) ≡ c *ℤ (a *ℤ (x *ℤ (y *ℤ z)))
scale2 a c x y z = simp ring

scale3 : (a c x y z : ℤ) → a *ℤ (x *ℤ (y *ℤ (c *ℤ z))) ≡ c *ℤ (a *ℤ (x *ℤ (y *ℤ z)))
scale3 a c x y z = simp ring

module _ (n1 n2 n3 : ℕ) (a : Table) where
  pub linear1 : (y z : Row) → Linear n1 (λ x. weighed n1 n2 n3 a x y z)
  unfolding weighed
  linear1 y z = record {
    add = λ r s.
        total_same n1 n2 n3 (term a (λ i. r i +ℤ s i) y z) (λ i j k. term a r y z i j k +ℤ term a s y z i j k) (λ i j k _ _ _. add1 (a i j k) (r i) (s i) (y j *ℤ z k))
        ∙ total_add n1 n2 n3 (term a r y z) (term a s y z);
    scale = λ c r.
        total_same n1 n2 n3 (term a (λ i. c *ℤ r i) y z) (λ i j k. c *ℤ term a r y z i j k) (λ i j k _ _ _. scale1 (a i j k) c (r i) (y j *ℤ z k))
        ∙ total_scale n1 n2 n3 c (term a r y z);
    reads = λ r s h. total_same n1 n2 n3 (term a r y z) (term a s y z) (λ i j k l _ _. ap (λ x. a i j k *ℤ (x *ℤ (y j *ℤ z k))) (h i l));
  }

  pub linear2 : (x z : Row) → Linear n2 (λ y. weighed n1 n2 n3 a x y z)
  unfolding weighed
  linear2 x z = record {
    add = λ r s.
        total_same n1 n2 n3 (term a x (λ i. r i +ℤ s i) z) (λ i j k. term a x r z i j k +ℤ term a x s z i j k) (λ i j k _ _ _. add2 (a i j k) (x i) (r j) (s j) (z k))
        ∙ total_add n1 n2 n3 (term a x r z) (term a x s z);
    scale = λ c r.
        total_same n1 n2 n3 (term a x (λ i. c *ℤ r i) z) (λ i j k. c *ℤ term a x r z i j k) (λ i j k _ _ _. scale2 (a i j k) c (x i) (r j) (z k))
        ∙ total_scale n1 n2 n3 c (term a x r z);
    reads = λ r s h. total_same n1 n2 n3 (term a x r z) (term a x s z) (λ i j k _ l _. ap (λ y. a i j k *ℤ (x i *ℤ (y *ℤ z k))) (h j l));
  }

  pub linear3 : (x y : Row) → Linear n3 (λ z. weighed n1 n2 n3 a x y z)
  unfolding weighed
  linear3 x y = record {
    add = λ r s.
        total_same n1 n2 n3 (term a x y (λ i. r i +ℤ s i)) (λ i j k. term a x y r i j k +ℤ term a x y s i j k) (λ i j k _ _ _. add3 (a i j k) (x i) (y j) (r k) (s k))
        ∙ total_add n1 n2 n3 (term a x y r) (term a x y s);
    scale = λ c r.
        total_same n1 n2 n3 (term a x y (λ i. c *ℤ r i)) (λ i j k. c *ℤ term a x y r i j k) (λ i j k _ _ _. scale3 (a i j k) c (x i) (y j) (r k))
        ∙ total_scale n1 n2 n3 c (term a x y r);
    reads = λ r s h. total_same n1 n2 n3 (term a x y r) (term a x y s) (λ i j k _ _ l. ap (λ z. a i j k *ℤ (x i *ℤ (y j *ℤ z))) (h k l));
  }

  -- multiples of all three
  pub weighed_scale : (c d e : ℤ) (x y z : Row)
      → weighed n1 n2 n3 a (λ i. c *ℤ x i) (λ i. d *ℤ y i) (λ i. e *ℤ z i) ≡ (c *ℤ (d *ℤ e)) *ℤ weighed n1 n2 n3 a x y z
  weighed_scale c d e x y z =
      (linear1 (λ i. d *ℤ y i) (λ i. e *ℤ z i)).scale c x
      ∙ ap (λ w. c *ℤ w) ((linear2 x (λ i. e *ℤ z i)).scale d y ∙ ap (λ w. d *ℤ w) ((linear3 x y).scale e z))
      ∙ ap (λ w. c *ℤ w) (sym (*ℤ-assoc d e (weighed n1 n2 n3 a x y z))) ∙ sym (*ℤ-assoc c (d *ℤ e) (weighed n1 n2 n3 a x y z))

  -- the sum of the negated coefficients
  pub weighed_neg : (x y z : Row) → weighed n1 n2 n3 (λ i j k. neg_ℤ (a i j k)) x y z ≡ neg_ℤ (weighed n1 n2 n3 a x y z)
  unfolding weighed
  weighed_neg x y z =
      total_same n1 n2 n3 (term (λ i j k. neg_ℤ (a i j k)) x y z) (λ i j k. negsuc 0 *ℤ term a x y z i j k)
      (λ i j k _ _ _. neg-*ℤ (a i j k) (x i *ℤ (y j *ℤ z k)) ∙ sym (minus_one (term a x y z i j k)))
      ∙ total_scale n1 n2 n3 (negsuc 0) (term a x y z) ∙ minus_one (total n1 n2 n3 (term a x y z))

  -- the polynomial's value is such a sum
  pub poly_weighed : (u1 D1 u2 D2 u3 D3 : ℕ)
      → poly n1 n2 n3 a u1 D1 u2 D2 u3 D3 ≡ weighed n1 n2 n3 a (λ i. pos (share n1 i u1 D1)) (λ i. pos (share n2 i u2 D2)) (λ i. pos (share n3 i u3 D3))
  unfolding poly weighed
  poly_weighed u1 D1 u2 D2 u3 D3 = refl

-- only these coefficients are read
pub weighed_reads : (n1 n2 n3 : ℕ) (a b : Table) (x y z : Row) → ((i j k : ℕ) → i ≤ n1 → j ≤ n2 → k ≤ n3 → a i j k ≡ b i j k)
    → weighed n1 n2 n3 a x y z ≡ weighed n1 n2 n3 b x y z
unfolding weighed
weighed_reads n1 n2 n3 a b x y z h =
    total_same n1 n2 n3 (term a x y z) (term b x y z) (λ i j k l m o. ap (λ c. c *ℤ (x i *ℤ (y j *ℤ z k))) (h i j k l m o))

-- ---- bounds by the sizes of the coefficients

turned_le : (a b : ℤ) → pos 0 ≤ℤ a → a ≤ℤ b → neg_ℤ a ≤ℤ b
turned_le a b h l = omega (arith, lin)

size_le : (a m M : ℤ) → pos 0 ≤ℤ m → m ≤ℤ M → (a *ℤ m) ≤ℤ (pos (unsigned_abs a) *ℤ M)
size_le (pos n) m M h l = mul-le n l
size_le (negsuc n) m M h l =
    le_trans (le_eq (neg-*ℤ (pos (suc n)) m))
    (turned_le (pos (suc n) *ℤ m) (pos (suc n) *ℤ M) (mul_nonneg {a = pos (suc n)} (omega (arith, lin)) h) (mul-le (suc n) l))

mul_both : {a b c d : ℤ} → pos 0 ≤ℤ a → a ≤ℤ b → pos 0 ≤ℤ c → c ≤ℤ d → (a *ℤ c) ≤ℤ (b *ℤ d)
mul_both {a} {b} {c} {d} h k l m =
    le_trans (mul_le_by a h m) (rw (*ℤ_comm a d, *ℤ_comm b d) (mul_le_by d (le_trans l m) k))

-- a row between 0 and another, number by number
pub record Under (n : ℕ) (r R : Row) : Type 0 where
  pub from : (i : ℕ) → i ≤ n → pos 0 ≤ℤ r i
  pub to : (i : ℕ) → i ≤ n → r i ≤ℤ R i

pub weighed_le : (n1 n2 n3 : ℕ) (a : Table) (x X y Y z Z : Row) → Under n1 x X → Under n2 y Y → Under n3 z Z
    → weighed n1 n2 n3 a x y z ≤ℤ weighed n1 n2 n3 (sizes a) X Y Z
unfolding weighed
weighed_le n1 n2 n3 a x X y Y z Z p q r =
    total_le n1 n2 n3 (term a x y z) (term (sizes a) X Y Z) λ i j k l m o.
    size_le (a i j k) (x i *ℤ (y j *ℤ z k)) (X i *ℤ (Y j *ℤ Z k))
    (mul_nonneg (p.from i l) (mul_nonneg (q.from j m) (r.from k o)))
    (mul_both (p.from i l) (p.to i l) (mul_nonneg (q.from j m) (r.from k o)) (mul_both (q.from j m) (q.to j m) (r.from k o) (r.to k o)))
