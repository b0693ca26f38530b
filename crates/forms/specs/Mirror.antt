-- The high side is the low side of the negated polynomial, negated. Assumes nothing.
use Rattle.std.specs.Prelude.{◌≡◌, ℕ, zero, suc, ◌-◌, ◌*◌, ◌/◌, ◌%◌, ℤ, pos, negsuc, ◌+ℤ◌, neg_ℤ, unsigned_abs, refl}
use Rattle.std.proofs.Common.{sym, ap, ap₂, ◌∙◌}
use Rattle.std.proofs.Math.Path.{fun_ext}
use Rattle.std.proofs.Math.IntN.{neg_ℤ-neg_ℤ, neg_ℤ-+ℤ}
use Rattle.arith.specs.Rounding.{quot_down, quot_up}
use Rattle.forms.specs.Choose.{factorial}
use Rattle.forms.specs.Halving.{Row, mean_down, mean_up, rounds, kept, deep}
use Rattle.forms.specs.Polynomial.{Table, weighed}
use Rattle.mapping.specs.Polynomials.{poly, share}
use Rattle.forms.specs.Tables.{first, halved, low_table, high_table, low, high, least_of, sizes, pairs, ones, loss, slack}
use Rattle.forms.specs.Extra.{quot_up_neg}
use Rattle.forms.specs.Weighed.{weighed_neg, poly_weighed}
use Rattle.forms.specs.Extremes.{greatest_of_least}
use Rattle.forms.specs.TablesLemmas.{weights, first_is, low_table_is, low_is, high_is, slack_sizes}

abbrev pub neg_row : Row → Row
neg_row r k = neg_ℤ (r k)

abbrev pub neg_table : Table → Table
neg_table T i j k = neg_ℤ (T i j k)

-- ---- rows

mean_up_is : (x y : ℤ) → mean_up x y ≡ quot_up (x +ℤ y) 2
unfolding mean_up
mean_up_is x y = refl

mean_down_text : (x y : ℤ) → quot_down (x +ℤ y) 2 ≡ mean_down x y
unfolding mean_down
mean_down_text x y = refl

pub mean_neg : (x y : ℤ) → mean_up x y ≡ neg_ℤ (mean_down (neg_ℤ x) (neg_ℤ y))
mean_neg x y =
    mean_up_is x y ∙ quot_up_neg (x +ℤ y) 2 ∙ ap (λ z. neg_ℤ (quot_down z 2)) (neg_ℤ-+ℤ x y) ∙ ap neg_ℤ (mean_down_text (neg_ℤ x) (neg_ℤ y))

back : (x y : ℤ) → x ≡ neg_ℤ y → neg_ℤ x ≡ y
back x y e = ap neg_ℤ e ∙ neg_ℤ-neg_ℤ y

rounds_neg : (t : ℕ) (r : Row) (i : ℕ) → rounds mean_up t r i ≡ neg_ℤ (rounds mean_down t (neg_row r) i)
unfolding rounds
rounds_neg zero r i = sym (neg_ℤ-neg_ℤ (r i))
rounds_neg (suc t) r i =
    mean_neg (rounds mean_up t r i) (rounds mean_up t r (suc i))
    ∙ ap₂ (λ x y. neg_ℤ (mean_down x y))
    (back (rounds mean_up t r i) (rounds mean_down t (neg_row r) i) (rounds_neg t r i))
    (back (rounds mean_up t r (suc i)) (rounds mean_down t (neg_row r) (suc i)) (rounds_neg t r (suc i)))

kept_neg : (n b : ℕ) (r : Row) (k : ℕ) → kept mean_up n b r k ≡ neg_ℤ (kept mean_down n b (neg_row r) k)
unfolding kept
kept_neg n zero r k = rounds_neg k r 0
kept_neg n (suc b) r k = rounds_neg (n - k) r k

deep_neg : (n d p : ℕ) (r : Row) (k : ℕ) → deep (kept mean_up n) d p r k ≡ neg_ℤ (deep (kept mean_down n) d p (neg_row r) k)
unfolding deep
deep_neg n zero p r k = sym (neg_ℤ-neg_ℤ (r k))
deep_neg n (suc d) p r k =
    kept_neg n (p % 2) (deep (kept mean_up n) d (p / 2) r) k
    ∙ ap (λ s. neg_ℤ (kept mean_down n (p % 2) s k))
    (fun_ext λ i. ap neg_ℤ (deep_neg n d (p / 2) r i) ∙ neg_ℤ-neg_ℤ (deep (kept mean_down n) d (p / 2) (neg_row r) i))

-- ---- tables

pub first_neg : (n1 n2 n3 : ℕ) (a : Table) (i j k : ℕ) → neg_ℤ (first quot_up n1 n2 n3 a i j k) ≡ first quot_down n1 n2 n3 (neg_table a) i j k
first_neg n1 n2 n3 a i j k =
    let F : ℕ = factorial n1 * (factorial n2 * factorial n3) in
    let z : ℤ = weighed n1 n2 n3 a (weights n1 i) (weights n2 j) (weights n3 k) in
    back (first quot_up n1 n2 n3 a i j k) (first quot_down n1 n2 n3 (neg_table a) i j k)
    (sym (first_is quot_up n1 n2 n3 a i j k) ∙ quot_up_neg z F
    ∙ ap (λ y. neg_ℤ (quot_down y F)) (sym (weighed_neg n1 n2 n3 a (weights n1 i) (weights n2 j) (weights n3 k)))
    ∙ ap neg_ℤ (first_is quot_down n1 n2 n3 (neg_table a) i j k))

high_table_is : (n1 n2 n3 : ℕ) (a : Table) (d1 m1 d2 m2 d3 m3 j1 j2 j3 : ℕ) → high_table n1 n2 n3 a d1 m1 d2 m2 d3 m3 j1 j2 j3
    ≡ deep (kept mean_up n3) d3 m3 (λ x3. deep (kept mean_up n2) d2 m2 (λ x2. deep (kept mean_up n1) d1 m1 (λ x1. first quot_up n1 n2 n3 a x1 x2 x3) j1) j2) j3
unfolding high_table halved
high_table_is n1 n2 n3 a d1 m1 d2 m2 d3 m3 j1 j2 j3 = refl

-- the high table is minus the low table of minus the polynomial
pub high_table_mirror : (n1 n2 n3 : ℕ) (a : Table) (d1 m1 d2 m2 d3 m3 j1 j2 j3 : ℕ)
    → high_table n1 n2 n3 a d1 m1 d2 m2 d3 m3 j1 j2 j3 ≡ neg_ℤ (low_table n1 n2 n3 (neg_table a) d1 m1 d2 m2 d3 m3 j1 j2 j3)
high_table_mirror n1 n2 n3 a d1 m1 d2 m2 d3 m3 j1 j2 j3 =
    let U0 : Table = first quot_up n1 n2 n3 a in
    let L0 : Table = first quot_down n1 n2 n3 (neg_table a) in
    let U1 : ℕ → ℕ → ℤ = λ x2 x3. deep (kept mean_up n1) d1 m1 (λ x1. U0 x1 x2 x3) j1 in
    let L1 : ℕ → ℕ → ℤ = λ x2 x3. deep (kept mean_down n1) d1 m1 (λ x1. L0 x1 x2 x3) j1 in
    let U2 : ℕ → ℤ = λ x3. deep (kept mean_up n2) d2 m2 (λ x2. U1 x2 x3) j2 in
    let L2 : ℕ → ℤ = λ x3. deep (kept mean_down n2) d2 m2 (λ x2. L1 x2 x3) j2 in
    let one : (x2 x3 : ℕ) → neg_ℤ (U1 x2 x3) ≡ L1 x2 x3 = λ x2 x3.
    back (U1 x2 x3) (deep (kept mean_down n1) d1 m1 (λ x1. neg_ℤ (U0 x1 x2 x3)) j1) (deep_neg n1 d1 m1 (λ x1. U0 x1 x2 x3) j1)
    ∙ ap (λ r. deep (kept mean_down n1) d1 m1 r j1) (fun_ext λ x1. first_neg n1 n2 n3 a x1 x2 x3) in
    let two : (x3 : ℕ) → neg_ℤ (U2 x3) ≡ L2 x3 = λ x3.
    back (U2 x3) (deep (kept mean_down n2) d2 m2 (λ x2. neg_ℤ (U1 x2 x3)) j2) (deep_neg n2 d2 m2 (λ x2. U1 x2 x3) j2)
    ∙ ap (λ r. deep (kept mean_down n2) d2 m2 r j2) (fun_ext λ x2. one x2 x3) in
    high_table_is n1 n2 n3 a d1 m1 d2 m2 d3 m3 j1 j2 j3
    ∙ deep_neg n3 d3 m3 U2 j3
    ∙ ap (λ r. neg_ℤ (deep (kept mean_down n3) d3 m3 r j3)) (fun_ext two)
    ∙ ap neg_ℤ (low_table_is n1 n2 n3 (neg_table a) d1 m1 d2 m2 d3 m3 j1 j2 j3)

-- ---- the ends, the values and the slack

pub high_mirror : (n1 n2 n3 : ℕ) (a : Table) (d1 m1 d2 m2 d3 m3 : ℕ)
    → high n1 n2 n3 a d1 m1 d2 m2 d3 m3 ≡ neg_ℤ (low n1 n2 n3 (neg_table a) d1 m1 d2 m2 d3 m3)
high_mirror n1 n2 n3 a d1 m1 d2 m2 d3 m3 =
    sym (high_is n1 n2 n3 a d1 m1 d2 m2 d3 m3)
    ∙ greatest_of_least n1 n2 n3 (high_table n1 n2 n3 a d1 m1 d2 m2 d3 m3)
    ∙ ap (λ T. neg_ℤ (least_of n1 n2 n3 T)) (fun_ext λ i. fun_ext λ j. fun_ext λ k.
    back (high_table n1 n2 n3 a d1 m1 d2 m2 d3 m3 i j k) (low_table n1 n2 n3 (neg_table a) d1 m1 d2 m2 d3 m3 i j k)
    (high_table_mirror n1 n2 n3 a d1 m1 d2 m2 d3 m3 i j k))
    ∙ ap neg_ℤ (low_is n1 n2 n3 (neg_table a) d1 m1 d2 m2 d3 m3)

pub poly_mirror : (n1 n2 n3 : ℕ) (a : Table) (u1 D1 u2 D2 u3 D3 : ℕ)
    → poly n1 n2 n3 (neg_table a) u1 D1 u2 D2 u3 D3 ≡ neg_ℤ (poly n1 n2 n3 a u1 D1 u2 D2 u3 D3)
poly_mirror n1 n2 n3 a u1 D1 u2 D2 u3 D3 =
    poly_weighed n1 n2 n3 (neg_table a) u1 D1 u2 D2 u3 D3
    ∙ weighed_neg n1 n2 n3 a (λ i. pos (share n1 i u1 D1)) (λ i. pos (share n2 i u2 D2)) (λ i. pos (share n3 i u3 D3))
    ∙ ap neg_ℤ (sym (poly_weighed n1 n2 n3 a u1 D1 u2 D2 u3 D3))

size_neg : (z : ℤ) → unsigned_abs (neg_ℤ z) ≡ unsigned_abs z
size_neg (pos zero) = refl
size_neg (pos (suc n)) = refl
size_neg (negsuc n) = refl

pub sizes_neg : (a : Table) → sizes (neg_table a) ≡ sizes a
sizes_neg a = fun_ext λ i. fun_ext λ j. fun_ext λ k. ap pos (size_neg (a i j k))

-- the slack goes by the sizes of the coefficients alone
pub slack_mirror : (n1 n2 n3 : ℕ) (a : Table) (d1 d2 d3 : ℕ) → slack n1 n2 n3 (neg_table a) d1 d2 d3 ≡ slack n1 n2 n3 a d1 d2 d3
slack_mirror n1 n2 n3 a d1 d2 d3 =
    slack_sizes n1 n2 n3 (neg_table a) d1 d2 d3
    ∙ ap (λ s. pos 1 +ℤ (loss n1 d1 (weighed n1 n2 n3 s pairs ones ones) +ℤ (loss n2 d2 (weighed n1 n2 n3 s ones pairs ones) +ℤ loss n3 d3 (weighed n1 n2 n3 s ones ones pairs)))) (sizes_neg a)
    ∙ sym (slack_sizes n1 n2 n3 a d1 d2 d3)
