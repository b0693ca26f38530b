-- The sizes of a mapping's coefficients, added up one input after the other. Assumes nothing.
use Rattle.std.proofs.Common.{◌≡◌, ℕ, ◌+◌, ◌*◌, ◌/◌, ◌%◌, ◌^◌, ◌<◌, ◌≤◌, List, length, get_or, pos, nat_abs, sym, ap, ◌∙◌, ap₂, mul-le-mul_right, mul_assoc, mul-le-mul, zero-mul, arith, lit<}
use lib.Signed.{nat_abs-le}
use Rattle.mapping.specs.Terms.{terms}
use Rattle.mapping.specs.Values.{degree}
use Rattle.mapping.specs.declared.mapping.Mapping.{Mapping}
use Rattle.forms.specs.Totals.{total, row_sum, row_weighed, weighed_sizes}
use Rattle.forms.proofs.Added.{total_more, total_ext, total_zero, total_one, total_most, by_rows, over_rows}
use Rattle.forms.proofs.Places.{exponent}
use Rattle.forms.proofs.Upto.{Upto}
use Rattle.forms.proofs.Working.{row_end, rows_fit}

-- ---- one number more in both sums of a row: n numbers are summed up
module _ (ws row : List ℕ) (few : length row ≤ 8) (light : (i : ℕ) → get_or ws i 0 ≤ 64) (small : (k : ℕ) → k < length row → get_or row k 0 ≤ 2 ^ 37) where
  abbrev item : ℕ → ℕ
  item k = get_or ws k 0 * get_or row k 0

  pub item_most : (k : ℕ) → k < length row → item k ≤ 64 * 2 ^ 37
  item_most k l = mul-le-mul (light k) (small k l)

  pub weighed_most : (n : ℕ) → n ≤ length row → total n item ≤ 8 * (64 * 2 ^ 37)
  weighed_most n l =
      let m = total_most n (64 * 2 ^ 37) item (λ i h. item_most i (omega arith)) in
      omega arith

  module _ (n s r x w : ℕ) (inside : n < length row) (x-is : x ≡ get_or row n 0) (w-is : w ≡ get_or ws n 0)
      (sum : s ≡ total n (λ k. get_or row k 0)) (weighed : r ≡ total n item) where
    product : w * x ≡ item n
    product = ap₂ ◌*◌ w-is x-is

    pub sum_fits : s + x < 2 ^ 64
    sum_fits =
        let m = total_most n (2 ^ 37) (λ k. get_or row k 0) (λ i h. small i (omega arith)) in
        omega (arith, small n inside)

    pub product_fits : w * x < 2 ^ 64
    product_fits = rw product (omega (arith, item_most n inside))

    pub weighed_fits : r + w * x < 2 ^ 64
    weighed_fits = rw product (omega (arith, item_most n inside, weighed_most n (omega arith)))

    pub sum_more : s + x ≡ total (n + 1) (λ k. get_or row k 0)
    sum_more = ap₂ ◌+◌ sum x-is ∙ sym (total_more n (λ k. get_or row k 0))

    pub weighed_more : r + w * x ≡ total (n + 1) item
    weighed_more = ap₂ ◌+◌ weighed product ∙ sym (total_more n item)

-- ---- rows of one number, whose weight is 0
module _ (ws xs : List ℕ) (n : ℕ) (flat : n ≡ 0) where
  pub flat_sum : (t : ℕ) → get_or xs t 0 ≡ row_sum n xs (t * (n + 1))
  flat_sum t =
      let here : t ≡ t * (0 + 1) + 0 = omega arith in
      ap (λ i. get_or xs i 0) here ∙ sym (total_one (λ k. get_or xs (t * (0 + 1) + k) 0)) ∙ ap (λ k. row_sum k xs (t * (k + 1))) (sym flat)

  pub flat_weighed : get_or ws 0 0 ≡ 0 → (rows : ℕ) → 0 ≡ total rows (λ t. row_weighed ws n xs (t * (n + 1)))
  flat_weighed none rows =
      sym (total_zero rows (λ t. row_weighed ws n xs (t * (n + 1))) (λ t l.
      ap (λ k. row_weighed ws k xs (t * (k + 1))) flat
      ∙ total_one (λ k. get_or ws k 0 * get_or xs (t * (0 + 1) + k) 0)
      ∙ ap (λ z. z * get_or xs (t * (0 + 1) + 0) 0) none ∙ zero-mul (get_or xs (t * (0 + 1) + 0) 0)))

-- ---- rows added up in place: t rows are done
module _ (ws xs ys row : List ℕ) (n rows t : ℕ) (few : n ≤ 7) (some : t < rows) (room : rows * (n + 1) ≤ 64) (light : (i : ℕ) → get_or ws i 0 ≤ 64)
    (small : (k : ℕ) → k < rows * (n + 1) → get_or xs k 0 ≤ 2 ^ 37) (so_far : Upto 0 (λ j. row_sum n xs (j * (n + 1))) (λ j. get_or xs j 0) t ys)
    (long : length row ≡ n + 1) (at : (k : ℕ) → k < n + 1 → get_or row k 0 ≡ get_or ys (t * (n + 1) + k) 0) where
  -- row t is as it was
  unread : (k : ℕ) → k < n + 1 → get_or row k 0 ≡ get_or xs (t * (n + 1) + k) 0
  unread k l = at k l ∙ so_far.1 (t * (n + 1) + k) (omega (arith, rows_fit t n (t * (n + 1)) (omega arith)))

  pub row_small : (k : ℕ) → k < length row → get_or row k 0 ≤ 2 ^ 37
  row_small k l =
      let h : k < n + 1 = omega (arith, long) in
      rw (unread k h) (small (t * (n + 1) + k) (omega (arith, row_end t rows n some)))

  pub sum_same : total (length row) (λ k. get_or row k 0) ≡ row_sum n xs (t * (n + 1))
  sum_same = ap (λ l. total l (λ k. get_or row k 0)) long ∙ total_ext (n + 1) (λ k. get_or row k 0) (λ k. get_or xs (t * (n + 1) + k) 0) unread

  weighed_same : total (length row) (λ k. get_or ws k 0 * get_or row k 0) ≡ row_weighed ws n xs (t * (n + 1))
  weighed_same =
      ap (λ l. total l (λ k. get_or ws k 0 * get_or row k 0)) long
      ∙ total_ext (n + 1) (λ k. get_or ws k 0 * get_or row k 0) (λ k. get_or ws k 0 * get_or xs (t * (n + 1) + k) 0) (λ k l. ap (λ z. get_or ws k 0 * z) (unread k l))

  module _ (all r : ℕ) (was : all ≡ total t (λ j. row_weighed ws n xs (j * (n + 1)))) (is : r ≡ total (length row) (λ k. get_or ws k 0 * get_or row k 0)) where
    pub all_more : all + r ≡ total (t + 1) (λ j. row_weighed ws n xs (j * (n + 1)))
    all_more = ap₂ ◌+◌ was (is ∙ weighed_same) ∙ sym (total_more t (λ j. row_weighed ws n xs (j * (n + 1))))

    each_most : (j : ℕ) → j < t + 1 → row_weighed ws n xs (j * (n + 1)) ≤ 8 * (64 * 2 ^ 37)
    each_most j l =
        let m = total_most (n + 1) (64 * 2 ^ 37) (λ k. get_or ws k 0 * get_or xs (j * (n + 1) + k) 0)
        (λ k h. mul-le-mul (light k) (small (j * (n + 1) + k) (omega (arith, row_end j rows n (omega arith))))) in
        omega arith

    pub all_fits : all + r < 2 ^ 64
    all_fits =
        let most = total_most (t + 1) (8 * (64 * 2 ^ 37)) (λ j. row_weighed ws n xs (j * (n + 1))) each_most in
        rw all_more (omega (arith, rows_fit rows n 64 room))

-- ---- the three inputs in turn, over a mapping's sizes
module _ (ws : List ℕ) (m : Mapping) (xs : List ℕ) (sizes : (t : ℕ) → get_or xs t 0 ≡ nat_abs (get_or m.coefficients t (pos 0))) where
  abbrev A : ℕ
  A = degree m 0 + 1

  abbrev B : ℕ
  B = degree m 1 + 1

  abbrev C : ℕ
  C = degree m 2 + 1

  abbrev w : ℕ → ℕ
  w i = get_or ws i 0

  abbrev x : ℕ → ℕ
  x s = get_or xs s 0

  whole : (f : ℕ → ℕ) → total (A * B * C) (λ s. w (f s) * x s) ≡ total (terms m.degrees) (λ t. w (f t) * nat_abs (get_or m.coefficients t (pos 0)))
  whole f =
      ap (λ n. total n (λ s. w (f s) * x s)) (mul_assoc A B C)
      ∙ total_ext (terms m.degrees) (λ s. w (f s) * x s) (λ t. w (f t) * nat_abs (get_or m.coefficients t (pos 0))) (λ t l. ap (λ n. w (f t) * n) (sizes t))

  size_most : (t : ℕ) → get_or xs t 0 ≤ 2 ^ 31
  size_most t = rw (sizes t) (nat_abs-le (get_or m.coefficients t (pos 0)) (m.narrow t))

  pub small_3 : (k : ℕ) → k < A * B * C → get_or xs k 0 ≤ 2 ^ 37
  small_3 k l = omega (arith, size_most k)

  pub third_is : (r : ℕ) → r ≡ total (A * B) (λ t. row_weighed ws (degree m 2) xs (t * C)) → r ≡ weighed_sizes ws m 2
  unfolding weighed_sizes
  third_is r e = e ∙ by_rows (A * B) C (λ t k. w k) x ∙ whole (λ s. s % C)

  module _ (ys : List ℕ) (after_3 : (t : ℕ) → t < A * B → get_or ys t 0 ≡ row_sum (degree m 2) xs (t * C)) where
    abbrev y : ℕ → ℕ
    y t = get_or ys t 0

    row_most : (k : ℕ) → k < A * B → get_or ys k 0 ≤ 2 ^ 34
    row_most k l =
        let t = total_most C (2 ^ 31) (λ i. x (k * C + i)) (λ i h. size_most (k * C + i)) in
        rw (after_3 k l) (omega (arith, m.low 2 (lit< tt)))

    pub small_2 : (k : ℕ) → k < A * B → get_or ys k 0 ≤ 2 ^ 37
    small_2 k l = omega (arith, row_most k l)

    weighed_rows : (f : ℕ → ℕ) → total (A * B) (λ t. w (f t) * y t) ≡ total (A * B * C) (λ s. w (f (s / C)) * x s)
    weighed_rows f =
        total_ext (A * B) (λ t. w (f t) * y t) (λ t. w (f t) * total C (λ k. x (t * C + k))) (λ t l. ap (λ n. w (f t) * n) (after_3 t l))
        ∙ over_rows (A * B) C (λ t. w (f t)) x

    pub second_is : (r : ℕ) → r ≡ total A (λ t. row_weighed ws (degree m 1) ys (t * B)) → r ≡ weighed_sizes ws m 1
    unfolding weighed_sizes
    second_is r e = e ∙ by_rows A B (λ t k. w k) y ∙ weighed_rows (λ t. t % B) ∙ whole (λ s. s / C % B)

    module _ (zs : List ℕ) (after_2 : (t : ℕ) → t < A → get_or zs t 0 ≡ row_sum (degree m 1) ys (t * B)) where
      pub small_1 : (k : ℕ) → k < 1 * A → get_or zs k 0 ≤ 2 ^ 37
      small_1 k l =
          let inside : k < A = omega arith in
          let end = row_end k A (degree m 1) inside in
          let t = total_most B (2 ^ 34) (λ i. y (k * B + i)) (λ i h. row_most (k * B + i) (omega arith)) in
          rw (after_2 k inside) (omega (arith, m.low 1 (lit< tt)))

      one_row : total 1 (λ t. row_weighed ws (degree m 0) zs (t * A)) ≡ total A (λ i. w i * get_or zs i 0)
      one_row =
          let first : (i : ℕ) → 0 * A + i ≡ i = λ i. omega arith in
          total_one (λ t. row_weighed ws (degree m 0) zs (t * A))
          ∙ total_ext A (λ i. w i * get_or zs (0 * A + i) 0) (λ i. w i * get_or zs i 0) (λ i l. ap (λ k. w i * get_or zs k 0) (first i))

      pub first_is : (r : ℕ) → r ≡ total 1 (λ t. row_weighed ws (degree m 0) zs (t * A)) → r ≡ weighed_sizes ws m 0
      unfolding weighed_sizes
      first_is r e =
          e ∙ one_row
          ∙ total_ext A (λ i. w i * get_or zs i 0) (λ i. w i * total B (λ j. y (i * B + j))) (λ i l. ap (λ n. w i * n) (after_2 i l))
          ∙ over_rows A B w y ∙ weighed_rows (λ t. t / B) ∙ whole (λ s. s / C / B)

-- ---- the size of the whole sum
pub weighed_sizes_most : (ws : List ℕ) → ((i : ℕ) → get_or ws i 0 ≤ 64) → (m : Mapping) (v : ℕ) → v < 3 → weighed_sizes ws m v ≤ 2 ^ 43
unfolding weighed_sizes
weighed_sizes_most ws light m v h =
    let t = total_most (terms m.degrees) (64 * 2 ^ 31) (λ t. get_or ws (exponent m.degrees v t) 0 * nat_abs (get_or m.coefficients t (pos 0)))
    (λ t l. mul-le-mul (light (exponent m.degrees v t)) (nat_abs-le (get_or m.coefficients t (pos 0)) (m.narrow t))) in
    omega (arith, mul-le-mul_right (64 * 2 ^ 31) m.small)
