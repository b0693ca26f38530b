-- Rows of a table worked off: one number at a time, and the size of what comes out. Assumes nothing.
use Rattle.std.proofs.Common.{◌≡◌, ℕ, suc, ◌+◌, ◌-◌, ◌*◌, ◌^◌, ◌<◌, ◌≤◌, List, [], ◌∷◌, ◌++◌, length, get_or, take, set, length-append, get_or-take, ℤ, pos, negsuc, ◌+ℤ◌, sym, ap, ◌∙◌, ap₂, add-zero, mul-le-mul_right, mul-add, arith, lit<, w64, SFits, to_z, of_z}
use lib.Signed.{mag}
use Rattle.std.specs.List.{between}
use Rattle.std.proofs.lemmas.Int.{to_z-of_z}
use Rattle.std.proofs.lemmas.List.{take-take}
use Rattle.std.proofs.lemmas.List.Edits.{length-between, get_or-between}
use Rattle.std.proofs.Math.Seq.{take-append_seam, get_or-append_seam}
use Rattle.arith.specs.Product.{BoundKept, Tame}
use Rattle.arith.specs.declared.factor.Factor.{Factor}
use Rattle.arith.proofs.Ring.{lin}
use Rattle.arith.proofs.Products.{low_kept, high_kept}
use Rattle.forms.specs.Worked.{low_of, high_of, worked, Within, Small, SmallRow}
use Rattle.forms.proofs.Upto.{Upto, upto_more}
use Rattle.forms.specs.Horner.{horner_none, horner_more, horner_ext, horner_bounded}

pub low_of_kept : (f : Factor) (p : ℤ) → BoundKept p (low_of f p)
low_of_kept f p = low_kept p f.low f.high f.depth (omega arith) f.within

pub high_of_kept : (f : Factor) (r : ℤ) → BoundKept r (high_of f r)
high_of_kept f r = high_kept r f.low f.high f.depth (omega arith) f.within

module _ (by : ℤ → ℤ) (xs : List ℤ) where
  pub worked_none : (s : ℕ) → worked by 0 xs s ≡ get_or xs s (pos 0)
  unfolding worked
  worked_none s = horner_none by (λ k. get_or xs (s + k) (pos 0)) ∙ ap (λ i. get_or xs i (pos 0)) (add-zero s)

  -- rows of one number
  pub worked_flat : (n t : ℕ) → n ≡ 0 → get_or xs t (pos 0) ≡ worked by n xs (t * (n + 1))
  worked_flat n t e =
      let here : t * (0 + 1) ≡ t = omega arith in
      ap (λ i. get_or xs i (pos 0)) (sym here) ∙ sym (worked_none (t * (0 + 1))) ∙ ap (λ k. worked by k xs (t * (k + 1))) (sym e)

  pub worked_more : (n s : ℕ) → worked by (suc n) xs s ≡ by (worked by n xs (suc s)) +ℤ get_or xs s (pos 0)
  unfolding worked
  worked_more n s =
      let past : (k : ℕ) → s + suc k ≡ suc s + k = λ k. omega arith in
      horner_more by n (λ k. get_or xs (s + k) (pos 0))
      ∙ ap₂ (λ x i. by x +ℤ get_or xs i (pos 0)) (horner_ext by n (λ k. get_or xs (s + suc k) (pos 0)) (λ k. get_or xs (suc s + k) (pos 0)) (λ k l. ap (λ i. get_or xs i (pos 0)) (past k))) (add-zero s)

  pub worked_small : ((p : ℤ) → BoundKept p (by p)) → (b n s : ℕ) → SmallRow b n xs s → Within (suc n * b) (worked by n xs s)
  unfolding worked
  worked_small kept b n s h = horner_bounded by kept b n (λ k. get_or xs (s + k) (pos 0)) (λ k l. h (s + k) (omega arith) (omega arith))

-- ---- numbers that fit 64 bits
pub fits : (b : ℕ) (z : ℤ) → b < 2 ^ 63 → Within b z → SFits w64 z
fits b (pos n) l h = record { sfits = omega (arith, lin, h) }
fits b (negsuc n) l h = record { sfits = omega (arith, lin, h) }

-- ---- one turn of Horner's rule over a row of n + 1 numbers, at most 8, and at most 2^40 in size: k numbers are left
module _ (by : ℤ → ℤ) (kept : (p : ℤ) → BoundKept p (by p)) (xs : List ℤ) (n : ℕ) (few : n ≤ 7) (small : Small (2 ^ 40) (n + 1) xs) where
  pub so_far_small : (k : ℕ) (z : ℤ) → k ≤ n → z ≡ worked by (n - k) xs k → Within (2 ^ 43) z
  so_far_small k z l e =
      let b = worked_small by xs kept (2 ^ 40) (n - k) k (λ i h g. small i (omega arith)) in
      let m : suc (n - k) * 2 ^ 40 ≤ 2 ^ 43 = omega arith in
      rw e (omega (arith, lin))

  pub so_far_tame : (k : ℕ) (z : ℤ) → k ≤ n → z ≡ worked by (n - k) xs k → Tame z
  so_far_tame k z l e = omega (arith, lin, so_far_small k z l e)

  module _ (k : ℕ) (z y e : ℤ) (left : k + 1 ≤ n) (was : z ≡ worked by (n - (k + 1)) xs (k + 1)) (is : y ≡ by z) (entry : e ≡ get_or xs k (pos 0)) where
    product_small : Within (2 ^ 43) y
    product_small =
        let b = so_far_small (k + 1) z left was in
        let h = kept z (2 ^ 43) in
        rw is (h.0 b.0, h.1 b.1)

    entry_small : Within (2 ^ 40) e
    entry_small = rw entry (small k (omega arith))

    read : to_z w64 (of_z w64 y) +ℤ to_z w64 (of_z w64 e) ≡ y +ℤ e
    read = ap₂ ◌+ℤ◌ (to_z-of_z w64 y (fits (2 ^ 43) y (lit< tt) product_small)) (to_z-of_z w64 e (fits (2 ^ 40) e (lit< tt) entry_small))

    pub turn_fits : SFits w64 (to_z w64 (of_z w64 y) +ℤ to_z w64 (of_z w64 e))
    turn_fits =
        let b = entry_small in
        let p = product_small in
        rw read (fits (2 ^ 44) (y +ℤ e) (lit< tt) (omega (arith, lin)))

    pub turn : to_z w64 (of_z w64 (to_z w64 (of_z w64 y) +ℤ to_z w64 (of_z w64 e))) ≡ worked by (n - k) xs k
    turn =
        let next : n - k ≡ suc (n - (k + 1)) = omega arith in
        let past : suc k ≡ k + 1 = omega arith in
        to_z-of_z w64 (to_z w64 (of_z w64 y) +ℤ to_z w64 (of_z w64 e)) turn_fits ∙ read
        ∙ ap₂ ◌+ℤ◌ (is ∙ ap by was ∙ ap (λ i. by (worked by (n - (k + 1)) xs i)) (sym past)) entry
        ∙ sym (worked_more by xs (n - (k + 1)) k)
        ∙ ap (λ i. worked by i xs k) (sym next)

  pub before_turns : to_z w64 (of_z w64 (get_or xs n (pos 0))) ≡ worked by (n - n) xs n
  before_turns =
      let none : n - n ≡ 0 = omega arith in
      to_z-of_z w64 (get_or xs n (pos 0)) (fits (2 ^ 40) (get_or xs n (pos 0)) (lit< tt) (small n (omega arith)))
      ∙ sym (worked_none by xs n) ∙ ap (λ i. worked by i xs n) (sym none)

  pub after_turns : (k : ℕ) (z : ℤ) → k ≤ 0 → z ≡ worked by (n - k) xs k → z ≡ worked by n xs 0
  after_turns k z l e =
      let none : k ≡ 0 = omega arith in
      let all : n - k ≡ n = omega arith in
      e ∙ ap₂ (λ i s. worked by i xs s) all none

-- ---- tables
-- row t ends within the table
pub row_end : (t rows n : ℕ) → t < rows → t * (n + 1) + n + 1 ≤ rows * (n + 1)
row_end t rows n h = omega (arith, mul-le-mul_right (n + 1) h)

-- there are no more rows than numbers
pub rows_fit : (rows n b : ℕ) → rows * (n + 1) ≤ b → rows ≤ b
rows_fit rows n b h = omega (arith, mul-add rows n 1)

-- a list read from its end: rs is what is left of ys, and after x the rest
module _ {A : Type 0} (rs rest ys : List A) (x : A) (is : rs ≡ rest ++ x ∷ []) (front : rs ≡ take (length rs) ys) where
  pub back_long : length rs ≡ length rest + 1
  back_long = ap length is ∙ length-append rest (x ∷ [])

  pub back_front : rest ≡ take (length rest) ys
  back_front =
      sym (take-append_seam rest (x ∷ [])) ∙ ap (take (length rest)) (sym is ∙ front)
      ∙ take-take (length rest) (length rs) ys (omega (arith, back_long))

  pub back_item : (d : A) → x ≡ get_or ys (length rest) d
  back_item d =
      sym (get_or-append_seam rest x [] d) ∙ ap (λ l. get_or l (length rest) d) (sym is ∙ front)
      ∙ get_or-take (length rs) ys (length rest) d (omega (arith, back_long))

-- row t as a list of its own
module _ {A : Type 0} (n rows t : ℕ) (ys : List A) (some : t < rows) (room : rows * (n + 1) ≤ 64) (len : length ys ≡ 64) where
  abbrev pub row : List A
  row = between (t * (n + 1)) (t * (n + 1) + n + 1) ys

  pub row_long : length row ≡ n + 1
  row_long = length-between ys (t * (n + 1)) (t * (n + 1) + n + 1) (omega (arith, row_end t rows n some)) ∙ omega arith

  pub row_at : (d : A) (k : ℕ) → k < n + 1 → get_or row k d ≡ get_or ys (t * (n + 1) + k) d
  row_at d k l = get_or-between ys (t * (n + 1)) (t * (n + 1) + n + 1) k d (omega arith)

-- ---- rows worked off in place: t rows are done
abbrev pub Partly : (ℤ → ℤ) → ℕ → List ℤ → ℕ → List ℤ → Type 0
Partly by n xs t ys = Upto (pos 0) (λ j. worked by n xs (j * (n + 1))) (λ j. get_or xs j (pos 0)) t ys

module _ (by : ℤ → ℤ) (kept : (p : ℤ) → BoundKept p (by p)) (n rows t : ℕ) (xs ys row : List ℤ) (few : n ≤ 7) (some : t < rows)
    (small : Small (2 ^ 40) (rows * (n + 1)) xs) (so_far : Partly by n xs t ys)
    (is : (k : ℕ) → k < n + 1 → get_or row k (pos 0) ≡ get_or ys (t * (n + 1) + k) (pos 0)) where
  -- row t is as it was: it starts at place t or past it
  unread : (k : ℕ) → k < n + 1 → get_or row k (pos 0) ≡ get_or xs (t * (n + 1) + k) (pos 0)
  unread k l = is k l ∙ so_far.1 (t * (n + 1) + k) (omega (arith, rows_fit t n (t * (n + 1)) (omega arith)))

  pub row_small : Small (2 ^ 40) (n + 1) row
  row_small k l = rw (unread k l) (small (t * (n + 1) + k) (omega (arith, row_end t rows n some)))

  row_same : worked by n row 0 ≡ worked by n xs (t * (n + 1))
  unfolding worked
  row_same =
      let from : (k : ℕ) → 0 + k ≡ k = λ k. omega arith in
      horner_ext by n (λ k. get_or row (0 + k) (pos 0)) (λ k. get_or xs (t * (n + 1) + k) (pos 0)) (λ k l. ap (λ i. get_or row i (pos 0)) (from k) ∙ unread k (omega arith))

  pub partly_more : (y : ℤ) → t < length ys → y ≡ worked by n row 0 → Partly by n xs (t + 1) (set ys t (to_z w64 (of_z w64 y)))
  partly_more y inside e =
      let w = worked_small by xs kept (2 ^ 40) n (t * (n + 1)) (λ k h l. small k (omega (arith, row_end t rows n some))) in
      let m : suc n * 2 ^ 40 ≤ 2 ^ 43 = omega arith in
      let h : Within (2 ^ 43) (worked by n xs (t * (n + 1))) = omega (arith, lin) in
      let is : y ≡ worked by n xs (t * (n + 1)) = e ∙ row_same in
      upto_more (pos 0) (λ j. worked by n xs (j * (n + 1))) (λ j. get_or xs j (pos 0)) t ys (to_z w64 (of_z w64 y)) inside
      (to_z-of_z w64 y (fits (2 ^ 43) y (lit< tt) (rw is h)) ∙ is) so_far

-- numbers of at most b give numbers of at most 8 × b
pub table_small : (by : ℤ → ℤ) → ((p : ℤ) → BoundKept p (by p)) → (b rows n : ℕ) (xs ys : List ℤ) → n ≤ 7 → Small b (rows * (n + 1)) xs
    → ((t : ℕ) → t < rows → get_or ys t (pos 0) ≡ worked by n xs (t * (n + 1))) → Small (8 * b) rows ys
table_small by kept b rows n xs ys few small is t h =
    let e = row_end t rows n h in
    let w = worked_small by xs kept b n (t * (n + 1)) (λ k h l. small k (omega arith)) in
    let m : suc n * b ≤ 8 * b = mul-le-mul_right b (omega arith) in
    rw (is t h) (omega (arith, lin))

pub small_weaker : (b b' n : ℕ) (xs : List ℤ) → b ≤ b' → Small b n xs → Small b' n xs
small_weaker b b' n xs l h k i = omega (arith, lin, h k i)

-- the numbers of 32 bits
pub narrow_small : (z : ℤ) → mag z < 2 ^ 31 → Within (2 ^ 31) z
narrow_small (pos n) h = omega (arith, lin)
narrow_small (negsuc n) h = omega (arith, lin)
