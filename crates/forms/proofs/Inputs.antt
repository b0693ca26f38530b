-- A mapping's coefficients as a table, worked off one input after the other. Assumes nothing.
use Rattle.std.proofs.Common.{◌≡◌, ℕ, ◌+◌, ◌*◌, ◌^◌, ◌<◌, ◌≤◌, List, length, get_or, take, ℤ, pos, sym, ap, ◌∙◌, ⊎_elim, arith, lit<, lit≤, w32, w64, to_z, of_z}
use Rattle.std.proofs.lemmas.Int.{to_z-of_z}
use Rattle.std.proofs.lemmas.Bool.{cases_lt}
use Rattle.arith.specs.Product.{BoundKept}
use Rattle.arith.specs.declared.factor.Factor.{Factor}
use Rattle.mapping.specs.Terms.{terms}
use Rattle.mapping.specs.Values.{degree, coefficient}
use Rattle.mapping.specs.declared.mapping.Mapping.{Mapping}
use Rattle.forms.specs.Nested.{horner, nested_low, nested_high}
use Rattle.forms.specs.Worked.{no_factor, factors, low_of, high_of, worked, Small}
use Rattle.forms.specs.Horner.{horner_ext}
use Rattle.forms.proofs.Upto.{Upto}
use Rattle.forms.proofs.Numerators.{used, used_at}
use Rattle.forms.proofs.Working.{fits, row_end, rows_fit, table_small, small_weaker, narrow_small}

-- ---- the table at the start
module _ (m : Mapping) where
  -- a coefficient as it is read from 32 bits, and kept in 64
  pub narrow_read : (n k : ℕ) → k < length (take n m.coefficients) → to_z w32 (of_z w32 (get_or (take n m.coefficients) k (pos 0))) ≡ get_or m.coefficients k (pos 0)
  narrow_read n k inside =
      ap (λ y. to_z w32 (of_z w32 y)) (used_at m n k inside) ∙ to_z-of_z w32 (get_or m.coefficients k (pos 0)) (record { sfits = m.narrow k })

  pub wide : (n k : ℕ) (x : ℤ) → k < length (take n m.coefficients) → x ≡ to_z w32 (of_z w32 (get_or (take n m.coefficients) k (pos 0)))
      → to_z w64 (of_z w64 x) ≡ get_or m.coefficients k (pos 0)
  wide n k x inside is =
      ap (λ y. to_z w64 (of_z w64 y)) (is ∙ narrow_read n k inside)
      ∙ to_z-of_z w64 (get_or m.coefficients k (pos 0)) (record { sfits = omega (arith, m.narrow k) })

  -- an array of what h makes of each coefficient: the coefficients past the used ones are 0
  pub all_coefficients : {A : Type 0} (d : A) (h : ℤ → A) (n k : ℕ) (xs : List A) → n ≡ terms m.degrees → length (take n m.coefficients) ≤ k
      → Upto d (λ j. h (get_or m.coefficients j (pos 0))) (λ j. h (pos 0)) k xs → (j : ℕ) → get_or xs j d ≡ h (get_or m.coefficients j (pos 0))
  all_coefficients d h n k xs e all so_far j =
      ⊎_elim
      (λ (l : j < k). so_far.0 j l)
      (λ (l : k ≤ j). so_far.1 j l ∙ ap h (sym (m.unused j (omega (arith, used m n e)))))
      (cases_lt j k)

module _ (m : Mapping) where
  pub room_3 : (degree m 0 + 1) * (degree m 1 + 1) * (degree m 2 + 1) ≤ 64
  room_3 = omega (arith, m.small)

  pub room_2 : (degree m 0 + 1) * (degree m 1 + 1) ≤ 64
  room_2 = rows_fit ((degree m 0 + 1) * (degree m 1 + 1)) (degree m 2) 64 room_3

  module _ (xs : List ℤ) (exact : (k : ℕ) → get_or xs k (pos 0) ≡ get_or m.coefficients k (pos 0)) where
    small_0 : (n : ℕ) → Small (2 ^ 31) n xs
    small_0 n k l = rw (exact k) (narrow_small (get_or m.coefficients k (pos 0)) (m.narrow k))

    pub small_3 : Small (2 ^ 40) ((degree m 0 + 1) * (degree m 1 + 1) * (degree m 2 + 1)) xs
    small_3 = small_weaker (2 ^ 31) (2 ^ 40) ((degree m 0 + 1) * (degree m 1 + 1) * (degree m 2 + 1)) xs (lit≤ tt) (small_0 ((degree m 0 + 1) * (degree m 1 + 1) * (degree m 2 + 1)))

    module _ (by₃ : ℤ → ℤ) (kept₃ : (p : ℤ) → BoundKept p (by₃ p)) (ys : List ℤ) (is_3 : (t : ℕ) → t < (degree m 0 + 1) * (degree m 1 + 1) → get_or ys t (pos 0) ≡ worked by₃ (degree m 2) xs (t * (degree m 2 + 1))) where
      after_3 : Small (2 ^ 34) ((degree m 0 + 1) * (degree m 1 + 1)) ys
      after_3 = table_small by₃ kept₃ (2 ^ 31) ((degree m 0 + 1) * (degree m 1 + 1)) (degree m 2) xs ys (m.low 2 (lit< tt)) (small_0 ((degree m 0 + 1) * (degree m 1 + 1) * (degree m 2 + 1))) is_3

      pub small_2 : Small (2 ^ 40) ((degree m 0 + 1) * (degree m 1 + 1)) ys
      small_2 = small_weaker (2 ^ 34) (2 ^ 40) ((degree m 0 + 1) * (degree m 1 + 1)) ys (lit≤ tt) after_3

      module _ (by₂ : ℤ → ℤ) (kept₂ : (p : ℤ) → BoundKept p (by₂ p)) (zs : List ℤ) (is-2 : (t : ℕ) → t < degree m 0 + 1 → get_or zs t (pos 0) ≡ worked by₂ (degree m 1) ys (t * (degree m 1 + 1))) where
        after_2 : Small (2 ^ 37) (degree m 0 + 1) zs
        after_2 = table_small by₂ kept₂ (2 ^ 34) (degree m 0 + 1) (degree m 1) ys zs (m.low 1 (lit< tt)) after_3 is-2

        pub small_1 : Small (2 ^ 40) (1 * (degree m 0 + 1)) zs
        small_1 k l = small_weaker (2 ^ 37) (2 ^ 40) (degree m 0 + 1) zs (lit≤ tt) after_2 k (omega arith)

        module _ (by₁ : ℤ → ℤ) (kept₁ : (p : ℤ) → BoundKept p (by₁ p)) (os : List ℤ) (is-1 : (t : ℕ) → t < 1 → get_or os t (pos 0) ≡ worked by₁ (degree m 0) zs (t * (degree m 0 + 1))) where
          after_1 : Small (2 ^ 43) 1 os
          after_1 = table_small by₁ kept₁ (2 ^ 40) 1 (degree m 0) zs os (m.low 0 (lit< tt)) small_1 is-1

          rows_3 : (i j : ℕ) → i ≤ degree m 0 → j ≤ degree m 1 → get_or ys (i * (degree m 1 + 1) + j) (pos 0) ≡ horner by₃ (degree m 2) (λ k. coefficient m i j k)
          unfolding worked
          rows_3 i j h l =
              let inside : i * (degree m 1 + 1) + j < (degree m 0 + 1) * (degree m 1 + 1) = omega (arith, row_end i (degree m 0 + 1) (degree m 1) (omega arith)) in
              is_3 (i * (degree m 1 + 1) + j) inside
              ∙ horner_ext by₃ (degree m 2) (λ k. get_or xs ((i * (degree m 1 + 1) + j) * (degree m 2 + 1) + k) (pos 0)) (λ k. coefficient m i j k) (λ k b. exact ((i * (degree m 1 + 1) + j) * (degree m 2 + 1) + k))

          rows_2 : (i : ℕ) → i ≤ degree m 0 → get_or zs i (pos 0) ≡ horner by₂ (degree m 1) (λ j. horner by₃ (degree m 2) (λ k. coefficient m i j k))
          unfolding worked
          rows_2 i h =
              is-2 i (omega arith)
              ∙ horner_ext by₂ (degree m 1) (λ j. get_or ys (i * (degree m 1 + 1) + j) (pos 0)) (λ j. horner by₃ (degree m 2) (λ k. coefficient m i j k)) (λ j l. rows_3 i j h l)

          all_worked : get_or os 0 (pos 0) ≡ horner by₁ (degree m 0) (λ i. horner by₂ (degree m 1) (λ j. horner by₃ (degree m 2) (λ k. coefficient m i j k)))
          unfolding worked
          all_worked =
              let first : (i : ℕ) → 0 * (degree m 0 + 1) + i ≡ i = λ i. omega arith in
              is-1 0 (lit< tt)
              ∙ horner_ext by₁ (degree m 0) (λ i. get_or zs (0 * (degree m 0 + 1) + i) (pos 0)) (λ i. horner by₂ (degree m 1) (λ j. horner by₃ (degree m 2) (λ k. coefficient m i j k)))
              (λ i l. ap (λ x. get_or zs x (pos 0)) (first i) ∙ rows_2 i l)

          -- as it is read back from 64 bits
          pub worked_off : to_z w64 (of_z w64 (get_or os 0 (pos 0))) ≡ horner by₁ (degree m 0) (λ i. horner by₂ (degree m 1) (λ j. horner by₃ (degree m 2) (λ k. coefficient m i j k)))
          worked_off = to_z-of_z w64 (get_or os 0 (pos 0)) (fits (2 ^ 43) (get_or os 0 (pos 0)) (lit< tt) (after_1 0 (lit< tt))) ∙ all_worked

-- ---- by factors that are read from a list
module _ (m : Mapping) (by : List Factor) (f g h : Factor) (first : f ≡ get_or by 0 no_factor) (second : g ≡ get_or by 1 no_factor) (third : h ≡ get_or by 2 no_factor) where
  abbrev worked_by : (Factor → ℤ → ℤ) → Factor → Factor → Factor → ℤ
  worked_by times x y z = horner (times x) (degree m 0) (λ i. horner (times y) (degree m 1) (λ j. horner (times z) (degree m 2) (λ k. coefficient m i j k)))

  read_from : (times : Factor → ℤ → ℤ) → worked_by times f g h ≡ worked_by times (get_or by 0 no_factor) (get_or by 1 no_factor) (get_or by 2 no_factor)
  read_from times = λ i. worked_by times (first i) (second i) (third i)

  pub low_over : worked_by low_of f g h ≡ nested_low m (factors by)
  unfolding nested_low
  low_over = read_from low_of

  pub high_over : worked_by high_of f g h ≡ nested_high m (factors by)
  unfolding nested_high
  high_over = read_from high_of
