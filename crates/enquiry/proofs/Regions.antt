-- The list of open regions under the two changes that calls make: a region becomes two, or leaves. Assumes nothing.
use Rattle.std.proofs.Common.{◌≡◌, ℕ, ◌+◌, ◌-◌, ◌<◌, ◌⊎◌, List, [], ◌∷◌, ◌++◌, length, get_or, take, set, sym, ap, ◌∙◌, subst, inl, inr, ⊎_elim, arith}
use Rattle.std.specs.List.{AllByRecursion, swap_remove}
use Rattle.std.proofs.ByRecursion.{All-get_or, All-set, All-push, All-take}
use Rattle.std.proofs.lemmas.List.{length-set, length-take, length_push, get_or-set_same, get_or-set_other, get_or_append_left, get_or_push, get_or-take}
use Rattle.std.proofs.lemmas.Bool.{cases_eq}
use Rattle.enquiry.specs.States.{no_row}
use Rattle.enquiry.specs.declared.table.Row.{Row}

-- some region has the property
abbrev pub SomeRow : (Row → Type 0) → List Row → Type 0
SomeRow P rows = (k : ℕ) × (k < length rows) × P (get_or rows k no_row)

module _ (P : Row → Type 0) (rows : List Row) (i : ℕ) (l : i < length rows) where
  -- region i becomes two
  pub all_halved : (a b : Row) → P a → P b → AllByRecursion P rows → AllByRecursion P (set rows i a ++ b ∷ [])
  all_halved a b p q all = All-push P (set rows i a) b (All-set P rows i a p all) q

  pub some_halved : (a b : Row) → (P (get_or rows i no_row) → P a ⊎ P b) → SomeRow P rows → SomeRow P (set rows i a ++ b ∷ [])
  some_halved a b split (k, h, p) =
      ⊎_elim
      (λ (e : k ≡ i).
      ⊎_elim
      (λ (pa : P a). (i, in_front i l, subst P (sym (in_place a b)) pa))
      (λ (pb : P b). (length rows, omega (arith, longer a b), subst P (sym (get_or_push (set rows i a) b no_row (length rows) (length-set rows i a))) pb))
      (split (subst (λ (j : ℕ). P (get_or rows j no_row)) e p)))
      (λ (ne : k ≡ i → ⊥). (k, in_front k h, subst P (sym (elsewhere a b k h ne)) p))
      (cases_eq k i)
    where
      longer : (a b : Row) → length (set rows i a ++ b ∷ []) ≡ length rows + 1
      longer a b = length_push (set rows i a) b ∙ ap (λ n. n + 1) (length-set rows i a)

      in_front : (j : ℕ) → j < length rows → j < length (set rows i a ++ b ∷ [])
      in_front j h = omega (arith, longer a b)

      in_place : (a b : Row) → get_or (set rows i a ++ b ∷ []) i no_row ≡ a
      in_place a b = get_or_append_left (set rows i a) (b ∷ []) no_row i (omega (arith, length-set rows i a)) ∙ get_or-set_same rows i a no_row l

      elsewhere : (a b : Row) (j : ℕ) → j < length rows → (j ≡ i → ⊥) → get_or (set rows i a ++ b ∷ []) j no_row ≡ get_or rows j no_row
      elsewhere a b j h ne = get_or_append_left (set rows i a) (b ∷ []) no_row j (omega (arith, length-set rows i a)) ∙ get_or-set_other rows i j a no_row ne

  -- region i leaves, and the last one takes its number
  pub all_without : AllByRecursion P rows → AllByRecursion P (swap_remove rows i no_row)
  all_without all =
      All-take P (length rows - 1) (set rows i (get_or rows (length rows - 1) no_row))
      (All-set P rows i (get_or rows (length rows - 1) no_row) (All-get_or P rows (length rows - 1) no_row (omega arith) all) all)

  pub some_without : SomeRow P rows → P (get_or rows i no_row) ⊎ SomeRow P (swap_remove rows i no_row)
  some_without (k, h, p) =
      ⊎_elim
      (λ (e : k ≡ i). inl (subst (λ (j : ℕ). P (get_or rows j no_row)) e p))
      (λ (ne : k ≡ i → ⊥).
      ⊎_elim
      (λ (e : k ≡ length rows - 1).
      inr (
        i,
        omega (arith, shorter),
        subst P (sym (get_or-take (length rows - 1) changed i no_row (omega arith) ∙ get_or-set_same rows i (get_or rows (length rows - 1) no_row) no_row l))
            (subst (λ (j : ℕ). P (get_or rows j no_row)) e p),
      ))
      (λ (nl : k ≡ length rows - 1 → ⊥).
      inr (
        k,
        omega (arith, shorter),
        subst P (sym (get_or-take (length rows - 1) changed k no_row (omega arith) ∙ get_or-set_other rows i k (get_or rows (length rows - 1) no_row) no_row ne)) p,
      ))
      (cases_eq k (length rows - 1)))
      (cases_eq k i)
    where
      changed : List Row
      changed = set rows i (get_or rows (length rows - 1) no_row)

      shorter : length (take (length rows - 1) (set rows i (get_or rows (length rows - 1) no_row))) ≡ length rows - 1
      shorter =
          length-take (length rows - 1) (set rows i (get_or rows (length rows - 1) no_row))
          ∙ omega (arith, length-set rows i (get_or rows (length rows - 1) no_row))
