-- Arrays that are written place after place.
--     Upto d f g t xs    the places of xs below t hold f, the others g; d stands for what is past the end
-- Assumes nothing.
use Rattle.std.proofs.Common.{◌≡◌, ℕ, zero, suc, ◌+◌, ◌<◌, ◌≤◌, ◌≢◌, List, length, get_or, set, replicate, refl, ◌∙◌, arith, get_or-set_other, get_or-set_same, below_more}

abbrev pub Upto : {A : Type 0} → A → (ℕ → A) → (ℕ → A) → ℕ → List A → Type 0
Upto d f g t xs = ((j : ℕ) → j < t → get_or xs j d ≡ f j) × ((j : ℕ) → t ≤ j → get_or xs j d ≡ g j)

module _ {A : Type 0} (d : A) (f g : ℕ → A) where
  pub upto_none : (xs : List A) → ((j : ℕ) → get_or xs j d ≡ g j) → Upto d f g 0 xs
  upto_none xs h = (λ j l. absurd (omega arith), λ j l. h j)

  pub upto_more : (t : ℕ) (xs : List A) (y : A) → t < length xs → y ≡ f t → Upto d f g t xs → Upto d f g (t + 1) (set xs t y)
  upto_more t xs y inside e h = (
    below_more (λ j. get_or (set xs t y) j d ≡ f j) t
        (λ j l. let other : j ≢ t = omega arith in get_or-set_other xs t j y d other ∙ h.0 j l)
        (get_or-set_same xs t y d inside ∙ e),
    λ j l. let other : j ≢ t = omega arith in get_or-set_other xs t j y d other ∙ h.1 j (omega arith),
  )

-- an array of one number throughout
pub throughout : {A : Type 0} (d : A) (n j : ℕ) → get_or (replicate n d) j d ≡ d
throughout d zero j = refl
throughout d (suc n) zero = refl
throughout d (suc n) (suc j) = throughout d n j
