-- Sample mappings, and what the forms answer for them. All have kind 0 and shift 0.
--     hump               one input, 800x − 800x²: rises to 200 in the middle, which the ends do not show
--     ramp               one input, 300x: leaves an 8-bit register
--     dip                one input, −x, written with degree 2: its lower half shows which way a quotient is rounded
--     twist              two inputs, 100xy
--     whole, lower, upper    the box, and its lower and its upper half along input 1
--     figures            for each, the numbers that a definition gives, and those that it is to give
-- Assumes nothing.
use Rattle.std.specs.Prelude.{◌≡◌, ℕ, zero, suc, ◌^◌, ◌<◌, ◌≤◌, List, [], ◌∷◌, ◌++◌, length, replicate, ℤ, pos, negsuc, slice_index, slice_index_or, refl}
use Rattle.std.proofs.Common.{le_trans, arith, sym, subst, lit<, lit≤}
use Rattle.std.specs.Int.Signed.{mag}
use Rattle.std.specs.List.{AllByRecursion}
use Rattle.mapping.specs.Cells.{whole_part, depth, place}
use Rattle.mapping.specs.Terms.{terms}
use Rattle.mapping.specs.declared.cell.Cell.{Cell}
use Rattle.mapping.specs.declared.cell.Shape.{Shape}
use Rattle.mapping.specs.declared.kind.Kind.TheVariants.{Unsigned8}
use Rattle.mapping.specs.declared.mapping.Mapping.{Mapping}
use Rattle.forms.specs.Nested.{nested, corner_ends}
use Rattle.forms.specs.Bernstein.{bernstein}
use Rattle.forms.specs.declared.answer.Answer.{Answer}

-- ---- the limits of a mapping with given numbers

-- a fact of each of the three inputs
pub three : (P : ℕ → Type 0) → P 0 → P 1 → P 2 → (v : ℕ) → v < 3 → P v
three P a b c zero h = a
three P a b c (suc zero) h = b
three P a b c (suc (suc zero)) h = c
three P a b c (suc (suc (suc v))) h = absurd (omega arith)

-- a table of 64 coefficients, of which the first are given
abbrev pub padded : List ℤ → ℕ → List ℤ
padded cs n = cs ++ replicate n (pos 0)

zeros : (n k : ℕ) → slice_index_or (replicate n (pos 0)) k (pos 0) ≡ pos 0
zeros zero k = refl
zeros (suc n) zero = refl
zeros (suc n) (suc k) = zeros n k

pub padded_zero : (cs : List ℤ) (n k : ℕ) → length cs ≤ k → slice_index_or (padded cs n) k (pos 0) ≡ pos 0
padded_zero [] n k h = zeros n k
padded_zero (c ∷ cs) n zero h = absurd (omega arith)
padded_zero (c ∷ cs) n (suc k) h = padded_zero cs n k (omega arith)

pub padded_narrow : (cs : List ℤ) (n k : ℕ) → AllByRecursion (λ c. mag c < 2 ^ 31) cs → mag (slice_index_or (padded cs n) k (pos 0)) < 2 ^ 31
padded_narrow [] n k h = subst (λ (z : ℤ). mag z < 2 ^ 31) (sym (zeros n k)) (lit< tt)
padded_narrow (c ∷ cs) n zero h = h.0
padded_narrow (c ∷ cs) n (suc k) h = padded_narrow cs n k h.1

-- a mapping of kind 0 and shift 0
abbrev pub sample : (s n₁ n₂ n₃ : ℕ) (cs : List ℤ) (rest : ℕ) → 1 ≤ s → s ≤ 3 → n₁ ≤ 7 → n₂ ≤ 7 → n₃ ≤ 7
    → (s ≤ 1 → n₂ ≡ 0) → (s ≤ 2 → n₃ ≡ 0) → terms (n₁ ∷ (n₂ ∷ (n₃ ∷ []))) ≤ 64 → length cs ≤ terms (n₁ ∷ (n₂ ∷ (n₃ ∷ [])))
    → length (padded cs rest) ≡ 64 → AllByRecursion (λ c. mag c < 2 ^ 31) cs → Mapping
sample s n₁ n₂ n₃ cs rest some few l₁ l₂ l₃ a₂ a₃ small count long slim = record {
  inputs = s;
  degrees = n₁ ∷ (n₂ ∷ (n₃ ∷ []));
  kind = Unsigned8;
  shift = 0;
  coefficients = padded cs rest;
  some = some;
  few = few;
  three = refl;
  low = three (λ v. slice_index (n₁ ∷ (n₂ ∷ (n₃ ∷ []))) v ≤ 7) l₁ l₂ l₃;
  absent = λ v h l. three (λ v. s ≤ v → slice_index (n₁ ∷ (n₂ ∷ (n₃ ∷ []))) v ≡ 0) (λ h. absurd (omega arith)) a₂ a₃ v l h;
  small = small;
  fine = lit≤ tt;
  table = long;
  narrow = λ k. padded_narrow cs rest k slim;
  unused = λ k h. padded_zero cs rest k (le_trans count h);
}

-- ---- the mappings

abbrev pub hump : Mapping
hump =
    sample 1 2 0 0 (pos 0 ∷ (pos 800 ∷ (negsuc 799 ∷ []))) 61
    (lit≤ tt) (lit≤ tt) (lit≤ tt) (lit≤ tt) (lit≤ tt) (λ h. refl) (λ h. refl) (lit≤ tt) (lit≤ tt) refl (lit< tt, (lit< tt, (lit< tt, tt)))

abbrev pub ramp : Mapping
ramp =
    sample 1 1 0 0 (pos 0 ∷ (pos 300 ∷ [])) 62
    (lit≤ tt) (lit≤ tt) (lit≤ tt) (lit≤ tt) (lit≤ tt) (λ h. refl) (λ h. refl) (lit≤ tt) (lit≤ tt) refl (lit< tt, (lit< tt, tt))

abbrev pub dip : Mapping
dip =
    sample 1 2 0 0 (pos 0 ∷ (negsuc 0 ∷ (pos 0 ∷ []))) 61
    (lit≤ tt) (lit≤ tt) (lit≤ tt) (lit≤ tt) (lit≤ tt) (λ h. refl) (λ h. refl) (lit≤ tt) (lit≤ tt) refl (lit< tt, (lit< tt, (lit< tt, tt)))

abbrev pub twist : Mapping
twist =
    sample 2 1 1 0 (pos 0 ∷ (pos 0 ∷ (pos 0 ∷ (pos 100 ∷ [])))) 60
    (lit≤ tt) (lit≤ tt) (lit≤ tt) (lit≤ tt) (lit≤ tt) (λ h. absurd (omega arith)) (λ h. refl) (lit≤ tt) (lit≤ tt) refl (lit< tt, (lit< tt, (lit< tt, (lit< tt, tt))))

-- ---- the cells

-- input 1 at this depth and place, the others whole
abbrev pub along_one : (d q : ℕ) → d ≤ 10 → q < 2 ^ d → Cell
along_one d q shallow inside =
    let s : Shape = record { parts = record { depth = d; place = q } ∷ (whole_part ∷ (whole_part ∷ [])) } in
    record {
      shape = s;
      three = refl;
      shallow = three (λ v. depth s v ≤ 10) shallow (lit≤ tt) (lit≤ tt);
      inside = three (λ v. place s v < 2 ^ depth s v) inside (lit< tt) (lit< tt);
    }

abbrev pub whole : Cell
whole = along_one 0 0 (lit≤ tt) (lit< tt)

abbrev pub lower : Cell
lower = along_one 1 0 (lit≤ tt) (lit< tt)

abbrev pub upper : Cell
upper = along_one 1 1 (lit≤ tt) (lit< tt)

-- ---- the figures

-- low end, high end and slack of an answer; low and high end alone
abbrev pub numbers : Answer → List ℤ
numbers a = a.low ∷ (a.high ∷ (a.slack ∷ []))

abbrev pub ends : ℤ × ℤ → List ℤ
ends e = e.0 ∷ (e.1 ∷ [])

abbrev pub figures : List (List ℤ × List ℤ)
figures =
    (numbers (bernstein hump whole), pos 0 ∷ (pos 400 ∷ (pos 401 ∷ [])))
    ∷ ((numbers (nested hump whole), pos 0 ∷ (pos 800 ∷ (pos 2404 ∷ [])))
    ∷ ((numbers (bernstein hump lower), pos 0 ∷ (pos 200 ∷ (pos 102 ∷ [])))
    ∷ ((numbers (nested hump upper), pos 0 ∷ (pos 400 ∷ (pos 1204 ∷ [])))
    ∷ ((numbers (bernstein ramp whole), pos 0 ∷ (pos 300 ∷ (pos 1 ∷ [])))
    ∷ ((ends (corner_ends ramp whole.shape 1), pos 300 ∷ (pos 300 ∷ []))
    ∷ ((numbers (bernstein dip whole), negsuc 0 ∷ (pos 0 ∷ (pos 1 ∷ [])))
    ∷ ((numbers (bernstein dip lower), negsuc 0 ∷ (pos 0 ∷ (pos 2 ∷ [])))
    ∷ ((numbers (nested twist whole), pos 0 ∷ (pos 100 ∷ (pos 206 ∷ [])))
    ∷ ((numbers (nested twist upper), pos 0 ∷ (pos 100 ∷ (pos 156 ∷ [])))
    ∷ [])))))))))

-- each definition gives its numbers
abbrev pub Stand : Type 0
Stand = AllByRecursion (λ f. f.0 ≡ f.1) figures
