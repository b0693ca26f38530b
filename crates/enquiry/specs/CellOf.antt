-- From plain numbers to a cell.
--     whole_parts        the box is whole along every input
--     whole              the cell of the whole box
--     valid? s           whether the shape is within the limits
--     cell_when s d      the cell of the shape, by what was decided
--     cell_of s          the cell of the shape; the whole box where the shape is outside the limits
-- Assumes nothing.
use Rattle.std.specs.Prelude.{◌≡◌, ℕ, zero, suc, ◌^◌, ◌<◌, ◌≤◌, ◌⊎◌, length, slice_index_or, refl}
use Rattle.std.proofs.Math.Decide.{dec_le, dec_lt, ℕ_discrete}
use Rattle.std.proofs.Common.{arith, sym, subst, inl, inr, ⊎_elim}
use Rattle.mapping.specs.Cells.{whole_part, depth, place, Valid, box}
use Rattle.mapping.specs.declared.cell.Part.{Part}
use Rattle.mapping.specs.declared.cell.Shape.{Shape}
use Rattle.mapping.specs.declared.cell.Cell.{Cell}

pub whole_parts : (v : ℕ) → slice_index_or box.parts v whole_part ≡ whole_part
whole_parts zero = refl
whole_parts (suc zero) = refl
whole_parts (suc (suc zero)) = refl
whole_parts (suc (suc (suc v))) = refl

abbrev pub whole : Cell
whole = record {
  shape = box;
  three = refl;
  shallow = λ v h. subst (λ (p : Part). p.depth ≤ 10) (sym (whole_parts v)) (omega arith);
  inside = λ v h. subst (λ (p : Part). p.place < 2 ^ p.depth) (sym (whole_parts v)) (omega arith);
}

-- a fact that is decided for each input is decided for all of them
each? : (P : ℕ → Type 0) → ((v : ℕ) → Dec (P v)) → (n : ℕ) → Dec ((v : ℕ) → v < n → P v)
each? P d zero = yes (λ v h. absurd (omega arith))
each? P d (suc n) = join (each? P d n) (d n)
  where
    last : (v : ℕ) → v < suc n → (v < n) ⊎ (v ≡ n)
    last v h = elim (dec_lt v n) [ yes l ↦ inl l | no l ↦ inr (omega arith) ]

    join : Dec ((v : ℕ) → v < n → P v) → Dec (P n) → Dec ((v : ℕ) → v < suc n → P v)
    join (yes below) (yes here) = yes (λ v h. ⊎_elim (below v) (λ (e : v ≡ n). subst P (sym e) here) (last v h))
    join (yes below) (no not) = no (λ all. not (all n (omega arith)))
    join (no not) here = no (λ all. not (λ v h. all v (omega arith)))

pub valid? : (s : Shape) → Dec (Valid s)
valid? s =
    join (ℕ_discrete (length s.parts) 3)
    (each? (λ v. depth s v ≤ 10) (λ v. dec_le (depth s v) 10) 3)
    (each? (λ v. place s v < 2 ^ depth s v) (λ v. dec_lt (place s v) (2 ^ depth s v)) 3)
  where
    join : Dec (length s.parts ≡ 3) → Dec ((v : ℕ) → v < 3 → depth s v ≤ 10) → Dec ((v : ℕ) → v < 3 → place s v < 2 ^ depth s v) → Dec (Valid s)
    join (yes a) (yes b) (yes c) = yes (record { three = a; shallow = b; inside = c })
    join (yes a) (yes b) (no c) = no (λ ok. c ok.inside)
    join (yes a) (no b) c = no (λ ok. b ok.shallow)
    join (no a) b c = no (λ ok. a ok.three)

abbrev pub cell_when : (s : Shape) → Dec (Valid s) → Cell
cell_when s (yes ok) = record { shape = s; three = ok.three; shallow = ok.shallow; inside = ok.inside }
cell_when s (no not) = whole

unfoldable pub cell_of : Shape → Cell
cell_of s = cell_when s (valid? s)
