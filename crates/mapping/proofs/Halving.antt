-- The halves of a cell: they are within the limits, and hold each point of the cell between them. Assumes nothing.
use Rattle.std.proofs.Common.{◌≡◌, ℕ, ◌+◌, ◌*◌, ◌^◌, ◌<◌, ◌≤◌, ◌⊎◌, sym, ap, ◌∙◌, subst, get_or, inl, inr, ⊎_elim, pow-suc, add-one, arith, length-set}
use Rattle.std.proofs.lemmas.List.{get_or-set_same, get_or-set_other}
use Rattle.std.proofs.lemmas.Bool.{cases_eq, cases_lt}
use Rattle.mapping.specs.Cells.{whole_part, depth, place, Valid, half_part, half}
use Rattle.mapping.specs.Points.{Point, Covers, In}
use Rattle.mapping.specs.declared.cell.Cell.{Cell}
use Rattle.mapping.specs.declared.cell.Part.{Part}
use Rattle.mapping.specs.declared.cell.Shape.{Shape}

pub valid_cell : (c : Cell) → Valid c.shape
valid_cell c = record { three = c.three; shallow = c.shallow; inside = c.inside }

-- a fact of depth and place at each input, after input v was given new ones
each_input : (P : ℕ → ℕ → ℕ → Type 0) (s : Shape) (v side : ℕ) → Valid s → v < 3
    → P v (depth s v + 1) (2 * place s v + side)
    → ((w : ℕ) → w < 3 → P w (depth s w) (place s w))
    → (w : ℕ) → w < 3 → P w (depth (half s v side) w) (place (half s v side) w)
each_input P s v side ok l here others w h =
    ⊎_elim
    (λ (e : w ≡ v).
    let new : get_or (half s v side).parts v whole_part ≡ half_part s v side = get_or-set_same s.parts v (half_part s v side) whole_part (omega (arith, ok.three)) in
    subst (λ (u : ℕ). P u (depth (half s v side) u) (place (half s v side) u)) (sym e) (subst (λ (p : Part). P v p.depth p.place) (sym new) here))
    (λ (n : w ≡ v → ⊥).
    subst (λ (p : Part). P w p.depth p.place) (sym (get_or-set_other s.parts v w (half_part s v side) whole_part n)) (others w h))
    (cases_eq w v)

pub half_valid : (s : Shape) (v side : ℕ) → Valid s → v < 3 → side < 2 → depth s v < 10 → Valid (half s v side)
half_valid s v side ok l b d = record {
  three = length-set s.parts v _ ∙ ok.three;
  shallow = each_input (λ w e q. e ≤ 10) s v side ok l (omega arith) ok.shallow;
  inside = each_input (λ w e q. q < 2 ^ e) s v side ok l (doubled (depth s v) (place s v) (ok.inside v l)) ok.inside;
}
  where
    doubled : (d q : ℕ) → q < 2 ^ d → 2 * q + side < 2 ^ (d + 1)
    doubled d q h = rw (add-one d, pow-suc 2 d) (omega arith)

-- one input: a point lies below or above the middle
split : (d q u D : ℕ) → Covers d q u D → Covers (d + 1) (2 * q + 0) u D ⊎ Covers (d + 1) (2 * q + 1) u D
split d q u D h =
    let e : u * 2 ^ (d + 1) ≡ 2 * (u * 2 ^ d) = ap (λ n. u * 2 ^ n) (add-one d) ∙ ap (λ n. u * n) (pow-suc 2 d) ∙ omega arith in
    ⊎_elim
    (λ (l : u * 2 ^ (d + 1) < (2 * q + 1) * D). inl (omega arith, omega arith))
    (λ (l : (2 * q + 1) * D ≤ u * 2 ^ (d + 1)). inr (omega arith, omega arith))
    (cases_lt (u * 2 ^ (d + 1)) ((2 * q + 1) * D))

pub half_covers : (s : Shape) (v : ℕ) (p : Point) → Valid s → v < 3 → In p s → In p (half s v 0) ⊎ In p (half s v 1)
half_covers s v p ok l h =
    let P : ℕ → ℕ → ℕ → Type 0 = λ w d q. Covers d q (p.numerator w) p.denominator in
    ⊎_elim
    (λ low. inl (each_input P s v 0 ok l low h))
    (λ high. inr (each_input P s v 1 ok l high h))
    (split (depth s v) (place s v) (p.numerator v) p.denominator (h v l))
