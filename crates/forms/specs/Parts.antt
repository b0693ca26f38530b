-- Parts of [0, 1] and rational points of a cell, as the lemmas have them.
--     InPart d p u D     u/D lies in the part of [0, 1] with depth d and place p: from p/2^d to (p + 1)/2^d
--     CellPoint …        a rational point of the cell with depths d1, d2, d3 and places m1, m2, m3: u1/D, u2/D, u3/D
-- Assumes nothing.
use Rattle.std.specs.Prelude.{ℕ, suc, ◌*◌, ◌^◌, ◌<◌, ◌≤◌}

pub record InPart (d p u D : ℕ) : Type 0 where
  pub from : p * D ≤ u * 2 ^ d
  pub to : u * 2 ^ d ≤ suc p * D

pub record CellPoint (d1 m1 d2 m2 d3 m3 : ℕ) : Type 0 where
  pub u1 : ℕ
  pub u2 : ℕ
  pub u3 : ℕ
  pub D : ℕ
  pub D_pos : 0 < D
  pub u1_le : u1 ≤ D
  pub u2_le : u2 ≤ D
  pub u3_le : u3 ≤ D
  pub part1 : InPart d1 m1 u1 D
  pub part2 : InPart d2 m2 u2 D
  pub part3 : InPart d3 m3 u3 D
