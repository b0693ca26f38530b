-- The states that calls leave, from what the parts of the code answer. Assumes nothing.
use Rattle.std.proofs.Common.{◌≡◌, ℕ, ◌-◌, List, [], ◌∷◌, ◌++◌, set, Some, None, Option, sym, ap, ◌∙◌, ap₂}
use Rattle.std.specs.List.{slice_get}
use Rattle.std.proofs.lemmas.Option.{get_or_from_slice_get}
use Rattle.mapping.specs.Cells.{box, half}
use Rattle.mapping.specs.declared.cell.Cell.{Cell}
use Rattle.mapping.specs.declared.mapping.Mapping.{Mapping}
use Rattle.forms.specs.declared.answer.Answer.{Answer}
use Rattle.enquiry.specs.CellOf.{cell_of}
use Rattle.enquiry.specs.States.{State, row_of, no_row, region_at, opened}
use Rattle.enquiry.specs.Steps.{shape_of, tightened, half_row, halved}
use Rattle.enquiry.specs.declared.table.Row.{Row}
use Rattle.enquiry.specs.declared.witness.Witness.{Witness}
use Rattle.enquiry.proofs.Cells.{cell_of_shape}

abbrev pub state : List Row → Option Answer → Option Witness → State
state rows cleared witness = record { rows = rows; cleared = cleared; witness = witness }

module _ (ask : Mapping → Cell → Answer) (m : Mapping) where
  pub opened_is : (c : Cell) (a : Answer) (rows : List Row)
      → c.shape ≡ box → a ≡ ask m c → rows ≡ row_of c.shape a ∷ [] → state rows None None ≡ opened ask m
  unfolding opened
  opened_is c a rows e f h =
      ap (λ rs. state rs None None)
      (h ∙ ap₂ (λ s x. row_of s x ∷ []) e (f ∙ ap (ask m) (cell_of_shape c box e)))

  -- one half, from the code's cells
  pub half_is : (r : Row) (c h : Cell) (v side : ℕ) (x : Row)
      → c ≡ cell_of r.shape → h.shape ≡ half c.shape v side → x ≡ tightened r h.shape (ask m h) → x ≡ half_row ask m r v side
  half_is r c h v side x e f g =
      let shape : h.shape ≡ half (shape_of r) v side = f ∙ ap (λ y. half y.shape v side) e in
      g ∙ ap₂ (λ s y. tightened r s (ask m y)) shape (cell_of_shape h (half (shape_of r) v side) shape)

  pub halved_is : (s : State) (i n : ℕ) (r low high : Row) (mid rows : List Row)
      → Some r ≡ slice_get s.rows i → low ≡ half_row ask m r (n - 1) 0 → high ≡ half_row ask m r (n - 1) 1
      → mid ≡ set s.rows i low → rows ≡ mid ++ high ∷ []
      → state rows s.cleared s.witness ≡ halved ask m s i n
  halved_is s i n r low high mid rows e f g h k =
      let is : r ≡ region_at s i = sym (get_or_from_slice_get s.rows i r no_row (sym e)) in
      ap (λ x. state x s.cleared s.witness)
      (k ∙ ap₂ (λ xs y. xs ++ y ∷ [])
      (h ∙ ap (set s.rows i) (f ∙ ap (λ z. half_row ask m z (n - 1) 0) is))
      (g ∙ ap (λ z. half_row ask m z (n - 1) 1) is))
