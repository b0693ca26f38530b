-- The places of the table: what a change of them does to the list of open regions, the first `count`. Assumes nothing.
use Rattle.std.proofs.Common.{◌≡◌, ℕ, ◌-◌, ◌<◌, ◌≤◌, List, length, get_or, take, set, sym, ap, ◌∙◌, arith}
use lib.Seq.{take-set-lt}
use Rattle.std.proofs.lemmas.List.{length-take-le, get_or-take, get_or_default, take-take}
use Rattle.enquiry.specs.States.{no_row}
use Rattle.std.specs.List.{swap_remove}
use Rattle.enquiry.specs.declared.table.Row.{Row}

module _ (places : List Row) (count : ℕ) (room : count ≤ length places) where
  pub length_open : length (take count places) ≡ count
  length_open = length-take-le count places room

  pub row_put : (i : ℕ) (r : Row) → i < length (take count places) → take count (set places i r) ≡ set (take count places) i r
  row_put i r l = take-set-lt count places i r (omega (arith, length_open))

  pub row_removed : (i : ℕ) (d : Row) → i < length (take count places) → take (count - 1) (set places i (get_or places (count - 1) d)) ≡ swap_remove (take count places) i no_row
  row_removed i d l =
      let n : length (take count places) ≡ count = length_open in
      let last = get_or (take count places) (length (take count places) - 1) no_row in
      let same : get_or places (count - 1) d ≡ last =
      get_or_default places (count - 1) d no_row (omega (arith, room)) ∙ sym (get_or-take count places (count - 1) no_row (omega arith)) ∙ ap (λ k. get_or (take count places) (k - 1) no_row) (sym n) in
      ap (λ r. take (count - 1) (set places i r)) same
      ∙ sym (take-take (count - 1) count (set places i last) (omega arith))
      ∙ ap (take (count - 1)) (row_put i last l)
      ∙ ap (λ k. take (k - 1) (set (take count places) i last)) (sym n)
