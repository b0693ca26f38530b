-- The answers over some cells, one more at a time. Assumes nothing.
use Rattle.std.proofs.Common.{◌≡◌, ℕ, ◌+◌, ◌*◌, ◌<◌, List, length, get_or, ℤ, pos, sym, ap, ◌∙◌, subst, arith}
use native.Mathlib.Decide.{dec_lt}
use Rattle.mapping.specs.declared.cell.Cell.{Cell}
use Rattle.mapping.specs.declared.cell.Shape.{Shape}
use Rattle.forms.specs.declared.answer.Answer.{Answer}
use Rattle.enquiry.proofs.Cells.{same_cell}
use Rattle.gateway.specs.Enclosing.{AnswersOver, Holds, Behind}

-- three numbers that stay where they are
pub still_holds : (a : Answer) (before after : List ℤ) (at : ℕ) → ((j : ℕ) → j < at + 3 → get_or after j (pos 0) ≡ get_or before j (pos 0)) → Holds a before at → Holds a after at
still_holds a before after at same h =
    record {
      low = same at (omega arith) ∙ h.low;
      high = same (at + 1) (omega arith) ∙ h.high;
      slack = same (at + 2) (omega arith) ∙ h.slack;
    }

-- the answers so far, and that of cell k
pub one_more : (ask : Cell → Answer) (shape : ℕ → Shape) (before after : List ℤ) (k : ℕ) (cell : Cell) → cell.shape ≡ shape k → AnswersOver ask shape k before → Holds (ask cell) after (3 * k)
    → ((j : ℕ) → j < 3 * k → get_or after j (pos 0) ≡ get_or before j (pos 0)) → AnswersOver ask shape (k + 1) after
one_more ask shape before after k cell here held new same j c below is = by_place (dec_lt j k)
  where
    by_place : Dec (j < k) → Holds (ask c) after (3 * j)
    by_place (yes earlier) = still_holds (ask c) before after (3 * j) (λ i h. same i (omega arith)) (held j c earlier is)
    by_place (no not) =
        let last : j ≡ k = omega arith in
        let same_place : Holds (ask c) after (3 * k) = subst (λ d. Holds (ask d) after (3 * k)) (same_cell cell c (here ∙ sym (is ∙ ap shape last))) new in
        subst (λ i. Holds (ask c) after (3 * i)) (sym last) same_place

-- nothing behind the answers is touched
pub behind_more : (k : ℕ) (first before after : List ℤ) → Behind (3 * k) first before → length after ≡ length before → ((j : ℕ) → 3 * k + 2 < j → get_or after j (pos 0) ≡ get_or before j (pos 0)) → Behind (3 * (k + 1)) first after
behind_more k first before after so_far size same =
    record { size = size ∙ so_far.size; same = λ j h. same j (omega arith) ∙ so_far.same j (omega arith) }
