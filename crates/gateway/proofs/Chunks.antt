-- A list that is cut into nines has its cells in the pieces. Assumes nothing.
use mathlib.Core.Bool.{false≢true}
use Rattle.std.proofs.Common.{◌≡◌, ℕ, zero, suc, ◌*◌, ◌%◌, ◌<◌, Bool, true, false, List, [], take, drop, length, get_or, Some, None, Option, MatchOption, Decides, All, is_some, sym, refl, ap, ◌∙◌, subst, arith, drop-drop}
use Rattle.std.specs.Bool.{then_some}
use Rattle.std.specs.Simd.{first_chunks}
use Rattle.mapping.specs.Cells.{Valid}
use Rattle.mapping.specs.Packed.{unpacked}
use Rattle.mapping.specs.declared.cell.Cell.{Cell}
use Rattle.mapping.specs.declared.cell.Shape.{Shape}
use Rattle.mapping.proofs.Halving.{valid_cell}
use Rattle.gateway.specs.Enclosing.{cells, Listed, Cut}

-- a shape is within the limits where a cell is made from it
pub made : (o : Option Cell) (s : Shape) → MatchOption o (Valid s → ⊥) (λ c. c.shape ≡ s) → Decides (is_some o) (Valid s)
made None s n = (λ e. absurd (false≢true e), λ v. absurd (n v))
made (Some c) s e = (λ _. subst Valid e (valid_cell c), λ _. refl)

piece : (cs : List ℕ) (n k : ℕ) (d : List ℕ) → k < n → get_or (first_chunks 9 n cs) k d ≡ take 9 (drop (9 * k) cs)
piece cs zero k d below = absurd (omega arith)
piece cs (suc n) zero d below = refl
piece cs (suc n) (suc k) d below = piece (drop 9 cs) n k d (omega arith) ∙ ap (take 9) (drop-drop (9 * k) 9 cs ∙ ap (λ i. drop i cs) (omega arith))

module _ (cs : List ℕ) (pieces : List (List ℕ)) (cut : pieces ≡ first_chunks 9 (cells cs) cs) (many : length pieces ≡ cells cs) where
  same_piece : (k : ℕ) (d : List ℕ) → k < cells cs → get_or pieces k d ≡ take 9 (drop (9 * k) cs)
  same_piece k d below = ap (λ ps. get_or ps k d) cut ∙ piece cs (cells cs) k d below

  pub all_cells : length cs % 9 ≡ 0 → All (λ p. Valid (unpacked p)) pieces → Cut cs pieces
  all_cells whole all = record {
    listed = record { whole = whole; valid = λ k h. subst (λ p. Valid (unpacked p)) (same_piece k [] h) (all k [] (omega arith)) };
    many = many;
    each = λ k h. ap unpacked (same_piece k [] h);
  }

  pub each_cell : Listed cs → All (λ p. Valid (unpacked p)) pieces
  each_cell ok k d h = subst (λ p. Valid (unpacked p)) (sym (same_piece k d (omega arith))) (ok.valid k (omega arith))

-- what is given on a condition
pub given_when : {X : Type 0} (b : Bool) (x : X) (P : Type 0) (Q : X → Type 0) → (b ≡ true → Q x) → (b ≡ false → P) → MatchOption (then_some b x) P Q
given_when true x P Q on_true on_false = on_true refl
given_when false x P Q on_true on_false = on_false refl
