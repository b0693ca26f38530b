-- The least number of an array is that of the table that it fills. Assumes nothing.
use Rattle.std.proofs.Common.{◌≡◌, ℕ, zero, suc, ◌+◌, ◌-◌, ◌<◌, ◌≤◌, List, ◌∷◌, length, get_or, take, drop, ℤ, pos, neg_ℤ, sym, refl, ap, ◌∙◌, subst, ap₂, add-one, one-add, arith, length-drop, length-take, get_or-drop, get_or-take, w64, SFits, to_z, of_z}
use Rattle.std.specs.Int.{int_min}
use Rattle.std.proofs.lemmas.Int.{to_z-of_z}
use Rattle.arith.specs.Rounding.{quot_down}
use Rattle.arith.proofs.Order.{le_trans, le_eq}
use Rattle.mapping.specs.Cells.{depth, place}
use Rattle.mapping.specs.Terms.{terms, flat}
use Rattle.mapping.specs.Values.{degree, coefficient}
use Rattle.mapping.specs.declared.mapping.Mapping.{Mapping}
use Rattle.mapping.specs.declared.cell.Cell.{Cell}
use Rattle.mapping.proofs.Exponents.{flat_exponents}
use Rattle.forms.specs.Arrays.{numbers, grid, Fills}
use Rattle.forms.specs.Bernstein.{bernstein}
use Rattle.forms.specs.declared.side.Side.TheVariants.{Low, High}
use Rattle.forms.specs.Halving.{Row, mean_down}
use Rattle.forms.specs.Polynomial.{Table}
use Rattle.forms.specs.Stages.{end, minus, held, on_box, on_cell}
use Rattle.forms.specs.Tables.{first, least, least_of, low, low_table}
use Rattle.forms.specs.Worked.{Within}
use Rattle.forms.specs.Works.{EachWithin}
use Rattle.forms.proofs.Alike.{halved_reads, least_reads, least_of_reads}
use Rattle.forms.specs.Extremes.{least_le, least_at, Reached, least_of_only}
use Rattle.forms.specs.Mirror.{first_neg, high_mirror}
use Rattle.forms.proofs.Places.{exponent, exponent_first, exponent_second, exponent_third, flat_below}

pub least_one : (r : Row) → r 0 ≡ least 0 r
unfolding least
least_one r = refl

least_more : (n : ℕ) (r : Row) → int_min (least n r) (r (n + 1)) ≡ least (n + 1) r
unfolding least
least_more n r = rw (add-one n)

-- ---- a loop over the numbers of an array after the first

pub item_more : (k : ℕ) (z e x : ℤ) (xs : List ℤ) → SFits w64 (numbers xs k) → SFits w64 z → z ≡ int_min e (to_z w64 (of_z w64 (numbers xs k)))
    → e ≡ least k (numbers (x ∷ xs)) → to_z w64 (of_z w64 z) ≡ least (k + 1) (numbers (x ∷ xs))
item_more k z e x xs f g is so_far =
    let next : numbers (x ∷ xs) (k + 1) ≡ numbers xs k = ap (numbers (x ∷ xs)) (add-one k) in
    to_z-of_z w64 z g ∙ is ∙ ap₂ int_min so_far (to_z-of_z w64 (numbers xs k) f ∙ sym next) ∙ least_more k (numbers (x ∷ xs))

pub items_all : (n k : ℕ) (x : ℤ) (xs : List ℤ) → 0 < n → n ≤ length xs → x ≡ numbers xs 0 → k ≡ length (take (n - 1) (drop 1 xs))
    → least k (numbers (x ∷ take (n - 1) (drop 1 xs))) ≡ least (n - 1) (numbers xs)
items_all n k x xs some fit e end =
    let all : k ≡ n - 1 = end ∙ length-take (n - 1) (drop 1 xs) ∙ omega (arith, length-drop 1 xs) in
    ap (λ i. least i (numbers (x ∷ take (n - 1) (drop 1 xs)))) all
    ∙ least_reads (n - 1) (numbers (x ∷ take (n - 1) (drop 1 xs))) (numbers xs) at
  where
    at : (i : ℕ) → i ≤ n - 1 → numbers (x ∷ take (n - 1) (drop 1 xs)) i ≡ numbers xs i
    at zero l = e
    at (suc i) l = get_or-take (n - 1) (drop 1 xs) i (pos 0) l ∙ get_or-drop 1 xs i (pos 0) ∙ ap (numbers xs) (one-add i)

-- the first n numbers of an array
pub least_taken : (n : ℕ) (xs : List ℤ) → 0 < n → n ≤ length xs → least (length (take n xs) - 1) (numbers (take n xs)) ≡ least (n - 1) (numbers xs)
least_taken n xs some fit =
    let long : length (take n xs) ≡ n = length-take n xs ∙ omega arith in
    ap (λ i. least (i - 1) (numbers (take n xs))) long
    ∙ least_reads (n - 1) (numbers (take n xs)) (numbers xs) (λ i l. get_or-take n xs i (pos 0) (omega arith))

-- the least number keeps the bound of all
pub least_within : (b n : ℕ) (xs : List ℤ) → EachWithin b xs → Within b (least n (numbers xs))
least_within b n xs all = let s = least_at n (numbers xs) in subst (Within b) (sym s.2) (all s.0)

-- ---- an array and a table

module _ (ns : List ℕ) where
  -- a row by flat places, and a table with the same numbers
  abbrev Same : Row → Table → Type 0
  Same r T = (i j k : ℕ) → i ≤ get_or ns 0 0 → j ≤ get_or ns 1 0 → k ≤ get_or ns 2 0 → r (flat ns i j k) ≡ T i j k

  reached : (r : Row) (T : Table) → Same r T → (z : ℤ) (t : ℕ) → t < terms ns → z ≡ r t → Reached (get_or ns 0 0) (get_or ns 1 0) (get_or ns 2 0) T z
  reached r T h z t l e = record {
    i = exponent ns 0 t;
    j = exponent ns 1 t;
    k = exponent ns 2 t;
    i_le = exponent_first ns t l;
    j_le = exponent_second ns t l;
    k_le = exponent_third ns t l;
    is = e ∙ ap r (sym (flat_exponents ns t))
        ∙ h (exponent ns 0 t) (exponent ns 1 t) (exponent ns 2 t) (exponent_first ns t l) (exponent_second ns t l) (exponent_third ns t l);
  }

  pub least_flat : (r : Row) (T : Table) → 0 < terms ns → Same r T → least (terms ns - 1) r ≡ least_of (get_or ns 0 0) (get_or ns 1 0) (get_or ns 2 0) T
  least_flat r T some h =
      let s = least_at (terms ns - 1) r in
      let below : s.0 < terms ns = omega (arith, s.1) in
      least_of_only (get_or ns 0 0) (get_or ns 1 0) (get_or ns 2 0) T (least (terms ns - 1) r)
      (λ i j k il jl kl.
      le_trans (least_le (terms ns - 1) r (flat ns i j k) (omega (arith, flat_below ns i j k il jl kl))) (le_eq (h i j k il jl kl)))
      (reached r T h (least (terms ns - 1) r) s.0 below s.2)

-- ---- the ends of the enclosure

low_text : (m : Mapping) (c : Cell) (a : Table) → least_of (degree m 0) (degree m 1) (degree m 2) (on_cell Low m c (first quot_down (degree m 0) (degree m 1) (degree m 2) a))
    ≡ low (degree m 0) (degree m 1) (degree m 2) a (depth c.shape 0) (place c.shape 0) (depth c.shape 1) (place c.shape 1) (depth c.shape 2) (place c.shape 2)
unfolding low low_table
low_text m c a = refl

-- from an array that holds the coefficients on the box of some polynomial of the mapping's degrees, rounded down
from_box : (m : Mapping) (c : Cell) (a : Table) (xs : List ℤ) → Fills m.degrees xs (first quot_down (degree m 0) (degree m 1) (degree m 2) a)
    → least_of (degree m 0) (degree m 1) (degree m 2) (on_cell Low m c (grid m.degrees xs))
    ≡ low (degree m 0) (degree m 1) (degree m 2) a (depth c.shape 0) (place c.shape 0) (depth c.shape 1) (place c.shape 1) (depth c.shape 2) (place c.shape 2)
from_box m c a xs held =
    least_of_reads (degree m 0) (degree m 1) (degree m 2) (on_cell Low m c (grid m.degrees xs)) (on_cell Low m c (first quot_down (degree m 0) (degree m 1) (degree m 2) a))
    (halved_reads mean_down (degree m 0) (degree m 1) (degree m 2) (depth c.shape 0) (place c.shape 0) (depth c.shape 1) (place c.shape 1)
    (depth c.shape 2) (place c.shape 2) (grid m.degrees xs) (first quot_down (degree m 0) (degree m 1) (degree m 2) a) held)
    ∙ low_text m c a

pub low_end : (m : Mapping) (c : Cell) (xs : List ℤ) → Fills m.degrees xs (held Low (on_box Low m))
    → least_of (degree m 0) (degree m 1) (degree m 2) (on_cell Low m c (grid m.degrees xs)) ≡ end Low (bernstein m c)
unfolding bernstein
low_end m c xs low = from_box m c (coefficient m) xs low

-- the high end is minus the low end of minus the mapping
pub high_end : (m : Mapping) (c : Cell) (xs : List ℤ) → Fills m.degrees xs (held High (on_box High m))
    → neg_ℤ (least_of (degree m 0) (degree m 1) (degree m 2) (on_cell Low m c (grid m.degrees xs))) ≡ end High (bernstein m c)
unfolding bernstein
high_end m c xs high =
    ap neg_ℤ (from_box m c (minus (coefficient m)) xs (λ i j k il jl kl.
    high i j k il jl kl ∙ first_neg (degree m 0) (degree m 1) (degree m 2) (coefficient m) i j k))
    ∙ sym (high_mirror (degree m 0) (degree m 1) (degree m 2) (coefficient m) (depth c.shape 0) (place c.shape 0) (depth c.shape 1) (place c.shape 1)
    (depth c.shape 2) (place c.shape 2))
