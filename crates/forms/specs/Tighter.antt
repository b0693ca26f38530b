-- A pair keeps the rules of a form where its parts do. Assumes nothing.
use Rattle.std.specs.Prelude.{◌≡◌, ◌⊎◌, ℤ, ◌+ℤ◌, ◌-ℤ◌, ◌≤ℤ◌}
use Rattle.std.proofs.Common.{sym, subst, inl, inr, ⊎_elim, arith}
use Rattle.std.specs.Int.{int_max, int_min}
use Rattle.std.proofs.lemmas.Int.{clamps}
use Rattle.arith.proofs.Ring.{lin}
use Rattle.arith.proofs.Order.{total}
use Rattle.mapping.specs.Points.{Point, Rational, In}
use Rattle.mapping.specs.Values.{AtLeast, AtMost}
use Rattle.mapping.specs.declared.mapping.Mapping.{Mapping}
use Rattle.mapping.specs.declared.cell.Cell.{Cell}
use Rattle.mapping.proofs.Bounds.{at_least_weaker, at_most_weaker}
use Rattle.forms.specs.Rules.{Rules}
use Rattle.forms.specs.Pairs.{both}
use Rattle.forms.specs.declared.answer.Answer.{Answer}

-- the greater and the smaller of two numbers are one of them
max_one : (x y : ℤ) → (int_max x y ≡ x) ⊎ (int_max x y ≡ y)
max_one x y = ⊎_elim (λ (h : x ≤ℤ y). inr (omega (arith, lin, clamps))) (λ (h : y ≤ℤ x). inl (omega (arith, lin, clamps))) (total x y)

min_one : (x y : ℤ) → (int_min x y ≡ x) ⊎ (int_min x y ≡ y)
min_one x y = ⊎_elim (λ (h : x ≤ℤ y). inl (omega (arith, lin, clamps))) (λ (h : y ≤ℤ x). inr (omega (arith, lin, clamps))) (total x y)

-- a point near the low end within one slack is near the greater low end within it, and so on the high side
low_nearer : (l k s t : ℤ) → int_min s t ≡ s → (l +ℤ s) ≤ℤ (int_max l k +ℤ int_min s t)
low_nearer l k s t e = omega (arith, lin, clamps)

high_nearer : (h k s t : ℤ) → int_min s t ≡ s → (int_min h k -ℤ int_min s t) ≤ℤ (h -ℤ s)
high_nearer h k s t e = omega (arith, lin, clamps)

low_nearer' : (l k s t : ℤ) → int_min s t ≡ t → (k +ℤ t) ≤ℤ (int_max l k +ℤ int_min s t)
low_nearer' l k s t e = omega (arith, lin, clamps)

high_nearer' : (h k s t : ℤ) → int_min s t ≡ t → (int_min h k -ℤ int_min s t) ≤ℤ (k -ℤ t)
high_nearer' h k s t e = omega (arith, lin, clamps)

module _ (f g : Mapping → Cell → Answer) (rf : Rules f) (rg : Rules g) where
  pub pair_rules : Rules (both f g)
  pair_rules = record {
    low_holds = λ m c p r i.
        ⊎_elim
        (λ (e : int_max (f m c).low (g m c).low ≡ (f m c).low). subst (AtLeast m p) (sym e) (rf.low_holds m c p r i))
        (λ (e : int_max (f m c).low (g m c).low ≡ (g m c).low). subst (AtLeast m p) (sym e) (rg.low_holds m c p r i))
        (max_one (f m c).low (g m c).low);
    high_holds = λ m c p r i.
        ⊎_elim
        (λ (e : int_min (f m c).high (g m c).high ≡ (f m c).high). subst (AtMost m p) (sym e) (rf.high_holds m c p r i))
        (λ (e : int_min (f m c).high (g m c).high ≡ (g m c).high). subst (AtMost m p) (sym e) (rg.high_holds m c p r i))
        (min_one (f m c).high (g m c).high);
    low_near = λ m c.
        let near : ((int_min (f m c).slack (g m c).slack ≡ (f m c).slack) ⊎ (int_min (f m c).slack (g m c).slack ≡ (g m c).slack)) → (p : Point) × Rational p × In p c.shape × AtMost m p ((both f g m c).low +ℤ (both f g m c).slack) =
        ⊎_elim
        (λ e. let n = rf.low_near m c in (n.0, n.1, n.2, at_most_weaker m n.0 _ _ (low_nearer (f m c).low (g m c).low (f m c).slack (g m c).slack e) n.3))
        (λ e. let n = rg.low_near m c in (n.0, n.1, n.2, at_most_weaker m n.0 _ _ (low_nearer' (f m c).low (g m c).low (f m c).slack (g m c).slack e) n.3)) in
        near (min_one (f m c).slack (g m c).slack);
    high_near = λ m c.
        let near : ((int_min (f m c).slack (g m c).slack ≡ (f m c).slack) ⊎ (int_min (f m c).slack (g m c).slack ≡ (g m c).slack)) → (p : Point) × Rational p × In p c.shape × AtLeast m p ((both f g m c).high -ℤ (both f g m c).slack) =
        ⊎_elim
        (λ e. let n = rf.high_near m c in (n.0, n.1, n.2, at_least_weaker m n.0 _ _ (high_nearer (f m c).high (g m c).high (f m c).slack (g m c).slack e) n.3))
        (λ e. let n = rg.high_near m c in (n.0, n.1, n.2, at_least_weaker m n.0 _ _ (high_nearer' (f m c).high (g m c).high (f m c).slack (g m c).slack e) n.3)) in
        near (min_one (f m c).slack (g m c).slack);
  }
