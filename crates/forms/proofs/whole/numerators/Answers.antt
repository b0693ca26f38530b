-- The numerators, input by input, and their sizes. Assumes nothing.
use Rattle.std.proofs.Common.{◌≡◌, ◌^◌, ◌≤◌, List, ℕ, get_or, sym, ap, ◌∙◌, subst, arith}
use mathlib.Core.Path.{fun_ext}
use Rattle.mapping.specs.Terms.{terms, flat}
use Rattle.mapping.specs.declared.mapping.Mapping.{Mapping}
use Rattle.forms.specs.Arrays.{numbers, Fills}
use Rattle.forms.specs.Tables.{numerator, along1, along2, along3}
use Rattle.forms.specs.Works.{weighed_row, summable, grown}
use Rattle.forms.specs.WorkLemmas.{weighed_reads, within_more, grows}
use Rattle.forms.proofs.Filling.{rolled, turned_back}
use Rattle.forms.proofs.Growth.{three_grown}
use Rattle.forms.proofs.Numbers.{weighed_along}
use Rattle.forms.proofs.RowSums.{coefficients_within}
use Rattle.forms.proofs.whole.numerators.Goals as goal

-- the degrees as the code has them
module _ (m : Mapping) (ns : List ℕ) (same : ns ≡ m.degrees) where
  few : terms ns ≤ 64
  few = subst (λ l. terms l ≤ 64) (sym same) m.small

  -- the bounds after one input, after two, and after all three
  abbrev one : ℕ
  one = grown (get_or ns 0 0) (2 ^ 31)

  abbrev two : ℕ
  two = grown (get_or ns 1 0) one

  last : grown (get_or ns 2 0) two ≤ summable
  last =
      subst (λ l. terms l ≤ 64 → grown (get_or l 2 0) (grown (get_or l 1 0) (grown (get_or l 0 0) (2 ^ 31))) ≤ summable) (sym same)
      (three_grown (get_or m.degrees 0 0) (get_or m.degrees 1 0) (get_or m.degrees 2 0) (omega (arith, m.low 0 (omega arith))) (omega (arith, m.low 1 (omega arith))) (omega (arith, m.low 2 (omega arith))))
      few

pub along-requires-clause-fit : goal.along-requires-clause-fit
along-requires-clause-fit c =
    let m = c.args.m.now in
    let ns = c.degrees.result in
    let e = c.degrees.ensures.value in
    record {
      bound = 2 ^ 31;
      each = coefficients_within m c.widen.new.table c.widen.ensures.value;
      room = omega (arith, last m ns e, grows (get_or ns 1 0) (one m ns e), grows (get_or ns 2 0) (two m ns e));
    }

pub along-requires-2-clause-small : goal.along-requires-2-clause-small
along-requires-2-clause-small c =
    let ns = c.degrees.result in
    (rolled (get_or ns 0 0) (get_or ns 1 0) (get_or ns 2 0) (few c.args.m.now ns c.degrees.ensures.value)).0

pub along-requires-2-clause-fit : goal.along-requires-2-clause-fit
along-requires-2-clause-fit c =
    let m = c.args.m.now in
    let ns = c.degrees.result in
    let e = c.degrees.ensures.value in
    record {
      bound = one m ns e;
      each = c.along.ensures.size (2 ^ 31) (coefficients_within m c.widen.new.table c.widen.ensures.value);
      room = omega (arith, last m ns e, grows (get_or ns 2 0) (two m ns e));
    }

pub along-requires-3-clause-small : goal.along-requires-3-clause-small
along-requires-3-clause-small c =
    let ns = c.degrees.result in
    (rolled (get_or ns 0 0) (get_or ns 1 0) (get_or ns 2 0) (few c.args.m.now ns c.degrees.ensures.value)).1

pub along-requires-3-clause-fit : goal.along-requires-3-clause-fit
along-requires-3-clause-fit c =
    let m = c.args.m.now in
    let ns = c.degrees.result in
    let e = c.degrees.ensures.value in
    record {
      bound = two m ns e;
      each = c.along-2.ensures.size (one m ns e) (c.along.ensures.size (2 ^ 31) (coefficients_within m c.widen.new.table c.widen.ensures.value));
      room = last m ns e;
    }

pub returns : goal.returns
returns c =
    let m = c.args.m.now in
    let ns = c.degrees.result in
    let e = c.degrees.ensures.value in
    let wide = c.widen.new.table in
    let zs = c.along-3.new.table in
    record {
      value =
          subst (λ l. Fills l zs (numerator (get_or l 0 0) (get_or l 1 0) (get_or l 2 0) (λ x y z. numbers m.coefficients (flat l x y z)))) e
          (λ i j k il jl kl.
          turned_back (weighed_row (get_or ns 0 0)) (weighed_row (get_or ns 1 0)) (weighed_row (get_or ns 2 0)) (get_or ns 0 0) (get_or ns 1 0) (get_or ns 2 0)
          wide c.along.new.table c.along-2.new.table zs
          (weighed_reads (get_or ns 0 0)) (weighed_reads (get_or ns 1 0)) (weighed_reads (get_or ns 2 0))
          c.along.ensures.value c.along-2.ensures.value c.along-3.ensures.value i j k il jl kl
          ∙ ap (λ T. along3 (weighed_row (get_or ns 2 0)) (along2 (weighed_row (get_or ns 1 0)) (along1 (weighed_row (get_or ns 0 0)) T)) i j k)
          (fun_ext λ x. fun_ext λ y. fun_ext λ z. c.widen.ensures.value (flat ns x y z))
          ∙ weighed_along (get_or ns 0 0) (get_or ns 1 0) (get_or ns 2 0) (λ x y z. numbers m.coefficients (flat ns x y z)) i j k);
      size = λ k.
          within_more (grown (get_or ns 2 0) (two m ns e)) summable (numbers zs k) (last m ns e)
          (c.along-3.ensures.size (two m ns e) (c.along-2.ensures.size (one m ns e) (c.along.ensures.size (2 ^ 31) (coefficients_within m wide c.widen.ensures.value))) k);
    }
