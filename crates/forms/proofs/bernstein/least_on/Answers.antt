-- The least number of the table on the cell, from the array that holds it. Assumes nothing.
use Rattle.std.proofs.Common.{◌≡◌, ◌-◌, ◌<◌, length, sym, ap, ◌∙◌, subst, arith, w64, rules}
use Rattle.std.proofs.lemmas.Int.{to_z-of_z}
use Rattle.mapping.specs.Terms.{terms}
use Rattle.forms.specs.Arrays.{numbers, grid}
use Rattle.forms.specs.Stages.{on_cell}
use Rattle.forms.specs.declared.side.Side.TheVariants.{Low}
use Rattle.forms.specs.Tables.{least}
use Rattle.forms.specs.Worked.{Within}
use Rattle.forms.specs.Works.{summable}
use Rattle.forms.proofs.Outermost.{least_taken, least_flat, least_within}
use Rattle.forms.proofs.bernstein.least_on.Goals as goal

pub returns : goal.returns
returns c =
    let m = c.args.m.now in
    let ys = c.halve_table.new.table in
    let some : 0 < terms m.degrees = omega (arith, c.terms.ensures.value) in
    let long : length ys ≡ 64 = search rules in
    let taken = least_taken c.terms.result ys (omega (arith, some, c.terms.ensures.value)) (omega (arith, c.terms.ensures.value, m.small, long)) in
    let read = to_z-of_z w64 c.least.result (record { sfits = c.least.type_inv }) in
    let is = read ∙ c.least.ensures.value ∙ taken in
    record {
      value =
          is
          ∙ ap (λ n. least (n - 1) (numbers ys)) c.terms.ensures.value
          ∙ least_flat m.degrees (numbers ys) (on_cell Low m c.args.c.now (grid m.degrees c.args.table.now)) some c.halve_table.ensures.value;
      size = subst (Within summable) (sym is) (least_within summable (c.terms.result - 1) ys c.halve_table.ensures.size);
    }
