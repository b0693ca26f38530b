-- Each end, from the least number of the table of its side. Assumes nothing.
use Rattle.std.proofs.Common.{◌≡◌, pos, ◌-ℤ◌, neg_ℤ, sym, ap, ◌∙◌, subst, w64, to_z, of_z}
use lib.IntN.{+ℤ_idl}
use Rattle.forms.specs.Arrays.{Fills}
use Rattle.forms.specs.Bernstein.{bernstein}
use Rattle.forms.specs.Stages.{end, held, on_box}
use Rattle.forms.specs.Works.{summable}
use Rattle.forms.proofs.Bounded.{word, within_neg}
use Rattle.forms.proofs.Outermost.{low_end, high_end}
use Rattle.forms.proofs.bernstein.end.Goals as goal

pub returns-in-Low : goal.returns-in-Low
returns-in-Low c =
    let m = c.args.m.now in
    let cell = c.args.c.now in
    let l = c.least_on-least.result in
    let table = subst (λ s. Fills m.degrees c.args.table.now (held s (on_box s m))) c.in-Low.is c.requires.table in
    record {
      value =
          word l c.least_on-least.ensures.size ∙ c.least_on-least.ensures.value ∙ low_end m cell c.args.table.now table
          ∙ ap (λ s. end s (bernstein m cell)) (sym c.in-Low.is);
    }

pub returns-in-High : goal.returns-in-High
returns-in-High c =
    let m = c.args.m.now in
    let cell = c.args.c.now in
    let l = c.least_on-least.result in
    let size = c.least_on-least.ensures.size in
    let table = subst (λ s. Fills m.degrees c.args.table.now (held s (on_box s m))) c.in-High.is c.requires.table in
    let minus : pos 0 -ℤ to_z w64 (of_z w64 l) ≡ neg_ℤ l = ap (λ x. pos 0 -ℤ x) (word l size) ∙ +ℤ_idl (neg_ℤ l) in
    record {
      value =
          ap (λ x. to_z w64 (of_z w64 x)) minus ∙ word (neg_ℤ l) (within_neg summable l size)
          ∙ ap neg_ℤ c.least_on-least.ensures.value ∙ high_end m cell c.args.table.now table
          ∙ ap (λ s. end s (bernstein m cell)) (sym c.in-High.is);
    }
