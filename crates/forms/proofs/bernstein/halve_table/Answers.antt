-- Three turns bring the table back to its order. Assumes nothing.
use Rattle.std.proofs.Common.{◌≤◌, get_or, sym, subst}
use Rattle.mapping.specs.Cells.{depth, place}
use Rattle.mapping.specs.Terms.{terms}
use Rattle.forms.specs.Arrays.{grid, Fills}
use Rattle.forms.specs.Halving.{mean_down, kept, deep}
use Rattle.forms.specs.Tables.{halved}
use Rattle.forms.specs.WorkLemmas.{deep_reads}
use Rattle.forms.proofs.Filling.{rolled, turned_back}
use Rattle.forms.proofs.bernstein.halve_table.Goals as goal

pub along-requires-2-clause-small : goal.along-requires-2-clause-small
along-requires-2-clause-small c =
    let ns = c.degrees.result in
    (rolled (get_or ns 0 0) (get_or ns 1 0) (get_or ns 2 0) (subst (λ ns. terms ns ≤ 64) (sym c.degrees.ensures.value) c.args.m.now.small)).0

pub along-requires-3-clause-small : goal.along-requires-3-clause-small
along-requires-3-clause-small c =
    let ns = c.degrees.result in
    (rolled (get_or ns 0 0) (get_or ns 1 0) (get_or ns 2 0) (subst (λ ns. terms ns ≤ 64) (sym c.degrees.ensures.value) c.args.m.now.small)).1

pub returns-clause-value : goal.returns-clause-value
unfolding halved
returns-clause-value c =
    let s = c.args.c.now.shape in
    let xs = c.args.table.now in
    let zs = c.along-3.new.table in
    let ns = c.degrees.result in
    subst
    (λ ns.
    Fills ns zs
    (halved mean_down (get_or ns 0 0) (get_or ns 1 0) (get_or ns 2 0) (depth s 0) (place s 0) (depth s 1) (place s 1) (depth s 2) (place s 2) (grid ns xs)))
    c.degrees.ensures.value
    (turned_back (deep (kept mean_down (get_or ns 0 0)) (depth s 0) (place s 0)) (deep (kept mean_down (get_or ns 1 0)) (depth s 1) (place s 1))
    (deep (kept mean_down (get_or ns 2 0)) (depth s 2) (place s 2)) (get_or ns 0 0) (get_or ns 1 0) (get_or ns 2 0)
    xs c.along.new.table c.along-2.new.table zs
    (deep_reads mean_down (get_or ns 0 0) (depth s 0) (place s 0)) (deep_reads mean_down (get_or ns 1 0) (depth s 1) (place s 1))
    (deep_reads mean_down (get_or ns 2 0) (depth s 2) (place s 2))
    c.along.ensures.value c.along-2.ensures.value c.along-3.ensures.value)
