use Rattle.std.proofs.Common.{◌*◌, ◌<◌, length, subst, sym, refl, ◌∙◌, inr, arith, rules}
use Rattle.std.proofs.lemmas.Option.{MatchOption-at_some}
use Rattle.mapping.specs.Cells.{Valid}
use Rattle.gateway.specs.Enclosing.{cells, Listed, Cut, Behind}
use Rattle.gateway.proofs.enclosed.enclose.Goals as goal

pub returns-then-ends-cells : goal.returns-then-ends-cells
returns-then-ends-cells c =
    let cs = c.args.list.now in
    let cut : Cut cs c.in_ok-cells.cells.now = MatchOption-at_some (Listed cs → ⊥) (λ r. Cut cs r.now) c.in_ok-cells.cells c.in_ok-cells.ensures.ok_part c.cells_of.ensures.value in
    let listed : Listed cs = cut.listed in
    let room : length c.args.ends.now < 3 * cells cs = omega (arith, cut.many) in
    search rules

pub fill-requires-clause-valid : goal.fill-requires-clause-valid
fill-requires-clause-valid c =
    let cs = c.args.list.now in
    let cut : Cut cs c.in_ok-cells.cells.now = MatchOption-at_some (Listed cs → ⊥) (λ r. Cut cs r.now) c.in_ok-cells.cells c.in_ok-cells.ensures.ok_part c.cells_of.ensures.value in
    λ k below. subst Valid (sym (cut.each k (omega (arith, below, cut.many)))) (cut.listed.valid k (omega (arith, below, cut.many)))

pub returns : goal.returns
returns c =
    let cs = c.args.list.now in
    let cut : Cut cs c.in_ok-cells.cells.now = MatchOption-at_some (Listed cs → ⊥) (λ r. Cut cs r.now) c.in_ok-cells.cells c.in_ok-cells.ensures.ok_part c.cells_of.ensures.value in
    record {
      value =
          inr (inr (inr (inr (record {
            mapping = c.read.new.place;
            held = c.in_ok-read.ensures.after;
            choice = c.in_ok-choice.choice;
            known = search rules;
            listed = cut.listed;
            room = omega (arith, cut.many);
            number = refl;
            answers = λ k cell below is. c.fill.ensures.answers k cell (omega (arith, below, cut.many)) (is ∙ sym (cut.each k below));
            behind = subst (λ n. Behind (3 * n) c.args.ends.now c.fill.new.ends) cut.many c.fill.ensures.behind;
          }))));
    }
