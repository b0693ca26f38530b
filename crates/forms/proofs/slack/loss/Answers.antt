-- Both cases of what an input adds to the slack. Assumes nothing.
use Rattle.std.proofs.Common.{◌≡◌, ◌*◌, ◌%◌, ◌^◌, ◌≤◌, pos, ◌+ℤ◌, ◌≤ℤ◌, sym, ap, ap₂, ◌∙◌, subst, mul-le-mul, arith, w64, SFits, to_z, of_z}
use Rattle.std.proofs.lemmas.Int.{to_z-of_z}
use Rattle.arith.specs.Rounding.{quot_up}
use Rattle.forms.specs.Tables.{loss}
use Rattle.forms.specs.Extra.{pos_le}
use Rattle.forms.proofs.Losses.{divisor_is, loss_most, loss_fits, loss_none, loss_word}
use Rattle.forms.proofs.slack.loss.Goals as goal
use Rattle.forms.proofs.slack.loss.Goals.{After-share-in-Some}

pub returns-in-None : goal.returns-in-None
returns-in-None c =
    let none : (2 * c.from-degree.result * 2 ^ (2 * c.from-depth.result)) % 2 ^ 64 ≡ 0 = c.in-None.ensures in
    let read = rw (c.from-degree.ensures, c.from-depth.ensures) at none in
    record {
      value = loss_none c.args.n c.args.d (pos c.args.sum) (sym (divisor_is c.args.n c.args.d c.requires.low c.requires.shallow) ∙ read);
      least = pos_le (omega arith);
      most = pos_le (omega arith);
    }

pub share-requires : goal.share-requires
share-requires c =
    let degree : c.from-degree.result ≤ 7 = omega (arith, c.from-degree.ensures, c.requires.low) in
    let depth : c.from-depth.result ≤ 10 = omega (arith, c.from-depth.ensures, c.requires.shallow) in
    omega (arith, mul-le-mul degree depth)

module _ (c : After-share-in-Some) where
  sum : to_z w64 (of_z w64 c.share.result) +ℤ to_z w64 (of_z w64 c.share-in-Some.result) ≡ loss c.args.n c.args.d (pos c.args.sum)
  sum =
      let some : c.in-Some.divisor.value ≡ (2 * c.from-degree.result * 2 ^ (2 * c.from-depth.result)) % 2 ^ 64 = c.in-Some.ensures in
      let divisor = rw (c.from-degree.ensures, c.from-depth.ensures) at some in
      let half = c.share.ensures.value ∙ ap₂ (λ x y. quot_up (pos (x * y)) 2) c.from-degree.ensures c.from-depth.ensures in
      loss_word c.args.n c.args.d c.in-Some.divisor.value c.args.sum c.share.result c.share-in-Some.result
      (divisor ∙ divisor_is c.args.n c.args.d c.requires.low c.requires.shallow) c.in-Some.divisor.ok
      (record { sfits = c.share.type_inv }) (record { sfits = c.share-in-Some.type_inv }) half c.share-in-Some.ensures.value

  fits : SFits w64 (loss c.args.n c.args.d (pos c.args.sum))
  fits = loss_fits c.args.n c.args.d c.requires.low c.requires.shallow (pos c.args.sum) (pos_le (omega arith)) (pos_le c.requires.small)

pub overflow_add-result : goal.overflow_add-result
overflow_add-result c = subst (SFits w64) (sym (sum c)) (fits c)

pub returns-in-Some : goal.returns-in-Some
returns-in-Some c =
    let is = ap (λ z. to_z w64 (of_z w64 z)) (sum c) ∙ to_z-of_z w64 _ (fits c) in
    let bounds = loss_most c.args.n c.args.d c.requires.low c.requires.shallow (pos c.args.sum) (pos_le (omega arith)) (pos_le c.requires.small) in
    record {
      value = is;
      least = subst (λ z. pos 0 ≤ℤ z) (sym is) bounds.0;
      most = subst (λ z. z ≤ℤ pos (2 ^ 44)) (sym is) bounds.1;
    }
