-- A weight is the product of the table entries, and at most n!. Assumes nothing.
use Rattle.std.proofs.Common.{◌≡◌, ◌*◌, ◌≤◌, ap₂, arith}
use Rattle.forms.specs.Choose.{factorial, weight}
use Rattle.forms.specs.ChooseLemmas.{weight_le}
use Rattle.forms.proofs.Computed.{factorial_small}
use Rattle.forms.proofs.binomials.weight.Goals as goal

weight_is : (c : goal.After-factorial-2) → c.choose.result * (c.factorial.result * c.factorial-2.result) ≡ weight c.args.n c.args.j c.args.i
unfolding weight
weight_is c = ap₂ ◌*◌ c.choose.ensures.value (ap₂ ◌*◌ c.factorial.ensures.value c.factorial-2.ensures.value)

pub returns : goal.returns
returns c =
    let most : weight c.args.n c.args.j c.args.i ≤ factorial c.args.n = weight_le c.args.n c.args.j c.args.i c.requires.place c.requires.exponent in
    record { value = weight_is c; small = omega (arith, weight_is c, factorial_small c.args.n c.requires.degree) }
