-- The definitions compute at the samples. Assumes nothing.
use Rattle.std.proofs.Common.{refl}
use Rattle.arith.specs.Product.{low_times, high_times}
use Rattle.arith.specs.Rounding.{quot_down, quot_up}
use Rattle.arith.specs.Sums.{sum}
use Rattle.forms.specs.Bernstein.{bernstein}
use Rattle.forms.specs.Choose.{factorial, choose, weight}
use Rattle.forms.specs.Halving.{mean_down, mean_up, rounds, kept, deep}
use Rattle.forms.specs.Nested.{horner, nested_low, nested_high, moment, nested_slack}
use Rattle.forms.specs.Polynomial.{weighed}
use Rattle.forms.specs.Tables.{numerator, first, halved, low_table, high_table, least, greatest, least_of, greatest_of, low, high, bends1, bends2, bends3, loss, slack}
use Rattle.forms.proofs.samples.figures.Goals as goal

pub returns : goal.returns
unfolding low_times high_times quot_down quot_up sum bernstein factorial choose weight mean_down mean_up rounds kept deep horner nested_low nested_high moment nested_slack weighed numerator first halved low_table high_table least greatest least_of greatest_of low high bends1 bends2 bends3 loss slack
returns c = record { stand = (refl, (refl, (refl, (refl, (refl, (refl, (refl, (refl, (refl, (refl, tt)))))))))); value = refl }
