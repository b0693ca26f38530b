-- Each form that a caller can name keeps the rules of a form. Assumes nothing.
use Rattle.forms.specs.Rules.{Rules}
use Rattle.forms.specs.Bernstein.{bernstein}
use Rattle.forms.specs.BernsteinSound.{bernstein_rules}
use Rattle.forms.specs.Nested.{nested}
use Rattle.forms.specs.NestedRules.{nested_rules}
use Rattle.forms.specs.Tighter.{pair_rules}
use Rattle.gateway.specs.Enclosing.{meant}
use Rattle.gateway.specs.declared.choice.Choice.{Choice}
use Rattle.gateway.specs.declared.choice.Choice.TheVariants.{Nested, Bernstein, Both}

pub meant_rules : (f : Choice) → Rules (meant f)
meant_rules Nested = nested_rules
meant_rules Bernstein = bernstein_rules
meant_rules Both = pair_rules bernstein nested bernstein_rules nested_rules
