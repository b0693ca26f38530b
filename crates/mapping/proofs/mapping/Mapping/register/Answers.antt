use Rattle.std.proofs.Common.{◌≡◌, ◌∙◌, w32, SFits, rules}
use Rattle.std.proofs.lemmas.Int.{to_z-of_z}
use Rattle.mapping.proofs.Steps.{in_steps}
use Rattle.mapping.proofs.mapping.Mapping.register.Goals as goal

pub returns : goal.returns
returns c =
    let m = c.args.self.now in
    let low : SFits w32 c.counts-low.result.0 = search rules in
    let high : SFits w32 c.counts-low.result.1 = search rules in
    let lowest = in_steps c.counts-low.result.0 m.shift low m.fine in
    let highest = in_steps c.counts-low.result.1 m.shift high m.fine in
    let same_low : c.from.result ≡ c.counts-low.result.0 = c.from.ensures ∙ to_z-of_z w32 _ low in
    let same_high : c.from-2.result ≡ c.counts-low.result.1 = c.from-2.ensures ∙ to_z-of_z w32 _ high in
    record { low = cc; high = cc }
