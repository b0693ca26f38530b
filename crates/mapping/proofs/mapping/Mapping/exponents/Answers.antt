use Rattle.std.proofs.Common.{◌≡◌, get_or}
use Rattle.mapping.proofs.Exponents.{flat_exponents}
use Rattle.mapping.proofs.mapping.Mapping.exponents.Goals as goal

pub returns-clause-back : goal.returns-clause-back
returns-clause-back c =
    let ns = c.args.self.now.degrees in
    let row : c.from-row.result ≡ get_or ns 2 0 = c.from-row.ensures in
    let rows : c.from-rows.result ≡ get_or ns 1 0 = c.from-rows.ensures in
    cc (flat_exponents ns c.args.index)
