-- Where coefficients stand: the exponents of a place give the place back. Assumes nothing.
use Rattle.std.proofs.Common.{◌≡◌, ℕ, ◌+◌, ◌*◌, ◌/◌, ◌%◌, List, get_or, ap, ◌∙◌}
use Rattle.std.proofs.lemmas.Nat.{div-add-mod'}
use Rattle.mapping.specs.Terms.{flat, exponents}

pub flat_exponents : (ns : List ℕ) (t : ℕ) → flat ns (get_or (exponents ns t) 0 0) (get_or (exponents ns t) 1 0) (get_or (exponents ns t) 2 0) ≡ t
flat_exponents ns t =
    let c = get_or ns 2 0 + 1 in
    let b = get_or ns 1 0 + 1 in
    ap (λ r. r * c + t % c) (div-add-mod' (t / c) b) ∙ div-add-mod' t c
