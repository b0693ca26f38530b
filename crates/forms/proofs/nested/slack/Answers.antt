use Rattle.std.proofs.Common.{◌≡◌, ℕ, ◌-◌, ◌*◌, ◌^◌, ◌<◌, ◌≤◌, pos, ◌+ℤ◌, get_or, ◌∙◌, ap₂, arith, lit<, rules}
use Rattle.arith.specs.Rounding.{quot_up}
use Rattle.arith.specs.declared.rounding.Power.{Power}
use Rattle.mapping.specs.Cells.{whole_part, depth}
use Rattle.forms.specs.Nested.{nested_slack}
use Rattle.forms.proofs.Sizes.{slack_fits, slack_read}
use Rattle.forms.proofs.Weights.{moments_are}
use Rattle.forms.proofs.nested.slack.Goals as goal

some : (c : goal.After-share-3) → 1 ≤ c.terms.result
some c = omega (arith, c.terms.ensures.value)

few : (c : goal.After-share-3) → c.terms.result ≤ 64
few c = omega (arith, c.terms.ensures.value, c.args.m.now.small)

pub overflow_add-result-3 : goal.overflow_add-result-3
overflow_add-result-3 c =
    slack_fits c.terms.result c.share.result c.share-2.result c.share-3.result (some c) (few c)
    (c.share.ensures.least, c.share.ensures.most) (c.share-2.ensures.least, c.share-2.ensures.most) (c.share-3.ensures.least, c.share-3.ensures.most)

pub returns : goal.returns
unfolding nested_slack
returns c =
    let n = c.terms.ensures.value in
    let m = c.args.m.now in
    let s = c.args.c.now.shape in
    let none : Power = record { 0 = 0 } in
    let moments = moments_are m _ c.weighed_sizes.ensures.value in
    let halved : (v : ℕ) → v < 3 → (get_or c.map.result v none).0 ≡ depth s v = λ v l. let called = (c.map.ensures.items.at v whole_part none l).2 in search rules in
    let x = c.share.ensures.value ∙ ap₂ (λ w e. quot_up w (2 ^ e)) (moments 0 (lit< tt)) (halved 0 (lit< tt)) in
    let y = c.share-2.ensures.value ∙ ap₂ (λ w e. quot_up w (2 ^ e)) (moments 1 (lit< tt)) (halved 1 (lit< tt)) in
    let z = c.share-3.ensures.value ∙ ap₂ (λ w e. quot_up w (2 ^ e)) (moments 2 (lit< tt)) (halved 2 (lit< tt)) in
    let read = slack_read c.terms.result c.share.result c.share-2.result c.share-3.result (some c) (few c)
    (c.share.ensures.least, c.share.ensures.most) (c.share-2.ensures.least, c.share-2.ensures.most) (c.share-3.ensures.least, c.share-3.ensures.most) in
    let whole : pos (2 * (c.terms.result - 1)) +ℤ ((c.share.result +ℤ c.share-2.result) +ℤ c.share-3.result) ≡ nested_slack m s =
    λ i. pos (2 * (n i - 1)) +ℤ ((x i +ℤ y i) +ℤ z i) in
    record { value = read ∙ whole }
