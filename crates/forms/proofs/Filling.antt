-- Arrays filled place by place or row by row, and tables turned input by input. Assumes nothing.
use Rattle.std.proofs.Common.{◌≡◌, ℕ, suc, ◌+◌, ◌*◌, ◌<◌, ◌≤◌, List, length, set, ℤ, pos, sym, ap, ◌∙◌, ⊎_elim, mul-le-mul_right, suc-mul, mul_comm, add-one, arith}
use Rattle.std.proofs.lemmas.List.{get_or-set_same, get_or-set_other}
use Rattle.std.proofs.lemmas.Bool.{cases_eq}
use Rattle.forms.specs.Arrays.{numbers, Holds, Turned}
use Rattle.forms.specs.Halving.{Row}
use Rattle.forms.specs.Tables.{along1, along2, along3}
use Rattle.forms.specs.Extra.{nats}
use Rattle.forms.specs.Works.{Reads}

-- one more place
pub place_more : (g : Row) (xs : List ℤ) (k : ℕ) (z : ℤ) → k < length xs → z ≡ g k → ((j : ℕ) → j < k → numbers xs j ≡ g j)
    → (j : ℕ) → j < k + 1 → numbers (set xs k z) j ≡ g j
place_more g xs k z len e h j l =
    ⊎_elim
    (λ (s : j ≡ k). ap (numbers (set xs k z)) s ∙ get_or-set_same xs k z (pos 0) len ∙ e ∙ ap g (sym s))
    (λ (s : j ≡ k → ⊥). get_or-set_other xs k j z (pos 0) s ∙ h j (omega arith))
    (cases_eq j k)

-- a new number at a place, and those behind it as they were
pub places_behind : (xs ys : List ℤ) (k : ℕ) (z : ℤ) → ((j : ℕ) → k ≤ j → numbers xs j ≡ numbers ys j) → (j : ℕ) → k + 1 ≤ j → numbers (set xs k z) j ≡ numbers ys j
places_behind xs ys k z h j l = get_or-set_other xs k j z (pos 0) (λ (e : j ≡ k). omega arith) ∙ h j (omega arith)

-- where the rows of a table stand, with b blocks or rows
pub room : (n b s : ℕ) → (n + 1) * b ≤ 64 → s < b → (n * b + s < 64) × (s * (n + 1) + n < 64)
room n b s h l =
    let blocks : (n + 1) * b ≡ n * b + b = ap (λ k. k * b) (add-one n) ∙ suc-mul n b in
    let rows : suc s * (n + 1) ≤ b * (n + 1) = mul-le-mul_right (n + 1) l in
    omega (arith, suc-mul s (n + 1), mul_comm b (n + 1))

-- one more row
pub row_more : (g : Row → Row) (n b s : ℕ) (xs ys zs old new : List ℤ)
    → Reads n g
    → ((q k : ℕ) → q < s → k ≤ n → numbers ys (q * (n + 1) + k) ≡ g (λ x. numbers xs (x * b + q)) k)
    → ((k : ℕ) → k < n + 1 → numbers old k ≡ numbers xs (k * b + s))
    → Holds n new (g (numbers old))
    → ((k : ℕ) → k < n + 1 → numbers zs (s * (n + 1) + k) ≡ numbers new k)
    → ((j : ℕ) → j < s * (n + 1) → numbers zs j ≡ numbers ys j)
    → (q k : ℕ) → q < s + 1 → k ≤ n → numbers zs (q * (n + 1) + k) ≡ g (λ x. numbers xs (x * b + q)) k
row_more g n b s xs ys zs old new reads inv read row put before q k l m =
    ⊎_elim
    (λ (e : q ≡ s).
    ap (λ t. numbers zs (t * (n + 1) + k)) e ∙ put k (omega arith) ∙ row k m
    ∙ reads (numbers old) (λ x. numbers xs (x * b + s)) (λ j i. read j (omega arith)) k m
    ∙ ap (λ t. g (λ x. numbers xs (x * b + t)) k) (sym e))
    (λ (e : q ≡ s → ⊥).
    let below : q < s = omega arith in
    let rows : suc q * (n + 1) ≤ s * (n + 1) = mul-le-mul_right (n + 1) below in
    before (q * (n + 1) + k) (omega (arith, suc-mul q (n + 1))) ∙ inv q k below m)
    (cases_eq q s)

-- ---- a table turned three times, which is back in its first order

turned_nats : (x A B i j : ℕ) → x * (A * B) + (i * B + j) ≡ (x * A + i) * B + j
turned_nats x A B i j = simp nats

pub pair_below : (a b i j : ℕ) → i ≤ a → j ≤ b → i * (b + 1) + j < (a + 1) * (b + 1)
pair_below a b i j h l =
    let m : suc i * (b + 1) ≤ (a + 1) * (b + 1) = mul-le-mul_right (b + 1) (omega arith) in
    omega (arith, suc-mul i (b + 1))

pub turned_back : (g1 g2 g3 : Row → Row) (n1 n2 n3 : ℕ) (w x y z : List ℤ) → Reads n1 g1 → Reads n2 g2 → Reads n3 g3
    → Turned n1 ((n2 + 1) * (n3 + 1)) g1 w x
    → Turned n2 ((n3 + 1) * (n1 + 1)) g2 x y
    → Turned n3 ((n1 + 1) * (n2 + 1)) g3 y z
    → (i j k : ℕ) → i ≤ n1 → j ≤ n2 → k ≤ n3
    → numbers z ((i * (n2 + 1) + j) * (n3 + 1) + k)
    ≡ along3 g3 (along2 g2 (along1 g1 (λ i j k. numbers w ((i * (n2 + 1) + j) * (n3 + 1) + k)))) i j k
turned_back g1 g2 g3 n1 n2 n3 w x y z r1 r2 r3 one two three i j k il jl kl =
    let A : ℕ = n1 + 1 in
    let B : ℕ = n2 + 1 in
    let C : ℕ = n3 + 1 in
    three (i * B + j) k (pair_below n1 n2 i j il jl) kl
    ∙ r3 (λ c. numbers y (c * (A * B) + (i * B + j)))
    (λ c. g2 (λ b. g1 (λ a. numbers w ((a * B + b) * C + c)) i) j)
    (λ c cl.
    ap (numbers y) (turned_nats c A B i j)
    ∙ two (c * A + i) j (pair_below n3 n1 c i cl il) jl
    ∙ r2 (λ b. numbers x (b * (C * A) + (c * A + i))) (λ b. g1 (λ a. numbers w ((a * B + b) * C + c)) i)
    (λ b bl.
    ap (numbers x) (turned_nats b C A c i)
    ∙ one (b * C + c) i (pair_below n2 n3 b c bl cl) il
    ∙ r1 (λ a. numbers w (a * (B * C) + (b * C + c))) (λ a. numbers w ((a * B + b) * C + c))
    (λ a al. ap (numbers w) (turned_nats a B C b c)) i il)
    j jl)
    k kl

-- the three products of two, with the third
pub rolled : (a b c : ℕ) → (a + 1) * ((b + 1) * (c + 1)) ≤ 64 → ((b + 1) * ((c + 1) * (a + 1)) ≤ 64) × ((c + 1) * ((a + 1) * (b + 1)) ≤ 64)
rolled a b c h =
    let e : (b + 1) * ((c + 1) * (a + 1)) ≡ (a + 1) * ((b + 1) * (c + 1)) = roll (a + 1) (b + 1) (c + 1) in
    let g : (c + 1) * ((a + 1) * (b + 1)) ≡ (a + 1) * ((b + 1) * (c + 1)) = sym (roll (c + 1) (a + 1) (b + 1)) in
    omega arith
  where
    roll : (x y z : ℕ) → y * (z * x) ≡ x * (y * z)
    roll x y z = simp nats
