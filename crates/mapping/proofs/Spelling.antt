-- Fields of bits: how they join, and that they can be read back. Assumes nothing.
use Rattle.std.proofs.Common.{◌≡◌, ℕ, zero, suc, ◌+◌, ◌*◌, ◌/◌, ◌%◌, ◌^◌, ◌<◌, List, [], ◌∷◌, ◌++◌, length, take, drop, sym, refl, ap, ◌∙◌, append_assoc, mod-lt, mod-eq_of_lt, suc-add, pow-suc, zero-add, arith, length-append, pow_pos}
use native.Mathlib.Nat.{mod-one, mul-add-div_right}
use Rattle.std.proofs.lemmas.List.{take_at, drop_at}
use Rattle.std.proofs.lemmas.Nat.{shr-shr, shr_high, shr_split, mod-pow-add}
use Rattle.mapping.specs.Bits.{spell, number, bits_of, Bytes}

pub length_spell : (k v : ℕ) → length (spell k v) ≡ k
unfolding spell
length_spell zero v = refl
length_spell (suc k) v = ap suc (length_spell k v)

pub length_field : (k v : ℕ) (rest bits : List ℕ) → bits ≡ spell k v ++ rest → length bits ≡ k + length rest
length_field k v rest bits e = ap length e ∙ length-append (spell k v) rest ∙ ap (λ n. n + length rest) (length_spell k v)

-- what stands above the field does not matter
pub spell_high : (k x v : ℕ) → spell k (x * 2 ^ k + v) ≡ spell k v
unfolding spell
spell_high zero x v = refl
spell_high (suc k) x v =
    let e : x * 2 ^ suc k + v ≡ (2 * x) * 2 ^ k + v = rw (pow-suc 2 k) (omega arith) in
    let h : ((2 * x) * 2 ^ k + v) / 2 ^ k ≡ 2 * x + v / 2 ^ k = mul-add-div_right (pow_pos k) (2 * x) v in
    let top : (x * 2 ^ suc k + v) / 2 ^ k % 2 ≡ v / 2 ^ k % 2 = rw (e, h) (omega arith) in
    let rest : spell k (x * 2 ^ suc k + v) ≡ spell k v = ap (spell k) e ∙ spell_high k (2 * x) v in
    ap (λ b. b ∷ spell k (x * 2 ^ suc k + v)) top ∙ ap (λ r. (v / 2 ^ k % 2) ∷ r) rest

-- so only the lowest bits matter
pub spell_mod : (k v : ℕ) → spell k (v % 2 ^ k) ≡ spell k v
spell_mod k v = sym (spell_high k (v / 2 ^ k) (v % 2 ^ k)) ∙ ap (spell k) (shr_split v k)

-- a field of a + b bits is one of a bits and then one of b
pub spell_append : (a b x y : ℕ) → y < 2 ^ b → spell (a + b) (x * 2 ^ b + y) ≡ spell a x ++ spell b y
unfolding spell
spell_append zero b x y h = ap (λ n. spell n (x * 2 ^ b + y)) (zero-add b) ∙ spell_high b x y
spell_append (suc a) b x y h =
    let v = x * 2 ^ b + y in
    let e : v / 2 ^ (a + b) ≡ x / 2 ^ a =
    ap (λ n. v / 2 ^ n) (omega arith) ∙ sym (shr-shr v b a) ∙ ap (λ n. n / 2 ^ a) (shr_high x b y h) in
    ap (λ n. spell n v) (suc-add a b)
    ∙ ap (λ n. (n % 2) ∷ spell (a + b) v) e
    ∙ ap (λ r. (x / 2 ^ a % 2) ∷ r) (spell_append a b x y h)

pub number_spell_mod : (k v : ℕ) → number (spell k v) ≡ v % 2 ^ k
unfolding spell number
number_spell_mod zero v = sym (mod-one v)
number_spell_mod (suc k) v =
    ap (λ n. (v / 2 ^ k % 2) * 2 ^ n + number (spell k v)) (length_spell k v)
    ∙ ap (λ n. (v / 2 ^ k % 2) * 2 ^ k + n) (number_spell_mod k v)
    ∙ sym (ap (λ n. v % 2 ^ n) (omega arith) ∙ mod-pow-add v 1 k)

-- a field holds its number
pub number_spell : (k v : ℕ) → v < 2 ^ k → number (spell k v) ≡ v
number_spell k v h = number_spell_mod k v ∙ mod-eq_of_lt h

-- two lists that begin with parts of one length are equal part by part
pub same_fronts : {A : Type 0} (a b x y : List A) → length a ≡ length b → a ++ x ≡ b ++ y → (a ≡ b) × (x ≡ y)
same_fronts a b x y l e = (
  sym (take_at a x (length a) refl) ∙ ap (take (length a)) e ∙ take_at b y (length a) (sym l),
  sym (drop_at a x (length a) refl) ∙ ap (drop (length a)) e ∙ drop_at b y (length a) (sym l),
)

-- two lists that begin with a field of k bits have the same number there, and go on alike
pub same_fields : (k x y : ℕ) (r s : List ℕ) → x < 2 ^ k → y < 2 ^ k → spell k x ++ r ≡ spell k y ++ s → (x ≡ y) × (r ≡ s)
same_fields k x y r s h g e =
    let p = same_fronts (spell k x) (spell k y) r s (length_spell k x ∙ sym (length_spell k y)) e in
    (sym (number_spell k x h) ∙ ap number p.0 ∙ number_spell k y g, p.1)

pub bits_of_cons : (b : ℕ) (bs : List ℕ) → bits_of (b ∷ bs) ≡ spell 8 b ++ bits_of bs
unfolding bits_of
bits_of_cons b bs = refl

pub bits_of_append : (cs bs : List ℕ) → bits_of (cs ++ bs) ≡ bits_of cs ++ bits_of bs
unfolding bits_of
bits_of_append [] bs = refl
bits_of_append (a ∷ cs) bs = ap (λ r. spell 8 a ++ r) (bits_of_append cs bs) ∙ sym (append_assoc (spell 8 a) (bits_of cs) (bits_of bs))

pub length_bits_of : (bs : List ℕ) → length (bits_of bs) ≡ 8 * length bs
unfolding bits_of
length_bits_of [] = refl
length_bits_of (b ∷ bs) = length-append (spell 8 b) (bits_of bs) ∙ ap (λ n. n + length (bits_of bs)) (length_spell 8 b) ∙ ap (λ n. 8 + n) (length_bits_of bs) ∙ omega arith

-- bytes are told by their bits
pub same_bytes : (cs bs : List ℕ) → Bytes cs → Bytes bs → length cs ≡ length bs → bits_of cs ≡ bits_of bs → cs ≡ bs
same_bytes [] [] p q l e = refl
same_bytes [] (b ∷ bs) p q l e = absurd (omega arith)
same_bytes (a ∷ cs) [] p q l e = absurd (omega arith)
same_bytes (a ∷ cs) (b ∷ bs) p q l e =
    let f = same_fields 8 a b (bits_of cs) (bits_of bs) p.0 q.0 (sym (bits_of_cons a cs) ∙ e ∙ bits_of_cons b bs) in
    ap (λ x. x ∷ cs) f.0 ∙ ap (λ r. b ∷ r) (same_bytes cs bs p.1 q.1 (omega arith) f.1)

-- the bytes of a number, the most significant first
abbrev pub bytes_of : ℕ → ℕ → List ℕ
bytes_of zero v = []
bytes_of (suc n) v = (v / 2 ^ (8 * n) % 256) ∷ bytes_of n v

-- as many bytes as a field has are the field's bits
pub spell_bytes : (n v : ℕ) → bits_of (bytes_of n v) ≡ spell (8 * n) v
unfolding bits_of spell
spell_bytes zero v = refl
spell_bytes (suc n) v =
    let k = 8 * n in
    let parts = spell_append 8 k (v / 2 ^ k) (v % 2 ^ k) (mod-lt v (pow_pos k)) in
    let more : 8 + 8 * n ≡ 8 * suc n = omega arith in
    bits_of_cons (v / 2 ^ k % 256) (bytes_of n v)
    ∙ ap (λ r. r ++ bits_of (bytes_of n v)) (spell_mod 8 (v / 2 ^ k))
    ∙ ap (λ r. spell 8 (v / 2 ^ k) ++ r) (spell_bytes n v ∙ sym (spell_mod k v))
    ∙ sym parts
    ∙ ap (λ x. spell (8 + k) x) (shr_split v k)
    ∙ ap (λ x. spell x v) more
