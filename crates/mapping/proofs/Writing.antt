-- Bytes that are written as a record. Assumes nothing.
use Rattle.std.proofs.Common.{◌≡◌, ℕ, ◌+◌, ◌*◌, ◌/◌, ◌%◌, ◌<◌, ◌≤◌, List, [], ◌∷◌, ◌++◌, length, get_or, take, ℤ, pos, sym, ap, ◌∙◌, append_assoc, div-one, arith, w32, of_z}
use Rattle.std.proofs.ByRecursion.{All-take}
use Rattle.std.proofs.lemmas.List.{take_more, length-take-le}
use Rattle.mapping.specs.Bits.{spell, bits_of, Bytes}
use Rattle.mapping.specs.Terms.{terms}
use Rattle.mapping.specs.Headers.{header_bits}
use Rattle.mapping.specs.Records.{value_bits, header_for, record_bits, record_size}
use Rattle.mapping.specs.declared.mapping.Mapping.{Mapping}
use Rattle.mapping.proofs.Coefficients.{value_bits_push}
use Rattle.mapping.proofs.RoundTrip.{record_length}
use Rattle.mapping.proofs.Spelling.{spell_append, spell_bytes, bits_of_append, same_bytes}

-- the bytes of a field of 24 and of one of 32 bits
pub three_bytes : (v : ℕ) → bits_of (v / 65536 % 256 ∷ (v / 256 % 256 ∷ (v % 256 ∷ []))) ≡ spell 24 v
three_bytes v = ap (λ x. bits_of (v / 65536 % 256 ∷ (v / 256 % 256 ∷ (x % 256 ∷ [])))) (sym (div-one v)) ∙ spell_bytes 3 v

pub four_bytes : (v : ℕ) → bits_of (v / 16777216 % 256 ∷ (v / 65536 % 256 ∷ (v / 256 % 256 ∷ (v % 256 ∷ [])))) ≡ spell 32 v
four_bytes v = ap (λ x. bits_of (v / 16777216 % 256 ∷ (v / 65536 % 256 ∷ (v / 256 % 256 ∷ (x % 256 ∷ []))))) (sym (div-one v)) ∙ spell_bytes 4 v

-- the header's number: each field above those that follow it
pub header_number : (s n₁ n₂ n₃ k q : ℕ) → s < 4 → n₁ < 8 → n₂ < 8 → n₃ < 8 → k < 8 → q < 16
    → spell 24 (((((((1 * 4 + s) * 8 + n₁) * 8 + n₂) * 8 + n₃) * 8 + k) * 16 + q) * 4)
    ≡ spell 4 1 ++ (spell 2 s ++ (spell 3 n₁ ++ (spell 3 n₂ ++ (spell 3 n₃ ++ (spell 3 k ++ (spell 4 q ++ spell 2 0))))))
header_number s n₁ n₂ n₃ k q hs h₁ h₂ h₃ hk hq =
    let w₁ = 1 * 4 + s in
    let w₂ = w₁ * 8 + n₁ in
    let w₃ = w₂ * 8 + n₂ in
    let w₄ = w₃ * 8 + n₃ in
    let w₅ = w₄ * 8 + k in
    let w₆ = w₅ * 16 + q in
    let e : w₆ * 4 ≡ w₆ * 4 + 0 = omega arith in
    ap (spell 24) e
    ∙ spell_append 22 2 w₆ 0 (omega arith)
    ∙ ap (λ r. r ++ spell 2 0) (spell_append 18 4 w₅ q hq)
    ∙ ap (λ r. (r ++ spell 4 q) ++ spell 2 0) (spell_append 15 3 w₄ k hk)
    ∙ ap (λ r. ((r ++ spell 3 k) ++ spell 4 q) ++ spell 2 0) (spell_append 12 3 w₃ n₃ h₃)
    ∙ ap (λ r. (((r ++ spell 3 n₃) ++ spell 3 k) ++ spell 4 q) ++ spell 2 0) (spell_append 9 3 w₂ n₂ h₂)
    ∙ ap (λ r. ((((r ++ spell 3 n₂) ++ spell 3 n₃) ++ spell 3 k) ++ spell 4 q) ++ spell 2 0) (spell_append 6 3 w₁ n₁ h₁)
    ∙ ap (λ r. (((((r ++ spell 3 n₁) ++ spell 3 n₂) ++ spell 3 n₃) ++ spell 3 k) ++ spell 4 q) ++ spell 2 0) (spell_append 4 2 1 s hs)
    ∙ simp append_assoc

-- a buffer after one coefficient more, behind those that were written
pub value_written : (values : List ℤ) (k : ℕ) (out out' bytes : List ℕ) → k < length values
    → bits_of bytes ≡ spell 32 (of_z w32 (get_or values k (pos 0)))
    → bits_of (take (4 * k) out) ≡ value_bits (take k values)
    → take (4 * (k + 1)) out' ≡ take (4 * k) out ++ bytes
    → bits_of (take (4 * (k + 1)) out') ≡ value_bits (take (k + 1) values)
value_written values k out out' bytes within bits e front =
    ap bits_of front ∙ bits_of_append (take (4 * k) out) bytes
    ∙ ap (λ r. r ++ bits_of bytes) e ∙ ap (λ r. value_bits (take k values) ++ r) bits
    ∙ sym (ap value_bits (take_more values k (pos 0) within) ∙ value_bits_push (take k values) (get_or values k (pos 0)))

-- the whole record, from its two parts
pub record_written : (m : Mapping) (header values : List ℕ) → bits_of header ≡ header_bits (header_for m)
    → bits_of values ≡ value_bits (take (terms m.degrees) m.coefficients) → bits_of (header ++ values) ≡ record_bits m
unfolding record_bits
record_written m header values spelled filled =
    bits_of_append header values ∙ ap (λ r. r ++ bits_of values) spelled ∙ ap (λ r. header_bits (header_for m) ++ r) filled

-- what a buffer begins with is the one record of the mapping
pub begins_with : (m : Mapping) (n : ℕ) (out bs : List ℕ) → n ≡ record_size m → n ≤ length out → Bytes out → Bytes bs → bits_of (take n out) ≡ record_bits m → bits_of bs ≡ record_bits m → take n out ≡ bs
begins_with m n out bs is fits p q e f =
    same_bytes (take n out) bs (All-take (λ b. b < 256) n out p) q (length-take-le n out fits ∙ is ∙ sym (record_length m bs f)) (e ∙ sym f)
