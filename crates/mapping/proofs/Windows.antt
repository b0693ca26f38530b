-- The bit reader's window: what a fetched byte adds to it, and what a field takes off it. Assumes nothing.
use Rattle.std.proofs.Common.{◌≡◌, ℕ, ◌+◌, ◌-◌, ◌*◌, ◌/◌, ◌%◌, ◌^◌, ◌<◌, ◌≤◌, List, ◌∷◌, ◌++◌, length, sym, ap, ◌∙◌, append_assoc, arith, length-append, pow_pos, pow-add}
use lib.Bits.{bit_and}
use Rattle.std.proofs.lemmas.Nat.{shr_split, shr_below, and_mask, one_shl, mod_below}
use Rattle.mapping.specs.Bits.{spell, bits_of}
use Rattle.mapping.proofs.Spelling.{spell_append, length_spell, length_bits_of, bits_of_cons}

-- the bits that are held, and those of the bytes behind them
abbrev pub ahead : ℕ → ℕ → List ℕ → List ℕ
ahead held window rest = spell held window ++ bits_of rest

pub fetch_below : (held window byte : ℕ) → window < 2 ^ held → byte < 256 → window * 256 + byte < 2 ^ (held + 8)
fetch_below held window byte h b = rw (pow-add 2 held 8) (omega arith)

pub fetch : (held window byte : ℕ) (rest others : List ℕ) → rest ≡ byte ∷ others → byte < 256 → ahead held window rest ≡ ahead (held + 8) (window * 256 + byte) others
fetch held window byte rest others e b =
    ap (ahead held window) e
    ∙ ap (λ r. spell held window ++ r) (bits_of_cons byte others)
    ∙ sym (append_assoc (spell held window) (spell 8 byte) (bits_of others))
    ∙ ap (λ r. r ++ bits_of others) (sym (spell_append held 8 window byte b))

-- nothing is left to fetch
pub ended : (held window : ℕ) (rest : List ℕ) → length rest ≡ 0 → length (ahead held window rest) ≡ held
ended held window rest l = simp (length-append, length_spell, length_bits_of) (omega arith)

pub mask : (window left : ℕ) → left < 64 → bit_and window ((1 * 2 ^ left) % 2 ^ 64 - 1) ≡ window % 2 ^ left
mask window left h = ap (λ n. bit_and window (n - 1)) (one_shl left 64 h) ∙ and_mask window left

pub give_below : (held window width : ℕ) → width ≤ held → window < 2 ^ held → window / 2 ^ (held - width) < 2 ^ width
give_below held window width w h =
    let e : held ≡ width + (held - width) = omega arith in
    shr_below window width (held - width) (rw (← e) h)

pub give : (held window width : ℕ) (rest : List ℕ) → width ≤ held → ahead held window rest ≡ spell width (window / 2 ^ (held - width)) ++ ahead (held - width) (window % 2 ^ (held - width)) rest
give held window width rest w =
    let left = held - width in
    let whole : held ≡ width + left = omega arith in
    let parts = spell_append width left (window / 2 ^ left) (window % 2 ^ left) (mod_below window (2 ^ left) (pow_pos left)) in
    ap (λ v. spell held v ++ bits_of rest) (sym (shr_split window left))
    ∙ ap (λ n. spell n (window / 2 ^ left * 2 ^ left + window % 2 ^ left) ++ bits_of rest) whole
    ∙ ap (λ r. r ++ bits_of rest) parts
    ∙ append_assoc (spell width (window / 2 ^ left)) (spell left (window % 2 ^ left)) (bits_of rest)
