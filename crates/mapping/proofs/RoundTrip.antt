-- Records and mappings, both ways: the bytes of a mapping's record are accepted, and stand for no other mapping. Assumes nothing.
use Rattle.std.proofs.Common.{◌≡◌, ℕ, zero, suc, ◌+◌, ◌*◌, ◌^◌, ◌<◌, ◌≤◌, false, ltb, List, [], ◌∷◌, ◌++◌, length, get_or, take, ℤ, pos, negsuc, None, sym, refl, ap, ◌∙◌, subst, ⊎_elim, append_assoc, arith, lit<, length-append, w32, to_z, of_z}
use lib.Signed.{mag}
use Rattle.std.proofs.lemmas.List.{append-nil, get_or-take, get_or_past, length-take, length-take-le, ext_get_or, nil_from_length}
use Rattle.std.proofs.lemmas.Int.{to_z-of_z}
use Rattle.std.proofs.lemmas.Bool.{cases_lt, le-ltb}
use Rattle.mapping.specs.Bits.{spell, bits_of}
use Rattle.mapping.specs.Terms.{terms}
use Rattle.mapping.specs.Listed.{first_listed}
use Rattle.mapping.specs.Headers.{header_bits, FitsHeader, header_faults}
use Rattle.mapping.specs.Records.{header_for, header_of, value_bits, record_bits, record_size, record_fault}
use Rattle.mapping.specs.declared.header.Header.{Header}
use Rattle.mapping.specs.declared.mapping.Mapping.{Mapping}
use Rattle.mapping.proofs.Spelling.{length_spell, length_bits_of, same_fields, same_fronts}
use Rattle.mapping.proofs.Reading.{Same, same_bits, length_header, header_found, same_faults, accepted_to}
use Rattle.mapping.proofs.Same.{same_mapping}

pub length_value_bits : (cs : List ℤ) → length (value_bits cs) ≡ 32 * length cs
unfolding value_bits
length_value_bits [] = refl
length_value_bits (c ∷ cs) = length-append (spell 32 (of_z w32 c)) (value_bits cs) ∙ ap (λ n. n + length (value_bits cs)) (length_spell 32 (of_z w32 c)) ∙ ap (λ n. 32 + n) (length_value_bits cs) ∙ omega arith

-- ---- the record of a mapping
module _ (m : Mapping) where
  pub header_fits : FitsHeader (header_for m)
  header_fits = record {
    format = lit< tt;
    inputs = omega (arith, m.few);
    degree₁ = omega (arith, m.low 0 (lit< tt));
    degree₂ = omega (arith, m.low 1 (lit< tt));
    degree₃ = omega (arith, m.low 2 (lit< tt));
    shift = omega (arith, m.fine);
    zeros = lit< tt;
  }

  used : List ℤ
  used = take (terms m.degrees) m.coefficients

  length_used : length used ≡ terms m.degrees
  unfolding used
  length_used = length-take-le (terms m.degrees) m.coefficients (omega (arith, m.small, m.table))

  pub length_record_bits : length (record_bits m) ≡ 8 * record_size m
  unfolding record_bits used
  length_record_bits =
      length-append (header_bits (header_for m)) (value_bits used)
      ∙ omega (arith, length_header (header_for m), length_value_bits used, length_used)

  module _ (bs : List ℕ) (e : bits_of bs ≡ record_bits m) where
    pub record_length : length bs ≡ record_size m
    record_length = omega (arith, length_bits_of bs, ap length e, length_record_bits)

    pub header_at : Same (header_of bs) (header_for m)
    unfolding record_bits
    header_at = header_found bs (value_bits (take (terms m.degrees) m.coefficients)) (header_for m) header_fits e

    -- a mapping's record is accepted
    pub record_accepted : record_fault bs ≡ None
    unfolding record_fault
    record_accepted =
        let ok : first_listed (header_faults (header_for m) (length bs)) ≡ None =
        accepted_to (header_for m) (length bs) (record {
          format = refl;
          inputs = m.some;
          absent₂ = λ h. m.absent 1 h (lit< tt);
          absent₃ = λ h. m.absent 2 h (lit< tt);
          zeros = refl;
          few = m.small;
          size = record_length;
        }) in
        let long : ltb (length bs) 3 ≡ false = le-ltb (length bs) 3 (omega (arith, record_length)) in
        rw long (ap first_listed (same_faults (header_of bs) (header_for m) (length bs) header_at) ∙ ok)

-- ---- no other mapping
-- a coefficient is told by its bits
same_coefficient : (x y : ℤ) → mag x < 2 ^ 31 → mag y < 2 ^ 31 → of_z w32 x ≡ of_z w32 y → x ≡ y
same_coefficient x y f g e = sym (to_z-of_z w32 x (record { sfits = f })) ∙ ap (to_z w32) e ∙ to_z-of_z w32 y (record { sfits = g })

bits_below : (x : ℤ) → mag x < 2 ^ 31 → of_z w32 x < 2 ^ 32
bits_below (pos n) h = omega arith
bits_below (negsuc n) h = omega arith

-- and so is a list of them
same_values : (xs ys : List ℤ) → ((k : ℕ) → mag (get_or xs k (pos 0)) < 2 ^ 31) → ((k : ℕ) → mag (get_or ys k (pos 0)) < 2 ^ 31) → length xs ≡ length ys → value_bits xs ≡ value_bits ys → xs ≡ ys
unfolding value_bits
same_values [] [] f g l e = refl
same_values [] (y ∷ ys) f g l e = absurd (omega arith)
same_values (x ∷ xs) [] f g l e = absurd (omega arith)
same_values (x ∷ xs) (y ∷ ys) f g l e =
    let p = same_fields 32 (of_z w32 x) (of_z w32 y) (value_bits xs) (value_bits ys) (bits_below x (f 0)) (bits_below y (g 0)) e in
    ap (λ z. z ∷ xs) (same_coefficient x y (f 0) (g 0) p.0)
    ∙ ap (λ zs. y ∷ zs) (same_values xs ys (λ k. f (suc k)) (λ k. g (suc k)) (omega arith) p.1)

-- what holds of each element and of zero holds of each of the first ones
each_taken : (P : ℤ → Type 0) (n : ℕ) (xs : List ℤ) → P (pos 0) → ((k : ℕ) → P (get_or xs k (pos 0))) → (k : ℕ) → P (get_or (take n xs) k (pos 0))
each_taken P n xs z h k =
    ⊎_elim
    (λ (l : k < n). subst P (sym (get_or-take n xs k (pos 0) l)) (h k))
    (λ (l : n ≤ k). subst P (sym (get_or_past (take n xs) k (pos 0) (simp length-take (omega arith)))) z)
    (cases_lt k n)

module _ (a b : Mapping) (bs : List ℕ) (e : bits_of bs ≡ record_bits a) (f : bits_of bs ≡ record_bits b) where
  same_degree : (v : ℕ) → v < 3 → get_or a.degrees v 0 ≡ get_or b.degrees v 0
  same_degree zero h = sym (header_at a bs e).degree₁ ∙ (header_at b bs f).degree₁
  same_degree (suc zero) h = sym (header_at a bs e).degree₂ ∙ (header_at b bs f).degree₂
  same_degree (suc (suc zero)) h = sym (header_at a bs e).degree₃ ∙ (header_at b bs f).degree₃
  same_degree (suc (suc (suc v))) h = absurd (omega arith)

  same_degrees : a.degrees ≡ b.degrees
  same_degrees = ext_get_or 0 a.degrees b.degrees (a.three ∙ sym b.three) (λ v h. same_degree v (omega (arith, a.three)))

  same_terms' : terms a.degrees ≡ terms b.degrees
  same_terms' = ap terms same_degrees

  same_used : used a ≡ used b
  unfolding used record_bits
  same_used =
      same_values (used a) (used b)
      (each_taken (λ x. mag x < 2 ^ 31) (terms a.degrees) a.coefficients (lit< tt) a.narrow)
      (each_taken (λ x. mag x < 2 ^ 31) (terms b.degrees) b.coefficients (lit< tt) b.narrow)
      (length_used a ∙ same_terms' ∙ sym (length_used b))
      (same_fronts (header_bits (header_for a)) (header_bits (header_for b)) (value_bits (used a)) (value_bits (used b))
      (length_header (header_for a) ∙ sym (length_header (header_for b))) (sym e ∙ f)).1

  same_coefficients : a.coefficients ≡ b.coefficients
  unfolding used
  same_coefficients =
      ext_get_or (pos 0) a.coefficients b.coefficients (a.table ∙ sym b.table)
      (λ k h. ⊎_elim
      (λ (l : k < terms a.degrees).
      sym (get_or-take (terms a.degrees) a.coefficients k (pos 0) l)
      ∙ ap (λ xs. get_or xs k (pos 0)) same_used
      ∙ get_or-take (terms b.degrees) b.coefficients k (pos 0) (omega (arith, same_terms')))
      (λ (l : terms a.degrees ≤ k). a.unused k l ∙ sym (b.unused k (omega (arith, same_terms'))))
      (cases_lt k (terms a.degrees)))

  -- bytes are the record of at most one mapping
  pub one_mapping : a ≡ b
  one_mapping =
      same_mapping a b (sym (header_at a bs e).inputs ∙ (header_at b bs f).inputs) same_degrees
      (sym (header_at a bs e).kind ∙ (header_at b bs f).kind)
      (sym (header_at a bs e).shift ∙ (header_at b bs f).shift) same_coefficients

-- what was read as a header and its coefficients is the record of the mapping made from them
pub record_parsed : (m : Mapping) (h : Header) (bs rest : List ℕ) → Same (header_for m) h → bits_of bs ≡ header_bits h ++ (value_bits (take (terms m.degrees) m.coefficients) ++ rest) → length bs ≡ record_size m → bits_of bs ≡ record_bits m
unfolding record_bits used
record_parsed m h bs rest s e l =
    let bits : bits_of bs ≡ record_bits m ++ rest =
    e ∙ ap (λ r. r ++ (value_bits (used m) ++ rest)) (sym (same_bits (header_for m) h s))
    ∙ sym (append_assoc (header_bits (header_for m)) (value_bits (used m)) rest) in
    let none : rest ≡ [] =
    nil_from_length rest (omega (arith, length_bits_of bs, ap length bits, length-append (record_bits m) rest, length_record_bits m)) in
    bits ∙ ap (λ r. record_bits m ++ r) none ∙ append-nil (record_bits m)
