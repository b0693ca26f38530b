-- Bytes that are read as a record: the header's fields found at their places, and what follows where nothing is refused. Assumes nothing.
use Rattle.std.proofs.Common.{◌≡◌, ℕ, zero, suc, ◌+◌, ◌*◌, ◌^◌, ◌<◌, ◌≤◌, true, false, ltb, List, ◌++◌, length, get_or, take, drop, Some, None, Ok, Err, Option, sym, refl, ap, ◌∙◌, append_assoc, arith, lit<, length-append}
use Rattle.std.proofs.lemmas.List.{take_at, drop_at, drop-drop}
use Rattle.std.proofs.lemmas.Bool.{lt-ltb, le-ltb}
use Rattle.std.proofs.lemmas.Bool.Decides.{nat_tests}
use Rattle.mapping.specs.Bits.{spell, number, bits_of, field}
use Rattle.mapping.specs.Terms.{terms}
use Rattle.mapping.specs.Kinds.{kind_number}
use Rattle.mapping.specs.Listed.{first_listed, outcome}
use Rattle.mapping.specs.Headers.{header_bits, FitsHeader, header_faults}
use Rattle.mapping.specs.Records.{header_of, kinds, record_fault}
use Rattle.mapping.specs.declared.header.Header.{Header}
use Rattle.mapping.specs.declared.kind.Kind.{Kind}
use Rattle.mapping.specs.declared.kind.Kind.TheVariants.{Unsigned8, Signed8, Unsigned16, Signed16, Unsigned12, Signed12, Unsigned14, Signed14}
use Rattle.mapping.specs.declared.fault.RecordFault.TheVariants.{Short}
use Rattle.mapping.proofs.Spelling.{length_spell, number_spell, length_bits_of}

pub length_header : (h : Header) → length (header_bits h) ≡ 24
length_header h = simp (length-append, length_spell)

-- ---- kinds
kind_back : (k : Kind) → get_or kinds (kind_number k) Unsigned8 ≡ k
kind_back Unsigned8 = refl
kind_back Signed8 = refl
kind_back Unsigned16 = refl
kind_back Signed16 = refl
kind_back Unsigned12 = refl
kind_back Signed12 = refl
kind_back Unsigned14 = refl
kind_back Signed14 = refl

pub kind_below : (k : Kind) → kind_number k < 8
kind_below Unsigned8 = lit< tt
kind_below Signed8 = lit< tt
kind_below Unsigned16 = lit< tt
kind_below Signed16 = lit< tt
kind_below Unsigned12 = lit< tt
kind_below Signed12 = lit< tt
kind_below Unsigned14 = lit< tt
kind_below Signed14 = lit< tt

-- ---- the header's fields
-- the number in a field that stands at bit p
field_here : (bs rest : List ℕ) (p k v : ℕ) → v < 2 ^ k → drop p (bits_of bs) ≡ spell k v ++ rest → field bs p k ≡ v
unfolding field
field_here bs rest p k v h e =
    ap (λ b. number (take k b)) e ∙ ap number (take_at (spell k v) rest k (length_spell k v)) ∙ number_spell k v h

-- and what stands behind it
field_next : (bs x rest : List ℕ) (p k v : ℕ) → v < 2 ^ k → drop p (bits_of bs) ≡ (spell k v ++ x) ++ rest → (field bs p k ≡ v) × (drop (p + k) (bits_of bs) ≡ x ++ rest)
field_next bs x rest p k v h e =
    let e' : drop p (bits_of bs) ≡ spell k v ++ (x ++ rest) = e ∙ append_assoc (spell k v) x rest in (
      field_here bs (x ++ rest) p k v h e',
      sym (drop-drop k p (bits_of bs)) ∙ ap (drop k) e' ∙ drop_at (spell k v) (x ++ rest) k (length_spell k v),
    )

pub low_degrees : (h : Header) → FitsHeader h → (v : ℕ) → v < 3 → get_or h.degrees v 0 ≤ 7
low_degrees h fits zero l = omega (arith, fits.degree₁)
low_degrees h fits (suc zero) l = omega (arith, fits.degree₂)
low_degrees h fits (suc (suc zero)) l = omega (arith, fits.degree₃)
low_degrees h fits (suc (suc (suc v))) l = absurd (omega arith)

-- two headers with the same numbers
pub record Same (g h : Header) : Type 0 where
  pub format : g.format ≡ h.format
  pub inputs : g.inputs ≡ h.inputs
  pub degree₁ : get_or g.degrees 0 0 ≡ get_or h.degrees 0 0
  pub degree₂ : get_or g.degrees 1 0 ≡ get_or h.degrees 1 0
  pub degree₃ : get_or g.degrees 2 0 ≡ get_or h.degrees 2 0
  pub kind : g.kind ≡ h.kind
  pub shift : g.shift ≡ h.shift
  pub zeros : g.zeros ≡ h.zeros

-- the header's fields are found at their places
pub header_found : (bs rest : List ℕ) (h : Header) → FitsHeader h → bits_of bs ≡ header_bits h ++ rest → Same (header_of bs) h
header_found bs rest h fits e =
    let f = field_next bs _ rest 0 4 h.format fits.format e in
    let s = field_next bs _ rest 4 2 h.inputs fits.inputs f.1 in
    let n₁ = field_next bs _ rest 6 3 (get_or h.degrees 0 0) fits.degree₁ s.1 in
    let n₂ = field_next bs _ rest 9 3 (get_or h.degrees 1 0) fits.degree₂ n₁.1 in
    let n₃ = field_next bs _ rest 12 3 (get_or h.degrees 2 0) fits.degree₃ n₂.1 in
    let k = field_next bs _ rest 15 3 (kind_number h.kind) (kind_below h.kind) n₃.1 in
    let q = field_next bs _ rest 18 4 h.shift fits.shift k.1 in
    record {
      format = f.0;
      inputs = s.0;
      degree₁ = n₁.0;
      degree₂ = n₂.0;
      degree₃ = n₃.0;
      kind = ap (λ n. get_or kinds n Unsigned8) k.0 ∙ kind_back h.kind;
      shift = q.0;
      zeros = field_here bs rest 22 2 h.zeros fits.zeros q.1;
    }

pub same_terms : (g h : Header) → Same g h → terms g.degrees ≡ terms h.degrees
same_terms g h s = cc (s.degree₁, s.degree₂, s.degree₃)

pub same_faults : (g h : Header) (n : ℕ) → Same g h → header_faults g n ≡ header_faults h n
same_faults g h n s = cc (s.format, s.inputs, s.degree₂, s.degree₃, s.zeros, same_terms g h s)

-- what holds of a header before n bytes in all where nothing is refused
pub record Accepted (h : Header) (n : ℕ) : Type 0 where
  pub format : h.format ≡ 1
  pub inputs : 1 ≤ h.inputs
  pub absent₂ : h.inputs ≤ 1 → get_or h.degrees 1 0 ≡ 0
  pub absent₃ : h.inputs ≤ 2 → get_or h.degrees 2 0 ≡ 0
  pub zeros : h.zeros ≡ 0
  pub few : terms h.degrees ≤ 64
  pub size : n ≡ 3 + 4 * terms h.degrees

pub accepted_from : (h : Header) (n : ℕ) → first_listed (header_faults h n) ≡ None → Accepted h n
accepted_from h n e = record {
  format = grind (arith, nat_tests);
  inputs = grind (arith, nat_tests);
  absent₂ = grind (arith, nat_tests);
  absent₃ = grind (arith, nat_tests);
  zeros = grind (arith, nat_tests);
  few = grind (arith, nat_tests);
  size = grind (arith, nat_tests);
}

pub accepted_to : (h : Header) (n : ℕ) → Accepted h n → first_listed (header_faults h n) ≡ None
accepted_to h n a = grind (arith, nat_tests)

pub same_bits : (g h : Header) → Same g h → header_bits g ≡ header_bits h
same_bits g h s = cc (s.format, s.inputs, s.degree₁, s.degree₂, s.degree₃, s.kind, s.shift, s.zeros)

-- ---- what is refused
pub refused_from : {T F : Type 0} (x : T) (o : Option F) (f : F) → outcome x o ≡ Err f → o ≡ Some f
refused_from x None f e = cc
refused_from x (Some g) f e = cc

pub passed_from : {T F : Type 0} (x y : T) (o : Option F) → outcome x o ≡ Ok y → o ≡ None
passed_from x y None e = refl
passed_from x y (Some g) e = cc

pub short_refused : (bs : List ℕ) → length (bits_of bs) < 24 → record_fault bs ≡ Some Short
unfolding record_fault
short_refused bs h =
    let short : ltb (length bs) 3 ≡ true = lt-ltb (length bs) 3 (omega (arith, length_bits_of bs)) in
    rw short

-- bytes that hold a header are refused as the header is
pub header_decides : (bs rest : List ℕ) (h : Header) → FitsHeader h → bits_of bs ≡ header_bits h ++ rest → record_fault bs ≡ first_listed (header_faults h (length bs))
unfolding record_fault
header_decides bs rest h fits e =
    let long : ltb (length bs) 3 ≡ false =
    le-ltb (length bs) 3 (omega (arith, length_bits_of bs, ap length e, length-append (header_bits h) rest, length_header h)) in
    rw long (ap first_listed (same_faults (header_of bs) h (length bs) (header_found bs rest h fits e)))
