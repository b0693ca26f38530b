-- Coefficients as fields of 32 bits, one more at a time. Assumes nothing.
use Rattle.std.proofs.Common.{◌≡◌, ℕ, zero, suc, ◌+◌, ◌-◌, ◌^◌, ◌<◌, ◌≤◌, List, [], ◌∷◌, ◌++◌, length, get_or, take, drop, set, replicate, ℤ, pos, sym, refl, ap, ◌∙◌, subst, ⊎_elim, append_assoc, arith, lit<, length-append, length-drop, w32, to_z, of_z}
use lib.Signed.{mag}
use Rattle.std.proofs.lemmas.List.{take_more_set, take_at, flat_map_more, get_or-append_right, get_or-drop, get_or_past, length-replicate}
use Rattle.std.proofs.lemmas.List.Elements.{All-get_or, All-append, All-drop, All-replicate}
use Rattle.std.proofs.lemmas.Bool.{cases_lt}
use Rattle.std.specs.List.{All}
use Rattle.std.proofs.lemmas.Int.{of_z-to_z}
use Rattle.mapping.specs.Bits.{spell}
use Rattle.mapping.specs.Records.{value_bits, Padded}

pub value_bits_push : (xs : List ℤ) (x : ℤ) → value_bits (xs ++ x ∷ []) ≡ value_bits xs ++ spell 32 (of_z w32 x)
unfolding value_bits
value_bits_push xs x = sym (flat_map_more (λ c. spell 32 (of_z w32 c)) [] xs x)

-- a field that is read goes to the end of those that were read
pub values_more : (xs : List ℤ) (k v : ℕ) (x : ℤ) (u t w : List ℕ) → k < length xs → v < 2 ^ 32 → x ≡ to_z w32 v → u ≡ value_bits (take k xs) ++ t → t ≡ spell 32 v ++ w → u ≡ value_bits (take (k + 1) (set xs k x)) ++ w
values_more xs k v x u t w l f is e g =
    let more : value_bits (take (k + 1) (set xs k x)) ≡ value_bits (take k xs) ++ spell 32 v =
    ap value_bits (take_more_set xs k x l) ∙ value_bits_push (take k xs) x
    ∙ ap (λ n. value_bits (take k xs) ++ spell 32 n) (ap (of_z w32) is ∙ of_z-to_z w32 v f) in
    e ∙ ap (λ r. value_bits (take k xs) ++ r) g
    ∙ sym (append_assoc (value_bits (take k xs)) (spell 32 v) w)
    ∙ ap (λ r. r ++ w) (sym more)

pub zeros_at : (n j : ℕ) → get_or (replicate n (pos 0)) j (pos 0) ≡ pos 0
zeros_at zero j = refl
zeros_at (suc n) zero = refl
zeros_at (suc n) (suc j) = zeros_at n j

pub zeros_narrow : (n j : ℕ) → mag (get_or (replicate n (pos 0)) j (pos 0)) < 2 ^ 31
zeros_narrow n j = subst (λ (x : ℤ). mag x < 2 ^ 31) (sym (zeros_at n j)) (lit< tt)

abbrev pub Narrow : ℤ → Type 0
Narrow x = mag x < 2 ^ 31

-- what holds of each element and of what is read behind the last
each_read : (P : ℤ → Type 0) (xs : List ℤ) (d : ℤ) → P d → All P xs → (k : ℕ) → P (get_or xs k d)
each_read P xs d p h k =
    ⊎_elim
    (λ (l : k < length xs). All-get_or P xs k d l h)
    (λ (l : length xs ≤ k). subst P (sym (get_or_past xs k d l)) p)
    (cases_lt k (length xs))

-- coefficients in front of an array of zeros
module _ (xs : List ℤ) (n : ℕ) (all : length xs ≡ n) where
  pub front_taken : take n (xs ++ drop n (replicate 64 (pos 0))) ≡ xs
  front_taken = take_at xs (drop n (replicate 64 (pos 0))) n all

  pub padded : n ≤ 64 → All Narrow xs → Padded n (xs ++ drop n (replicate 64 (pos 0)))
  padded l h =
      let zeros = drop n (replicate 64 (pos 0)) in
      let small : All Narrow zeros = All-drop Narrow n (replicate 64 (pos 0)) (All-replicate Narrow 64 (pos 0) (lit< tt)) in
      record {
        table = simp (length-append, length-drop, length-replicate) (omega arith);
        narrow = each_read Narrow (xs ++ zeros) (pos 0) (lit< tt) (All-append Narrow xs zeros h small);
        unused = λ k g.
            get_or-append_right xs zeros n k (pos 0) all g
            ∙ get_or-drop n (replicate 64 (pos 0)) (k - n) (pos 0)
            ∙ zeros_at 64 (n + (k - n));
      }
