-- What a caller of the library is given, through buffers of its own.
--     too_small, no_memory       −1 and −2, which are no number of bytes
--     Fitting text before r after
--                                the text at the front of a buffer that held `before`, and its length
--     Unfit text before r after
--                                the buffer is too small, and unchanged
--     Handed text before r after
--                                one of the two
--     Delivered bs before r after
--                                the delivery of the text that the input bs is answered by; or no memory, and nothing is changed
-- Assumes nothing.
use Rattle.std.specs.Prelude.{◌≡◌, ℕ, ◌<◌, ◌≤◌, ◌⊎◌, List, ◌++◌, length, drop, ℤ, pos, negsuc}
use Rattle.job.specs.Printed.{Text}

abbrev pub too_small : ℤ
too_small = negsuc 0

abbrev pub no_memory : ℤ
no_memory = negsuc 1

pub record Fitting (text : List ℕ) (before : List ℕ) (r : ℤ) (after : List ℕ) : Type 0 where
  pub room : length text ≤ length before
  pub count : r ≡ pos (length text)
  pub bytes : after ≡ text ++ drop (length text) before

pub record Unfit (text : List ℕ) (before : List ℕ) (r : ℤ) (after : List ℕ) : Type 0 where
  pub room : length before < length text
  pub count : r ≡ too_small
  pub bytes : after ≡ before

abbrev pub Handed : List ℕ → List ℕ → ℤ → List ℕ → Type 0
Handed text before r after = Fitting text before r after ⊎ Unfit text before r after

pub record Unmade (before : List ℕ) (r : ℤ) (after : List ℕ) : Type 0 where
  pub count : r ≡ no_memory
  pub bytes : after ≡ before

pub record Answer (bs : List ℕ) (before : List ℕ) (r : ℤ) (after : List ℕ) : Type 0 where
  pub text : List ℕ
  pub answered : Text bs text
  pub delivery : Handed text before r after

abbrev pub Delivered : List ℕ → List ℕ → ℤ → List ℕ → Type 0
Delivered bs before r after = Unmade before r after ⊎ Answer bs before r after
