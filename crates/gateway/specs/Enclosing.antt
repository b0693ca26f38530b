-- Asking a form over a list of cells.
--     meant f            what a form means
--     form_of n          the form that a number names: 0 nested, 1 Bernstein, 2 the pair of both
--     shape_at cs k      cell k of the list, in 9 bytes
--     cells cs           how many cells the list has
--     Listed cs          whole cells, each within the limits
--     shape_in ps k      cell k of pieces that have a cell each
--     Cut cs ps          the pieces have the cells of the list
--     AnswersOver ask shape n out
--                        out holds low, high and slack of each of the first n of some cells, one after the other
--     Answers ask cs out       the same of all cells of the list
--     Behind n before after    from place n on nothing changed
--     Enclosed form bs cs before r after
--                        the first refusal of the record (1 to 7), the form (71), the cells (72) and the room (73), with nothing changed;
--                        or 0, and the answers of the form for the mapping whose record bs is
-- Assumes nothing.
use Rattle.std.specs.Prelude.{◌≡◌, ℕ, zero, suc, ◌+◌, ◌*◌, ◌/◌, ◌%◌, ◌<◌, ◌≤◌, ◌⊎◌, List, [], length, take, drop, get_or, ℤ, pos, Some, None, Option, slice_index_or}
use Rattle.mapping.specs.Bits.{bits_of}
use Rattle.mapping.specs.Cells.{Valid}
use Rattle.mapping.specs.Faults.{record_number}
use Rattle.mapping.specs.Packed.{unpacked}
use Rattle.mapping.specs.Records.{record_bits, record_fault}
use Rattle.mapping.specs.declared.cell.Cell.{Cell}
use Rattle.mapping.specs.declared.cell.Shape.{Shape}
use Rattle.mapping.specs.declared.fault.RecordFault.{RecordFault}
use Rattle.mapping.specs.declared.mapping.Mapping.{Mapping}
use Rattle.forms.specs.Bernstein.{bernstein}
use Rattle.forms.specs.Nested.{nested}
use Rattle.forms.specs.Pairs.{both}
use Rattle.forms.specs.declared.answer.Answer.{Answer}
use Rattle.gateway.specs.declared.choice.Choice.{Choice}
use Rattle.gateway.specs.declared.choice.Choice.TheVariants.{Nested, Bernstein, Both}

abbrev pub meant : Choice → Mapping → Cell → Answer
meant Nested = nested
meant Bernstein = bernstein
meant Both = both bernstein nested

abbrev pub form_of : ℕ → Option Choice
form_of zero = Some Nested
form_of (suc zero) = Some Bernstein
form_of (suc (suc zero)) = Some Both
form_of (suc (suc (suc n))) = None

abbrev pub shape_at : List ℕ → ℕ → Shape
shape_at cs k = unpacked (take 9 (drop (9 * k) cs))

abbrev pub cells : List ℕ → ℕ
cells cs = length cs / 9

pub record Listed (cs : List ℕ) : Type 0 where
  pub whole : length cs % 9 ≡ 0
  pub valid : (k : ℕ) → k < cells cs → Valid (shape_at cs k)

abbrev pub shape_in : List (List ℕ) → ℕ → Shape
shape_in pieces k = unpacked (slice_index_or pieces k [])

pub record Cut (cs : List ℕ) (pieces : List (List ℕ)) : Type 0 where
  pub listed : Listed cs
  pub many : length pieces ≡ cells cs
  pub each : (k : ℕ) → k < cells cs → shape_in pieces k ≡ shape_at cs k

-- low, high and slack stand one after the other from this place on
pub record Holds (a : Answer) (out : List ℤ) (at : ℕ) : Type 0 where
  pub low : get_or out at (pos 0) ≡ a.low
  pub high : get_or out (at + 1) (pos 0) ≡ a.high
  pub slack : get_or out (at + 2) (pos 0) ≡ a.slack

abbrev pub AnswersOver : (Cell → Answer) → (ℕ → Shape) → ℕ → List ℤ → Type 0
AnswersOver ask shape n out = (k : ℕ) (c : Cell) → k < n → c.shape ≡ shape k → Holds (ask c) out (3 * k)

abbrev pub Answers : (Cell → Answer) → List ℕ → List ℤ → Type 0
Answers ask cs out = AnswersOver ask (shape_at cs) (cells cs) out

pub record Behind (n : ℕ) (before after : List ℤ) : Type 0 where
  pub size : length after ≡ length before
  pub same : (j : ℕ) → n ≤ j → slice_index_or after j (pos 0) ≡ slice_index_or before j (pos 0)

-- the record is refused
pub record Unread (bs : List ℕ) (before : List ℤ) (r : ℕ) (after : List ℤ) : Type 0 where
  pub fault : RecordFault
  pub given : record_fault bs ≡ Some fault
  pub number : r ≡ record_number fault
  pub same : after ≡ before

-- there is no such form
pub record Unknown (form : ℕ) (bs : List ℕ) (before : List ℤ) (r : ℕ) (after : List ℤ) : Type 0 where
  pub accepted : record_fault bs ≡ None
  pub unknown : form_of form ≡ None
  pub number : r ≡ 71
  pub same : after ≡ before

-- the list is not one of cells
pub record Unlisted (form : ℕ) (bs cs : List ℕ) (before : List ℤ) (r : ℕ) (after : List ℤ) : Type 0 where
  pub accepted : record_fault bs ≡ None
  pub choice : Choice
  pub known : form_of form ≡ Some choice
  pub unlisted : Listed cs → ⊥
  pub number : r ≡ 72
  pub same : after ≡ before

-- there is no room for all answers
pub record Crowded (form : ℕ) (bs cs : List ℕ) (before : List ℤ) (r : ℕ) (after : List ℤ) : Type 0 where
  pub accepted : record_fault bs ≡ None
  pub choice : Choice
  pub known : form_of form ≡ Some choice
  pub listed : Listed cs
  pub room : length before < 3 * cells cs
  pub number : r ≡ 73
  pub same : after ≡ before

-- all is well
pub record Done (form : ℕ) (bs cs : List ℕ) (before : List ℤ) (r : ℕ) (after : List ℤ) : Type 0 where
  pub mapping : Mapping
  pub held : bits_of bs ≡ record_bits mapping
  pub choice : Choice
  pub known : form_of form ≡ Some choice
  pub listed : Listed cs
  pub room : 3 * cells cs ≤ length before
  pub number : r ≡ 0
  pub answers : Answers (meant choice mapping) cs after
  pub behind : Behind (3 * cells cs) before after

abbrev pub Enclosed : ℕ → List ℕ → List ℕ → List ℤ → ℕ → List ℤ → Type 0
Enclosed form bs cs before r after =
    Unread bs before r after
    ⊎ (Unknown form bs before r after ⊎ (Unlisted form bs cs before r after ⊎ (Crowded form bs cs before r after ⊎ Done form bs cs before r after)))
