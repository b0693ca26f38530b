-- The text of an answer.
--     printed ls         the bytes of lines, each ended by a newline
--     Text bs t          t is the text of the lines that the input bs is answered by
-- Assumes nothing.
use Rattle.std.specs.Prelude.{◌≡◌, ℕ, List, [], ◌∷◌, ◌++◌}
use Rattle.job.specs.Answering.{Answered}
use Rattle.job.specs.Spelled.{spelled}
use Rattle.job.specs.declared.line.Line.{Line}

abbrev pub printed : List Line → List ℕ
printed [] = []
printed (l ∷ ls) = (spelled l ++ (10 ∷ [])) ++ printed ls

pub record Text (bs : List ℕ) (text : List ℕ) : Type 0 where
  pub lines : List Line
  pub answered : Answered bs lines
  pub spelled : text ≡ printed lines
