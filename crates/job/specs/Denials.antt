-- The numbers of what is refused.
--     denial_number d    the fault's own number, the refusal's own number, or 43 where there is no call
-- Assumes nothing.
use Rattle.std.specs.Prelude.{ℕ}
use Rattle.enquiry.specs.Refusals.{refusal_number}
use Rattle.job.specs.Loading.{load_number}
use Rattle.job.specs.declared.denial.Denial.{Denial}
use Rattle.job.specs.declared.denial.Denial.TheVariants.{Load, Refused, NoCall}

abbrev pub denial_number : Denial → ℕ
denial_number (Load f) = load_number f
denial_number (Refused f) = refusal_number f
denial_number NoCall = 43
