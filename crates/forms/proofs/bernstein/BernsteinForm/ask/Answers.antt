-- The answer, from the two tables. Assumes nothing.
use Rattle.std.proofs.Common.{pos}
use Rattle.forms.proofs.Upto.{throughout}
use Rattle.forms.proofs.bernstein.BernsteinForm.ask.Goals as goal

pub first_tables-requires : goal.first_tables-requires
first_tables-requires c = record { low = throughout (pos 0) 64; high = throughout (pos 0) 64 }
