-- The promise: every run of every enquiry is honest. Assumes nothing.
use Rattle.std.proofs.Common.{◌≡◌, List, [], ◌∷◌, ◌++◌, IfSome, Some, None, Ok, Err, Option, Result, sym, refl, subst}
use Rattle.std.specs.List.{AllByRecursion}
use Rattle.std.proofs.ByRecursion.{All-weaker}
use Rattle.mapping.specs.declared.cell.Cell.{Cell}
use Rattle.mapping.specs.declared.mapping.Mapping.{Mapping}
use Rattle.forms.specs.Rules.{Rules}
use Rattle.forms.specs.declared.answer.Answer.{Answer}
use Rattle.enquiry.specs.Honest.{Honest, Outside, WitnessTrue, Pairwise, Encloses, Inside, LowNear, HighNear, FitsTrue, LeavesTrue, Settled}
use Rattle.enquiry.specs.Runs.{told, ends_told, reply, replies, after, reported, reports}
use Rattle.enquiry.specs.States.{State, opened}
use Rattle.enquiry.specs.Steps.{halve, clear, probe, report, closed_with, close, last_report}
use Rattle.enquiry.specs.declared.call.Call.{Call}
use Rattle.enquiry.specs.declared.call.Call.TheVariants as call
use Rattle.enquiry.specs.declared.call.Reply.{Reply}
use Rattle.enquiry.specs.declared.call.Reply.TheVariants.{Halved, Cleared}
use Rattle.enquiry.specs.declared.refusal.Refusal.{Refusal}
use Rattle.enquiry.specs.declared.report.Report.{Report}
use Rattle.enquiry.specs.declared.witness.Witness.{Witness}
use Rattle.enquiry.proofs.Sound.{Sound, opened_sound, halve_sound, clear_sound, probe_sound}
use Rattle.enquiry.proofs.Since.{TrueReport, Since, report_true, since_report, later_inside, later_settled, halve_since, clear_since, probe_since}

-- a reply that is no report adds none
not_told : {T : Type 0} (f : T → Reply) → ((x : T) (rs : List Reply) → reported (f x ∷ rs) ≡ reported rs) → (r : Result T Refusal) (rs : List Reply) → reported (told f r ∷ rs) ≡ reported rs
not_told f silent (Ok x) rs = silent x rs
not_told f silent (Err e) rs = refl

closing_report : (r : Report) (w : Option Witness) → last_report (closed_with r w) ≡ r
closing_report r None = refl
closing_report r (Some w) = refl

closing_witness : (m : Mapping) (r : Report) (w : Option Witness) → IfSome w (Outside m) → WitnessTrue m (closed_with r w)
closing_witness m r None h = tt
closing_witness m r (Some w) h = h

module _ (ask : Mapping → Cell → Answer) (rules : Rules ask) (m : Mapping) where
  -- the reports that follow from a state on: those called for, and the closing one
  abbrev following : State → List Call → List Report
  following s cs = reported (replies ask m s cs) ++ report m (after ask m s cs) ∷ []

  reply_sound : (s : State) (c : Call) → Sound m s → Sound m (reply ask m s c).1
  unfolding reply
  reply_sound s (call.Halve i n) ok = halve_sound ask rules m s i n ok
  reply_sound s (call.Clear i) ok = clear_sound m s i ok
  reply_sound s (call.Probe i k) ok = probe_sound m s i k ok
  reply_sound s call.Report ok = ok

  reply_since : (r : Report) (s : State) (c : Call) → Since m r s → Since m r (reply ask m s c).1
  unfolding reply
  reply_since r s (call.Halve i n) h = halve_since m r s h ask i n
  reply_since r s (call.Clear i) h = clear_since m r s h i
  reply_since r s (call.Probe i k) h = probe_since m r s h i k
  reply_since r s call.Report h = h

  after_sound : (s : State) (cs : List Call) → Sound m s → Sound m (after ask m s cs)
  unfolding after
  after_sound s [] ok = ok
  after_sound s (c ∷ cs) ok = after_sound (reply ask m s c).1 cs (reply_sound s c ok)

  -- after one more call: the reports from the next state on, with one in front where the call asked for it
  each_call : (P : List Report → Type 0) (s : State) (c : Call) (cs : List Call)
      → P (following (reply ask m s c).1 cs)
      → (P (following s cs) → P (report m s ∷ following s cs))
      → P (following s (c ∷ cs))
  unfolding replies after reply
  each_call P s (call.Halve i n) cs p q = subst (λ rs. P (rs ++ report m (after ask m (halve ask m s i n).1 cs) ∷ [])) (sym (not_told Halved (λ x rs. refl) (halve ask m s i n).0 _)) p
  each_call P s (call.Clear i) cs p q = subst (λ rs. P (rs ++ report m (after ask m (clear m s i).1 cs) ∷ [])) (sym (not_told Cleared (λ x rs. refl) (clear m s i).0 _)) p
  each_call P s (call.Probe i k) cs p q = subst (λ rs. P (rs ++ report m (after ask m (probe m s i k).1 cs) ∷ [])) (sym (not_told ends_told (λ x rs. refl) (probe m s i k).0 _)) p
  each_call P s call.Report cs p q = q p

  all_true : (s : State) (cs : List Call) → Sound m s → AllByRecursion (TrueReport m) (following s cs)
  unfolding replies after
  all_true s [] ok = (report_true m s ok, tt)
  all_true s (c ∷ cs) ok =
      each_call (AllByRecursion (TrueReport m)) s c cs (all_true (reply ask m s c).1 cs (reply_sound s c ok)) (λ rest. (report_true m s ok, rest))

  all_later : (r : Report) → TrueReport m r → (s : State) (cs : List Call) → Sound m s → Since m r s → AllByRecursion (λ l. Inside r l × Settled r l) (following s cs)
  unfolding replies after
  all_later r t s [] ok h = ((later_inside m s ok r t h, later_settled m s ok r t h), tt)
  all_later r t s (c ∷ cs) ok h =
      each_call (AllByRecursion (λ l. Inside r l × Settled r l)) s c cs
      (all_later r t (reply ask m s c).1 cs (reply_sound s c ok) (reply_since r s c h))
      (λ rest. ((later_inside m s ok r t h, later_settled m s ok r t h), rest))

  pairwise_later : (s : State) (cs : List Call) → Sound m s → Pairwise (λ e l. Inside e l × Settled e l) (following s cs)
  unfolding replies after
  pairwise_later s [] ok = (tt, tt)
  pairwise_later s (c ∷ cs) ok =
      each_call (Pairwise (λ e l. Inside e l × Settled e l)) s c cs (pairwise_later (reply ask m s c).1 cs (reply_sound s c ok))
      (λ rest. (all_later (report m s) (report_true m s ok) s cs ok (since_report m s ok), rest))

pairwise_weaker : {X : Type 0} (R S : X → X → Type 0) → ((x y : X) → R x y → S x y) → (xs : List X) → Pairwise R xs → Pairwise S xs
pairwise_weaker R S f [] p = tt
pairwise_weaker R S f (x ∷ xs) p = (All-weaker (R x) (S x) (f x) xs p.0, pairwise_weaker R S f xs p.1)

-- every run, of every enquiry on any mapping, by any form that keeps the rules
pub every_run_honest : (ask : Mapping → Cell → Answer) → Rules ask → (m : Mapping) (calls : List Call) → Honest m (reports ask m calls)
unfolding reports close
every_run_honest ask rules m calls =
    subst (λ last. Honest m (report m (opened ask m) ∷ (reported (replies ask m (opened ask m) calls) ++ last ∷ [])))
    (sym (closing_report (report m (after ask m (opened ask m) calls)) (after ask m (opened ask m) calls).witness))
    (record {
      encloses = All-weaker (TrueReport m) (Encloses m) (λ r t. t.encloses) every all;
      nested = pairwise_weaker Both Inside (λ e l h. h.0) every pairs;
      low_near = All-weaker (TrueReport m) (LowNear m) (λ r t. t.low_near) every all;
      high_near = All-weaker (TrueReport m) (HighNear m) (λ r t. t.high_near) every all;
      fits_true = All-weaker (TrueReport m) (FitsTrue m) (λ r t. t.fits_true) every all;
      leaves_true = All-weaker (TrueReport m) (LeavesTrue m) (λ r t. t.leaves_true) every all;
      settled = pairwise_weaker Both Settled (λ e l h. h.1) every pairs;
    })
  where
    sound : Sound m (opened ask m)
    sound = opened_sound ask rules m

    Both : Report → Report → Type 0
    Both e l = Inside e l × Settled e l

    every : List Report
    every = report m (opened ask m) ∷ following ask rules m (opened ask m) calls

    all : AllByRecursion (TrueReport m) every
    all = (report_true m (opened ask m) sound, all_true ask rules m (opened ask m) calls sound)

    pairs : Pairwise Both every
    pairs = (all_later ask rules m (report m (opened ask m)) (report_true m (opened ask m) sound) (opened ask m) calls sound (since_report m (opened ask m) sound), pairwise_later ask rules m (opened ask m) calls sound)

-- and the witness that it ends with, if any, is outside the register
pub every_witness_true : (ask : Mapping → Cell → Answer) → Rules ask → (m : Mapping) (calls : List Call) → WitnessTrue m (close m (after ask m (opened ask m) calls))
unfolding close
every_witness_true ask rules m calls =
    closing_witness m (report m (after ask m (opened ask m) calls)) (after ask m (opened ask m) calls).witness
    (after_sound ask rules m (opened ask m) calls (opened_sound ask rules m)).outside
