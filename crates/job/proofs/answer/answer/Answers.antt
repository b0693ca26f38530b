use Rattle.std.proofs.Common.{vec_items, subst, inr}
use Rattle.std.proofs.lemmas.Result.{IfOk-weaker}
use Rattle.job.specs.Answering.{Told, Answered}
use Rattle.job.specs.Calls.{steps_of}
use Rattle.job.proofs.answer.answer.Goals as goal

pub returns-in-Ok : goal.returns-in-Ok
returns-in-Ok c =
    let m = c.in-Ok.mapping in
    let loaded = c.in-Ok.ensures.value in
    record {
      value =
          IfOk-weaker c.run_lines.result (λ v. Told m (steps_of c.in-Ok.rest.now) (vec_items v)) (λ v. Answered c.args.input.now (vec_items v))
          (λ v told. inr (record {
            mapping = m;
            accepted = loaded.0.0;
            held = loaded.0.1;
            told = subst (λ bs. Told m (steps_of bs) (vec_items v)) loaded.1 told;
          }))
          c.run_lines.ensures.value;
    }
