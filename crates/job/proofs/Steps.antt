-- The steps of a job, three bytes at a time. Assumes nothing.
use Rattle.std.proofs.Common.{◌≡◌, ℕ, ◌<◌, min, List, [], ◌∷◌, ◌++◌, length, Some, None, Bor, refl, ◌∙◌, arith}
use Rattle.std.proofs.lemmas.List.{nil_from_length}
use Rattle.std.proofs.lemmas.Iterator.{YieldsList}
use Rattle.std.proofs.lemmas.Iterator.Splits.{YieldsList-from_shown_while}
use Rattle.std.specs.Slice.Iter.{chunks_steps, chunks_rest, chunks_size}
use Rattle.std.specs.declared.slice.Chunks.{Chunks}
use Rattle.job.specs.Calls.{call_in, steps_of}

-- the three bytes at the front, or the fewer that are left, are the next step
pub next_step : (bs rest : List ℕ) → length bs ≡ min 3 (length (bs ++ rest)) → 0 < length (bs ++ rest) → steps_of (bs ++ rest) ≡ call_in bs ∷ steps_of rest
next_step [] rest h p = absurd (omega arith)
next_step (a ∷ []) [] h p = refl
next_step (a ∷ []) (b ∷ rest) h p = absurd (omega arith)
next_step (a ∷ (b ∷ [])) [] h p = refl
next_step (a ∷ (b ∷ [])) (c ∷ rest) h p = absurd (omega arith)
next_step (a ∷ (b ∷ (c ∷ []))) rest h p = refl
next_step (a ∷ (b ∷ (c ∷ (d ∷ bs)))) rest h p = absurd (omega arith)

no_step : (s t : Chunks ℕ) → chunks_size s ≡ 3 → chunks_steps s None t → length (steps_of (chunks_rest s)) ≡ 0
no_step s t size h = let e : chunks_rest s ≡ [] = nil_from_length (chunks_rest s) h.1.0 in rw e

one_step : (s : Chunks ℕ) (x : Bor (List ℕ)) (t : Chunks ℕ) → chunks_size s ≡ 3 → chunks_steps s (Some x) t → (chunks_size t ≡ 3) × (steps_of (chunks_rest s) ≡ call_in x.now ∷ steps_of (chunks_rest t))
one_step s x t size h = (h.0 ∙ size, rw h.1.0 (next_step x.now (chunks_rest t) (rw (size, h.1.0) at h.1.1) (rw h.1.0 at h.1.2)))

-- bytes cut in threes give the steps
pub YieldsList-from_threes : {s : Chunks ℕ} (bs : List ℕ) → chunks_rest s ≡ bs → chunks_size s ≡ 3 → YieldsList chunks_steps (λ (x : Bor (List ℕ)). call_in x.now) s (steps_of bs)
YieldsList-from_threes {s} bs rest size =
    rw (← rest)
    (YieldsList-from_shown_while chunks_steps (λ (x : Bor (List ℕ)). call_in x.now) (λ s. steps_of (chunks_rest s)) (λ s. chunks_size s ≡ 3) no_step one_step s size)
