-- Replies: those to one call more, and those of a whole run. Assumes nothing.
use Rattle.std.proofs.Common.{◌≡◌, ℕ, ◌+◌, ◌<◌, ◌≤◌, List, [], ◌∷◌, ◌++◌, length, get_or, take, vec_items, sym, refl, ap, ◌∙◌, subst, ap₂}
use Rattle.std.proofs.lemmas.List.{take_more, take_all}
use Rattle.mapping.specs.declared.cell.Cell.{Cell}
use Rattle.mapping.specs.declared.mapping.Mapping.{Mapping}
use Rattle.forms.specs.declared.answer.Answer.{Answer}
use Rattle.enquiry.specs.Honest.{Honest}
use Rattle.enquiry.specs.Runs.{reply, replies, after, seen, reports}
use Rattle.enquiry.specs.States.{State, opened}
use Rattle.enquiry.specs.Steps.{report, close}
use Rattle.enquiry.specs.Transcripts.{Transcribed, seen_in}
use Rattle.enquiry.specs.Views.{view, enquiry_of}
use Rattle.enquiry.specs.declared.call.Call.{Call}
use Rattle.enquiry.specs.declared.call.Reply.{Reply}
use Rattle.enquiry.specs.declared.enquiry.Enquiry.{Enquiry}
use Rattle.enquiry.specs.declared.run.Transcript.{Transcript}

-- one call more
module _ (ask : Mapping → Cell → Answer) (m : Mapping) where
  pub replies_more : (s : State) (cs : List Call) (c : Call) → replies ask m s (cs ++ c ∷ []) ≡ replies ask m s cs ++ (reply ask m (after ask m s cs) c).0 ∷ []
  unfolding replies after
  replies_more s [] c = refl
  replies_more s (d ∷ cs) c = ap (λ rs. (reply ask m s d).0 ∷ rs) (replies_more (reply ask m s d).1 cs c)

  pub after_more : (s : State) (cs : List Call) (c : Call) → after ask m s (cs ++ c ∷ []) ≡ (reply ask m (after ask m s cs) c).1
  unfolding after
  after_more s [] c = refl
  after_more s (d ∷ cs) c = after_more (reply ask m s d).1 cs c

-- the first calls of a list, and one more of it
module _ {F : Type 0} (meaning : F → Mapping → Cell → Answer) (start now : Enquiry F) (calls : List Call) (i : ℕ) (d : Call) (l : i < length calls) where
  abbrev played : ℕ → Enquiry F
  played n = enquiry_of start.form start.mapping (after (meaning start.form) start.mapping (view start) (take n calls))

  abbrev next : Enquiry F → Reply × State
  next e = reply (meaning e.form) e.mapping (view e) (get_or calls i d)

  pub after_next : (new : Enquiry F) → now ≡ played i → new ≡ enquiry_of now.form now.mapping (next now).1 → new ≡ played (i + 1)
  after_next new e f =
      f ∙ ap (λ x. enquiry_of x.form x.mapping (next x).1) e
      ∙ ap (enquiry_of start.form start.mapping)
      (sym (after_more (meaning start.form) start.mapping (view start) (take i calls) (get_or calls i d))
      ∙ ap (after (meaning start.form) start.mapping (view start)) (sym (take_more calls i d l)))

  pub replies_next : (rs rs' : List Reply) (r : Reply) → now ≡ played i
      → rs ≡ replies (meaning start.form) start.mapping (view start) (take i calls) → rs' ≡ rs ++ r ∷ [] → r ≡ (next now).0
      → rs' ≡ replies (meaning start.form) start.mapping (view start) (take (i + 1) calls)
  replies_next rs rs' r e f g h =
      g ∙ ap₂ (λ xs x. xs ++ x ∷ []) f (h ∙ ap (λ x. (next x).0) e)
      ∙ sym (replies_more (meaning start.form) start.mapping (view start) (take i calls) (get_or calls i d))
      ∙ ap (replies (meaning start.form) start.mapping (view start)) (sym (take_more calls i d l))

-- a transcript that was taken along the whole list
pub transcribed : {F : Type 0} (meaning : F → Mapping → Cell → Answer) (form : F) (m : Mapping) (start last : Enquiry F) (calls : List Call) (i : ℕ) (t : Transcript)
    → start ≡ enquiry_of form m (opened (meaning form) m) → t.opening ≡ report start.mapping (view start) → length calls ≤ i
    → vec_items t.replies ≡ replies (meaning start.form) start.mapping (view start) (take i calls)
    → last ≡ enquiry_of start.form start.mapping (after (meaning start.form) start.mapping (view start) (take i calls))
    → t.closed ≡ close last.mapping (view last)
    → Transcribed (meaning form) m calls t
transcribed meaning form m start last calls i t e f l g h p =
    let all : take i calls ≡ calls = take_all i calls l in
    record {
      opening = f ∙ ap (λ x. report x.mapping (view x)) e;
      replies = g ∙ (λ j. replies (meaning (e j).form) (e j).mapping (view (e j)) (all j));
      closed = p ∙ ap (λ x. close x.mapping (view x)) h ∙ (λ j. close (e j).mapping (after (meaning (e j).form) (e j).mapping (view (e j)) (all j)));
    }

-- honest reports of the run are honest reports of its transcript
pub transcript_honest : (ask : Mapping → Cell → Answer) (m : Mapping) (calls : List Call) (t : Transcript) → Transcribed ask m calls t → Honest m (reports ask m calls) → Honest m (seen_in t)
unfolding reports
transcript_honest ask m calls t e h =
    subst (Honest m) (sym (λ j. seen (e.opening j) (e.replies j) (e.closed j))) h
