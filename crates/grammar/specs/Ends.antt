-- Laws of the whole answer: what each way out of the reader says and leaves in the buffers.
use Rattle.std.specs.Prelude.{◌≡◌, refl, Result, Ok, Err, false, ◌||◌, List, ◌++◌, ℕ, ◌-◌, ◌≤◌, ◌<◌, min, length, take, ltb}
use Rattle.std.proofs.Common.{ap, ap₂, subst, sym, ◌∙◌, arith, length-take-le, take_all, lt-ltb, le-ltb}
use Rattle.std.proofs.lemmas.List.{take-append-le}
use Rattle.std.proofs.Math.Decide.{dec_le}
use Rattle.std.proofs.Math.Nat.{sub-zero}
use Rattle.rules.specs.declared.Refusal.{Refusal}
use Rattle.rules.specs.declared.Refusal.TheVariants.{ShortBuffer, LongFile}
use Rattle.rules.specs.declared.OrderRead.{OrderRead}
use Rattle.rules.specs.Basics.{zeros, most_jobs, most_bytes}
use Rattle.rules.specs.Orders.{Outcome, refused, accepted, ReadAnswer, refused_read, after_reading, read_answer, order_of}
use Rattle.laws.specs.Tests.{pick_yes, pick_no, or_left, or_right, or_no}
use Rattle.refusals.specs.declared.Fault.{Fault}
use Rattle.grammar.specs.declared.Order.{Order}
use Rattle.grammar.specs.Turns.{Finished, Writable, Answers, outcome_of, said_of}

pub finished_is : (file : List ℕ) (e : Result Order Fault) (work due : List ℕ) → Finished file e work due → order_of file ≡ outcome_of e work due
unfolding outcome_of
finished_is file (Err fault) work due f = f.0
finished_is file (Ok order) work due f = f.0

pub finished_fits : (file : List ℕ) (e : Result Order Fault) (work due : List ℕ) → most_jobs ≤ length work → most_jobs ≤ length due → Finished file e work due → Writable e work due
finished_fits file (Err fault) work due w d f = tt
finished_fits file (Ok order) work due w d f = (omega (arith, f.1), omega (arith, f.1))

front_kept : (k : ℕ) (l l' : List ℕ) → k ≤ length l → l' ≡ take k l ++ zeros (length l - length (take k l)) → take k l' ≡ take k l
front_kept k l l' h e =
    ap (take k) e
    ∙ take-append-le k (take k l) (zeros (length l - length (take k l))) (omega (arith, length-take-le k l h))
    ∙ take_all k (take k l) (omega (arith, length-take-le k l h))

-- clearing behind the jobs leaves what the file was read as
pub finished_on : (file : List ℕ) (e : Result Order Fault) (work due work' due' : List ℕ) → Writable e work due → Finished file e work due → Answers (after_reading (outcome_of e work due) work due) e work' due' → Finished file e work' due'
unfolding outcome_of after_reading
finished_on file (Err fault) work due work' due' w f a = f
finished_on file (Ok order) work due work' due' w f a =
    let works : take order.jobs work' ≡ take order.jobs work = front_kept order.jobs work work' w.0 a.works in
    let dues : take order.jobs due' ≡ take order.jobs due = front_kept order.jobs due due' w.1 a.dues in
    (f.0 ∙ ap₂ (accepted order.boards) (sym works) (sym dues), f.1)

-- cleared from where what is kept ends
module _ (e : Result Order Fault) (kept : ℕ) (work due work' due' : List ℕ) (w : work' ≡ take kept work ++ zeros (length work - kept)) (d : due' ≡ take kept due ++ zeros (length due - kept)) where
  pub answers_refused : (fault : Fault) → e ≡ Err fault → kept ≡ 0 → Answers (after_reading (outcome_of e work due) work due) e work' due'
  unfolding outcome_of said_of after_reading refused_read
  answers_refused fault q z =
      let none : (l : List ℕ) → take kept l ++ zeros (length l - kept) ≡ zeros (length l) = λ (l : List ℕ). ap (λ (k : ℕ). take k l ++ zeros (length l - k)) z ∙ ap zeros (sub-zero (length l)) in
      subst (λ (x : Result Order Fault). Answers (after_reading (outcome_of x work due) work due) x work' due') (sym q) (record { said = refl; works = w ∙ none work; dues = d ∙ none due })

  pub answers_accepted : (order : Order) → e ≡ Ok order → kept ≡ order.jobs → order.jobs ≤ length work → order.jobs ≤ length due → Answers (after_reading (outcome_of e work due) work due) e work' due'
  unfolding outcome_of said_of after_reading
  answers_accepted order q k lw ld =
      let whole : (l : List ℕ) → order.jobs ≤ length l → take kept l ++ zeros (length l - kept) ≡ take order.jobs l ++ zeros (length l - length (take order.jobs l)) =
      λ (l : List ℕ) h. ap (λ (n : ℕ). take n l ++ zeros (length l - n)) k ∙ ap (λ (n : ℕ). take order.jobs l ++ zeros (length l - n)) (sym (length-take-le order.jobs l h)) in
      subst (λ (x : Result Order Fault). Answers (after_reading (outcome_of x work due) work due) x work' due') (sym q)
      (record {
        said = ap {B = OrderRead} (λ (n : ℕ). record { refusal = 0; place = 0; boards = order.boards; jobs = n }) (sym (length-take-le order.jobs work lw));
        works = w ∙ whole work lw;
        dues = d ∙ whole due ld;
      })

-- of a buffer the answer keeps the length alone
after_length : (o : Outcome) (work due work₀ due₀ : List ℕ) → length work ≡ length work₀ → length due ≡ length due₀ → after_reading o work due ≡ after_reading o work₀ due₀
unfolding after_reading
after_length (refused refusal place) work due work₀ due₀ w d = ap (λ (n : ℕ). refused_read refusal place (zeros n) (zeros (length due))) w ∙ ap (λ (n : ℕ). refused_read refusal place (zeros (length work₀)) (zeros n)) d
after_length (accepted boards works dues) work due work₀ due₀ w d =
    ap {B = ReadAnswer} (λ (n : ℕ). record { said = record { refusal = 0; place = 0; boards = boards; jobs = length works }; work = works ++ zeros (n - length works); due = dues ++ zeros (length due - length dues) }) w
    ∙ ap {B = ReadAnswer} (λ (n : ℕ). record { said = record { refusal = 0; place = 0; boards = boards; jobs = length works }; work = works ++ zeros (length work₀ - length works); due = dues ++ zeros (n - length dues) }) d

module _ (file work due : List ℕ) where
  pub short_buffer : min (length work) (length due) < most_jobs → read_answer file work due ≡ refused_read ShortBuffer 0 work due
  unfolding read_answer
  short_buffer h =
      pick_yes (ltb (length work) most_jobs || ltb (length due) most_jobs) _ _
      (elim (dec_le most_jobs (length work)) [
        | yes w ↦ or_right (ltb (length work) most_jobs) (ltb (length due) most_jobs) (lt-ltb (length due) most_jobs (omega arith))
        | no w ↦ or_left (ltb (length work) most_jobs) (ltb (length due) most_jobs) (lt-ltb (length work) most_jobs (omega arith))
      ])

  module _ (lw : most_jobs ≤ length work) (ld : most_jobs ≤ length due) where
    long_enough : (ltb (length work) most_jobs || ltb (length due) most_jobs) ≡ false
    long_enough = or_no (ltb (length work) most_jobs) (ltb (length due) most_jobs) (le-ltb (length work) most_jobs lw) (le-ltb (length due) most_jobs ld)

    pub long_file : most_bytes < length file → read_answer file work due ≡ refused_read LongFile 0 work due
    unfolding read_answer
    long_file h = pick_no _ _ _ long_enough ∙ pick_yes _ _ _ (lt-ltb most_bytes (length file) h)

    pub is_read : length file ≤ most_bytes → read_answer file work due ≡ after_reading (order_of file) work due
    unfolding read_answer
    is_read h = pick_no _ _ _ long_enough ∙ pick_no _ _ _ (le-ltb most_bytes (length file) h)

    -- from the buffers as the reading left them
    pub read_answers : (e : Result Order Fault) (work₁ due₁ work₂ due₂ : List ℕ) → length file ≤ most_bytes → length work₁ ≡ length work → length due₁ ≡ length due → Finished file e work₁ due₁ → Answers (after_reading (outcome_of e work₁ due₁) work₁ due₁) e work₂ due₂ → Answers (read_answer file work due) e work₂ due₂
    read_answers e work₁ due₁ work₂ due₂ l w d f a =
        subst (λ (x : ReadAnswer). Answers x e work₂ due₂)
        (after_length (outcome_of e work₁ due₁) work₁ due₁ work due w d
        ∙ ap (λ (o : Outcome). after_reading o work due) (sym (finished_is file e work₁ due₁ f))
        ∙ sym (is_read l))
        a

  -- 10 and 11 touch nothing
  pub refusal_answers : (refusal : Refusal) → read_answer file work due ≡ refused_read refusal 0 work due → Answers (read_answer file work due) (Err (record { refusal = refusal; place = 0 })) work due
  unfolding said_of refused_read
  refusal_answers refusal e = subst (λ (x : ReadAnswer). Answers x (Err (record { refusal = refusal; place = 0 })) work due) (sym e) (record { said = refl; works = refl; dues = refl })
