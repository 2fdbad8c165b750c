-- Laws of the moves from place to place, for the proofs to cite.
use Rattle.std.specs.Prelude.{◌≡◌, refl, Result, Ok, Option, List, [], ◌∷◌, ℕ, ◌≤◌, length, ltb}
use Rattle.std.proofs.Common.{sym, ap, subst, ◌∙◌, inl, inr, arith, ltb-true}
use Rattle.rules.specs.declared.Token.{Token}
use Rattle.rules.specs.declared.Wanted.{Wanted}
use Rattle.rules.specs.declared.Wanted.TheVariants.{OrderOpen, OrderWord, Boards, ItemOrClose, ItemWord, GroupDue, JobWork, JobDue, JobClose, Finish}
use Rattle.refusals.specs.declared.Fault.{Fault}
use Rattle.grammar.specs.declared.Order.{Order}
use Rattle.rules.specs.Basics.{is_empty, most_boards, most_minutes, most_jobs, most_levels}
use Rattle.rules.specs.Orders.{Reading, Step, go, stop, done, leave, want, step_at}
use Rattle.lexer.specs.Scan.{NextToken}
use Rattle.lexer.specs.declared.Seen.{Seen}
use Rattle.grammar.specs.declared.Stop.{Stop}
use Rattle.grammar.specs.declared.Cursor.{Cursor}
use Rattle.grammar.specs.declared.Turn.{Turn}
use Rattle.grammar.specs.declared.Turn.TheVariants.{Done}
use Rattle.grammar.specs.Turns.{acted, Goes, Holds, Decides, Acts, Lent, Starts, meant, turned}
use Rattle.grammar.specs.Steps.{pick_all, bracket_all, word_all, number_all, ending_all, goes, moves_on, stands_on, long_lent}
use Rattle.reader.specs.Ways.{Fits, Ready, Moved, Onward, Steps}

-- ---- where a step of the definition leads
abbrev Leads : Wanted → Reading → Step → Type 0
Leads w r (go next) = Moved w (length r.groups) next.wanted (length next.groups)
Leads w r (stop refusal place) = Unit {0}
Leads w r done = Unit {0}

leads_out : (r : Reading) (gs : List ℕ) → length gs ≡ length r.groups → Leads ItemOrClose r (leave r gs)
unfolding leave
leads_out r [] e = inr (inl (sym e, refl))
leads_out r (g ∷ gs) e = inr (inr (omega arith, refl))

leads : (w : Wanted) (r : Reading) (t : Token) (p : ℕ) → Leads w r (step_at w r t p)
unfolding step_at want
leads OrderOpen r t p = bracket_all (Leads OrderOpen r) p (λ q. tt) t _ _ (refl, refl) tt
leads OrderWord r t p = word_all (Leads OrderWord r) p (λ q. tt) t _ _ _ (refl, refl) tt tt
leads Boards r t p = number_all (Leads Boards r) p (λ q. tt) most_boards t _ (λ n. (refl, refl))
leads ItemOrClose r t p = bracket_all (Leads ItemOrClose r) p (λ q. tt) t _ _ (inl (refl, refl)) (leads_out r r.groups refl)
leads ItemWord r t p =
    word_all (Leads ItemWord r) p (λ q. tt) t _ _ _ tt
    (pick_all (Leads ItemWord r) (ltb (length r.groups) most_levels) _ _ (λ y. inl (refl, refl, ltb-true (length r.groups) 32 y)) (λ n. tt))
    (pick_all (Leads ItemWord r) (ltb (length r.works) most_jobs) _ _ (λ y. inr (refl, refl)) (λ n. tt))
leads GroupDue r t p = number_all (Leads GroupDue r) p (λ q. tt) most_minutes t _ (λ n. (refl, omega arith))
leads JobWork r t p = number_all (Leads JobWork r) p (λ q. tt) most_minutes t _ (λ n. (refl, refl))
leads JobDue r t p = number_all (Leads JobDue r) p (λ q. tt) most_minutes t _ (λ n. (refl, refl))
leads JobClose r t p = bracket_all (Leads JobClose r) p (λ q. tt) t _ _ tt (refl, refl)
leads Finish r t p = ending_all (Leads Finish r) p (λ q. tt) t _ (pick_all (Leads Finish r) (is_empty r.works) _ _ (λ y. tt) (λ n. tt))

moved_same : (w w' v v' : Wanted) (l l' k k' : ℕ) → w ≡ w' → l ≡ l' → v ≡ v' → k ≡ k' → Moved w l v k → Moved w' l' v' k'
moved_same w w' v v' l l' k k' a b c d m =
    subst (λ (x : ℕ). Moved w' l' v' x) d (subst (λ (x : Wanted). Moved w' l' x k) c (subst (λ (x : ℕ). Moved w' x v k) b (subst (λ (x : Wanted). Moved x l v k) a m)))

-- only where the end is wanted is the order whole
abbrev Whole : Wanted → Step → Type 0
Whole w (go next) = Unit {0}
Whole w (stop refusal place) = Unit {0}
Whole w done = w ≡ Finish

whole_out : (r : Reading) (gs : List ℕ) → Whole ItemOrClose (leave r gs)
unfolding leave
whole_out r [] = tt
whole_out r (g ∷ gs) = tt

whole : (w : Wanted) (r : Reading) (t : Token) (p : ℕ) → Whole w (step_at w r t p)
unfolding step_at want
whole OrderOpen r t p = bracket_all (Whole OrderOpen) p (λ q. tt) t _ _ tt tt
whole OrderWord r t p = word_all (Whole OrderWord) p (λ q. tt) t _ _ _ tt tt tt
whole Boards r t p = number_all (Whole Boards) p (λ q. tt) most_boards t _ (λ n. tt)
whole ItemOrClose r t p = bracket_all (Whole ItemOrClose) p (λ q. tt) t _ _ tt (whole_out r r.groups)
whole ItemWord r t p =
    word_all (Whole ItemWord) p (λ q. tt) t _ _ _ tt
    (pick_all (Whole ItemWord) (ltb (length r.groups) most_levels) _ _ (λ y. tt) (λ n. tt))
    (pick_all (Whole ItemWord) (ltb (length r.works) most_jobs) _ _ (λ y. tt) (λ n. tt))
whole GroupDue r t p = number_all (Whole GroupDue) p (λ q. tt) most_minutes t _ (λ n. tt)
whole JobWork r t p = number_all (Whole JobWork) p (λ q. tt) most_minutes t _ (λ n. tt)
whole JobDue r t p = number_all (Whole JobDue) p (λ q. tt) most_minutes t _ (λ n. tt)
whole JobClose r t p = bracket_all (Whole JobClose) p (λ q. tt) t _ _ tt tt
whole Finish r t p = ending_all (Whole Finish) p (λ q. tt) t _ (pick_all (Whole Finish) (is_empty r.works) _ _ (λ y. tt) (λ n. refl))

module _ (s : Cursor) (c : Ready s) (seen : Seen) (n : NextToken s.file.now s.at seen) (decided : Result Turn Stop) (d : Decides s.state seen.token seen.place decided) where
  pub whole_at : decided ≡ Ok Done → s.state.wanted ≡ Finish
  unfolding turned meant
  whole_at e =
      let r : Reading = c.stands.reading in
      let m : step_at r.wanted r seen.token seen.place ≡ meant r decided = d r c.stands.sound c.stands.holds.as_wanted c.stands.holds.as_level c.stands.holds.as_jobs in
      sym c.stands.holds.as_wanted ∙ subst (Whole r.wanted) (m ∙ ap (meant r) e) (whole r.wanted r seen.token seen.place)

  -- one token that goes on
  pub step_on : (act : Turn) → decided ≡ Ok act → Goes act → (s' s'' : Cursor) → Acts s act s' → Lent s s' → s'' ≡ record s' { at = seen.next } → Onward (λ x. Moved s.state.wanted s.state.level x.state.wanted x.state.level) s s''
  step_on act e g s' s'' a lent q =
      let r : Reading = c.stands.reading in
      let h : Holds r s = c.stands.holds in
      let h' : Holds (acted r act) s' = a r c.stands.sound c.long h in
      let m : Moved r.wanted (length r.groups) (acted r act).wanted (length (acted r act).groups) = subst (Leads r.wanted r) (goes s c.stands seen n decided d act e g) (leads r.wanted r seen.token seen.place) in
      subst (Onward (λ x. Moved s.state.wanted s.state.level x.state.wanted x.state.level) s) (sym q)
      (record {
        ready = record {
          stands = stands_on s c.stands seen n decided d act e g s' (record s' { at = seen.next }) c.long a lent refl;
          long = long_lent s (record s' { at = seen.next }) c.long (record { same_file = lent.same_file; same_work = lent.same_work; same_due = lent.same_due; length_work = lent.length_work; length_due = lent.length_due; length_least = lent.length_least });
          short_file = omega (arith, c.short_file, ap length lent.same_file);
        };
        later = moves_on s c.stands seen n decided d act e g;
        there = moved_same r.wanted s.state.wanted (acted r act).wanted s'.state.wanted (length r.groups) s.state.level (length (acted r act).groups) s'.state.level h.as_wanted h.as_level h'.as_wanted h'.as_level m;
      })

-- at the start
pub ready_start : (s : Cursor) (file work due least : List ℕ) → Starts s file work due least → Fits file work due → most_levels ≤ length least → Ready s
ready_start s file work due least a f l = record {
  stands = a.stands;
  long = record { long_work = omega (arith, f.long_work, ap length a.work_is); long_due = omega (arith, f.long_due, ap length a.due_is); long_least = omega (arith, l, ap length a.least_is) };
  short_file = omega (arith, f.short_file, ap length a.file_is);
}

-- the same file and lists, whatever the place
pub stepped : (s : Cursor) (r : Result (Option Order) Fault) (e : Result (Option Order) Fault) (s' : Cursor) → r ≡ e → Steps s r s' → Steps s e s'
stepped s r e s' q t = subst (λ (x : Result (Option Order) Fault). Steps s x s') q t
